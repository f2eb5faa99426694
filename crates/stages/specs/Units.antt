-- Document 01, "Units and expansion": rows of units, and the shortest decimal text.
use Rattle.std.specs.Prelude.{ℕ, zero, suc, ◌+◌, ◌/◌, ◌%◌, true, false, List, [], ◌∷◌, ◌++◌, leb, ltb}
use Prim.Native.Char.{code}
use Rattle.stages.specs.Numbers.{row_limit, too_many_units}
use Rattle.stages.specs.Bytes.{Text}
use Rattle.stages.specs.Outcome.{Outcome, refused, done}
use Rattle.stages.specs.Syntax.{Escape, escaped, unescaped}

-- "L (literal), E (from an expansion, bare) or Q (quoted)"
pub data Mark : Type 0 where
  L E Q : Mark

-- 01: "Each is a byte marked .. or the empty mark N."; E5: "The row gains a break mark"
pub data Cell : Type 0 where
  cell : Mark → ℕ → Cell
  N B : Cell

-- "A word becomes a row of units."
abbrev pub Row : Type 0
Row = List Cell

unfoldable pub marked : Mark → Text → Row
marked m [] = []
marked m (b ∷ t) = cell m b ∷ marked m t

-- "At last marks go and N vanishes."
unfoldable pub bytes : Row → Text
bytes [] = []
bytes (cell m b ∷ r) = b ∷ bytes r
bytes (N ∷ r) = bytes r
bytes (B ∷ r) = bytes r

-- the mark of what is expanded where literal bytes have the mark m: "within double quotes everything is Q"
abbrev pub expanded_mark : Mark → Mark
expanded_mark L = E
expanded_mark E = E
expanded_mark Q = Q

-- the mark of a literal byte: one that a backslash quotes is Q
abbrev pub lit_mark : Escape → Mark → Mark
lit_mark escaped m = Q
lit_mark unescaped m = m

-- "holds at most 2,048 units": the count behind n with k more, the one place of 14
unfoldable pub fit : ℕ → ℕ → Outcome ℕ
fit n k = elim (leb (n + k) row_limit) [ true ↦ done (n + k) | false ↦ refused too_many_units ]

-- the decimal digits of n, which has at most k. Never asked: no digits, where k is 20 at first and n below 10^20 (proofs/Digits: `decimal_value`)
unfoldable pub digits : ℕ → ℕ → Text
digits zero n = []
digits (suc k) n = elim (ltb n 10) [ true ↦ (code "0" + n) ∷ [] | false ↦ digits k (n / 10) ++ ((code "0" + n % 10) ∷ []) ]

-- "the shortest decimal text"; nothing here has more than 20 digits
unfoldable pub decimal : ℕ → Text
unfolding digits
decimal n = digits 20 n
