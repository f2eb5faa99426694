-- The bytes that a run has in a mode, by the stage's sorts; as the bits of words; and what the end of a longest run of them says of a text.
use Rattle.std.specs.Prelude.{ℕ, ◌≤◌, ◌≡◌, Bool, true, false, ◌&&◌, not, List, [], ◌∷◌, eqb, length, drop}
use Prim.Native.Char.{code}
use Rattle.stages.specs.Bytes.{Text, part, span}
use Rattle.stages.specs.Outcome.{pick}
use Rattle.stages.specs.Syntax.{unescaped, Parts, lit, word, value, bare, single, double, quoted_operand, arith}
use Rattle.stages.specs.Syntax as syntax
use Rattle.stages.specs.Items.{Sort, sort, backquote, closes, operator, quotes, quotes2, backslash, escape, dollar, bad, opening, closing, tilde, literal}
use Rattle.text.specs.Bits.{all_bits}
use Rattle.read_mode.specs.Modes.{mode_of, mode_onward}
use Rattle.read_mode.specs.declared.Cursor.{Cursor}
use Rattle.read_mode.specs.declared.Mode.{Mode}
use Rattle.read_mode.specs.declared.Mode.TheVariants.{Word, Value, Bare, Single, Double, Operand, Arith}

unfoldable pub is_literal : Sort → Bool
is_literal backquote = false
is_literal closes = false
is_literal operator = false
is_literal quotes = false
is_literal quotes2 = false
is_literal backslash = false
is_literal escape = false
is_literal dollar = false
is_literal bad = false
is_literal opening = false
is_literal closing = false
is_literal tilde = false
is_literal literal = true

-- a tilde is looked at behind the byte
unfoldable pub opens_tilde : syntax.Mode → ℕ → Bool
opens_tilde (word s) b = false
opens_tilde (value s) b = eqb b (code ":")
opens_tilde (bare s l) b = false
opens_tilde (single e) b = false
opens_tilde (double l) b = false
opens_tilde (quoted_operand l) b = false
opens_tilde (arith n) b = false

-- the byte stands for itself, and leaves a tilde behind it alone
unfoldable pub literal_in : syntax.Mode → ℕ → Bool
unfolding is_literal sort opens_tilde
literal_in m b = is_literal (sort m b) && not (opens_tilde m b)

-- the parts of bytes that stand for themselves, in front of others
abbrev pub lits : Text → Parts → Parts
lits [] p = p
lits (b ∷ t) p = lit unescaped b (lits t p)

-- the bytes of a run as the bits of two numbers: those below 64, and those from 64 to 127
abbrev pub low_literals : Mode → ℕ
low_literals (Word fresh) = 12105671585008974335
low_literals (Value fresh) = 11817441208857262591
low_literals (Bare fresh lists) = 18446743438054391807
low_literals (Single escapes) = 18446743523953737727
low_literals (Double lists) = 18446743987810205695
low_literals (Operand lists) = 18446743987810205695
low_literals (Arith n) = 18446740139519508479

abbrev pub high_literals : Mode → ℕ
high_literals (Word fresh) = pick fresh 12682136546111913983 17293822564539301887
high_literals (Value fresh) = pick fresh 12682136546111913983 17293822564539301887
high_literals (Bare fresh lists) = pick fresh 11529215041505067007 16140901059932454911
high_literals (Single escapes) = pick escapes 18446744073441116159 18446744073709551615
high_literals (Double lists) = 18446744069146148863
high_literals (Operand lists) = 16140901059932454911
high_literals (Arith n) = 18446744069146148863

-- all of them as the bits of four words: from 128 on each byte is one
abbrev pub literal_words : Mode → List ℕ
literal_words mode = low_literals mode ∷ high_literals mode ∷ all_bits ∷ all_bits ∷ []

-- the longest run from `at` on ends at r
pub record Literals (text : Text) (at : ℕ) (m : syntax.Mode) (r : ℕ) : Type 0 where
  pub is : span (literal_in m) (drop at text) ≡ (part text at r, drop r text)
  pub onward : at ≤ r
  pub within : r ≤ length text

-- the text goes on behind that run; where the run has a byte, the text has begun
pub record Passed (text : Text) (from r : Cursor) : Type 0 where
  pub run : Literals text from.at (mode_of from.mode) r.at
  pub mode : r.mode ≡ pick (eqb r.at from.at) from.mode (mode_onward from.mode)
  pub depth : r.depth ≡ from.depth
