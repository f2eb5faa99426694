-- An operand's row where it stands, for what is done with it.
use Rattle.std.specs.Prelude.{ℕ, ◌*◌, ◌≤◌, ◌<◌, ◌≡◌, true, false, length, take, Option, Some, None}
use Rattle.stages.specs.Bytes.{Text, all, not_zero}
use Rattle.stages.specs.Outcome.{Outcome, done, ◌>>=◌}
use Rattle.stages.specs.Images.{Pairs, is_name, lookup, or_empty}
use Rattle.stages.specs.Syntax.{Side, Reach, Param, var, nth}
use Rattle.stages.specs.Units.{Mark, Row, marked, bytes, expanded_mark}
use Rattle.stages.specs.Pattern.{for_removal, pattern}
use Rattle.stages.specs.Removal.{removed}
use Rattle.stages.specs.Params.{store}
use Rattle.stages.specs.Expand.{Made}
use Rattle.stages.specs.Numbers.{row_limit}
use Rattle.expand_add.specs.Added.{Adds}
use Rattle.expand_add.specs.Answers.{Waits}
use Rattle.expand_add.specs.declared.answers.Onward.{Onward}
use Rattle.expand_add.specs.declared.answers.Stop.{Stop}
use Rattle.expand_add.specs.declared.answers.Stop.TheVariants.{Refused, Demanded}
use Rattle.expand_add.specs.Expanded.{Expanded}
use Rattle.text.specs.Rows.{row_bytes, row_of}
use Rattle.pattern_row.specs.Kept.{NoEmpty}

-- the row of so many units at the front of the area
abbrev pub row_at : Text → ℕ → Row
row_at area units = row_of (take (2 * units) area)

-- a name is one; of a number nothing is asked, since it is never stored
abbrev pub IsNamed : Param → Type 0
IsNamed (var x) = is_name x ≡ true
IsNamed (nth k) = Unit {0}

-- such a row stands there, none of its bytes is zero, and the parameter's name is one: it may be stored
pub record Storable (x : Param) (area : Text) (units : ℕ) : Type 0 where
  pub few : units ≤ row_limit
  pub inside : 2 * units ≤ length area
  pub is : row_bytes (row_at area units) ≡ take (2 * units) area
  pub clean : all not_zero (bytes (row_at area units)) ≡ true
  pub named : IsNamed x

-- the first bytes of the area are the units of a pattern, without N
pub record Pattern (area : Text) (end : ℕ) : Type 0 where
  pub inside : end ≤ length area
  pub few : end ≤ 2 * row_limit
  pub full : NoEmpty (take end area)

-- "the operand's bytes without marks are stored; then the value is given": under a name
unfoldable pub storing : ℕ → Text → Mark → Row → Pairs → Made
unfolding store lookup bytes marked
storing varsRoom x m row v = store varsRoom x (bytes row) v >>= λ w. done (marked (expanded_mark m) (or_empty (lookup x w)), w, false)

-- what a removal leaves of a text, as units
unfoldable pub cut_of : Side → Reach → Text → Mark → Row → Outcome Row
unfolding pattern removed marked
cut_of side reach own m row = pattern for_removal row >>= λ es. done (marked (expanded_mark m) (removed side reach es own))

-- what comes of a removal whose pattern of so many bytes is settled in a table of so many words: the row is added, or they are too many, and all is as
-- it was
abbrev pub TriedSays : ℕ → Onward → Outcome Row → ℕ → Text → Text → ℕ → Option Expanded → Type 0
TriedSays units on o end area left words (Some r) = Adds units on o left r
TriedSays units on o end area left words None = (left ≡ area) × (3 * (2 * words) < 4 * end)

-- E7: the text is the message of a demand, and waits in the area
abbrev pub Demands : Text → Text → Stop → Type 0
Demands t area (Refused e) = ⊥
Demands t area (Demanded at len) = Waits t area at len
