-- An arithmetic text: the bytes of the operand's row come to the number that is given, and to the variables behind it.
use Prim.Native.Nat.{ℕ, ◌*◌, ◌≤◌}
use native.Mathlib.Omega.{arith}
use mathlib.Core.Path.{◌≡◌, refl, sym, ap, ◌∙◌, subst}
use mathlib.Core.Bool.{Bool, false}
use mathlib.Core.List.{◌++◌}
use lib.IntN.{ℤ}
use lib.ListN.{length, take}
use Rattle.stages.specs.Bytes.{Text}
use Rattle.stages.specs.Outcome.{Outcome, refused, demands, done, ◌>>=◌}
use Rattle.stages.specs.Images.{Pairs, held}
use Rattle.stages.specs.Units.{Mark, Row, marked, bytes, expanded_mark}
use Rattle.stages.specs.Constants.{signed}
use Rattle.stages.specs.Arith.{Evaluated, arithmetic_of}
use Rattle.stages.specs.Params.{Lent}
use Rattle.stages.specs.Expand.{Made}
use Rattle.row.specs.Stands.{Stripped}
use Rattle.row.proofs.Laws.{bytes_half}
use Rattle.arith_eval.specs.Answers.{comes_to, ComesTo}
use Rattle.arith_eval.specs.declared.Worked.{Worked}
use Rattle.std.specs.Prelude.{Result, Ok, Err}
use Rattle.text.specs.Refusals.{refusal_number}
use Rattle.text.specs.declared.refusal.Refusal.{Refusal}
use Rattle.arith_eval.proofs.Texts.{arithmetic_is}
use Rattle.expand_add.specs.Added.{Adds}
use Rattle.expand_add.specs.Steps.{beside, placed, summed}
use Rattle.expand_add.specs.Answers.{Finishes}
use Rattle.expand_add.specs.Expanded.{Expanded}
use Rattle.expand_add.specs.declared.answers.Stop.TheVariants as stop
use Rattle.expand_add.proofs.Steps.{placed_refused}
use Rattle.expand_add.proofs.Holding.{adds_finishes, finishes_same}
use Rattle.expand_operand.proofs.Fronts.{stripped_length}

-- the bytes that are left are half of those that were there at the most
pub stripped_short : {row left : Text} (rest : Text) {n limit : ℕ} → Stripped row left n → length row ≤ 2 * limit → length (take n (left ++ rest)) ≤ limit
stripped_short {row} rest s h = omega (arith, stripped_length rest s, s.counts, bytes_half row)

module _ (a : Lent) (m : Mark) (row : Row) (came : Bool) {t : Text} (e : t ≡ bytes row) (vars : Text) (used : ℕ) (left : Text) where
  abbrev before : Pairs
  before = held (take used vars)

  -- a number and the variables behind it, as a row
  abbrev given : ℤ × Pairs → Made
  given p = done (marked (expanded_mark m) (signed p.0), p.1, false)

  sum_by : summed a m (row, before, came) ≡ (comes_to a before t >>= given)
  unfolding summed
  sum_by =
      ap (λ (o : Outcome (Text × Pairs)). o >>= λ s. done (marked (expanded_mark m) s.0, s.1, false))
      (ap (arithmetic_of a before) (sym e) ∙ arithmetic_is a before t)
      ∙ twice (comes_to a before t)
    where
      twice : (o : Evaluated)
          → ◌≡◌ {A = Made} ((◌>>=◌ {B = Text × Pairs} o (λ p. done (signed p.0, p.1))) >>= λ s. done (marked (expanded_mark m) s.0, s.1, false))
          (o >>= given)
      twice (refused k) = refl
      twice (demands d) = refl
      twice (done p) = refl

  module _ (units : ℕ) where
    pub sum_refuses : (next : ℕ) (area : Text) (k : Refusal) → ComesTo a t vars used left (Err k)
        → Finishes a.room units (placed units (summed a m (row, before, came))) next area left (Err (stop.Refused k))
    sum_refuses next area k h =
        placed_refused units (summed a m (row, before, came)) (refusal_number k) (sum_by ∙ ap (λ (o : Evaluated). o >>= given) h)

    pub sum_gives : (next : ℕ) (area : Text) (r : Expanded) {w : Worked} → ComesTo a t vars used left (Ok w) → {y : ℤ} → y ≡ w.value
        → Adds units (record { next = next; vars_used = w.vars_used; of_none = false }) (done (marked (expanded_mark m) (signed y))) area r
        → Finishes a.room units (placed units (summed a m (row, before, came))) next area left r
    sum_gives next area r {w} h {y} i g =
        finishes_same a.room units next area left r (ap (placed units) (sym made))
        (adds_finishes a.room units (record { next = next; vars_used = w.vars_used; of_none = false }) _ area left r g h.1)
      where
        made : summed a m (row, before, came) ≡ beside (held (take w.vars_used left)) false (done (marked (expanded_mark m) (signed y)))
        made = sum_by ∙ ap (λ (o : Evaluated). o >>= given) h.0 ∙ rw i

-- what the text comes to, once its case is known
pub comes_known : (a : Lent) (t vars : Text) (used : ℕ) (left : Text) {r k : Result Worked Refusal} → ComesTo a t vars used left r → r ≡ k → ComesTo a t vars
    used left k
comes_known a t vars used left h e = subst (ComesTo a t vars used left) e h
