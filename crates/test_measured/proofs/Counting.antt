-- The walk that counts: so many paths were met, and those ahead are still to be counted.
use Prim.Native.Nat.{ℕ, suc, ◌+◌, ◌*◌, ◌<◌, ◌≤◌}
use native.Mathlib.Omega.{arith}
use native.Mathlib.Nat.{zero-add}
use mathlib.Core.Path.{◌≡◌, refl, sym, ap, ◌∙◌}
use mathlib.Core.Bool.{true, false}
use mathlib.Core.List.{List, []}
use lib.ListN.{length, take}
use Rattle.stages.specs.Bytes.{Text}
use Rattle.stages.specs.Images.{held_texts}
use Rattle.stages.specs.Pattern.{Element, elements, has_class}
use Rattle.stages.specs.Paths.{chosen}
use Rattle.stages.proofs.Tables.{paths_of_lem}
use Rattle.text.specs.Rows.{signs_of}
use Rattle.table.specs.Kinds.{well_formed}
use Rattle.table.specs.Pieces.{texts_from}
use Rattle.table.specs.declared.Kind.TheVariants.{Paths}
use Rattle.pattern_paths.specs.Chosen.{Walks, Tells, nothing, path, NextSays}
use Rattle.std.specs.Prelude.{Option, Some, None, Result, Ok, Err}
use Rattle.pattern_unit.specs.declared.Width.TheVariants.{Marked}
use Rattle.pattern_cell.specs.Cells.{Shows}
use Rattle.pattern_settle.specs.Settled.{SettleSays}
use Rattle.pattern_settle.specs.declared.Settled.{Settled}
use Rattle.pattern_settle.specs.declared.SettleError.{SettleError}
use Rattle.pattern_settle.specs.declared.SettleError.TheVariants.{BadClass, NoRoom}
use Rattle.table.specs.declared.Part.{Part}
use Rattle.pattern_paths.proofs.Walking.{walks_paths}
use Rattle.stages.specs.Outcome.{refused_at, demands_at, done_at}
use Rattle.stages.specs.Read.{Words}
use Rattle.text.specs.declared.refusal.Refused.{Refused}
use Rattle.read_line.specs.Says.{verdict, verdict_of}
use Rattle.test_measured.specs.Counts.{matching}
use Rattle.test_measured.specs.Numbers.{number_in, number_of}

pub record Counting (p : List Element) (t : Text) (at count : ℕ) : Type 0 where
  pub walks : Walks t at
  pub few : count < at
  pub whole : length (chosen p (held_texts t)) ≡ count + length (chosen p (texts_from t at))

pub counting_start : (p : List Element) (t : Text) → well_formed Paths t ≡ true → Counting p t 1 0
counting_start p t e =
    let w : Walks t 1 × (texts_from t 1 ≡ held_texts t) = walks_paths t (paths_of_lem t e) in
    record { walks = w.0; few = omega arith; whole = ap (λ (l : List Text). length (chosen p l)) (sym w.1) ∙ sym (zero-add _) }

none_of : {p : List Element} {t : Text} {at : ℕ} → Tells p t at None → chosen p (texts_from t at) ≡ []
none_of (nothing e) = e

-- what the search for the next path found
pub record Met (p : List Element) (t : Text) (at to : ℕ) : Type 0 where
  pub walks : Walks t to
  pub further : at < to
  pub falls : length (chosen p (texts_from t at)) ≡ suc (length (chosen p (texts_from t to)))

met_of : {p : List Element} {t : Text} {at : ℕ} {r : Part} → Tells p t at (Some r) → Met p t at r.to
met_of (path a l h w e) = record { walks = w; further = omega arith; falls = ap length e }

module _ {p : List Element} {t : Text} {at : ℕ} {r : Option Part} (s : NextSays p t at r) where
  pub is_met : {q : Part} → r ≡ Some q → Met p t at q.to
  is_met e = met_of (rw e at s.tells)

  module _ {count : ℕ} (g : Counting p t at count) where
    pub counting_end : r ≡ None → count ≡ length (chosen p (held_texts t))
    counting_end e = omega (arith, g.whole, ap length (none_of (rw e at s.tells)))

    pub counting_on : {q : Part} → r ≡ Some q → Counting p t q.to (count + 1)
    counting_on e =
        let m = is_met e in
        record { walks = m.walks; few = omega (arith, g.few, m.further); whole = omega (arith, g.whole, m.falls) }

-- by what settling says of the pattern
module _ (p : Text) (paths : List Text) where
  pub matching_none : has_class true 0 (signs_of p) ≡ true → 0 ≡ matching p paths
  unfolding matching
  matching_none y = rw y

  pub matching_some : has_class true 0 (signs_of p) ≡ false → length (chosen (elements true 0 (signs_of p)) paths) ≡ matching p paths
  unfolding matching
  matching_some n = rw n

-- by what settling answers; its sets have room
module _ (p : Text) (cells sets : List ℕ) {r : Result Settled SettleError} (s : SettleSays Marked true p cells sets r) where
  pub settled_shows : {q : Settled} → r ≡ Ok q → Shows sets (take q.count cells) (elements true 0 (signs_of p))
  settled_shows e = (rw e at s).shows

  pub settled_some : {q : Settled} → r ≡ Ok q → (paths : List Text) → length (chosen (elements true 0 (signs_of p)) paths) ≡ matching p paths
  settled_some e paths = matching_some p paths (rw e at s).served

  pub settled_none : {x : SettleError} → r ≡ Err x → (paths : List Text) → 4 * length p ≤ 3 * (2 * length sets) → 0 ≡ matching p paths
  settled_none {x} e paths h = by x (rw e at s)
    where
      by : (y : SettleError) → SettleSays Marked true p cells sets (Err y) → 0 ≡ matching p paths
      by BadClass k = matching_none p paths k
      by NoRoom k = absurd (omega (arith, h, k))

-- the number of what reading answers
verdict_number : (w : Words) → number_in (verdict w) ≡ number_of w
unfolding number_of
verdict_number (refused_at n place) = refl
verdict_number (demands_at t place) = refl
verdict_number (done_at ws) = refl

pub told : (w : Words) {r s : Result (Unit {0}) Refused} → verdict w ≡ verdict_of r → r ≡ s → number_in (verdict_of s) ≡ number_of w
told w e f = ap (λ (x : Result (Unit {0}) Refused). number_in (verdict_of x)) (sym f) ∙ ap (λ v. number_in v) (sym e) ∙ verdict_number w
