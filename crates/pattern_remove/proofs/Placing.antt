-- The places of a segment one after the other, from the last on down or from the first on up.
use Prim.Native.Nat.{ℕ, suc, ◌+◌, ◌-◌, ◌≤◌, ◌<◌}
use mathlib.Core.Path.{◌≡◌, sym, ◌∙◌}
use mathlib.Core.Bool.{Bool, true, false}
use mathlib.Core.List.{List}
use native.Mathlib.Omega.{arith}
use lib.ListN.{length}
use Rattle.stages.specs.Bytes.{Text}
use Rattle.stages.specs.Pattern.{Element}
use Rattle.pattern_cell.specs.Cells.{Shows}
use Rattle.pattern_cell.proofs.Showing.{shown_length}
use Rattle.pattern_remove.specs.Bounds.{stands_at, LastAt, NoneBefore, FirstAt, NoneFrom}

-- the places that are left are those before `left`
pub record Falling (sets segment : List ℕ) (v : Text) (top left : ℕ) : Type 0 where
  pub order : left + length segment ≤ suc top
  pub none : (x : List Element) → Shows sets segment x → (j : ℕ) → left ≤ j → j + length x ≤ top → stands_at x v j ≡ false

pub fall_start : (sets segment : List ℕ) (v : Text) (top : ℕ) → length segment ≤ top → Falling sets segment v top (top - length segment + 1)
fall_start sets segment v top h = record {
  order = omega arith;
  none = λ x s j k e. absurd (omega (arith, shown_length s, k, e));
}

pub fall_short : {sets segment : List ℕ} (v : Text) {top : ℕ} → top < length segment → (x : List Element) → Shows sets segment x → NoneBefore x v top
fall_short v h x s = record { none = λ j e. absurd (omega (arith, shown_length s, e)) }

module _ {sets segment : List ℕ} {v : Text} {top left : ℕ} (w : Falling sets segment v top left) where
  module _ (m : 0 < left) {r : Bool} (f : (x : List Element) → Shows sets segment x → r ≡ stands_at x v (left - 1)) where
    pub fall_found : r ≡ true → (x : List Element) → Shows sets segment x → LastAt x v top (left - 1)
    fall_found y x s = record {
      before = omega (arith, w.order, shown_length s);
      here = sym (f x s) ∙ y;
      no_later = λ j k e. w.none x s j (omega arith) e;
    }

-- the places that are left are those from `at` on
pub record Rising (sets segment : List ℕ) (v : Text) (low at : ℕ) : Type 0 where
  pub order : low ≤ at
  pub none : (x : List Element) → Shows sets segment x → (j : ℕ) → low ≤ j → j < at → stands_at x v j ≡ false

pub rise_short : {sets segment : List ℕ} (v : Text) (low : ℕ) → length v < length segment → (x : List Element) → Shows sets segment x → NoneFrom x v low
rise_short v low h x s = record { none = λ j k e. absurd (omega (arith, shown_length s, e)) }

module _ {sets segment : List ℕ} {v : Text} {low at : ℕ} (w : Rising sets segment v low at) where
  module _ {r : Bool} (f : (x : List Element) → Shows sets segment x → r ≡ stands_at x v at) where
    pub rise_found : at + length segment ≤ length v → r ≡ true → (x : List Element) → Shows sets segment x → FirstAt x v low at
    rise_found h y x s = record {
      from = w.order;
      inside = omega (arith, shown_length s);
      here = sym (f x s) ∙ y;
      no_earlier = w.none x s;
    }

  pub rise_end : length v < at + length segment → (x : List Element) → Shows sets segment x → NoneFrom x v low
  rise_end h x s = record { none = λ j k e. w.none x s j k (omega (arith, shown_length s)) }
