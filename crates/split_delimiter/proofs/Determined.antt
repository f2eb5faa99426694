-- What a contract that names a place allows for one input is one place: two places that whole units part from a third, with as many units ahead, are
-- one.
use Prim.Native.Nat.{ℕ, ◌+◌, ◌-◌, ◌*◌, ◌≤◌}
use native.Mathlib.Omega.{arith}
use mathlib.Core.Path.{◌≡◌, sym, ap, ◌∙◌}
use mathlib.Core.Bool.{Bool}
use mathlib.Core.List.{[], ◌∷◌}
use lib.ListN.{length, drop, length-drop}
use Rattle.stages.specs.Bytes.{Text, part}
use Rattle.stages.specs.Units.{Row}
use Rattle.stages.specs.Split.{drop_white, drop_hard}
use Rattle.text.specs.Rows.{row_of}
use Rattle.text.proofs.Determined.{one_answer}
use Rattle.split_delimiter.specs.Places.{ahead, goes_on, highest, Reaches}
use Rattle.split_delimiter.specs.Parts.{behind_break, PartEnds}

-- two bytes for each unit, and perhaps an odd last one
row_length : (t : Text) → (2 * length (row_of t) ≤ length t) × (length t ≤ 2 * length (row_of t) + 1)
unfolding row_of
row_length [] = (omega arith, omega arith)
row_length (a ∷ []) = (omega arith, omega arith)
row_length (a ∷ b ∷ t) = (omega (arith, (row_length t).0), omega (arith, (row_length t).1))

ahead_length : (row : Text) (at : ℕ) → (2 * length (ahead row at) ≤ length row - at) × (length row - at ≤ 2 * length (ahead row at) + 1)
ahead_length row at = (omega (arith, (row_length (drop at row)).0, length-drop at row), omega (arith, (row_length (drop at row)).1, length-drop at row))

pub goes_on_determined : (ifs row : Text) (at : ℕ) (r s : Bool) → r ≡ goes_on ifs (ahead row at) → s ≡ goes_on ifs (ahead row at) → r ≡ s
goes_on_determined ifs row at r s = one_answer

pub highest_of_determined : (ifs : Text) (r s : ℕ) → r ≡ highest 0 ifs → s ≡ highest 0 ifs → r ≡ s
highest_of_determined ifs r s = one_answer

module _ {row : Text} {at : ℕ} where
  one_place : {to to' : ℕ} {r : Row} → Reaches row at to r → Reaches row at to' r → to ≡ to'
  one_place {to} {to'} p q =
      let n : length (ahead row to) ≡ length (ahead row to') = ap length (p.units ∙ sym q.units) in
      omega (
        arith,
        n,
        p.far,
        q.far,
        p.within,
        q.within,
        (ahead_length row to).0,
        (ahead_length row to).1,
        (ahead_length row to').0,
        (ahead_length
            row to').1,
      )

  pub skip_white_determined : (ifs : Text) {to to' : ℕ} → Reaches row at to (drop_white ifs (ahead row at)) → Reaches row at to'
      (drop_white ifs (ahead row at)) → to ≡ to'
  skip_white_determined ifs p q = one_place p q

  pub behind_field_determined : (ifs : Text) {to to' : ℕ} → Reaches row at to (drop_hard ifs (drop_white ifs (ahead row at))) → Reaches row at
      to' (drop_hard ifs (drop_white ifs (ahead row at))) → to ≡ to'
  behind_field_determined ifs p q = one_place p q

  pub part_end_determined : {r s : ℕ} → PartEnds row at r → PartEnds row at s → r ≡ s
  part_end_determined {r} {s} p q =
      let e : row_of (part row at r) ∷ behind_break (ahead row r) ≡ row_of (part row at s) ∷ behind_break (ahead row s) = sym p.is ∙ q.is in
      let f : row_of (part row at r) ≡ row_of (part row at s) = cc in
      p.far ∙ ap (λ (x : Row). at + 2 * length x) f ∙ sym q.far
