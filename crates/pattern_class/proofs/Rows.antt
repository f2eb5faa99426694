-- The stage looks for a class row by row, as the code does: one that is written there is the first that is, and stands inside the pattern.
use Prim.Native.Nat.{ℕ, suc, ◌+◌, ◌*◌, ◌≤◌, ◌<◌}
use mathlib.Core.Path.{◌≡◌, refl, ◌∙◌, ap}
use mathlib.Core.Bool.{true, false}
use mathlib.Core.List.{[], ◌∷◌}
use mathlib.Core.Option.{none, some}
use native.Mathlib.Omega.{arith}
use lib.ListN.{length, drop, length-append, length-drop, drop_of_length-le}
use lib.Seq.{drop-cons}
use Rattle.stages.specs.Bytes.{Text}
use Rattle.stages.specs.Classes.{NamedClass, classes, written}
use Rattle.stages.specs.Pattern.{Signs, begin, class_at}
use Rattle.stages.proofs.Classes.{actives, class_written}
use Rattle.stages.proofs.Members.{class_yes, class_no}
use Rattle.pattern_unit.specs.Widths.{size, signs_by}
use Rattle.pattern_unit.specs.declared.Width.{Width}
use Rattle.pattern_unit.proofs.Units.{units_there}
use Rattle.pattern_class.specs.Rows.{count, nameless, row_class}

classes_counted : length classes ≡ count
unfolding classes
classes_counted = refl

module _ (row : ℕ) (r : Signs) where
  row_on : row < count → drop row classes ≡ row_class row ∷ drop (row + 1) classes
  row_on h =
      let e : suc row ≡ row + 1 = omega arith in
      drop-cons classes row nameless (omega (arith, classes_counted)) ∙ ap (λ (n : ℕ). row_class row ∷ drop n classes) e

  pub found_here : row < count → begin (written (row_class row)) r ≡ true → class_at (drop row classes) r ≡ some (row_class row)
  found_here h y = ap (λ l. class_at l r) (row_on h) ∙ class_yes (row_class row) (drop (row + 1) classes) r y

  pub found_on : row < count → begin (written (row_class row)) r ≡ false → class_at (drop row classes) r ≡ class_at (drop (row + 1) classes) r
  found_on h n = ap (λ l. class_at l r) (row_on h) ∙ class_no (row_class row) (drop (row + 1) classes) r n

  pub found_none : count ≤ row → class_at (drop row classes) r ≡ none
  unfolding class_at
  found_none h = let e : length classes ≤ row = omega (arith, classes_counted) in rw (drop_of_length-le classes e)

length_actives : (t : Text) → length (actives t) ≡ length t
length_actives [] = refl
length_actives (b ∷ t) = ap suc (length_actives t)

-- a class that is found stands there whole
whole : (c : NamedClass) (r : Signs) → class_at classes r ≡ some c → length (written c) ≤ length r
whole c r e =
    omega (
      arith,
      ap length (class_written classes c r e) ∙ length-append (actives (written c)) (drop (length (written c)) r),
      length_actives (written c),
    )

pub found_inside : (w : Width) (p : Text) (at : ℕ) (c : NamedClass) → at ≤ length p → class_at classes (signs_by w (drop at p)) ≡ some c →
    at + size w * length (written c) ≤ length p
found_inside w p at c h e =
    omega (arith, units_there w (length (written c)) (drop at p) (whole c (signs_by w (drop at p)) e), length-drop at p)
