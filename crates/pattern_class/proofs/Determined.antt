-- Whatever two outcomes a contract of this crate allows for one input, they are equal: each answer is equal to the same definition, and no two rows have one
-- name.
use Prim.Native.Nat.{ℕ, ◌<◌}
use mathlib.Core.Path.{◌≡◌, refl, sym, ◌∙◌, ap}
use mathlib.Core.Bool.{Bool, true, not, ◌||◌}
use Rattle.std.proofs.Common.{Option, Some, None}
use lib.Dec.{eqb}
use lib.ListN.{length}
use borrow.Author.Tests.{eqb-true}
use Rattle.stages.specs.Bytes.{Text, eq_text}
use Rattle.stages.specs.Classes.{NamedClass, classes, written}
use Rattle.stages.proofs.Bools.{clash, some_same}
use Rattle.stages.proofs.Texts.{eq_text_refl}
use Rattle.text.proofs.Determined.{one_answer}
use Rattle.text.proofs.Every.{every, every_at}
use Rattle.pattern_unit.specs.declared.Width.{Width}
use Rattle.pattern_class.specs.Rows.{count, row_class, Finds}
use Rattle.pattern_class.specs.Table.{Holds}

pub written_length_determined : (row : ℕ) {r q : ℕ} → r ≡ length (written (row_class row)) → q ≡ length (written (row_class row)) → r ≡ q
written_length_determined row = one_answer

pub runs_determined : (row : ℕ) {r q : Text} → Holds row r → Holds row q → r ≡ q
runs_determined row h g = one_answer h.is g.is

-- rows of one name are one row
told_apart : ℕ → ℕ → Bool
told_apart row other = not (eq_text (row_class row).name (row_class other).name) || eqb row other

apart_all : ℕ → Bool
unfolding told_apart
apart_all row = every (told_apart row) 0 count

all_apart : every apart_all 0 count ≡ true
unfolding apart_all classes
all_apart = refl

named_apart : (row other : ℕ) → row < count → other < count → eq_text (row_class row).name (row_class other).name ≡ true → row ≡ other
unfolding apart_all told_apart
named_apart row other h g e =
    eqb-true row other
    (sym (ap (λ b. not b || eqb row other) e) ∙ every_at (told_apart row) count (every_at apart_all count all_apart row h) other g)

pub one_row : (row other : ℕ) → row < count → other < count → row_class row ≡ row_class other → row ≡ other
one_row row other h g e =
    named_apart row other h g (ap (λ (c : NamedClass). eq_text (row_class row).name c.name) (sym e) ∙ eq_text_refl (row_class row).name)

pub class_at_determined : (units : Text) (at : ℕ) (w : Width) (r q : Option ℕ) → Finds w units at r → Finds w units at q → r ≡ q
class_at_determined units at w (Some row) (Some other) h g = ap Some (one_row row other h.listed g.listed (some_same (sym h.is ∙ g.is)))
class_at_determined units at w (Some row) None h g = absurd (clash (sym g ∙ h.is))
class_at_determined units at w None (Some other) h g = absurd (clash (sym h ∙ g.is))
class_at_determined units at w None None h g = refl
