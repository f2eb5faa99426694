-- The element at a place of a pattern, as one that may be other than a byte.
use Prim.Native.Nat.{ℕ}
use mathlib.Core.Path.{◌≡◌, refl, ◌∙◌, ap}
use mathlib.Core.Bool.{Bool, ◌||◌}
use mathlib.Core.List.{List, ◌∷◌}
use Rattle.stages.specs.Bytes.{Text}
use Rattle.stages.specs.Pattern.{Element}
use Rattle.stages.specs.Paths.{active}
use Rattle.pattern_unit.specs.declared.Width.{Width}
use Rattle.pattern_element.specs.Pieces.{element_of}
use Rattle.pattern_element.specs.declared.Piece.{Piece}
use Rattle.pattern_element.specs.declared.Piece.TheVariants.{Star, One, Byte, Refusing, Set}
use Rattle.pattern_element.proofs.Standing.{from, Standing, parted}
use Rattle.pattern_settle.specs.Celled.{is_special}

active_step : (w : Width) (p : Text) (q : Piece) (es : List Element) → active (element_of w p q ∷ es) ≡ (is_special q || active es)
unfolding active element_of
active_step w p Star es = refl
active_step w p One es = refl
active_step w p (Byte b) es = refl
active_step w p Refusing es = refl
active_step w p (Set negative a e) es = refl

pub special_step : {w : Width} {path : Bool} {p : Text} {at : ℕ} {q : Piece} {n : ℕ} → Standing w path p at q n
    → active (from w path p at) ≡ (is_special q || active (from w path p n))
special_step {w} {path} {p} {at} {q} {n} s = ap active (parted s) ∙ active_step w p q (from w path p n)
