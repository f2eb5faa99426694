-- The element at a place of a pattern, and what it says of all from there on: the steps of a walk over a pattern's elements.
use Prim.Native.Nat.{ℕ, ◌+◌, ◌*◌, ◌≤◌}
use mathlib.Core.Path.{◌≡◌, sym, ◌∙◌, ap, subst}
use mathlib.Core.Bool.{Bool, ◌||◌}
use mathlib.Core.List.{List, ◌∷◌}
use lib.ListN.{length, drop}
use Rattle.stages.specs.Bytes.{Text}
use Rattle.stages.specs.Pattern.{Element, elements, has_class}
use Rattle.pattern_unit.specs.Widths.{size, signs_by}
use Rattle.pattern_unit.specs.declared.Width.{Width}
use Rattle.pattern_element.specs.Ends.{Ended}
use Rattle.pattern_element.specs.Pieces.{piece_at, behind_of, element_of, is_refusing_piece, sets_in, Lies}
use Rattle.pattern_element.specs.declared.Piece.{Piece}
use Rattle.pattern_element.proofs.Reading.{next_is, next_inside, next_further, elements_on, class_on, piece_lies, piece_long}
use Rattle.pattern_element.proofs.Filling.{ended_on}

-- the elements of a pattern from a place on, and whether a class that is not served is met there
abbrev pub from : Width → Bool → Text → ℕ → List Element
from w path p at = elements path 0 (signs_by w (drop at p))

abbrev pub class_from : Width → Bool → Text → ℕ → Bool
class_from w path p at = has_class path 0 (signs_by w (drop at p))

-- the piece q stands at a place of the pattern, n is the place behind it
pub record Standing (w : Width) (path : Bool) (p : Text) (at : ℕ) (q : Piece) (n : ℕ) : Type 0 where
  pub there : at + size w ≤ length p
  pub is : q ≡ piece_at w path at (signs_by w (drop at p))
  pub ends : n ≡ behind_of w q at

module _ {w : Width} {path : Bool} {p : Text} {at : ℕ} {q : Piece} {n : ℕ} (s : Standing w path p at q n) where
  pub piece_inside : n ≤ length p
  piece_inside = rw (s.ends, s.is) (next_inside w path p at s.there)

  pub piece_further : at + size w ≤ n
  piece_further = rw (s.ends, s.is) (next_further w path p at s.there)

  pub piece_within : Lies (length p) q
  piece_within = rw s.is (piece_lies w path p at s.there)

  -- a set has three units at the least
  pub set_inside : at + 3 * (size w * sets_in q) ≤ n
  set_inside = rw (s.ends, s.is) (piece_long w path at (signs_by w (drop at p)))

  pub parted : from w path p at ≡ element_of w p q ∷ from w path p n
  parted = rw (s.ends, s.is) (elements_on w path p at s.there)

  pub class_step : class_from w path p at ≡ (is_refusing_piece q || class_from w path p n)
  class_step = rw (s.ends, s.is) (class_on w path p at s.there)

  -- the table of ends that serves this place serves the next
  pub ended_next : {ends : List ℕ} → Ended w path p ends at → Ended w path p ends n
  ended_next {ends} e =
      subst (λ (k : ℕ). Ended w path p ends k)
      (sym (s.ends ∙ ap (λ (r : Piece). behind_of w r at) s.is ∙ next_is w path p at s.there)) (ended_on e _)
