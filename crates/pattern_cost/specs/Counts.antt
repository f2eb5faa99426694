-- The elements of a pattern, all bytes of it active: how many there are, and which is a star.
use Rattle.std.specs.Prelude.{ℕ, ◌≡◌, Bool, true, false, List, length, Result, Ok, Err}
use Rattle.stages.specs.Bytes.{Text}
use Rattle.stages.specs.Pattern.{Element, elements, has_class}
use Rattle.pattern_unit.specs.Widths.{plain_signs}
use Rattle.pattern_member.specs.declared.BadClass.{BadClass}
use Rattle.pattern_element.specs.declared.Piece.{Piece}
use Rattle.pattern_element.specs.declared.Piece.TheVariants.{Star, One, Byte, Refusing, Set}

-- the elements of a pattern in the removals' sense, and whether it has a class that is not served
abbrev pub elements_of : Text → List Element
elements_of p = elements false 0 (plain_signs p)

abbrev pub class_in : Text → Bool
class_in p = has_class false 0 (plain_signs p)

-- what the count of its elements says
abbrev pub CountSays : Text → Result ℕ BadClass → Type 0
CountSays p (Err e) = class_in p ≡ true
CountSays p (Ok n) = (class_in p ≡ false) × (n ≡ length (elements_of p))

-- the element is a star
abbrev pub is_star_piece : Piece → Bool
is_star_piece Star = true
is_star_piece One = false
is_star_piece (Byte b) = false
is_star_piece Refusing = false
is_star_piece (Set negative from to) = false
