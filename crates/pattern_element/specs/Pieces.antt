-- The elements of a pattern as they stand in its bytes: what each case of the code's answers says.
use Rattle.std.specs.Prelude.{ℕ, ◌+◌, ◌*◌, ◌^◌, ◌≤◌, ◌<◌, Bool, true, false, [], ◌∷◌}
use Prim.Native.Char.{code}
use Rattle.stages.specs.Bytes.{Text, part}
use Rattle.stages.specs.Outcome.{pick}
use Rattle.stages.specs.Pattern.{Signs, is_live, Element, star, one, exactly, set, Found, refusing, unclosed, closed_after, bracket, others, sense_of, skipped}
use Rattle.pattern_unit.specs.Widths.{size, signs_by}
use Rattle.pattern_unit.specs.declared.Width.{Width}
use Rattle.pattern_element.specs.declared.Piece.{Piece}
use Rattle.pattern_element.specs.declared.Piece.TheVariants.{Star, One, Byte, Refusing, Set}

-- the bracket whose members begin at a place
abbrev pub set_from : Width → Bool → ℕ → Found → Piece
set_from w negative from refusing = Refusing
set_from w negative from unclosed = Byte (code "[")
set_from w negative from (closed_after n) = Set negative from (from + size w * n)

-- the bracket whose `[` stands before a place, r its units from there on
unfoldable pub bracket_at : Width → Bool → ℕ → Signs → Piece
unfolding bracket others
bracket_at w path at r = set_from w (others r) (at + size w * skipped r) (bracket path r)

-- the element at a place, of the units from there on; there is one
unfoldable pub piece_at : Width → Bool → ℕ → Signs → Piece
unfolding bracket_at
piece_at w path at [] = Byte 0
piece_at w path at (s ∷ r) =
    pick (is_live (code "*") s) Star
    (pick (is_live (code "?") s) One
    (pick (is_live (code "[") s) (bracket_at w path (at + size w) r) (Byte s.byte)))

-- the place behind an element
abbrev pub behind_of : Width → Piece → ℕ → ℕ
behind_of w Star at = at + size w
behind_of w One at = at + size w
behind_of w (Byte b) at = at + size w
behind_of w Refusing at = at + size w
behind_of w (Set negative from to) at = to + size w

-- that place is a number of the code
abbrev pub Within : Width → Piece → ℕ → Type 0
Within w piece at = behind_of w piece at < 2 ^ 64

-- the stage's element that stands so in a pattern
unfoldable pub element_of : Width → Text → Piece → Element
element_of w p Star = star
element_of w p One = one
element_of w p (Byte b) = exactly b
element_of w p Refusing = exactly (code "[")
element_of w p (Set negative from to) = set (sense_of negative) (signs_by w (part p from to))

-- what is 19 was met in its search
abbrev pub is_refusing_piece : Piece → Bool
is_refusing_piece Star = false
is_refusing_piece One = false
is_refusing_piece (Byte b) = false
is_refusing_piece Refusing = true
is_refusing_piece (Set negative from to) = false

-- how many sets it is
abbrev pub sets_in : Piece → ℕ
sets_in Star = 0
sets_in One = 0
sets_in (Byte b) = 0
sets_in Refusing = 0
sets_in (Set negative from to) = 1

-- a set's members stand inside a pattern of n bytes
abbrev pub Lies : ℕ → Piece → Type 0
Lies n Star = Unit {0}
Lies n One = Unit {0}
Lies n (Byte b) = Unit {0}
Lies n Refusing = Unit {0}
Lies n (Set negative from to) = (from ≤ to) × (to ≤ n)
