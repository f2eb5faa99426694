-- The members of a bracket as the code tells them, each with what the stage says of it.
use Rattle.std.specs.Prelude.{ℕ, ◌+◌, ◌*◌, ◌^◌, ◌≤◌, ◌<◌, ◌≡◌, Bool, false, [], ◌∷◌, length, Result, Ok, Err}
use Rattle.stages.specs.Bytes.{Text}
use Rattle.stages.specs.Pattern.{Signs, opens_class, member, member_length, single, range, class, unserved}
use Rattle.stages.specs.Pattern as pattern
use Rattle.pattern_unit.specs.Widths.{size}
use Rattle.pattern_unit.specs.declared.Width.{Width}
use Rattle.pattern_class.specs.Rows.{count, row_class}
use Rattle.pattern_member.specs.declared.BadClass.{BadClass}
use Rattle.pattern_member.specs.declared.Member.{Member}
use Rattle.pattern_member.specs.declared.Member.TheVariants.{Single, Range, Class}

-- a class opens with the first unit
unfoldable pub opens : Signs → Bool
unfolding opens_class
opens [] = false
opens (s ∷ r) = opens_class s r

-- the member that begins with the first unit; there is one
unfoldable pub first_member : Bool → Signs → pattern.Member
unfolding member
first_member path [] = unserved
first_member path (s ∷ r) = member path s r

-- the stage's member
abbrev pub member_of : Member → pattern.Member
member_of (Single b) = single b
member_of (Range lo hi) = range lo hi
member_of (Class row) = class (row_class row)

-- .. or, where what is read refuses the pattern, its member that is not served
abbrev pub read_of : Result Member BadClass → pattern.Member
read_of (Ok m) = member_of m
read_of (Err e) = unserved

-- its class is a row of the table
abbrev pub is_row : Member → Type 0
is_row (Single b) = Unit {0}
is_row (Range lo hi) = Unit {0}
is_row (Class row) = row < count

abbrev pub row_read : Result Member BadClass → Type 0
row_read (Ok m) = is_row m
row_read (Err e) = Unit {0}

-- what is read is this member, and what it has behind its first unit stands in the pattern from a place on
pub record Says (w : Width) (p : Text) (at : ℕ) (is : pattern.Member) (r : Result Member BadClass) : Type 0 where
  pub listed : row_read r
  pub says : read_of r ≡ is
  pub inside : at + size w * member_length (read_of r) ≤ length p

-- the place behind a member
abbrev pub behind_of : Member → ℕ → Width → ℕ
behind_of m at w = at + size w * (member_length (member_of m) + 1)

-- .. and behind what is read, which has one unit if it refuses the pattern
abbrev pub behind_read : Result Member BadClass → ℕ → Width → ℕ
behind_read r at w = at + size w * (member_length (read_of r) + 1)

-- that place is a number of the code
pub record Within (r : Result Member BadClass) (at : ℕ) (w : Width) : Type 0 where
  pub listed : row_read r
  pub fits : behind_read r at w < 2 ^ 64
