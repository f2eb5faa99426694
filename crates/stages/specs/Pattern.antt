-- Document 01, "Patterns", with E3's classes: what a pattern's units are read as, and which texts it matches.
use Rattle.std.specs.Prelude.{ℕ, zero, suc, ◌+◌, Bool, true, false, ◌&&◌, ◌||◌, not, List, [], ◌∷◌, eqb, length, take, drop}
use Prim.Native.Char.{code}
use Rattle.std.proofs.Math.Option.{Option, none, some}
use Rattle.stages.specs.Numbers.{bracket_class}
use Rattle.stages.specs.Bytes.{Text, text, is_in, between}
use Rattle.stages.specs.Outcome.{Outcome, refused, done, pick}
use Rattle.stages.specs.Classes.{NamedClass, classes, written}
use Rattle.stages.specs.Units.{L, E, Q, cell, N, B, Row}

-- a unit as patterns see it: whether it is active, and its byte
pub record Sign : Type 0 where
  pub live : Bool
  pub byte : ℕ

abbrev pub Signs : Type 0
Signs = List Sign

-- "L and E bytes are active, Q bytes stand for themselves, N vanishes." Never asked: a break mark, which no field and no removal's operand holds
unfoldable pub signs : Row → Signs
signs [] = []
signs (cell L b ∷ r) = record { live = true; byte = b } ∷ signs r
signs (cell E b ∷ r) = record { live = true; byte = b } ∷ signs r
signs (cell Q b ∷ r) = record { live = false; byte = b } ∷ signs r
signs (N ∷ r) = signs r
signs (B ∷ r) = signs r

-- the unit is this byte, and active
abbrev pub is_live : ℕ → Sign → Bool
is_live b s = s.live && eqb s.byte b

-- a set is these members, or with "an optional active `!`" all other bytes
pub data Sense : Type 0 where
  these all_others : Sense

-- "`*` is any bytes, `?` one byte. A bracket stands for a set of the 256 byte values"; any other unit is exactly its byte
pub data Element : Type 0 where
  star one : Element
  exactly : ℕ → Element
  set : Sense → Signs → Element

-- "active `[` directly before active `:`, `.` or `=`"
unfoldable pub opens_class : Sign → Signs → Bool
opens_class s [] = false
opens_class s (u ∷ r) = is_live (code "[") s && (u.live && is_in u.byte (text ":.="))

-- E3: the units begin with these bytes, "all its bytes active"
unfoldable pub begin : Text → Signs → Bool
begin [] r = true
begin (b ∷ t) [] = false
begin (b ∷ t) (s ∷ r) = is_live b s && begin t r

-- E3, "The name is between active `[:` and `:]`": the class of a table that is written behind a `[`. No name holds a `:`, so it ends at the first active `:]`.
unfoldable pub class_at : List NamedClass → Signs → Option NamedClass
unfolding begin
class_at [] r = none
class_at (c ∷ l) r = elim (begin (written c) r) [ true ↦ some c | false ↦ class_at l r ]

-- where a bracket's members stop, but for its first: at "an active `]`", and for paths at "a slash, quoted or not"
unfoldable pub stops : Bool → Sign → Bool
stops path s = is_live (code "]") s || (path && eqb s.byte (code "/"))

-- "An active `-` between two members is a range": so go the units behind a member that begins one
unfoldable pub ranges : Bool → Signs → Bool
unfolding stops
ranges path [] = false
ranges path (d ∷ []) = false
ranges path (d ∷ n ∷ r) = is_live (code "-") d && not (stops path n)

-- a member of a bracket: a byte, a range from a byte to a byte, by E3 a class; or what is 19
pub data Member : Type 0 where
  single : ℕ → Member
  range : ℕ → ℕ → Member
  class : NamedClass → Member
  unserved : Member

-- E3: "An unknown name, or `[.` or `[=`, stays 19. A class as an end of a range is 19." The member of a `[` that opens a class, by the class behind it ..
unfoldable pub class_member : Bool → Option NamedClass → Signs → Member
unfolding ranges
class_member path none r = unserved
class_member path (some c) r = pick (ranges path (drop (length (written c)) r)) unserved (class c)

-- .. and that of any other byte, which may begin a range
unfoldable pub byte_member : Bool → ℕ → Signs → Member
unfolding ranges opens_class
byte_member path b [] = single b
byte_member path b (d ∷ []) = single b
byte_member path b (d ∷ n ∷ r) = pick (ranges path (d ∷ n ∷ r)) (pick (opens_class n r) unserved (range b n.byte)) (single b)

-- the member that begins with the unit s, r behind it: the one place that says what a member is
unfoldable pub member : Bool → Sign → Signs → Member
unfolding opens_class class_at classes class_member byte_member
member path s r = elim (opens_class s r) [ true ↦ class_member path (class_at classes r) r | false ↦ byte_member path s.byte r ]

-- how many units it has besides s
unfoldable pub member_length : Member → ℕ
member_length (single b) = 0
member_length (range lo hi) = 2
member_length (class c) = length (written c)
member_length unserved = 0

-- the bytes that it holds: "falling ranges are empty"
unfoldable pub member_holds : Member → ℕ → Bool
member_holds (single c) b = eqb c b
member_holds (range lo hi) b = between lo b hi
member_holds (class c) b = c.holds b
member_holds unserved b = false

-- what the search for a bracket's end finds: a member that is 19, no end, or the end behind so many units of members
pub data Found : Type 0 where
  refusing unclosed : Found
  closed_after : ℕ → Found

abbrev pub one_more : Found → Found
one_more refusing = refusing
one_more unclosed = unclosed
one_more (closed_after n) = closed_after (suc n)

-- "members up to an active `]` that is not the first member"; for paths "a bracket whose search meets a slash, quoted or not, is not one". The first k units
-- belong to the member before. Each case calls itself with a number that stands there: so computing shares the searches of a pattern with many `[`.
unfoldable pub find : Bool → Bool → ℕ → Signs → Found
unfolding member
find path first k [] = unclosed
find path first zero (s ∷ r) =
    pick (not first && is_live (code "]") s) (closed_after 0)
    (pick (path && eqb s.byte (code "/")) unclosed
    (elim (member path s r) [
      | single b ↦ one_more (find path false 0 r)
      | range lo hi ↦ one_more (find path false 2 r)
      | class c ↦ one_more (find path false (length (written c)) r)
      | unserved ↦ refusing
    ]))
find path first (suc k) (s ∷ r) = one_more (find path false k r)

-- behind an active `[`: "optional active `!` for all others"
unfoldable pub others : Signs → Bool
others [] = false
others (s ∷ r) = is_live (code "!") s

abbrev pub sense_of : Bool → Sense
sense_of true = all_others
sense_of false = these

-- how many units the `!` takes, and what the search behind it finds
abbrev pub skipped : Signs → ℕ
unfolding others
skipped r = pick (others r) 1 0

unfoldable pub bracket : Bool → Signs → Found
unfolding find others
bracket path r = find path true 0 (drop (skipped r) r)

-- the element of a bracket, by what its search finds: "Unclosed, `[` is itself."
unfoldable pub bracketed : Signs → Found → Element
unfolding others
bracketed r refusing = exactly (code "[")
bracketed r unclosed = exactly (code "[")
bracketed r (closed_after n) = set (sense_of (others r)) (take n (drop (skipped r) r))

-- how many units behind its `[` a bracket has
unfoldable pub bracket_length : Signs → Found → ℕ
unfolding others
bracket_length r refusing = 0
bracket_length r unclosed = 0
bracket_length r (closed_after n) = skipped r + suc n

-- the element that begins with the unit s, r behind it, and how many units it has besides s
unfoldable pub element : Bool → Sign → Signs → Element
unfolding bracket bracketed
element path s r =
    pick (is_live (code "*") s) star
    (pick (is_live (code "?") s) one
    (pick (is_live (code "[") s) (bracketed r (bracket path r)) (exactly s.byte)))

unfoldable pub extra : Bool → Sign → Signs → ℕ
unfolding bracket bracket_length
extra path s r = pick (is_live (code "[") s) (bracket_length r (bracket path r)) 0

-- the elements of a pattern behind k units that belong to the element before
unfoldable pub elements : Bool → ℕ → Signs → List Element
unfolding element extra
elements path k [] = []
elements path zero (s ∷ r) = element path s r ∷ elements path (extra path s r) r
elements path (suc k) (s ∷ r) = elements path k r

abbrev pub is_refusing : Found → Bool
is_refusing refusing = true
is_refusing unclosed = false
is_refusing (closed_after n) = false

-- a class that is not served: "met in that search is 19, closed or not, whatever the text"
unfoldable pub has_class : Bool → ℕ → Signs → Bool
unfolding bracket extra
has_class path k [] = false
has_class path zero (s ∷ r) = (is_live (code "[") s && is_refusing (bracket path r)) || has_class path (extra path s r) r
has_class path (suc k) (s ∷ r) = has_class path k r

-- what a pattern is for; only one for paths heeds slashes and leading dots
pub data Purpose : Type 0 where
  for_paths for_removal : Purpose

abbrev pub is_for_paths : Purpose → Bool
is_for_paths for_paths = true
is_for_paths for_removal = false

-- the pattern that a row's units make, the one place of 19
unfoldable pub pattern : Purpose → Row → Outcome (List Element)
unfolding signs has_class elements
pattern purpose r =
    elim (has_class (is_for_paths purpose) 0 (signs r)) [ true ↦ refused bracket_class | false ↦ done (elements (is_for_paths purpose) 0 (signs r)) ]

-- some member of these units holds the byte: "`[a-c-e]` is a to c, `-`, e". Of a closed bracket these are the units before its end, in which no slash stops it.
unfoldable pub listed : ℕ → Signs → ℕ → Bool
unfolding member member_length member_holds
listed k [] b = false
listed zero (s ∷ r) b = member_holds (member false s r) b || listed (member_length (member false s r)) r b
listed (suc k) (s ∷ r) b = listed k r b

unfoldable pub in_set : Sense → Signs → ℕ → Bool
unfolding listed
in_set these members b = listed 0 members b
in_set all_others members b = not (listed 0 members b)

-- for paths: "a slash is matched only by a pattern's slash", "a `.` at the start of a path or after a slash only by a `.` first in the pattern
-- or right after its slash". `first`: a path or a part of it starts here. What `*`, `?` and brackets may take:
unfoldable pub passes : Bool → Bool → ℕ → Bool
passes path first b = not path || (not (eqb b (code "/")) && not (first && eqb b (code ".")))

-- `head`: the pattern's place is its first or right behind its slash. What a byte of the pattern may take:
unfoldable pub takes : Bool → Bool → Bool → ℕ → ℕ → Bool
takes path head first c b = eqb c b && (not path || (head || not (first && eqb b (code "."))))

-- some end of the text passes, before which only bytes stand that a star may take
unfoldable pub some_end : Bool → (Bool → Text → Bool) → Bool → Text → Bool
unfolding passes
some_end path f first [] = f first []
some_end path f first (b ∷ t) =
    elim (f first (b ∷ t)) [ true ↦ true | false ↦ elim (passes path first b) [ true ↦ some_end path f false t | false ↦ false ] ]

-- "The whole text must match."
unfoldable pub matches_from : Bool → List Element → Bool → Bool → Text → Bool
unfolding passes takes some_end in_set
matches_from path [] head first [] = true
matches_from path [] head first (b ∷ t) = false
matches_from path (star ∷ p) head first t = some_end path (λ f u. matches_from path p false f u) first t
matches_from path (one ∷ p) head first [] = false
matches_from path (one ∷ p) head first (b ∷ t) = elim (passes path first b) [ true ↦ matches_from path p false false t | false ↦ false ]
matches_from path (exactly c ∷ p) head first [] = false
matches_from path (exactly c ∷ p) head first (b ∷ t) =
    elim (takes path head first c b) [ true ↦ matches_from path p (eqb c (code "/")) (eqb c (code "/")) t | false ↦ false ]
matches_from path (set sense members ∷ p) head first [] = false
matches_from path (set sense members ∷ p) head first (b ∷ t) =
    elim (passes path first b && in_set sense members b) [ true ↦ matches_from path p false false t | false ↦ false ]

unfoldable pub matches : Purpose → List Element → Text → Bool
unfolding matches_from
matches purpose p t = matches_from (is_for_paths purpose) p true true t
