-- E3, laws of classes: each of the twelve holds what its definition says, which is shown once over all of them; and wherever one stands in a bracket, it is one
-- member that the search for the bracket's end passes over.
use Prim.Native.Nat.{ℕ, zero, suc}
use Prim.Native.Char.{code}
use Prim.Native.String.{String}
use mathlib.Core.Path.{◌≡◌, refl, sym, ap, ◌∙◌}
use mathlib.Core.Bool.{Bool, true, false, ◌&&◌, ◌||◌, not, xor, and-false, or-false}
use mathlib.Core.List.{List, [], ◌∷◌, ◌++◌}
use mathlib.Core.Option.{some}
use lib.Dec.{eqb}
use lib.ListN.{length, drop}
use borrow.Author.Tests.{eqb-true}
use Rattle.stages.specs.Bytes.{Text, text, between, eq_text}
use Rattle.stages.specs.Outcome.{Outcome, refused, done, demands}
use Rattle.stages.specs.Units.{L, marked}
use Rattle.stages.specs.Classes.{NamedClass, classes, written}
use Rattle.stages.specs.Pattern.{
  Sign,
  Signs,
  signs,
  is_live,
  Sense,
  these,
  all_others,
  Element,
  for_removal,
  pattern,
  matches,
  begin,
  class_at,
  opens_class,
  stops,
  ranges,
  class,
  unserved,
  class_member,
  member,
  member_length,
  member_holds,
  Found,
  one_more,
  find,
  listed,
  in_set,
}
use Rattle.stages.proofs.Bools.{no, either, clash, some_same, and_left, and_right}
use Rattle.stages.proofs.Outcomes.{Each}
use Rattle.stages.proofs.Searches.{find_chosen}
use Rattle.stages.proofs.Members.{as_byte, byte_class, class_yes, class_no}

-- EACH CLASS HOLDS WHAT ITS DEFINITION SAYS

-- a class as the runs of bytes that the POSIX locale has in it, each by its first byte and its last
record Runs : Type 0 where
  name : Text
  ends : Text

abbrev runs : String → String → Runs
runs n e = record { name = text n; ends = text e }

posix : List Runs
posix =
    runs "alnum" "09AZaz"
    ∷ runs "alpha" "AZaz"
    ∷ runs "blank" "\t\t  "
    ∷ runs "cntrl" "\0\u{1f}\u{7f}\u{7f}"
    ∷ runs "digit" "09"
    ∷ runs "graph" "!~"
    ∷ runs "lower" "az"
    ∷ runs "print" " ~"
    ∷ runs "punct" "!/:@[`{~"
    ∷ runs "space" "\t\r  "
    ∷ runs "upper" "AZ"
    ∷ runs "xdigit" "09AFaf"
    ∷ []

abbrev within : Text → ℕ → Bool
within [] b = false
within (lo ∷ []) b = false
within (lo ∷ hi ∷ t) b = between lo b hi || within t b

-- a test of all numbers below n
abbrev all_below : ℕ → (ℕ → Bool) → Bool
all_below zero f = true
all_below (suc n) f = f n && all_below n f

abbrev same : Bool → Bool → Bool
same x y = not (xor x y)

-- the pattern `[[:NAME:]]` takes a byte just if the class's definition holds it, and just if the byte is in one of the runs
agrees : NamedClass → Runs → Outcome (List Element) → Bool
unfolding matches
agrees c p (refused n) = false
agrees c p (demands t) = false
agrees c p (done l) =
    eq_text c.name p.name
    && all_below 256 (λ b. same (matches for_removal l (b ∷ [])) (c.holds b) && same (c.holds b) (within p.ends b))

all_agree : List NamedClass → List Runs → Bool
unfolding agrees pattern marked
all_agree [] [] = true
all_agree [] (p ∷ ps) = false
all_agree (c ∷ cs) [] = false
all_agree (c ∷ cs) (p ∷ ps) = agrees c p (pattern for_removal (marked L (text "[[" ++ (written c ++ text "]")))) && all_agree cs ps

-- "The rule that a class holds what its definition says is shown once over all twelve": each at all 256 bytes
all_agree_lem : all_agree classes posix ≡ true
unfolding all_agree classes posix xor
all_agree_lem = refl

-- WHEREVER A CLASS STANDS

-- the bytes of a text as active units: those of literal bytes, so that a pattern of plain bytes reads as their row does
abbrev pub actives : Text → Signs
actives [] = []
actives (b ∷ t) = record { live = true; byte = b } ∷ actives t

pub actives_signs : (t : Text) → actives t ≡ signs (marked L t)
unfolding signs marked
actives_signs [] = refl
actives_signs (b ∷ t) = ap {B = Signs} (λ r. record { live = true; byte = b } ∷ r) (actives_signs t)

-- a class as it is written behind its `[`, r behind it
abbrev pub class_then : NamedClass → Signs → Signs
class_then c r = actives (written c) ++ r

abbrev pub opening : Sign
opening = record { live = true; byte = code "[" }

-- a class that is served: its name is found, whatever stands behind it
abbrev pub Served : NamedClass → Type 0
Served c = (r : Signs) → class_at classes (class_then c r) ≡ some c

pub all_served : Each Served classes
unfolding class_at classes begin
all_served = (
  λ r. refl,
  (λ r. refl, (λ r. refl, (λ r. refl, (λ r. refl, (λ r. refl, (λ r. refl, (λ r. refl, (λ r. refl, (λ r. refl, (λ r. refl, (λ r. refl, tt))))))))))),
)

-- "The name is between active `[:` and `:]`, all its bytes active": nowhere else is a class found
live_sign : (b : ℕ) (s : Sign) → is_live b s ≡ true → s ≡ record { live = true; byte = b }
live_sign b s e =
    ap {B = Sign} (λ l. record { live = l; byte = s.byte }) (and_left s.live (eqb s.byte b) e)
    ∙ ap {B = Sign} (λ c. record { live = true; byte = c }) (eqb-true s.byte b (and_right s.live (eqb s.byte b) e))

begin_actives : (t : Text) (r : Signs) → begin t r ≡ true → r ≡ actives t ++ drop (length t) r
unfolding begin
begin_actives [] r e = refl
begin_actives (b ∷ t) [] e = absurd (no e)
begin_actives (b ∷ t) (s ∷ r) e =
    ap {B = Signs} (λ u. u ∷ r) (live_sign b s (and_left (is_live b s) (begin t r) e))
    ∙ ap {B = Signs} (λ q. record { live = true; byte = b } ∷ q) (begin_actives t r (and_right (is_live b s) (begin t r) e))

pub class_written : (l : List NamedClass) (c : NamedClass) (r : Signs) → class_at l r ≡ some c → r ≡ class_then c (drop (length (written c)) r)
unfolding class_at
class_written [] c r e = absurd (clash e)
class_written (d ∷ l) c r e =
    either (begin (written d) r)
    (λ h.
    let k : d ≡ c = some_same (sym (class_yes d l r h) ∙ e) in
    begin_actives (written c) r (ap (λ x. begin (written x) r) (sym k) ∙ h))
    (λ h. class_written l c r (sym (class_no d l r h) ∙ e))

drop_actives : (t : Text) (r : Signs) → drop (length t) (actives t ++ r) ≡ r
drop_actives [] r = refl
drop_actives (b ∷ t) r = drop_actives t r

-- it is a member of its own if no range goes on from it ..
pub class_member_lem : (path : Bool) (c : NamedClass) (r : Signs) → Served c → ranges path r ≡ false →
    member path opening (class_then c r) ≡ class c
unfolding member opens_class class_member
class_member_lem path c r h e = rw (h r, drop_actives (written c) r, e)

-- .. else 19: "A class as an end of a range is 19." ..
pub class_first : (path : Bool) (c : NamedClass) (r : Signs) → Served c → ranges path r ≡ true →
    member path opening (class_then c r) ≡ unserved
unfolding member opens_class class_member
class_first path c r h e = rw (h r, drop_actives (written c) r, e)

-- .. and so is one behind the `-`, served or not
abbrev dash : Sign
dash = record { live = true; byte = code "-" }

dash_opened : (s : Sign) (r : Signs) → opens_class s (dash ∷ r) ≡ false
unfolding opens_class
dash_opened s r = and-false (is_live (code "[") s)

to_opening : (path : Bool) (r : Signs) → ranges path (dash ∷ opening ∷ r) ≡ true
unfolding ranges stops
to_opening path r = rw (and-false path)

pub class_last : (path : Bool) (s : Sign) (r : Signs) → opens_class opening r ≡ true → member path s (dash ∷ opening ∷ r) ≡ unserved
class_last path s r e = as_byte path s (dash ∷ opening ∷ r) (dash_opened s (opening ∷ r)) ∙ byte_class path s.byte dash opening r (to_opening path r) e

-- it holds what its definition says, and the members behind it hold what they hold
listed_skip : (t : Text) (r : Signs) (b : ℕ) → listed (length t) (actives t ++ r) b ≡ listed 0 r b
unfolding listed
listed_skip [] r b = refl
listed_skip (c ∷ t) r b = listed_skip t r b

pub class_listed : (c : NamedClass) (r : Signs) (b : ℕ) → Served c → ranges false r ≡ false →
    listed 0 (opening ∷ class_then c r) b ≡ (c.holds b || listed 0 r b)
unfolding listed member_holds member_length
class_listed c r b h e = rw (class_member_lem false c r h e, listed_skip (written c) r b)

-- alone in its bracket, its bytes or all others: for every number, once over the table
abbrev pub meant : Sense → Bool → Bool
meant these x = x
meant all_others x = not x

class_alone : (c : NamedClass) (b : ℕ) → Served c → listed 0 (opening ∷ class_then c []) b ≡ c.holds b
unfolding ranges listed
class_alone c b h = class_listed c [] b h refl ∙ or-false (c.holds b)

pub class_set : (sense : Sense) (c : NamedClass) (b : ℕ) → Served c → in_set sense (opening ∷ class_then c []) b ≡ meant sense (c.holds b)
unfolding in_set
class_set these c b h = class_alone c b h
class_set all_others c b h = ap not (class_alone c b h)

each_map : {P Q : NamedClass → Type 0} → ((c : NamedClass) → P c → Q c) → (l : List NamedClass) → Each P l → Each Q l
each_map f [] p = tt
each_map f (c ∷ l) p = (f c p.0, each_map f l p.1)

pub all_hold : Each (λ c. (sense : Sense) (b : ℕ) → in_set sense (opening ∷ class_then c []) b ≡ meant sense (c.holds b)) classes
all_hold = each_map (λ c h sense b. class_set sense c b h) classes all_served

-- the search for the bracket's end passes over it, its own `]` too
abbrev pub more : ℕ → Found → Found
more zero f = f
more (suc k) f = one_more (more k f)

find_skip : (path : Bool) (t : Text) (r : Signs) → find path false (length t) (actives t ++ r) ≡ more (length t) (find path false 0 r)
unfolding find
find_skip path [] r = refl
find_skip path (b ∷ t) r = ap one_more (find_skip path t r)

pub class_passed : (path first : Bool) (c : NamedClass) (r : Signs) → Served c → ranges path r ≡ false →
    find path first 0 (opening ∷ class_then c r) ≡ more (suc (length (written c))) (find path false 0 r)
unfolding member_length
class_passed path first c r h e =
    find_chosen path first opening (class_then c r)
    ∙ rw (and-false (not first), and-false path, class_member_lem path c r h e, find_skip path (written c) r)
