-- E3, laws of a bracket's members: the set that is read from the units before a bracket's end has just the members that the search for that end met, also where
-- the search is for paths. For what makes a member of a unit stands before the end: where the units are cut there, each member is the same.
use Prim.Native.Nat.{ℕ, zero, suc, ◌+◌, ◌≤◌}
use Prim.Native.Char.{code}
use native.Mathlib.Omega.{arith}
use mathlib.Core.Path.{◌≡◌, refl, sym, ap, ◌∙◌, subst}
use mathlib.Core.Bool.{Bool, true, false, ◌&&◌, ◌||◌, not, and-false}
use mathlib.Core.List.{List, [], ◌∷◌}
use mathlib.Core.Option.{Option, none, some}
use lib.Dec.{eqb}
use lib.ListN.{length, take, drop}
use lib.Seq.{take-nil}
use borrow.Author.Tests.{eqb-true}
use Rattle.stages.specs.Bytes.{Text}
use Rattle.stages.specs.Classes.{NamedClass, classes, written}
use Rattle.stages.specs.Pattern.{
  Sign,
  Signs,
  is_live,
  begin,
  class_at,
  opens_class,
  stops,
  ranges,
  Member,
  single,
  range,
  unserved,
  class_member,
  byte_member,
  member,
  member_length,
  member_holds,
  closed_after,
  find,
  listed,
}
use Rattle.stages.proofs.Bools.{no, apart, not_passed, either, and_left, and_right, some_same}
use Rattle.stages.proofs.Searches.{is_unserved, not_here, one_less_lem, GoesOn, goes, ends, closes, never, Past, past, met}

-- WHAT A MEMBER IS, BY ITS TESTS

pub as_class : (path : Bool) (s : Sign) (r : Signs) → opens_class s r ≡ true → member path s r ≡ class_member path (class_at classes r) r
unfolding member
as_class path s r o = rw (o, member)

pub as_byte : (path : Bool) (s : Sign) (r : Signs) → opens_class s r ≡ false → member path s r ≡ byte_member path s.byte r
unfolding member
as_byte path s r o = rw (o, member)

-- a byte that no range goes on from is itself
pub byte_alone : (path : Bool) (b : ℕ) (r : Signs) → ranges path r ≡ false → byte_member path b r ≡ single b
unfolding byte_member
byte_alone path b [] e = refl
byte_alone path b (d ∷ []) e = refl
byte_alone path b (d ∷ n ∷ r) e = rw e

pub byte_range : (path : Bool) (b : ℕ) (d n : Sign) (r : Signs) → ranges path (d ∷ n ∷ r) ≡ true → opens_class n r ≡ false →
    byte_member path b (d ∷ n ∷ r) ≡ range b n.byte
unfolding byte_member
byte_range path b d n r h o = rw (h, o)

pub byte_class : (path : Bool) (b : ℕ) (d n : Sign) (r : Signs) → ranges path (d ∷ n ∷ r) ≡ true → opens_class n r ≡ true →
    byte_member path b (d ∷ n ∷ r) ≡ unserved
unfolding byte_member
byte_class path b d n r h o = rw (h, o)

-- WHAT A MEMBER LOOKS AT STANDS BEFORE THE END

-- a unit that is one byte is no other
other : (b c : ℕ) (s : Sign) → is_live b s ≡ true → eqb b c ≡ false → eqb s.byte c ≡ false
other b c s e f = rw (eqb-true s.byte b (and_right s.live (eqb s.byte b) e)) f

-- a `[` before the end opens no class, a `[` earlier opens one where it did
opens_end : (s u : Sign) (r : Signs) → is_live (code "]") u ≡ true → opens_class s (u ∷ r) ≡ false
unfolding opens_class
opens_end s u r e =
    rw (other (code "]") (code ":") u e refl, other (code "]") (code ".") u e refl, other (code "]") (code "=") u e refl, and-false u.live)
    (and-false (is_live (code "[") s))

opens_cut : (path : Bool) (s : Sign) (k j : ℕ) (r : Signs) → find path false k r ≡ closed_after j → opens_class s (take j r) ≡ opens_class s r
unfolding opens_class
opens_cut path s k j [] e = absurd (never path false k j e)
opens_cut path s k zero (u ∷ r) e = sym (opens_end s u r (closes path k u r e))
opens_cut path s k (suc j) (u ∷ r) e = refl

-- a dash before a slash is a member of its own, so that the slash is met: an end behind the slash is none of a bracket for paths
dash_opens_no : (d n : Sign) (r : Signs) → is_live (code "-") d ≡ true → opens_class d (n ∷ r) ≡ false
unfolding opens_class
dash_opens_no d n r e = rw (other (code "-") (code "[") d e refl, and-false d.live)

slash_no_range : (path : Bool) (n : Sign) (r : Signs) → eqb n.byte (code "/") ≡ true → ranges path (n ∷ r) ≡ false
unfolding ranges
slash_no_range path n [] e = refl
slash_no_range path n (u ∷ r) e = rw (eqb-true n.byte (code "/") e, and-false n.live)

dash_slash : (path : Bool) (d n : Sign) (r : Signs) → is_live (code "-") d ≡ true → eqb n.byte (code "/") ≡ true →
    member_length (member path d (n ∷ r)) ≡ 0
unfolding member_length
dash_slash path d n r e f =
    ap member_length (as_byte path d (n ∷ r) (dash_opens_no d n r e) ∙ byte_alone path d.byte (n ∷ r) (slash_no_range path n r f))

no_slash : (path : Bool) (d n : Sign) (r : Signs) (j : ℕ) → is_live (code "-") d ≡ true →
    find path false (member_length (member path d (n ∷ r))) (n ∷ r) ≡ closed_after (suc j) → (path && eqb n.byte (code "/")) ≡ false
no_slash path d n r j e f =
    either (path && eqb n.byte (code "/"))
    (λ h.
    let k : member_length (member path d (n ∷ r)) ≡ 0 = dash_slash path d n r e (and_right path (eqb n.byte (code "/")) h) in
    (goes path false n r j (sym (ap (λ m. find path false m (n ∷ r)) k) ∙ f)).no_slash)
    (λ h. h)

stops_same : (x y z : Bool) → z ≡ false → (x && not (y || false)) ≡ (x && not (y || z))
stops_same x y z e = rw e

-- a range goes on behind a member, or none does, in the cut units as in all
ranges_cut : (path : Bool) (j : ℕ) (r : Signs) → find path false 0 r ≡ closed_after j → ranges false (take j r) ≡ ranges path r
unfolding ranges stops
ranges_cut path j [] e = absurd (never path false 0 j e)
ranges_cut path zero (d ∷ []) e = refl
ranges_cut path zero (d ∷ n ∷ r) e = sym (rw (other (code "]") (code "-") d (closes path 0 d (n ∷ r) e) refl, and-false d.live))
ranges_cut path (suc zero) (d ∷ []) e = refl
ranges_cut path (suc zero) (d ∷ n ∷ r) e = sym (rw (closes path _ n r (goes path false d (n ∷ r) 0 e).on) (and-false (is_live (code "-") d)))
ranges_cut path (suc (suc j)) (d ∷ []) e = refl
ranges_cut path (suc (suc j)) (d ∷ n ∷ r) e =
    either (is_live (code "-") d)
    (λ h.
    stops_same (is_live (code "-") d) (is_live (code "]") n) (path && eqb n.byte (code "/"))
    (no_slash path d n r j h (goes path false d (n ∷ r) (suc j) e).on))
    (λ h. rw h)

-- THE NAME OF A CLASS STANDS BEFORE THE END

begin_whole : (t : Text) (n : ℕ) (r : Signs) → begin t (take n r) ≡ true → begin t r ≡ true
unfolding begin
begin_whole [] n r e = refl
begin_whole (b ∷ t) zero r e = absurd (no e)
begin_whole (b ∷ t) (suc n) [] e = absurd (no e)
begin_whole (b ∷ t) (suc n) (s ∷ r) e =
    let k : is_live b s ≡ true = and_left (is_live b s) (begin t (take n r)) e in
    rw k (begin_whole t n r (and_right (is_live b s) (begin t (take n r)) e))

begin_cut : (t : Text) (n : ℕ) (r : Signs) → length t ≤ n → begin t r ≡ true → begin t (take n r) ≡ true
unfolding begin
begin_cut [] n r h e = refl
begin_cut (b ∷ t) n [] h e = absurd (no e)
begin_cut (b ∷ t) zero (s ∷ r) h e = absurd (omega (arith, h))
begin_cut (b ∷ t) (suc n) (s ∷ r) h e =
    let k : is_live b s ≡ true = and_left (is_live b s) (begin t r) e in
    rw k (begin_cut t n r (omega (arith, h)) (and_right (is_live b s) (begin t r) e))

pub class_yes : (d : NamedClass) (l : List NamedClass) (r : Signs) → begin (written d) r ≡ true → class_at (d ∷ l) r ≡ some d
unfolding class_at
class_yes d l r e = rw (e, class_at)

pub class_no : (d : NamedClass) (l : List NamedClass) (r : Signs) → begin (written d) r ≡ false → class_at (d ∷ l) r ≡ class_at l r
unfolding class_at
class_no d l r e = rw (e, class_at)

class_cut : (l : List NamedClass) (c : NamedClass) (n : ℕ) (r : Signs) → length (written c) ≤ n → class_at l r ≡ some c →
    class_at l (take n r) ≡ some c
class_cut [] c n r h e = unfold class_at in e
class_cut (d ∷ l) c n r h e =
    either (begin (written d) r)
    (λ f.
    let k : d ≡ c = some_same (sym (class_yes d l r f) ∙ e) in
    class_yes d l (take n r) (begin_cut (written d) n r (subst (λ x. length (written x) ≤ n) (sym k) h) f) ∙ ap (λ x. some x) k)
    (λ f.
    class_no d l (take n r) (not_passed (begin (written d) (take n r)) (λ g. apart f (begin_whole (written d) n r g)))
    ∙ class_cut l c n r h (sym (class_no d l r f) ∙ e))

-- THE MEMBER IN THE CUT UNITS

drop_take : (m n j : ℕ) (r : Signs) → n ≡ m + j → drop m (take n r) ≡ take j (drop m r)
drop_take zero n j r e = let k : n ≡ j = omega (arith, e) in ap (λ i. take i r) k
drop_take (suc m) zero j r e = absurd (omega (arith, e))
drop_take (suc m) (suc n) j [] e = sym (take-nil j)
drop_take (suc m) (suc n) j (s ∷ r) e = drop_take m n j r (omega (arith, e))

class_same : (path : Bool) (c : NamedClass) (n : ℕ) (r : Signs) → class_at classes r ≡ some c → is_unserved (class_member path (some c) r) ≡ false →
    find path false (member_length (class_member path (some c) r)) r ≡ closed_after n →
    class_member false (class_at classes (take n r)) (take n r) ≡ class_member path (some c) r
unfolding class_member
class_same path c n r e f g =
    either (ranges path (drop (length (written c)) r))
    (λ h. absurd (no (sym f ∙ rw h refl)))
    (λ h.
    let p : Past path (length (written c)) n r = past path (length (written c)) n r (sym (rw h (unfold member_length in refl)) ∙ g) in
    rw (
      class_cut classes c n r (omega (arith, p.sum)) e,
      drop_take (length (written c)) n p.left r p.sum,
      ranges_cut path p.left (drop (length (written c)) r) p.on,
    ))

class_any : (path : Bool) (o : Option NamedClass) (n : ℕ) (r : Signs) → class_at classes r ≡ o → is_unserved (class_member path o r) ≡ false →
    find path false (member_length (class_member path o r)) r ≡ closed_after n →
    class_member false (class_at classes (take n r)) (take n r) ≡ class_member path o r
class_any path none n r e f g = absurd (no (sym f ∙ unfold class_member in refl))
class_any path (some c) n r e f g = class_same path c n r e f g

any_stop : (x y z : Bool) → (x && not (y || z)) ≡ true → (x && not (y || false)) ≡ true
any_stop true true z e = e
any_stop true false z e = refl
any_stop false y z e = e

range_any : (path : Bool) (d n : Sign) (r q : Signs) → ranges path (d ∷ n ∷ r) ≡ true → ranges false (d ∷ n ∷ q) ≡ true
unfolding ranges stops
range_any path d n r q h = any_stop (is_live (code "-") d) (is_live (code "]") n) (path && eqb n.byte (code "/")) h

two : {n j : ℕ} → n ≡ 2 + j → n ≡ suc (suc j)
two e = omega (arith, e)

range_same : (path : Bool) (b n : ℕ) (r : Signs) → ranges path r ≡ true → is_unserved (byte_member path b r) ≡ false →
    find path false (member_length (byte_member path b r)) r ≡ closed_after n → byte_member false b (take n r) ≡ byte_member path b r
range_same path b n [] h f g = absurd (no (unfold ranges in h))
range_same path b n (d ∷ []) h f g = absurd (no (unfold ranges in h))
range_same path b n (d ∷ u ∷ r) h f g =
    either (opens_class u r)
    (λ o. absurd (no (sym f ∙ ap is_unserved (byte_class path b d u r h o))))
    (λ o.
    let k : byte_member path b (d ∷ u ∷ r) ≡ range b u.byte = byte_range path b d u r h o in
    let p : Past path 2 n (d ∷ u ∷ r) =
    past path 2 n (d ∷ u ∷ r) (sym (ap (λ m. find path false m (d ∷ u ∷ r)) (ap member_length k ∙ unfold member_length in refl)) ∙ g)
    in
    ap (λ m. byte_member false b (take m (d ∷ u ∷ r))) (two p.sum)
    ∙ byte_range false b d u (take p.left r) (range_any path d u r (take p.left r) h) (opens_cut path u 0 p.left r p.on ∙ o)
    ∙ sym k)

byte_same : (path : Bool) (b n : ℕ) (r : Signs) → is_unserved (byte_member path b r) ≡ false →
    find path false (member_length (byte_member path b r)) r ≡ closed_after n → byte_member false b (take n r) ≡ byte_member path b r
byte_same path b n r f g =
    either (ranges path r)
    (λ h. range_same path b n r h f g)
    (λ h.
    let k : byte_member path b r ≡ single b = byte_alone path b r h in
    let p : find path false 0 r ≡ closed_after n = sym (ap (λ m. find path false m r) (ap member_length k ∙ unfold member_length in refl)) ∙ g in
    byte_alone false b (take n r) (ranges_cut path n r p ∙ h) ∙ sym k)

-- a member read in the units before the bracket's end is the one that the search met
pub member_cut : (path : Bool) (s : Sign) (n : ℕ) (r : Signs) → is_unserved (member path s r) ≡ false →
    find path false (member_length (member path s r)) r ≡ closed_after n → member false s (take n r) ≡ member path s r
member_cut path s n r f g =
    either (opens_class s r)
    (λ o.
    let k : member path s r ≡ class_member path (class_at classes r) r = as_class path s r o in
    as_class false s (take n r) (opens_cut path s _ n r g ∙ o)
    ∙ class_any path (class_at classes r) n r refl (ap is_unserved (sym k) ∙ f) (ap (λ m. find path false (member_length m) r) (sym k) ∙ g)
    ∙ sym k)
    (λ o.
    let k : member path s r ≡ byte_member path s.byte r = as_byte path s r o in
    as_byte false s (take n r) (opens_cut path s _ n r g ∙ o)
    ∙ byte_same path s.byte n r (ap is_unserved (sym k) ∙ f) (ap (λ m. find path false (member_length m) r) (sym k) ∙ g)
    ∙ sym k)

-- THE SET

abbrev pub some_holds : List Member → ℕ → Bool
some_holds [] b = false
some_holds (m ∷ l) b = member_holds m b || some_holds l b

-- "A bracket stands for a set": closed, it holds just what the members hold that the search for its end met
pub listed_met : (path first : Bool) (k n : ℕ) (r : Signs) (b : ℕ) → find path first k r ≡ closed_after n →
    listed k (take n r) b ≡ some_holds (met path first k r) b
unfolding listed met
listed_met path first k n [] b e = absurd (never path first k n e)
listed_met path first zero zero (s ∷ r) b e = rw (ends path first s r e)
listed_met path first zero (suc n) (s ∷ r) b e =
    let g : GoesOn path first s r n = goes path first s r n e in
    rw (g.further, g.no_slash, member_cut path s n r g.is_served g.on, listed_met path false (member_length (member path s r)) n r b g.on)
listed_met path first (suc k) zero (s ∷ r) b e = absurd (not_here (find path false k r) (unfold find in e))
listed_met path first (suc k) (suc n) (s ∷ r) b e = listed_met path false k n r b (one_less_lem (find path false k r) n (unfold find in e))
