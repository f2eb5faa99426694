-- E3, laws of the search for a bracket's end: it goes from member to member, refuses just if one that it meets is not served, and where it finds an end, the
-- members before it are all served and stand between it and the bracket's start.
use Prim.Native.Nat.{ℕ, zero, suc, ◌+◌}
use Prim.Native.Char.{code}
use native.Mathlib.Omega.{arith}
use mathlib.Core.Path.{◌≡◌, refl, sym, ap, ◌∙◌}
use mathlib.Core.Bool.{Bool, true, false, ◌&&◌, ◌||◌, not}
use mathlib.Core.List.{List, [], ◌∷◌}
use lib.Dec.{eqb}
use lib.ListN.{length, drop}
use Rattle.stages.specs.Outcome.{pick}
use Rattle.stages.specs.Classes.{written}
use Rattle.stages.specs.Pattern.{
  Sign,
  Signs,
  is_live,
  Member,
  single,
  range,
  class,
  unserved,
  member,
  member_length,
  Found,
  refusing,
  unclosed,
  closed_after,
  one_more,
  is_refusing,
  find,
}
use Rattle.stages.proofs.Bools.{no}

-- a member that is 19
abbrev pub is_unserved : Member → Bool
is_unserved (single b) = false
is_unserved (range lo hi) = false
is_unserved (class c) = false
is_unserved unserved = true

-- WHAT IS FOUND

abbrev is_closed : Found → Bool
is_closed refusing = false
is_closed unclosed = false
is_closed (closed_after n) = true

abbrev is_here : Found → Bool
is_here refusing = false
is_here unclosed = false
is_here (closed_after zero) = true
is_here (closed_after (suc n)) = false

abbrev one_less : Found → Found
one_less refusing = refusing
one_less unclosed = unclosed
one_less (closed_after zero) = closed_after zero
one_less (closed_after (suc n)) = closed_after n

pub not_here : (f : Found) → one_more f ≡ closed_after 0 → ⊥
not_here refusing e = no (ap is_closed e)
not_here unclosed e = no (ap is_closed e)
not_here (closed_after n) e = no (ap is_here e)

less_more : (f : Found) → one_less (one_more f) ≡ f
less_more refusing = refl
less_more unclosed = refl
less_more (closed_after n) = refl

pub one_less_lem : (f : Found) (n : ℕ) → one_more f ≡ closed_after (suc n) → f ≡ closed_after n
one_less_lem f n e = sym (less_more f) ∙ ap one_less e

-- ONE STEP OF THE SEARCH

-- what is found by the tests at a member: the bracket ends here, a slash stops it, the member is not served; and by the search behind the member
abbrev pub chosen : Bool → Bool → Bool → Found → Found
chosen ends slash bad behind = pick ends (closed_after 0) (pick slash unclosed (pick bad refusing (one_more behind)))

member_chosen : (path ends slash : Bool) (r : Signs) (m : Member) →
    pick ends (closed_after 0)
    (pick slash unclosed
    (elim m [
      | single b ↦ one_more (find path false 0 r)
      | range lo hi ↦ one_more (find path false 2 r)
      | class c ↦ one_more (find path false (length (written c)) r)
      | unserved ↦ refusing
    ]))
    ≡ chosen ends slash (is_unserved m) (find path false (member_length m) r)
unfolding member_length
member_chosen path ends slash r (single b) = refl
member_chosen path ends slash r (range lo hi) = refl
member_chosen path ends slash r (class c) = refl
member_chosen path ends slash r unserved = refl

abbrev pub ends_here : Bool → Sign → Bool
ends_here first s = not first && is_live (code "]") s

abbrev pub slash_here : Bool → Sign → Bool
slash_here path s = path && eqb s.byte (code "/")

-- the search behind a member begins with as many units as the member has
abbrev pub find_behind : Bool → Sign → Signs → Found
find_behind path s r = find path false (member_length (member path s r)) r

pub find_chosen : (path first : Bool) (s : Sign) (r : Signs) →
    find path first 0 (s ∷ r) ≡ chosen (ends_here first s) (slash_here path s) (is_unserved (member path s r)) (find_behind path s r)
unfolding find
find_chosen path first s r = member_chosen path (ends_here first s) (slash_here path s) r (member path s r)

-- it ends here only if the first test says so ..
chosen_end : (x y z : Bool) (f : Found) → chosen x y z f ≡ closed_after 0 → x ≡ true
chosen_end true y z f e = refl
chosen_end false true z f e = absurd (no (ap is_closed e))
chosen_end false false true f e = absurd (no (ap is_closed e))
chosen_end false false false f e = absurd (not_here f e)

-- .. and later only if no test does and it ends behind the member
pub record Goes (x y z : Bool) (f : Found) (n : ℕ) : Type 0 where
  pub further : x ≡ false
  pub no_slash : y ≡ false
  pub is_served : z ≡ false
  pub on : f ≡ closed_after n

chosen_on : (x y z : Bool) (f : Found) (n : ℕ) → chosen x y z f ≡ closed_after (suc n) → Goes x y z f n
chosen_on true y z f n e = absurd (no (sym (ap is_here e)))
chosen_on false true z f n e = absurd (no (ap is_closed e))
chosen_on false false true f n e = absurd (no (ap is_closed e))
chosen_on false false false f n e = record { further = refl; no_slash = refl; is_served = refl; on = one_less_lem f n e }

module _ (path first : Bool) (s : Sign) (r : Signs) where
  pub ends : find path first 0 (s ∷ r) ≡ closed_after 0 → ends_here first s ≡ true
  ends e =
      chosen_end (ends_here first s) (slash_here path s) (is_unserved (member path s r)) (find_behind path s r)
      (sym (find_chosen path first s r) ∙ e)

  abbrev pub GoesOn : ℕ → Type 0
  GoesOn n = Goes (ends_here first s) (slash_here path s) (is_unserved (member path s r)) (find_behind path s r) n

  pub goes : (n : ℕ) → find path first 0 (s ∷ r) ≡ closed_after (suc n) → GoesOn n
  goes n e =
      chosen_on (ends_here first s) (slash_here path s) (is_unserved (member path s r)) (find_behind path s r) n
      (sym (find_chosen path first s r) ∙ e)

-- WHERE IT ENDS

-- behind the first member only an active `]` ends it, and the end of the units does not
pub closes : (path : Bool) (k : ℕ) (s : Sign) (r : Signs) → find path false k (s ∷ r) ≡ closed_after 0 → is_live (code "]") s ≡ true
unfolding find
closes path zero s r e = ends path false s r e
closes path (suc k) s r e = absurd (not_here (find path false k r) e)

pub never : (path first : Bool) (k n : ℕ) → find path first k [] ≡ closed_after n → ⊥
unfolding find
never path first zero n e = no (ap is_closed e)
never path first (suc k) n e = no (ap is_closed e)

-- m units that belong to a member, behind which the search ends after so many
pub record Past (path : Bool) (m n : ℕ) (r : Signs) : Type 0 where
  pub left : ℕ
  pub sum : n ≡ m + left
  pub on : find path false 0 (drop m r) ≡ closed_after left

pub past : (path : Bool) (m n : ℕ) (r : Signs) → find path false m r ≡ closed_after n → Past path m n r
unfolding find
past path zero n r e = record { left = n; sum = omega arith; on = e }
past path (suc m) n [] e = absurd (never path false (suc m) n e)
past path (suc m) zero (s ∷ r) e = absurd (not_here (find path false m r) e)
past path (suc m) (suc n) (s ∷ r) e =
    let p = past path m n r (one_less_lem (find path false m r) n e) in record { left = p.left; sum = omega (arith, p.sum); on = p.on }

-- WHAT IT MEETS

-- the members that the search meets
unfoldable pub met : Bool → Bool → ℕ → Signs → List Member
unfolding member member_length
met path first k [] = []
met path first zero (s ∷ r) =
    pick (ends_here first s) [] (pick (slash_here path s) [] (member path s r ∷ met path false (member_length (member path s r)) r))
met path first (suc k) (s ∷ r) = met path false k r

abbrev pub some_unserved : List Member → Bool
some_unserved [] = false
some_unserved (m ∷ l) = is_unserved m || some_unserved l

refusing_more : (f : Found) → is_refusing (one_more f) ≡ is_refusing f
refusing_more refusing = refl
refusing_more unclosed = refl
refusing_more (closed_after n) = refl

refusing_step : (x y : Bool) (m : Member) (f : Found) (l : List Member) → is_refusing f ≡ some_unserved l →
    is_refusing (chosen x y (is_unserved m) f) ≡ some_unserved (pick x [] (pick y [] (m ∷ l)))
refusing_step true y m f l h = refl
refusing_step false true m f l h = refl
refusing_step false false (single b) f l h = refusing_more f ∙ h
refusing_step false false (range lo hi) f l h = refusing_more f ∙ h
refusing_step false false (class c) f l h = refusing_more f ∙ h
refusing_step false false unserved f l h = refl

-- "is 19, closed or not": the search refuses just if it meets a member that is not served
pub refusing_met : (path first : Bool) (k : ℕ) (r : Signs) → is_refusing (find path first k r) ≡ some_unserved (met path first k r)
unfolding find met
refusing_met path first k [] = refl
refusing_met path first zero (s ∷ r) =
    ap is_refusing (find_chosen path first s r)
    ∙ refusing_step (ends_here first s) (slash_here path s) (member path s r) (find_behind path s r)
    (met path false (member_length (member path s r)) r) (refusing_met path false (member_length (member path s r)) r)
refusing_met path first (suc k) (s ∷ r) = refusing_more (find path false k r) ∙ refusing_met path false k r
