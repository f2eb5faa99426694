-- The search for a bracket's end, member by member, and what stands behind its `[`.
use Prim.Native.Nat.{ℕ, zero, suc, ◌+◌, ◌*◌, ◌≤◌, ◌<◌}
use mathlib.Core.Path.{◌≡◌, refl, sym, ◌∙◌, ap}
use mathlib.Core.Bool.{Bool, true, false, not, ◌&&◌}
use mathlib.Core.List.{[], ◌∷◌}
use native.Mathlib.Omega.{arith}
use lib.Dec.{eqb}
use Rattle.std.proofs.Common.{Some, None, Ok, Err}
use lib.ListN.{length, drop, get_or, length-drop}
use Rattle.stages.specs.Bytes.{Text}
use Rattle.stages.specs.Pattern.{Sign, Signs, Found, refusing, unclosed, closed_after, one_more, member, member_length, find, bracket, others}
use Rattle.stages.proofs.Searches as search
use Rattle.stages.proofs.Searches.{chosen, ends_here, slash_here, find_behind, find_chosen, not_here, one_less_lem, never}
use Rattle.stages.proofs.Classes.{more}
use Rattle.pattern_unit.specs.Widths.{size, signs_by}
use Rattle.pattern_unit.specs.Heads.{begins}
use Rattle.pattern_unit.specs.declared.Width.{Width}
use Rattle.pattern_unit.proofs.Units.{scale_zero, scale_suc, sign_at, unit_at, none_at, units_there, live_seen}
use Rattle.pattern_member.specs.Members.{first_member, member_of, Says, behind_of}
use Rattle.pattern_member.specs.declared.BadClass.{BadClass}
use Rattle.pattern_member.specs.declared.Member.{Member}
use Rattle.pattern_member.specs.declared.Member.TheVariants.{Single, Range, Class}
use Rattle.pattern_member.proofs.Members.{member_first, member_units}
use Rattle.pattern_element.specs.Ends.{refusing_entry, unclosed_entry, End, end_of, sought_from, entry_of}
use Rattle.pattern_element.specs.Pieces.{set_from, bracket_at, piece_at}
use Rattle.pattern_element.specs.declared.Piece.TheVariants.{Star, One, Byte}

-- UNITS THAT THE SEARCH PASSES

more_unclosed : (n : ℕ) → more n unclosed ≡ unclosed
more_unclosed zero = refl
more_unclosed (suc n) = ap one_more (more_unclosed n)

-- those of a member are passed one by one
find_past : (path : Bool) (n : ℕ) (r : Signs) → find path false n r ≡ more n (find path false 0 (drop n r))
unfolding find
find_past path zero r = refl
find_past path (suc n) [] = sym (more_unclosed (suc n))
find_past path (suc n) (s ∷ r) = ap one_more (find_past path n r)

one_passed : (w : Width) (k : ℕ) (f : Found) → end_of w k (one_more f) ≡ end_of w (k + size w) f
one_passed w k refusing = refl
one_passed w k unclosed = refl
one_passed w k (closed_after n) = let e : k + size w * suc n ≡ k + size w + size w * n = omega (arith, scale_suc w n) in rw e

passed : (w : Width) (k n : ℕ) (f : Found) → end_of w k (more n f) ≡ end_of w (k + size w * n) f
passed w k zero f = let e : k + size w * 0 ≡ k = omega (arith, scale_zero w) in rw e
passed w k (suc n) f =
    let e : k + size w + size w * n ≡ k + size w * suc n = omega (arith, scale_suc w n) in
    one_passed w k (more n f) ∙ passed w (k + size w) n f ∙ ap (λ (i : ℕ). end_of w i f) e

-- ONE STEP OF THE SEARCH

-- a member of the code is served
served : (m : Member) → search.is_unserved (member_of m) ≡ false
served (Single b) = refl
served (Range lo hi) = refl
served (Class row) = refl

-- the search from a place on, in each way that the walk goes there
module _ (w : Width) (p : Text) (path first : Bool) (k : ℕ) where
  abbrev sought : End
  sought = sought_from w path first p k

  abbrev closing : Bool
  closing = not first && begins 93 (signs_by w (drop k p))

  abbrev barring : Bool
  barring = path && eqb (get_or p k 0) 47

  pub sought_over : length p < k + size w → sought ≡ Ok None
  unfolding find
  sought_over h = rw (none_at w p k h)

  module _ (h : k + size w ≤ length p) where
    abbrev here : Sign
    here = sign_at w p k

    abbrev behind : Signs
    behind = signs_by w (drop (k + size w) p)

    -- the search where its unit is seen, by the tests there
    seen : sought ≡ end_of w k (chosen (ends_here first here) (slash_here path here) (search.is_unserved (member path here behind))
        (find_behind path here behind))
    seen =
        ap (λ (r : Signs). end_of w k (find path first 0 r)) (unit_at w p k h)
        ∙ ap (λ (f : Found). end_of w k f) (find_chosen path first here behind)

    ended : {x : Bool} → closing ≡ x → ends_here first here ≡ x
    ended e = ap (λ (b : Bool). not first && b) (sym (live_seen w p k 93 h)) ∙ e

    pub sought_close : closing ≡ true → sought ≡ Ok (Some k)
    sought_close y = let e : k + size w * 0 ≡ k = omega (arith, scale_zero w) in seen ∙ rw (ended y, e)

    module _ (n : closing ≡ false) where
      pub sought_bar : barring ≡ true → sought ≡ Ok None
      sought_bar y = seen ∙ rw (ended n, y)

      module _ (b : barring ≡ false) where
        pub sought_unserved : {e : BadClass} → Says w p (k + size w) (first_member path (signs_by w (drop k p))) (Err e) → sought ≡ Err e
        sought_unserved s = seen ∙ rw (ended n, b, sym (ap search.is_unserved (member_first k path h s)))

        pub sought_on : {m : Member} → Says w p (k + size w) (first_member path (signs_by w (drop k p))) (Ok m)
            → sought ≡ sought_from w path false p (behind_of m k w)
        sought_on {m} s =
            let u = member_length (member_of m) in
            let e : k + size w * suc u ≡ behind_of m k w = let f : suc u ≡ u + 1 = omega arith in rw f in
            seen
            ∙ rw (ended n, b, sym (ap search.is_unserved (member_first k path h s)) ∙ served m)
            (ap (λ q. end_of w k (one_more (find path false (member_length q) behind))) (sym (member_first k path h s))
            ∙ ap (λ (f : Found). end_of w k (one_more f)) (find_past path u behind)
            ∙ passed w k (suc u) (find path false 0 (drop u behind))
            ∙ ap (λ (i : ℕ). end_of w i (find path false 0 (drop u behind))) e
            ∙ ap (λ (r : Signs). end_of w (behind_of m k w) (find path false 0 r)) (member_units w p k (Ok m)))

-- A BRACKET

-- the bracket behind a `[`, with its `!` or without
others_begins : (r : Signs) → others r ≡ begins 33 r
unfolding others begins
others_begins [] = refl
others_begins (s ∷ r) = refl

pub bracket_others : (w : Width) (p : Text) (path : Bool) (k : ℕ) → begins 33 (signs_by w (drop k p)) ≡ true → k + size w ≤ length p
    → bracket_at w path k (signs_by w (drop k p)) ≡ set_from w true (k + size w) (find path true 0 (signs_by w (drop (k + size w) p)))
unfolding bracket_at bracket
bracket_others w p path k y h =
    let o : others (signs_by w (drop k p)) ≡ true = others_begins (signs_by w (drop k p)) ∙ y in
    let e : drop 1 (signs_by w (drop k p)) ≡ signs_by w (drop (k + size w) p) = rw (unit_at w p k h) in
    let one : k + size w * 1 ≡ k + size w = omega (arith, scale_suc w 0, scale_zero w) in
    rw (o, e, one)

pub bracket_plain : (w : Width) (p : Text) (path : Bool) (k : ℕ) → begins 33 (signs_by w (drop k p)) ≡ false
    → bracket_at w path k (signs_by w (drop k p)) ≡ set_from w false k (find path true 0 (signs_by w (drop k p)))
unfolding bracket_at bracket
bracket_plain w p path k n =
    let o : others (signs_by w (drop k p)) ≡ false = others_begins (signs_by w (drop k p)) ∙ n in
    let e : k + size w * 0 ≡ k = omega (arith, scale_zero w) in
    rw (o, e)

-- the end that a search finds is one of the units
inside : (f : Found) (n k : ℕ) (x y z : Bool) → chosen x y z f ≡ closed_after n → ((m : ℕ) → f ≡ closed_after m → m < k) → n < suc k
inside f n k true y z e i = let h : 0 ≡ n = cc in omega arith
inside f n k false true z e i = absurd (let h : ◌≡◌ {A = ℕ} 0 1 = cc in omega arith)
inside f n k false false true e i = absurd (let h : ◌≡◌ {A = ℕ} 0 1 = cc in omega arith)
inside refusing n k false false false e i = absurd (let h : ◌≡◌ {A = ℕ} 0 1 = cc in omega arith)
inside unclosed n k false false false e i = absurd (let h : ◌≡◌ {A = ℕ} 0 1 = cc in omega arith)
inside (closed_after m) n k false false false e i = let h : suc m ≡ n = cc in omega (arith, i m refl)

pub found_inside : (path first : Bool) (k : ℕ) (l : Signs) (n : ℕ) → find path first k l ≡ closed_after n → n < length l
unfolding find
found_inside path first k [] n e = absurd (never path first k n e)
found_inside path first zero (s ∷ r) n e =
    inside (find_behind path s r) n (length r) (ends_here first s) (slash_here path s) (search.is_unserved (member path s r))
    (sym (find_chosen path first s r) ∙ e) (λ m h. found_inside path false (member_length (member path s r)) r m h)
found_inside path first (suc k) (s ∷ r) zero e = absurd (not_here (find path false k r) e)
found_inside path first (suc k) (s ∷ r) (suc n) e =
    let h = found_inside path false k r n (one_less_lem (find path false k r) n e) in omega arith

-- a bracket has a member before its end
late : (f : Found) (n : ℕ) (y z : Bool) → chosen false y z f ≡ closed_after n → 1 ≤ n
late f n true z e = absurd (let h : ◌≡◌ {A = ℕ} 0 1 = cc in omega arith)
late f n false true e = absurd (let h : ◌≡◌ {A = ℕ} 0 1 = cc in omega arith)
late f zero false false e = absurd (not_here f e)
late f (suc n) false false e = omega arith

pub found_late : (path : Bool) (l : Signs) (n : ℕ) → find path true 0 l ≡ closed_after n → 1 ≤ n
unfolding find
found_late path [] n e = absurd (never path true 0 n e)
found_late path (s ∷ r) n e =
    late (find_behind path s r) n (slash_here path s) (search.is_unserved (member path s r)) (sym (find_chosen path true s r) ∙ e)

-- the end that is found from a place on is inside the pattern
pub end_inside : (w : Width) (path first : Bool) (p : Text) (k n : ℕ) → k ≤ length p → find path first 0 (signs_by w (drop k p)) ≡ closed_after n →
    k + size w * n + size w ≤ length p
end_inside w path first p k n h e =
    let i = units_there w (suc n) (drop k p) (found_inside path first 0 (signs_by w (drop k p)) n e) in
    omega (arith, i, length-drop k p, scale_suc w n)

-- what is found, by its entry: the places of a pattern are below the other entries
module _ (w : Width) (from : ℕ) {e : ℕ} where
  pub met_refusing : (f : Found) → ((n : ℕ) → f ≡ closed_after n → from + size w * n < refusing_entry) → e ≡ entry_of w from f → e ≡ refusing_entry →
      Err record {} ≡ end_of w from f
  met_refusing refusing b i h = refl
  met_refusing unclosed b i h = absurd (omega (arith, i, h))
  met_refusing (closed_after n) b i h = absurd (omega (arith, i, h, b n refl))

  pub met_none : (f : Found) → ((n : ℕ) → f ≡ closed_after n → from + size w * n < refusing_entry) → e ≡ entry_of w from f → e ≡ unclosed_entry →
      Ok None ≡ end_of w from f
  met_none refusing b i h = absurd (omega (arith, i, h))
  met_none unclosed b i h = refl
  met_none (closed_after n) b i h = absurd (omega (arith, i, h, b n refl))

-- the piece at a place, by the active byte that stands there
module _ (w : Width) (path : Bool) (p : Text) (at : ℕ) (h : at + size w ≤ length p) where
  abbrev units : Signs
  units = signs_by w (drop at p)

  pub piece_star : begins 42 units ≡ true → Star ≡ piece_at w path at units
  unfolding piece_at begins
  piece_star y = rw (unit_at w p at h) (rw (rw (unit_at w p at h) at y))

  module _ (n : begins 42 units ≡ false) where
    pub piece_one : begins 63 units ≡ true → One ≡ piece_at w path at units
    unfolding piece_at begins
    piece_one y = rw (unit_at w p at h) (rw (rw (unit_at w p at h) at n, rw (unit_at w p at h) at y))

    module _ (m : begins 63 units ≡ false) where
      pub piece_bracket : begins 91 units ≡ true → bracket_at w path (at + size w) (signs_by w (drop (at + size w) p)) ≡ piece_at w path at units
      unfolding piece_at begins
      piece_bracket y = rw (unit_at w p at h) (rw (rw (unit_at w p at h) at n, rw (unit_at w p at h) at m, rw (unit_at w p at h) at y))

      pub piece_byte : begins 91 units ≡ false → Byte (get_or p at 0) ≡ piece_at w path at units
      unfolding piece_at begins
      piece_byte y = rw (unit_at w p at h) (rw (rw (unit_at w p at h) at n, rw (unit_at w p at h) at m, rw (unit_at w p at h) at y))
