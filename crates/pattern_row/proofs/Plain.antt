-- The walk over units that are no signs of patterns; and what such units are as a pattern: no class, and nothing but bytes.
use Prim.Native.Nat.{ℕ, ◌+◌, ◌-◌, ◌≤◌, ◌<◌}
use native.Mathlib.Omega.{arith}
use mathlib.Core.Path.{◌≡◌, refl, sym, ap, ◌∙◌}
use mathlib.Core.Bool.{Bool, true, false, ◌&&◌, ◌||◌, not}
use mathlib.Core.List.{[], ◌∷◌}
use lib.Dec.{eqb}
use lib.ListN.{length, drop, get_or, length-drop}
use borrow.Author.Tests.{not-true}
use Rattle.stages.specs.Bytes.{Text, text, is_in}
use Rattle.stages.specs.Outcome.{pick}
use Rattle.stages.specs.Pattern.{Signs, element, extra, elements, has_class}
use Rattle.stages.specs.Paths.{active}
use Rattle.stages.proofs.Bools.{and_left, and_right, or_neither}
use Rattle.text.specs.Rows.{is_mark, signs_of}
use Rattle.pattern_unit.proofs.Units.{two_on}
use Rattle.pattern_row.specs.Kept.{kept}
use Rattle.pattern_row.specs.Plain.{plain}
use Rattle.pattern_row.proofs.Keeping.{kept_first, kept_few}

pub sign : (b k : ℕ) → is_in k (text "*?[") ≡ true → b ≡ k → is_in b (text "*?[") ≡ true
sign b k h e = ap (λ (n : ℕ). is_in n (text "*?[")) e ∙ h

-- the units before a place are no signs
pub record Seeking (t : Text) (at : ℕ) : Type 0 where
  pub within : at ≤ length t
  pub same : plain t ≡ plain (drop at t)

plain_few : (t : Text) → length t ≤ 1 → plain t ≡ true
unfolding plain
plain_few [] h = refl
plain_few (b ∷ []) h = refl
plain_few (b ∷ m ∷ t) h = absurd (omega arith)

module _ {t : Text} {at : ℕ} (p : Seeking t at) where
  pub seek_end : length t - at ≤ 1 → true ≡ plain t
  seek_end h = sym (p.same ∙ plain_few (drop at t) (omega (arith, length-drop at t)))

  module _ (h : 1 < length t - at) where
    here : plain t ≡ (not (is_in (get_or t at 0) (text "*?[")) && plain (drop (at + 2) t))
    unfolding plain
    here = p.same ∙ ap plain (two_on t at (omega arith))

    pub seek_found : is_in (get_or t at 0) (text "*?[") ≡ true → false ≡ plain t
    seek_found e = sym (here ∙ ap (λ (x : Bool). not x && plain (drop (at + 2) t)) e)

    pub seek_on : is_in (get_or t at 0) (text "*?[") ≡ false → Seeking t (at + 2)
    seek_on e = record { within = omega arith; same = here ∙ ap (λ (x : Bool). not x && plain (drop (at + 2) t)) e }

-- a byte that is none of the three
record Still (b : ℕ) : Type 0 where
  no_star : eqb b 42 ≡ false
  no_one : eqb b 63 ≡ false
  no_set : eqb b 91 ≡ false

still_byte : (b : ℕ) → not (is_in b (text "*?[")) ≡ true → Still b
still_byte b e =
    let n = or_neither (eqb b 42) (eqb b 63 || (eqb b 91 || false)) (not-true _ e) in
    let k = or_neither (eqb b 63) (eqb b 91 || false) n.1 in
    record { no_star = n.0; no_one = k.0; no_set = (or_neither (eqb b 91) false k.1).0 }

-- active or not
still_class : (path live : Bool) {b : ℕ} (r : Signs) → Still b
    → has_class path 0 (record { live = live; byte = b } ∷ r) ≡ has_class path 0 r
unfolding has_class extra
still_class path true r k = rw k.no_set
still_class path false r k = refl

still_active : (path live : Bool) {b : ℕ} (r : Signs) → Still b
    → active (elements path 0 (record { live = live; byte = b } ∷ r)) ≡ active (elements path 0 r)
unfolding elements element extra active
still_active path true r k = rw (k.no_star, k.no_one, k.no_set)
still_active path false r k = refl

module _ (path : Bool) where
  pub plain_served : (t : Text) → plain t ≡ true → has_class path 0 (signs_of t) ≡ false
  unfolding plain signs_of has_class
  plain_served [] e = refl
  plain_served (b ∷ []) e = refl
  plain_served (b ∷ m ∷ t) e =
      still_class path (pick (eqb m 3) false true) (signs_of t) (still_byte b (and_left (not (is_in b (text "*?["))) (plain t) e))
      ∙ plain_served t (and_right (not (is_in b (text "*?["))) (plain t) e)

  pub plain_still : (t : Text) → plain t ≡ true → active (elements path 0 (signs_of t)) ≡ false
  unfolding plain signs_of elements active
  plain_still [] e = refl
  plain_still (b ∷ []) e = refl
  plain_still (b ∷ m ∷ t) e =
      still_active path (pick (eqb m 3) false true) (signs_of t) (still_byte b (and_left (not (is_in b (text "*?["))) (plain t) e))
      ∙ plain_still t (and_right (not (is_in b (text "*?["))) (plain t) e)

-- what is kept of plain units is plain
pub plain_kept : (t : Text) → plain t ≡ true → plain (kept t) ≡ true
unfolding plain
plain_kept [] e = ap plain (kept_few [] (omega arith))
plain_kept (b ∷ []) e = ap plain (kept_few (b ∷ []) (omega arith))
plain_kept (b ∷ m ∷ t) e = ap plain (kept_first b m t) ∙ go (is_mark m)
    (plain_kept t (and_right (not (is_in b (text "*?["))) (plain t) e))
  where
    go : (x : Bool) → plain (kept t) ≡ true → plain (pick x (b ∷ m ∷ kept t) (kept t)) ≡ true
    go true h = ap (λ (y : Bool). y && plain (kept t)) (and_left (not (is_in b (text "*?["))) (plain t) e) ∙ h
    go false h = h
