-- Document 02, E11, on lists of paths: with one more or one less they are in order again, the path stands behind those below it, and what is added and removed
-- again leaves the list that was there.
use Prim.Native.Nat.{◌+◌, ◌≤◌}
use native.Mathlib.Omega.{arith}
use mathlib.Core.Path.{◌≡◌, refl, sym, ap, ◌∙◌}
use mathlib.Core.Bool.{Bool, true, false}
use mathlib.Core.List.{List, [], ◌∷◌, ◌++◌}
use lib.ListN.{length}
use Rattle.stages.specs.Bytes.{Text, all, not_zero, eq_text, lt_text}
use Rattle.stages.specs.Images.{all_texts, rising, written, image, record_bytes, image_length}
use Rattle.stages.specs.Updates.{added, without, is_there, below}
use Rattle.stages.proofs.Bools.{no, either, and_left, and_right, and_both, or_left, or_right, or_neither}
use Rattle.stages.proofs.Texts.{eq_text_refl, eq_text_same, lt_text_irrefl, lt_text_asym, lt_text_other, lt_text_above}
use Rattle.stages.proofs.Images.{Fine, length_image, written_append}
use Rattle.stages.proofs.Stores.{Under, rising_tail, under_next, rising_under, under_rises}

-- ONE STEP OF EACH DEFINITION

module _ (p t : Text) (l : List Text) where
  pub added_before : lt_text p t ≡ true → added p (t ∷ l) ≡ p ∷ t ∷ l
  unfolding added
  added_before e = rw (e, added)

  pub added_later : lt_text p t ≡ false → added p (t ∷ l) ≡ t ∷ added p l
  unfolding added
  added_later e = rw (e, added)

  pub without_here : eq_text p t ≡ true → without p (t ∷ l) ≡ l
  unfolding without
  without_here e = rw (e, without)

  pub without_later : eq_text p t ≡ false → without p (t ∷ l) ≡ t ∷ without p l
  unfolding without
  without_later e = rw (e, without)

  below_more : lt_text t p ≡ true → below p (t ∷ l) ≡ t ∷ below p l
  unfolding below
  below_more e = rw (e, below)

  below_ends : lt_text t p ≡ false → below p (t ∷ l) ≡ []
  unfolding below
  below_ends e = rw (e, below)

  pub there_here : eq_text p t ≡ true → is_there p (t ∷ l) ≡ true
  unfolding is_there
  there_here e = or_left (is_there p l) e

  pub there_later : eq_text p t ≡ false → is_there p (t ∷ l) ≡ is_there p l
  unfolding is_there
  there_later e = rw e

  pub not_there : is_there p (t ∷ l) ≡ false → (eq_text p t ≡ false) × (is_there p l ≡ false)
  unfolding is_there
  not_there e = or_neither (eq_text p t) (is_there p l) e

-- ORDER

pub under_first : (p : Text) (l : List Text) → Under p l → added p l ≡ p ∷ l
unfolding added
under_first p [] u = refl
under_first p (t ∷ l) u = added_before p t l u

pub under_none : (p : Text) (l : List Text) → Under p l → rising l ≡ true → is_there p l ≡ false
unfolding is_there
under_none p [] u r = refl
under_none p (t ∷ l) u r = there_later p t l (lt_text_other p t u) ∙ under_none p l (under_next p t l u r) (rising_tail t l r)

there_above : (x p : Text) (l : List Text) → is_there p l ≡ true → Under x l → rising l ≡ true → lt_text x p ≡ true
unfolding is_there
there_above x p [] h u r = absurd (no h)
there_above x p (t ∷ l) h u r =
    either (eq_text p t) (λ e. rw (eq_text_same p t e) u)
    (λ e. there_above x p l (sym (there_later p t l e) ∙ h) (under_next x t l u r) (rising_tail t l r))

under_added : (x p : Text) (l : List Text) → Under x l → lt_text x p ≡ true → Under x (added p l)
unfolding added
under_added x p [] u e = e
under_added x p (t ∷ l) u e = either (lt_text p t) (λ h. rw (added_before p t l h) e) (λ h. rw (added_later p t l h) u)

under_without : (x p : Text) (l : List Text) → Under x l → rising l ≡ true → Under x (without p l)
unfolding without
under_without x p [] u r = tt
under_without x p (t ∷ l) u r = either (eq_text p t) (λ h. rw (without_here p t l h) (under_next x t l u r)) (λ h. rw (without_later p t l h) u)

pub added_rises : (p : Text) (l : List Text) → is_there p l ≡ false → rising l ≡ true → rising (added p l) ≡ true
unfolding added rising
added_rises p [] h r = refl
added_rises p (t ∷ l) h r =
    let k : (eq_text p t ≡ false) × (is_there p l ≡ false) = not_there p t l h in
    either (lt_text p t) (λ e. rw (added_before p t l e) (under_rises p (t ∷ l) e r))
    (λ e. rw (added_later p t l e)
    (under_rises t (added p l) (under_added t p l (rising_under t l r) (lt_text_above p t e k.0)) (added_rises p l k.1 (rising_tail t l r))))

pub without_rises : (p : Text) (l : List Text) → rising l ≡ true → rising (without p l) ≡ true
unfolding without rising
without_rises p [] r = refl
without_rises p (t ∷ l) r =
    either (eq_text p t) (λ e. rw (without_here p t l e) (rising_tail t l r))
    (λ e. rw (without_later p t l e)
    (under_rises t (without p l) (under_without t p l (rising_under t l r) (rising_tail t l r)) (without_rises p l (rising_tail t l r))))

-- THE PATH'S PLACE

-- `more` is `less` with the path behind `front`
pub record Between (p : Text) (front less more : List Text) : Type 0 where
  pub back : List Text
  pub one : less ≡ front ++ back
  pub two : more ≡ front ++ (p ∷ back)

behind_one : (t p : Text) (f l m : List Text) → Between p f l m → Between p (t ∷ f) (t ∷ l) (t ∷ m)
behind_one t p f l m d = record {
  back = d.back;
  one = ap {B = List Text} (λ k. t ∷ k) d.one;
  two = ap {B = List Text} (λ k. t ∷ k) d.two;
}

pub added_place : (p : Text) (l : List Text) → is_there p l ≡ false → Between p (below p l) l (added p l)
unfolding added below
added_place p [] h = record { back = []; one = refl; two = refl }
added_place p (t ∷ l) h =
    let k : (eq_text p t ≡ false) × (is_there p l ≡ false) = not_there p t l h in
    either (lt_text p t)
    (λ e. rw (added_before p t l e, below_ends p t l (lt_text_asym p t e)) (record { back = t ∷ l; one = refl; two = refl }))
    (λ e. rw (added_later p t l e, below_more p t l (lt_text_above p t e k.0))
    (behind_one t p (below p l) l (added p l) (added_place p l k.1)))

pub without_place : (p : Text) (l : List Text) → is_there p l ≡ true → rising l ≡ true → Between p (below p l) (without p l) l
unfolding without below is_there
without_place p [] h r = absurd (no h)
without_place p (t ∷ l) h r =
    either (eq_text p t) here (λ e. later e (without_place p l (sym (there_later p t l e) ∙ h) (rising_tail t l r)))
  where
    first : eq_text p t ≡ true → lt_text t p ≡ false
    first e = rw (eq_text_same p t e) (lt_text_irrefl t)

    here : eq_text p t ≡ true → Between p (below p (t ∷ l)) (without p (t ∷ l)) (t ∷ l)
    here e = rw (without_here p t l e, below_ends p t l (first e))
        (record { back = l; one = refl; two = ap {B = List Text} (λ (u : Text). u ∷ l) (sym (eq_text_same p t e)) })

    later : eq_text p t ≡ false → Between p (below p l) (without p l) l → Between p (below p (t ∷ l)) (without p (t ∷ l)) (t ∷ l)
    later e d =
        let k : is_there p l ≡ true = sym (there_later p t l e) ∙ h in
        rw (without_later p t l e, below_more p t l (there_above t p l k (rising_under t l r) (rising_tail t l r)))
        (behind_one t p (below p l) (without p l) l d)

image_append : (l m : List Text) → image (l ++ m) ≡ image l ++ written m
unfolding image
image_append l m = ap {B = Text} (λ u. 1 ∷ u) (written_append l m)

-- "bytes before its place are not touched": both images begin with that of the paths below
pub less_begins : {p : Text} {f l m : List Text} (d : Between p f l m) → image l ≡ image f ++ written d.back
less_begins {p} {f} d = ap image d.one ∙ image_append f d.back

pub more_begins : {p : Text} {f l m : List Text} (d : Between p f l m) → image m ≡ image f ++ written (p ∷ d.back)
more_begins {p} {f} d = ap image d.two ∙ image_append f (p ∷ d.back)

-- WHAT HOLDS OF EVERY PATH

pub added_all : (f : Text → Bool) (p : Text) (l : List Text) → f p ≡ true → all_texts f l ≡ true → all_texts f (added p l) ≡ true
unfolding added
added_all f p [] h e = and_both h refl
added_all f p (t ∷ l) h e =
    either (lt_text p t) (λ k. rw (added_before p t l k) (and_both h e))
    (λ k. rw (added_later p t l k) (and_both (and_left (f t) (all_texts f l) e) (added_all f p l h (and_right (f t) (all_texts f l) e))))

pub without_all : (f : Text → Bool) (p : Text) (l : List Text) → all_texts f l ≡ true → all_texts f (without p l) ≡ true
unfolding without
without_all f p [] e = refl
without_all f p (t ∷ l) e =
    either (eq_text p t) (λ k. rw (without_here p t l k) (and_right (f t) (all_texts f l) e))
    (λ k. rw (without_later p t l k) (and_both (and_left (f t) (all_texts f l) e) (without_all f p l (and_right (f t) (all_texts f l) e))))

pub added_fine : (p : Text) (l : List Text) → all not_zero p ≡ true → Fine l → Fine (added p l)
unfolding added
added_fine p [] h f = (h, tt)
added_fine p (t ∷ l) h f =
    either (lt_text p t) (λ k. rw (added_before p t l k) (h, f)) (λ k. rw (added_later p t l k) (f.0, added_fine p l h f.1))

pub without_fine : (p : Text) (l : List Text) → Fine l → Fine (without p l)
unfolding without
without_fine p [] f = tt
without_fine p (t ∷ l) f =
    either (eq_text p t) (λ k. rw (without_here p t l k) f.1) (λ k. rw (without_later p t l k) (f.0, without_fine p l f.1))

-- LENGTHS

added_bytes : (p : Text) (l : List Text) → record_bytes (added p l) ≡ 2 + length p + record_bytes l
unfolding added record_bytes
added_bytes p [] = refl
added_bytes p (t ∷ l) =
    either (lt_text p t) (λ k. rw (added_before p t l k)) (λ k. rw (added_later p t l k) (omega (arith, added_bytes p l)))

without_bytes : (p : Text) (l : List Text) → record_bytes (without p l) ≤ record_bytes l
unfolding without record_bytes
without_bytes p [] = omega arith
without_bytes p (t ∷ l) =
    either (eq_text p t) (λ k. rw (without_here p t l k) (omega arith)) (λ k. rw (without_later p t l k) (omega (arith, without_bytes p l)))

image_added : (p : Text) (l : List Text) → image_length (added p l) ≡ image_length l + (2 + length p)
unfolding image_length
image_added p l = omega (arith, added_bytes p l)

pub added_longer : (p : Text) (l : List Text) → length (image (added p l)) ≡ length (image l) + (2 + length p)
added_longer p l = rw (length_image l, length_image (added p l)) (image_added p l)

image_without : (p : Text) (l : List Text) → image_length (without p l) ≤ image_length l
unfolding image_length
image_without p l = omega (arith, without_bytes p l)

pub without_shorter : (p : Text) (l : List Text) → length (image (without p l)) ≤ length (image l)
without_shorter p l = rw (length_image (without p l), length_image l) (image_without p l)

-- ADDED AND REMOVED AGAIN

pub without_added : (p : Text) (l : List Text) → is_there p l ≡ false → without p (added p l) ≡ l
unfolding added
without_added p [] h = without_here p p [] (eq_text_refl p)
without_added p (t ∷ l) h =
    let k : (eq_text p t ≡ false) × (is_there p l ≡ false) = not_there p t l h in
    either (lt_text p t) (λ e. ap (without p) (added_before p t l e) ∙ without_here p p (t ∷ l) (eq_text_refl p))
    (λ e. ap (without p) (added_later p t l e) ∙ without_later p t (added p l) k.0 ∙ ap {B = List Text} (λ m. t ∷ m) (without_added p l k.1))

-- and removed and added again
pub added_without : (p : Text) (l : List Text) → is_there p l ≡ true → rising l ≡ true → added p (without p l) ≡ l
unfolding added is_there
added_without p [] h r = absurd (no h)
added_without p (t ∷ l) h r =
    either (eq_text p t) (λ e. ap (added p) (without_here p t l e) ∙ first (eq_text_same p t e))
    (λ e. let k : is_there p l ≡ true = sym (there_later p t l e) ∙ h in
    ap (added p) (without_later p t l e) ∙ added_later p t (without p l) (later k (rising_under t l r) (rising_tail t l r))
    ∙ ap {B = List Text} (λ m. t ∷ m) (added_without p l k (rising_tail t l r)))
  where
    first : p ≡ t → added p l ≡ t ∷ l
    first e = rw e (under_first t l (rising_under t l r))

    later : is_there p l ≡ true → Under t l → rising l ≡ true → lt_text p t ≡ false
    later k u s = lt_text_asym t p (there_above t p l k u s)

pub there_added : (p : Text) (l : List Text) → is_there p (added p l) ≡ true
unfolding added
there_added p [] = there_here p p [] (eq_text_refl p)
there_added p (t ∷ l) =
    either (lt_text p t) (λ e. rw (added_before p t l e) (there_here p p (t ∷ l) (eq_text_refl p)))
    (λ e. rw (added_later p t l e) (behind (there_added p l)))
  where
    behind : is_there p (added p l) ≡ true → is_there p (t ∷ added p l) ≡ true
    behind ih = unfold is_there in or_right (eq_text p t) ih
