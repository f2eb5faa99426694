-- Document 02, E11: the matches of a pattern in a list with one path more, or one less. They are the old ones with that path in its order, or without it, if it
-- matches, and otherwise the old ones.
use mathlib.Core.Path.{◌≡◌, refl, sym, ap, ◌∙◌}
use mathlib.Core.Bool.{true, false}
use mathlib.Core.List.{List, [], ◌∷◌}
use Rattle.stages.specs.Bytes.{Text, eq_text, lt_text}
use Rattle.stages.specs.Outcome.{pick}
use Rattle.stages.specs.Images.{rising}
use Rattle.stages.specs.Units.{Row, bytes}
use Rattle.stages.specs.Pattern.{Element, for_paths, matches}
use Rattle.stages.specs.Paths.{chosen, active, or_else, paths_for}
use Rattle.stages.specs.Updates.{added, without}
use Rattle.stages.proofs.Bools.{either}
use Rattle.stages.proofs.Texts.{eq_text_same}
use Rattle.stages.proofs.Stores.{Under, rising_tail, under_next}
use Rattle.stages.proofs.PathLists.{added_before, added_later, without_here, without_later, under_first}

module _ (q : List Element) where
  chosen_yes : (t : Text) (l : List Text) → matches for_paths q t ≡ true → chosen q (t ∷ l) ≡ t ∷ chosen q l
  unfolding chosen
  chosen_yes t l e = rw (e, chosen)

  chosen_no : (t : Text) (l : List Text) → matches for_paths q t ≡ false → chosen q (t ∷ l) ≡ chosen q l
  unfolding chosen
  chosen_no t l e = rw (e, chosen)

  under_chosen : (x : Text) (l : List Text) → Under x l → rising l ≡ true → Under x (chosen q l)
  unfolding chosen
  under_chosen x [] u r = tt
  under_chosen x (t ∷ l) u r =
      either (matches for_paths q t) (λ e. rw (chosen_yes t l e) u)
      (λ e. rw (chosen_no t l e) (under_chosen x l (under_next x t l u r) (rising_tail t l r)))

  -- "the old matches with the new path put in its order if it matches ..
  pub matches_added : (p : Text) (l : List Text) → rising l ≡ true → matches for_paths q p ≡ true → chosen q (added p l) ≡ added p (chosen q l)
  unfolding added chosen
  matches_added p [] r m = chosen_yes p [] m
  matches_added p (t ∷ l) r m =
      either (lt_text p t)
      (λ e. ap (chosen q) (added_before p t l e) ∙ chosen_yes p (t ∷ l) m ∙ sym (under_first p (chosen q (t ∷ l)) (under_chosen p (t ∷ l) e r)))
      (λ e. ap (chosen q) (added_later p t l e) ∙ behind e (matches_added p l (rising_tail t l r) m))
    where
      behind : lt_text p t ≡ false → chosen q (added p l) ≡ added p (chosen q l) → chosen q (t ∷ added p l) ≡ added p (chosen q (t ∷ l))
      behind e ih =
          either (matches for_paths q t)
          (λ k. chosen_yes t (added p l) k ∙ ap {B = List Text} (λ n. t ∷ n) ih
          ∙ sym (ap (added p) (chosen_yes t l k) ∙ added_later p t (chosen q l) e))
          (λ k. chosen_no t (added p l) k ∙ ih ∙ sym (ap (added p) (chosen_no t l k)))

  -- .. and otherwise the old ones"
  pub matches_kept : (p : Text) (l : List Text) → matches for_paths q p ≡ false → chosen q (added p l) ≡ chosen q l
  unfolding added chosen
  matches_kept p [] m = chosen_no p [] m
  matches_kept p (t ∷ l) m =
      either (lt_text p t) (λ e. ap (chosen q) (added_before p t l e) ∙ chosen_no p (t ∷ l) m)
      (λ e. ap (chosen q) (added_later p t l e) ∙ behind (matches_kept p l m))
    where
      behind : chosen q (added p l) ≡ chosen q l → chosen q (t ∷ added p l) ≡ chosen q (t ∷ l)
      behind ih =
          either (matches for_paths q t) (λ k. chosen_yes t (added p l) k ∙ ap {B = List Text} (λ n. t ∷ n) ih ∙ sym (chosen_yes t l k))
          (λ k. chosen_no t (added p l) k ∙ ih ∙ sym (chosen_no t l k))

  -- both in one
  pub matches_after : (p : Text) (l : List Text) → rising l ≡ true
      → chosen q (added p l) ≡ pick (matches for_paths q p) (added p (chosen q l)) (chosen q l)
  matches_after p l r = either (matches for_paths q p) (λ m. rw m (matches_added p l r m)) (λ m. rw m (matches_kept p l m))

  -- the other way about: the matches after a deletion are the old ones without the path if it matches, and otherwise the old ones
  pub matches_without : (p : Text) (l : List Text) → matches for_paths q p ≡ true → chosen q (without p l) ≡ without p (chosen q l)
  unfolding without chosen
  matches_without p [] m = refl
  matches_without p (t ∷ l) m =
      either (eq_text p t)
      (λ e. ap (chosen q) (without_here p t l e)
      ∙ sym (ap (without p) (chosen_yes t l (rw (← eq_text_same p t e) m)) ∙ without_here p t (chosen q l) e))
      (λ e. ap (chosen q) (without_later p t l e) ∙ behind e (matches_without p l m))
    where
      behind : eq_text p t ≡ false → chosen q (without p l) ≡ without p (chosen q l) → chosen q (t ∷ without p l) ≡ without p (chosen q (t ∷ l))
      behind e ih =
          either (matches for_paths q t)
          (λ k. chosen_yes t (without p l) k ∙ ap {B = List Text} (λ n. t ∷ n) ih
          ∙ sym (ap (without p) (chosen_yes t l k) ∙ without_later p t (chosen q l) e))
          (λ k. chosen_no t (without p l) k ∙ ih ∙ sym (ap (without p) (chosen_no t l k)))

  pub matches_left : (p : Text) (l : List Text) → matches for_paths q p ≡ false → chosen q (without p l) ≡ chosen q l
  unfolding without chosen
  matches_left p [] m = refl
  matches_left p (t ∷ l) m =
      either (eq_text p t) (λ e. ap (chosen q) (without_here p t l e) ∙ sym (chosen_no t l (rw (← eq_text_same p t e) m)))
      (λ e. ap (chosen q) (without_later p t l e) ∙ behind (matches_left p l m))
    where
      behind : chosen q (without p l) ≡ chosen q l → chosen q (t ∷ without p l) ≡ chosen q (t ∷ l)
      behind ih =
          either (matches for_paths q t) (λ k. chosen_yes t (without p l) k ∙ ap {B = List Text} (λ n. t ∷ n) ih ∙ sym (chosen_yes t l k))
          (λ k. chosen_no t (without p l) k ∙ ih ∙ sym (chosen_no t l k))

  pub matches_behind : (p : Text) (l : List Text) → chosen q (without p l) ≡ pick (matches for_paths q p) (without p (chosen q l)) (chosen q l)
  matches_behind p l = either (matches for_paths q p) (λ m. rw m (matches_without p l m)) (λ m. rw m (matches_left p l m))

  -- What a field becomes whose row is this pattern: "all matching paths in order, or its own bytes if none".
  pub field_after : (row : Row) (p : Text) (l : List Text) → active q ≡ true → rising l ≡ true
      → paths_for (added p l) row q ≡ or_else (pick (matches for_paths q p) (added p (chosen q l)) (chosen q l)) (bytes row)
  unfolding paths_for
  field_after row p l a r = rw (a, paths_for) (ap (λ (m : List Text). or_else m (bytes row)) (matches_after p l r))

  pub field_behind : (row : Row) (p : Text) (l : List Text) → active q ≡ true
      → paths_for (without p l) row q ≡ or_else (pick (matches for_paths q p) (without p (chosen q l)) (chosen q l)) (bytes row)
  unfolding paths_for
  field_behind row p l a = rw (a, paths_for) (ap (λ (m : List Text). or_else m (bytes row)) (matches_behind p l))
