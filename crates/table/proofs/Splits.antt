-- A key splits the records of a table: those below it, its own if it has one, and those behind.
use mathlib.Core.Path.{◌≡◌, refl, ap}
use mathlib.Core.Bool.{true, false}
use mathlib.Core.List.{[], ◌∷◌, ◌++◌}
use Rattle.stages.specs.Bytes.{Text, eq_text, lt_text}
use Rattle.stages.specs.Images.{Pairs, stored}
use Rattle.stages.proofs.Texts.{eq_text_same, lt_text_irrefl, lt_text_asym, lt_text_other}
use Rattle.stages.proofs.Stores.{store_cases}
use Rattle.table.specs.Places.{before, behind}

pub equal_not_above : (a b : Text) → eq_text a b ≡ true → lt_text b a ≡ false
equal_not_above a b e = rw (eq_text_same a b e) (lt_text_irrefl b)

module _ (key : Text) (r : Text × Text) (l : Pairs) where
  pub before_more : lt_text r.0 key ≡ true → before key (r ∷ l) ≡ r ∷ before key l
  unfolding before
  before_more e = rw e

  pub before_stop : lt_text r.0 key ≡ false → before key (r ∷ l) ≡ []
  unfolding before
  before_stop e = rw e

  pub behind_more : lt_text r.0 key ≡ true → behind key (r ∷ l) ≡ behind key l
  unfolding behind
  behind_more e = rw e

  pub behind_known : eq_text key r.0 ≡ true → behind key (r ∷ l) ≡ l
  unfolding behind
  behind_known e = rw (equal_not_above key r.0 e, e)

  pub behind_fresh : lt_text key r.0 ≡ true → behind key (r ∷ l) ≡ r ∷ l
  unfolding behind
  behind_fresh e = rw (lt_text_asym key r.0 e, lt_text_other key r.0 e)

-- a store puts the record between the two
pub stored_between : (key w : Text) (v : Pairs) → stored key w v ≡ before key v ++ (key, w) ∷ behind key v
unfolding stored before behind
stored_between key w [] = refl
stored_between key w (r ∷ l) =
    store_cases key w r l (λ (x : Pairs). x ≡ before key (r ∷ l) ++ (key, w) ∷ behind key (r ∷ l))
    (λ e. rw (before_stop key r l (equal_not_above key r.0 e), behind_known key r l e))
    (λ e. rw (before_stop key r l (lt_text_asym key r.0 e), behind_fresh key r l e))
    (λ e _. rw (before_more key r l e, behind_more key r l e) (ap (λ (x : Pairs). r ∷ x) (stored_between key w l)))
