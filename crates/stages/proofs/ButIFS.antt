-- Document 02, E8: variables that differ in IFS alone. Every other name has the same value in both, or is unset in both; stores keep that; and tables of
-- which it holds are equal but for IFS.
use mathlib.Core.Path.{◌≡◌, refl, sym, ap, ◌∙◌}
use mathlib.Core.Bool.{true, false}
use mathlib.Core.List.{[], ◌∷◌}
use mathlib.Core.Option.{none}
use Rattle.stages.specs.Bytes.{Text, text, eq_text}
use Rattle.stages.specs.Images.{Pairs, keys, rising, lookup, stored}
use Rattle.stages.specs.Together.{but_ifs}
use Rattle.stages.proofs.Bools.{apart, either}
use Rattle.stages.proofs.Texts.{eq_text_same}
use Rattle.stages.proofs.Stores.{rising_tail, rising_under, Under, under_next, under_rises, lookup_later, lookup_behind, lookup_stored, lookup_other}
use Rattle.stages.proofs.Stores.{tables_same}

abbrev pub Alike : Pairs → Pairs → Type 0
Alike v w = (x : Text) → eq_text x (text "IFS") ≡ false → lookup x v ≡ lookup x w

-- one record

but_first : (r : Text × Text) (v : Pairs) → eq_text r.0 (text "IFS") ≡ true → but_ifs (r ∷ v) ≡ but_ifs v
unfolding but_ifs
but_first r v e = rw (e, but_ifs)

but_later : (r : Text × Text) (v : Pairs) → eq_text r.0 (text "IFS") ≡ false → but_ifs (r ∷ v) ≡ r ∷ but_ifs v
unfolding but_ifs
but_later r v e = rw (e, but_ifs)

-- what is looked up

-- IFS is no other name
not_it : (x y : Text) → eq_text x (text "IFS") ≡ false → eq_text y (text "IFS") ≡ true → eq_text x y ≡ false
not_it x y e d = rw (eq_text_same y (text "IFS") d) e

lookup_but : (x : Text) (v : Pairs) → eq_text x (text "IFS") ≡ false → lookup x (but_ifs v) ≡ lookup x v
unfolding but_ifs
lookup_but x [] e = refl
lookup_but x (r ∷ v) e =
    either (eq_text r.0 (text "IFS"))
    (λ d. ap (lookup x) (but_first r v d) ∙ lookup_but x v e ∙ sym (lookup_later x r v (not_it x r.0 e d)))
    (λ d. ap (lookup x) (but_later r v d) ∙ lookup_behind x r (but_ifs v) v (lookup_but x v e))

lookup_none : (x : Text) (v : Pairs) → eq_text x (text "IFS") ≡ true → lookup x (but_ifs v) ≡ none
unfolding but_ifs lookup
lookup_none x [] e = refl
lookup_none x (r ∷ v) e =
    either (eq_text r.0 (text "IFS"))
    (λ d. ap (lookup x) (but_first r v d) ∙ lookup_none x v e)
    (λ d. ap (lookup x) (but_later r v d) ∙ lookup_later x r (but_ifs v) (other d) ∙ lookup_none x v e)
  where
    other : eq_text r.0 (text "IFS") ≡ false → eq_text x r.0 ≡ false
    other d = either (eq_text x r.0) (λ q. absurd (apart d (rw (← eq_text_same x r.0 q) e))) (λ q. q)

pub but_alike : (v w : Pairs) → but_ifs v ≡ but_ifs w → Alike v w
but_alike v w e x n = sym (lookup_but x v n) ∙ ap (lookup x) e ∙ lookup_but x w n

-- tables

under_but : (x : Text) (v : Pairs) → Under x (keys v) → rising (keys v) ≡ true → Under x (keys (but_ifs v))
unfolding but_ifs
under_but x [] u e = tt
under_but x (r ∷ v) u e =
    either (eq_text r.0 (text "IFS"))
    (λ d. rw (but_first r v d) (under_but x v (under_next x r.0 (keys v) u e) (rising_tail r.0 (keys v) e)))
    (λ d. rw (but_later r v d) u)

rising_but : (v : Pairs) → rising (keys v) ≡ true → rising (keys (but_ifs v)) ≡ true
unfolding but_ifs rising
rising_but [] e = refl
rising_but (r ∷ v) e =
    let t = rising_tail r.0 (keys v) e in
    either (eq_text r.0 (text "IFS"))
    (λ d. rw (but_first r v d) (rising_but v t))
    (λ d. rw (but_later r v d) (under_rises r.0 (keys (but_ifs v)) (under_but r.0 v (rising_under r.0 (keys v) e) t) (rising_but v t)))

pub alike_but : (v w : Pairs) → rising (keys v) ≡ true → rising (keys w) ≡ true → Alike v w → but_ifs v ≡ but_ifs w
alike_but v w e d k =
    tables_same (but_ifs v) (but_ifs w) (rising_but v e) (rising_but w d)
    (λ x. either (eq_text x (text "IFS"))
    (λ n. lookup_none x v n ∙ sym (lookup_none x w n))
    (λ n. lookup_but x v n ∙ k x n ∙ sym (lookup_but x w n)))

-- stores

pub alike_stored : (x t : Text) (v w : Pairs) → Alike v w → Alike (stored x t v) (stored x t w)
alike_stored x t v w k y n =
    either (eq_text y x)
    (λ e. rw (eq_text_same y x e) (lookup_stored x t v ∙ sym (lookup_stored x t w)))
    (λ e. lookup_other x y t v e ∙ k y n ∙ sym (lookup_other x y t w e))

-- there are such variables: with IFS set, to whatever value, and as they were
pub set_alike : (t : Text) (v : Pairs) → Alike (stored (text "IFS") t v) v
set_alike t v x n = lookup_other (text "IFS") x t v n
