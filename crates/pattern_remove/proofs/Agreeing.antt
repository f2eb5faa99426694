-- A text that is no path is matched as the shapes of the pattern's elements fit it.
use Prim.Native.Char.{code}
use mathlib.Core.Path.{◌≡◌, refl, ◌∙◌, ap}
use mathlib.Core.Bool.{Bool, true, false, ◌&&◌, ◌||◌}
use mathlib.Core.List.{List, [], ◌∷◌, ◌++◌}
use lib.Dec.{eqb}
use Rattle.stages.specs.Bytes.{Text}
use Rattle.stages.specs.Pattern.{Element, star, one, exactly, set, passes, takes, in_set, some_end, matches_from, for_removal, matches}
use Rattle.pattern_remove.specs.Shapes.{Shape, shape, shapes, any_end, fits}

if_and : (x y : Bool) → elim x [ true ↦ y | false ↦ false ] ≡ (x && y)
if_and true y = refl
if_and false y = refl

if_or : (x y : Bool) → elim x [ true ↦ true | false ↦ y ] ≡ (x || y)
if_or true y = refl
if_or false y = refl

and_all : (x : Bool) → (x && true) ≡ x
and_all true = refl
and_all false = refl

some_end_lem : (F : Bool → Text → Bool) (g : Text → Bool) → ((f : Bool) (u : Text) → F f u ≡ g u) → (first : Bool) (t : Text)
    → some_end false F first t ≡ any_end g t
unfolding some_end any_end passes
some_end_lem F g h first [] = h first []
some_end_lem F g h first (b ∷ t) =
    if_or (F first (b ∷ t)) (some_end false F false t) ∙ ap (λ (x : Bool). x || some_end false F false t) (h first (b ∷ t))
    ∙ ap (λ (x : Bool). g (b ∷ t) || x) (some_end_lem F g h false t)

fits_from : (p : List Element) (head first : Bool) (t : Text) → matches_from false p head first t ≡ fits (shapes p) t
unfolding matches_from passes takes shapes shape fits
fits_from [] head first [] = refl
fits_from [] head first (b ∷ t) = refl
fits_from (star ∷ p) head first t =
    some_end_lem (λ f u. matches_from false p false f u) (λ u. fits (shapes p) u) (λ f u. fits_from p false f u) first t
fits_from (one ∷ p) head first [] = refl
fits_from (one ∷ p) head first (b ∷ t) = fits_from p false false t
fits_from (exactly c ∷ p) head first [] = refl
fits_from (exactly c ∷ p) head first (b ∷ t) =
    let slash = eqb c (code "/") in
    if_and (eqb c b && true) (matches_from false p slash slash t)
    ∙ ap (λ (x : Bool). x && matches_from false p slash slash t) (and_all (eqb c b))
    ∙ ap (λ (x : Bool). eqb c b && x) (fits_from p slash slash t)
fits_from (set sense members ∷ p) head first [] = refl
fits_from (set sense members ∷ p) head first (b ∷ t) =
    if_and (in_set sense members b) (matches_from false p false false t) ∙ ap (λ (x : Bool). in_set sense members b && x) (fits_from p false false t)

pub as_fits : (p : List Element) (t : Text) → matches for_removal p t ≡ fits (shapes p) t
unfolding matches
as_fits p t = fits_from p true true t

pub shapes_both : (p q : List Element) → shapes (p ++ q) ≡ shapes p ++ shapes q
unfolding shapes
shapes_both [] q = refl
shapes_both (e ∷ p) q = ap (λ (l : List Shape). shape e ∷ l) (shapes_both p q)
