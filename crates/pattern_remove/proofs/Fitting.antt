-- Two patterns one behind the other fit a text that is cut in two, each its part: so a text is parted wherever the pattern is, and put together again.
use Prim.Native.Nat.{ℕ, suc, ◌≤◌}
use mathlib.Core.Path.{◌≡◌, refl, sym, ap}
use mathlib.Core.Bool.{Bool, true, ◌||◌}
use mathlib.Core.Logic.{◌⊎◌, inl, inr}
use mathlib.Core.List.{List, [], ◌∷◌, ◌++◌}
use native.Mathlib.Omega.{arith}
use lib.Dec.{eqb}
use lib.ListN.{length, take, drop}
use Rattle.stages.specs.Bytes.{Text}
use Rattle.stages.specs.Pattern.{Element, star, one, exactly, set, in_set}
use Rattle.stages.proofs.Bools.{no, and_left, and_right, and_both, or_cases, or_left, or_right}
use Rattle.pattern_remove.specs.Shapes.{Shape, any, passing, shape, shapes, any_end, fits, Plain, none, more}

-- a star may take nothing, or all
ends_here_lem : (f : Text → Bool) (t : Text) → f t ≡ true → any_end f t ≡ true
unfolding any_end
ends_here_lem f [] y = y
ends_here_lem f (b ∷ t) y = or_left (any_end f t) y

ends_all : (t : Text) → any_end (λ u. fits [] u) t ≡ true
unfolding any_end fits
ends_all [] = refl
ends_all (b ∷ t) = ends_all t

pub any_all : (t : Text) → fits (any ∷ []) t ≡ true
unfolding fits
any_all t = ends_all t

-- where a text is cut that y and z fit, one behind the other
pub record Cut (y z : List Shape) (t : Text) : Type 0 where
  pub at : ℕ
  pub inside : at ≤ length t
  pub front : fits y (take at t) ≡ true
  pub back : fits z (drop at t) ≡ true

module _ (y z : List Shape) where
  cut_nothing : (t : Text) → Cut y z t → Cut (any ∷ y) z t
  unfolding fits
  cut_nothing t c = record { at = c.at; inside = c.inside; front = ends_here_lem (λ u. fits y u) (take c.at t) c.front; back = c.back }

  cut_byte : (b : ℕ) (t : Text) → Cut (any ∷ y) z t → Cut (any ∷ y) z (b ∷ t)
  unfolding fits any_end
  cut_byte b t c = record {
    at = suc c.at;
    inside = omega (arith, c.inside);
    front = or_right (fits y (b ∷ take c.at t)) c.front;
    back = c.back;
  }

  cut_ends : ((u : Text) → fits (y ++ z) u ≡ true → Cut y z u) → (t : Text) → any_end (λ u. fits (y ++ z) u) t ≡ true → Cut (any ∷ y) z t
  unfolding any_end
  cut_ends h [] e = cut_nothing [] (h [] e)
  cut_ends h (b ∷ t) e = by (or_cases (fits (y ++ z) (b ∷ t)) (any_end (λ u. fits (y ++ z) u) t) e) (cut_ends h t)
    where
      by : (fits (y ++ z) (b ∷ t) ≡ true) ⊎ (any_end (λ u. fits (y ++ z) u) t ≡ true) → (any_end (λ u. fits (y ++ z) u) t ≡ true → Cut (any ∷ y) z t)
          → Cut (any ∷ y) z (b ∷ t)
      by (inl f) k = cut_nothing (b ∷ t) (h (b ∷ t) f)
      by (inr f) k = cut_byte b t (k f)

pub fits_apart : (y z : List Shape) (t : Text) → fits (y ++ z) t ≡ true → Cut y z t
unfolding fits
fits_apart [] z t e = record { at = 0; inside = omega arith; front = refl; back = e }
fits_apart (any ∷ y) z t e = cut_ends y z (fits_apart y z) t e
fits_apart (passing f ∷ y) z [] e = absurd (no e)
fits_apart (passing f ∷ y) z (b ∷ t) e =
    let c = fits_apart y z t (and_right (f b) (fits (y ++ z) t) e) in
    record {
      at = suc c.at;
      inside = omega (arith, c.inside);
      front = and_both (and_left (f b) (fits (y ++ z) t) e) c.front;
      back = c.back;
    }

ends_both : (f g : Text → Bool) (b : Text) → ((a : Text) → f a ≡ true → g (a ++ b) ≡ true) → (a : Text) → any_end f a ≡ true → any_end g (a ++ b) ≡ true
unfolding any_end
ends_both f g b h [] e = ends_here_lem g b (h [] e)
ends_both f g b h (c ∷ a) e = by (or_cases (f (c ∷ a)) (any_end f a) e) (ends_both f g b h a)
  where
    by : (f (c ∷ a) ≡ true) ⊎ (any_end f a ≡ true) → (any_end f a ≡ true → any_end g (a ++ b) ≡ true) → (g (c ∷ (a ++ b)) || any_end g (a ++ b)) ≡ true
    by (inl i) k = or_left (any_end g (a ++ b)) (h (c ∷ a) i)
    by (inr i) k = or_right (g (c ∷ (a ++ b))) (k i)

pub fits_both : (y z : List Shape) (a b : Text) → fits y a ≡ true → fits z b ≡ true → fits (y ++ z) (a ++ b) ≡ true
unfolding fits
fits_both [] z [] b e f = f
fits_both [] z (c ∷ a) b e f = absurd (no e)
fits_both (any ∷ y) z a b e f = ends_both (λ u. fits y u) (λ u. fits (y ++ z) u) b (λ u h. fits_both y z u b h f) a e
fits_both (passing g ∷ y) z [] b e f = absurd (no e)
fits_both (passing g ∷ y) z (c ∷ a) b e f = and_both (and_left (g c) (fits y a) e) (fits_both y z a b (and_right (g c) (fits y a) e) f)

-- without a star a pattern has its length
pub fits_length : {x : List Element} → Plain x → (t : Text) → fits (shapes x) t ≡ true → length t ≡ length x
unfolding fits shapes shape
fits_length none [] e = refl
fits_length none (b ∷ t) e = absurd (no e)
fits_length (more {e = star} n p) t e = absurd (no (sym n))
fits_length (more {e = one} n p) [] e = absurd (no e)
fits_length (more {e = one} n p) (b ∷ t) e = ap suc (fits_length p t e)
fits_length (more {e = exactly c} n p) [] e = absurd (no e)
fits_length (more {e = exactly c} n p) (b ∷ t) e = ap suc (fits_length p t (and_right (eqb c b) _ e))
fits_length (more {e = set sense members} n p) [] e = absurd (no e)
fits_length (more {e = set sense members} n p) (b ∷ t) e = ap suc (fits_length p t (and_right (in_set sense members b) _ e))
