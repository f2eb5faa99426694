-- Patterns of texts that are no paths, with two kinds of element alone: a star, or one byte that passes a test.
use Rattle.std.specs.Prelude.{ℕ, ◌≡◌, Bool, true, false, ◌&&◌, ◌||◌, List, [], ◌∷◌, eqb}
use Rattle.stages.specs.Bytes.{Text}
use Rattle.stages.specs.Pattern.{Element, star, one, exactly, set, in_set}

pub data Shape : Type 0 where
  any : Shape
  passing : (ℕ → Bool) → Shape

unfoldable pub shape : Element → Shape
unfolding in_set
shape star = any
shape one = passing (λ b. true)
shape (exactly c) = passing (λ b. eqb c b)
shape (set sense members) = passing (λ b. in_set sense members b)

unfoldable pub shapes : List Element → List Shape
unfolding shape
shapes [] = []
shapes (e ∷ p) = shape e ∷ shapes p

-- some end of the text passes
unfoldable pub any_end : (Text → Bool) → Text → Bool
any_end f [] = f []
any_end f (b ∷ t) = f (b ∷ t) || any_end f t

unfoldable pub fits : List Shape → Text → Bool
unfolding any_end
fits [] [] = true
fits [] (b ∷ t) = false
fits (any ∷ p) t = any_end (λ u. fits p u) t
fits (passing f ∷ p) [] = false
fits (passing f ∷ p) (b ∷ t) = f b && fits p t

abbrev pub is_star : Element → Bool
is_star star = true
is_star one = false
is_star (exactly c) = false
is_star (set sense members) = false

-- elements without a star
pub data Plain : List Element → Type 0 where
  none : Plain []
  more : {e : Element} {p : List Element} → is_star e ≡ false → Plain p → Plain (e ∷ p)
