-- Document 02, E13, "Patterns that are too dear": which pairs of a place in a pattern and a place in a text can be reached, how many there are, and the job
-- that reports the number.
use Rattle.std.specs.Prelude.{ℕ, zero, suc, ◌+◌, ◌<◌, ◌≡◌, Bool, true, false, ◌&&◌, ◌||◌, List, [], ◌∷◌, eqb, leb, length, get_or}
use Rattle.stages.specs.Numbers.{accepted, work_too_small, demanded, too_many_units, work_least, elements_limit, compared_limit}
use Rattle.stages.specs.Bytes.{Text}
use Rattle.stages.specs.Outcome.{pick, Placed, refused_at, demands_at, done_at, placed_at, ◌then◌, require}
use Rattle.stages.specs.Units.{L, marked}
use Rattle.stages.specs.Pattern.{Element, star, one, exactly, set, in_set, for_removal, pattern}
use Rattle.stages.specs.Call.{cleared}

abbrev pub is_star : Element → Bool
is_star star = true
is_star one = false
is_star (exactly c) = false
is_star (set sense members) = false

-- "another element that matches the byte", "in the removals' sense"
unfoldable pub matches_byte : Element → ℕ → Bool
unfolding in_set
matches_byte star b = false
matches_byte one b = true
matches_byte (exactly c) b = eqb c b
matches_byte (set sense members) b = in_set sense members b

-- the element at a place of a pattern
pub data At : List Element → ℕ → Element → Type 0 where
  first : {e : Element} {es : List Element} → At (e ∷ es) 0 e
  later : {d e : Element} {es : List Element} {i : ℕ} → At es i e → At (d ∷ es) (suc i) e

-- "From the start pair, a star leads on to the next element, and to the next byte if there is one; another element that matches the byte leads on in both."
pub data Reached (es : List Element) (t : Text) : ℕ → ℕ → Type 0 where
  start : Reached es t 0 0
  past : {i j : ℕ} → At es i star → Reached es t i j → Reached es t (suc i) j
  over : {i j : ℕ} → At es i star → j < length t → Reached es t i j → Reached es t i (suc j)
  both : {i j : ℕ} {e : Element} → At es i e → j < length t → matches_byte e (get_or t j 0) ≡ true → Reached es t i j → Reached es t (suc i) (suc j)

-- The same as a test that computes, row by row: a row has the pairs of one place of the pattern, and f says which of them were led to from the row before.
-- At a star each leads on to the next byte.
unfoldable pub spread : Bool → (ℕ → Bool) → ℕ → Bool
spread false f j = f j
spread true f zero = f zero
spread true f (suc j) = f (suc j) || spread true f j

-- what the pairs g of a row lead to in the next one, at a star or at an element that matches the bytes that pass
unfoldable pub onward : Bool → (ℕ → Bool) → Text → (ℕ → Bool) → ℕ → Bool
onward true passes t g j = g j
onward false passes t g zero = false
onward false passes t g (suc j) = passes (get_or t j 0) && g j

unfoldable pub marks : List Element → Text → (ℕ → Bool) → ℕ → ℕ → Bool
unfolding spread onward matches_byte
marks [] t f zero j = f j
marks [] t f (suc i) j = false
marks (e ∷ es) t f zero j = spread (is_star e) f j
marks (e ∷ es) t f (suc i) j = marks es t (onward (is_star e) (matches_byte e) t (spread (is_star e) f)) i j

-- the start pair's row: the text's start alone
abbrev pub at_start : ℕ → Bool
at_start zero = true
at_start (suc j) = false

-- the pair of the places i and j is reached: proofs/Reaching.antt has that this is `Reached`
unfoldable pub reaches : List Element → Text → ℕ → ℕ → Bool
unfolding marks
reaches es t i j = marks es t at_start i j

-- how many of the numbers below k pass
unfoldable pub tally : (ℕ → Bool) → ℕ → ℕ
tally f zero = 0
tally f (suc k) = tally f k + pick (f k) 1 0

-- how many pairs (i, j) with i below k and j below m pass
unfoldable pub tally_rows : (ℕ → ℕ → Bool) → ℕ → ℕ → ℕ
unfolding tally
tally_rows f zero m = 0
tally_rows f (suc k) m = tally (f zero) m + tally_rows (λ i j. f (suc i) j) k m

-- "the number of distinct pairs that can be reached, the start included": each pair (i, j) with i up to p and j up to n is looked at once
unfoldable pub reachable : List Element → Text → ℕ
unfolding reaches tally_rows
reachable es t = tally_rows (reaches es t) (suc (length es)) (length t + 1)

-- what the job is handed: a pattern, a text, and the work area with the bytes in it
pub record Costing : Type 0 where
  pub pattern : Text
  pub text : Text
  pub work : Text

-- and what comes back: the number, the place, the pairs; and what the work area holds then
pub record Costed : Type 0 where
  pub number : ℕ
  pub place : ℕ
  pub pairs : ℕ
  pub work : Text

-- "more than 64 elements or 256 text bytes is 14"
unfoldable pub is_small : List Element → Text → Bool
is_small es t = leb (length es) elements_limit && leb (length t) compared_limit

-- "A work area below 65,536 bytes is 1, a bracket class that is not served is 19 .. in that order"; "All bytes of the pattern are active."
unfoldable pub pairs_of : Costing → Placed ℕ
unfolding pattern marked is_small reachable
pairs_of g =
    require (leb work_least (length g.work)) work_too_small 0 then λ _.
    placed_at 0 (pattern for_removal (marked L g.pattern)) then λ es.
    require (is_small es g.text) too_many_units 0 then λ _.
    done_at (reachable es g.text)

-- "a refusal reports 0, place 0, and the work area is zero after every call"; no message is demanded here
unfoldable pub costed : Text → Placed ℕ → Costed
unfolding cleared
costed work (refused_at n place) = record { number = n; place = place; pairs = 0; work = cleared work }
costed work (demands_at t place) = record { number = demanded; place = place; pairs = 0; work = cleared work }
costed work (done_at k) = record { number = accepted; place = 0; pairs = k; work = cleared work }

unfoldable pub coster : Costing → Costed
unfolding costed pairs_of
coster g = costed g.work (pairs_of g)
