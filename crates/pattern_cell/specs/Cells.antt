-- A pattern settled: a cell for each of its elements, so that nothing of it is searched again. A cell is a byte that stands for itself, `?`, `*`, or a
-- set by its number in a table of sets, which has four words for each.
use Rattle.std.specs.Prelude.{ℕ, suc, ◌+◌, ◌-◌, ◌*◌, ◌≤◌, ◌<◌, ◌≡◌, Bool, true, false, List, [], ◌∷◌, eqb, length, drop, get_or}
use Rattle.stages.specs.Pattern.{Signs, Sense, Element, star, one, exactly, set, in_set}
use Rattle.pattern_set.specs.Sets.{has}

-- the cells of `?` and `*`, and the first of sets; below them each cell is a byte
abbrev pub one_cell : ℕ
one_cell = 256

abbrev pub star_cell : ℕ
star_cell = 257

abbrev pub first_set : ℕ
first_set = 258

-- where the words of a set's cell stand in the table
abbrev pub words_at : ℕ → ℕ
words_at c = 4 * (c - first_set)

-- the cell is a set of the table, and holds the bytes that these members stand for
pub record Holds (sets : List ℕ) (c : ℕ) (sense : Sense) (members : Signs) : Type 0 where
  pub from : first_set ≤ c
  pub inside : words_at c + 4 ≤ length sets
  pub same : (b : ℕ) → b < 256 → has (drop (words_at c) sets) b ≡ in_set sense members b

-- a cell stands for an element
abbrev pub Is : List ℕ → ℕ → Element → Type 0
Is sets c star = c ≡ star_cell
Is sets c one = c ≡ one_cell
Is sets c (exactly b) = (c ≡ b) × (b < 256)
Is sets c (set sense members) = Holds sets c sense members

-- cells stand for elements, one for one
pub data Shows (sets : List ℕ) : List ℕ → List Element → Type 0 where
  none : Shows sets [] []
  more : {c : ℕ} {e : Element} {cs : List ℕ} {es : List Element} → Is sets c e → Shows sets cs es → Shows sets (c ∷ cs) (e ∷ es)

-- cells that stand for some elements
pub record Shown (sets cells : List ℕ) : Type 0 where
  pub es : List Element
  pub shows : Shows sets cells es

abbrev pub is_star_cell : ℕ → Bool
is_star_cell c = eqb c star_cell

-- no star stands from a place on
pub record Trails (cells : List ℕ) (last : ℕ) : Type 0 where
  pub inside : last ≤ length cells
  pub plain : (i : ℕ) → last ≤ i → i < length cells → is_star_cell (get_or cells i 0) ≡ false

-- the place behind the last star, 0 where there is none
pub record LastStar (cells : List ℕ) (last : ℕ) : Type 0 where
  pub trails : Trails cells last
  pub behind : (i : ℕ) → last ≡ suc i → is_star_cell (get_or cells i 0) ≡ true

-- the place of the first star, or behind all cells where there is none
pub record FirstStar (cells : List ℕ) (first : ℕ) : Type 0 where
  pub inside : first ≤ length cells
  pub plain : (i : ℕ) → i < first → is_star_cell (get_or cells i 0) ≡ false
  pub here : first < length cells → is_star_cell (get_or cells first 0) ≡ true
