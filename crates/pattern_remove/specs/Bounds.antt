-- Which cuts of a value a pattern's stars leave. A pattern is cut at its stars into segments; what begins with a star takes a longer suffix where it takes
-- some, and what ends with one a longer prefix: so the shortest that it takes says which cuts of the whole pattern can match at all.
use Rattle.std.specs.Prelude.{ℕ, ◌+◌, ◌≤◌, ◌<◌, ◌≡◌, Bool, true, false, List, length, take, drop}
use Rattle.stages.specs.Bytes.{Text, part}
use Rattle.stages.specs.Syntax.{Side, suffix, prefix}
use Rattle.stages.specs.Pattern.{Element, for_removal, matches}
use Rattle.pattern_cell.specs.Cells.{Trails, FirstStar, LastStar}
use Rattle.pattern_remove.specs.Cuts.{matched_at}
use Rattle.std.specs.Prelude.{Option, Some, None}
use Rattle.pattern_remove.specs.declared.Bound.{Bound}
use Rattle.pattern_remove.specs.declared.Bound.TheVariants.{Free, Nothing, Within}

-- a segment matches the bytes from a place on, as many as it has elements
abbrev pub stands_at : List Element → Text → ℕ → Bool
stands_at x v i = matches for_removal x (part v i (i + length x))

-- the last place where a segment stands and ends at `top` or before
pub record LastAt (x : List Element) (v : Text) (top i : ℕ) : Type 0 where
  pub before : i + length x ≤ top
  pub here : stands_at x v i ≡ true
  pub no_later : (j : ℕ) → i < j → j + length x ≤ top → stands_at x v j ≡ false

pub record NoneBefore (x : List Element) (v : Text) (top : ℕ) : Type 0 where
  pub none : (j : ℕ) → j + length x ≤ top → stands_at x v j ≡ false

abbrev pub Last : List Element → Text → ℕ → Option ℕ → Type 0
Last x v top None = NoneBefore x v top
Last x v top (Some i) = LastAt x v top i

-- the first place from `low` on where a segment stands
pub record FirstAt (x : List Element) (v : Text) (low i : ℕ) : Type 0 where
  pub from : low ≤ i
  pub inside : i + length x ≤ length v
  pub here : stands_at x v i ≡ true
  pub no_earlier : (j : ℕ) → low ≤ j → j < i → stands_at x v j ≡ false

pub record NoneFrom (x : List Element) (v : Text) (low : ℕ) : Type 0 where
  pub none : (j : ℕ) → low ≤ j → j + length x ≤ length v → stands_at x v j ≡ false

abbrev pub First : List Element → Text → ℕ → Option ℕ → Type 0
First x v low None = NoneFrom x v low
First x v low (Some i) = FirstAt x v low i

-- a cut at k drops less than one at a place
abbrev pub Shorter : Side → ℕ → ℕ → Type 0
Shorter suffix place k = place < k
Shorter prefix place k = k < place

-- the shortest part that a pattern matches is dropped by the cut at a place, or it matches none
pub record ShortestAt (side : Side) (p : List Element) (v : Text) (place : ℕ) : Type 0 where
  pub inside : place ≤ length v
  pub here : matched_at side p v place ≡ true
  pub no_shorter : (k : ℕ) → k ≤ length v → Shorter side place k → matched_at side p v k ≡ false

pub record NoneMatches (side : Side) (p : List Element) (v : Text) : Type 0 where
  pub none : (k : ℕ) → k ≤ length v → matched_at side p v k ≡ false

abbrev pub Shortest : Side → List Element → Text → Option ℕ → Type 0
Shortest side p v None = NoneMatches side p v
Shortest side p v (Some place) = ShortestAt side p v place

-- the pattern from its first star on, or up to its last
abbrev pub starred : Side → ℕ → ℕ → List Element → List Element
starred suffix first last p = drop first p
starred prefix first last p = take last p

-- the first star stands at a place, the last before another
pub record StarsAt (cells : List ℕ) (first last : ℕ) : Type 0 where
  pub leads : FirstStar cells first
  pub ends : LastStar cells last
  pub order : first < last

-- what a bound says of the cuts of a value, the pattern's elements standing in cells
abbrev pub Bounds : Side → List ℕ → List Element → Text → Bound → Type 0
Bounds side cells p v Free = Trails cells 0
Bounds side cells p v Nothing = NoneMatches side p v
Bounds side cells p v (Within first last place) = StarsAt cells first last × ShortestAt side (starred side first last p) v place
