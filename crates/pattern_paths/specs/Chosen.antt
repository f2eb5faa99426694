-- The paths of an image that a pattern matches, by the places where they stand.
use Rattle.std.specs.Prelude.{ℕ, ◌+◌, ◌≤◌, ◌<◌, ◌≡◌, List, [], ◌∷◌, length, drop, Option, Some, None}
use Rattle.std.proofs.Math.Option.{some}
use Rattle.stages.specs.Bytes.{Text, part}
use Rattle.stages.specs.Outcome.{pick}
use Rattle.stages.specs.Images.{texts_in}
use Rattle.stages.specs.Pattern.{Element, for_paths, matches}
use Rattle.stages.specs.Paths.{chosen}
use Rattle.table.specs.Pieces.{texts_from}
use Rattle.table.specs.declared.Part.{Part}

-- texts stand from a place on to the image's end
pub record Walks (t : Text) (at : ℕ) : Type 0 where
  pub within : at ≤ length t
  pub reads : texts_in (drop at t) ≡ some (texts_from t at)

-- the first of the texts that matches, by its place, the first of them being written at `at`
unfoldable pub next_in : List Element → ℕ → List Text → Option Part
unfolding matches
next_in p at [] = None
next_in p at (t ∷ l) = pick (matches for_paths p t) (Some (record { from = at + 2; to = at + 2 + length t })) (next_in p (at + 2 + length t) l)

-- what an answer says of the paths that are chosen from a place on
pub data Tells (p : List Element) (t : Text) (at : ℕ) : Option Part → Type 0 where
  nothing : chosen p (texts_from t at) ≡ [] → Tells p t at None
  path : {r : Part} → at < r.from → r.from ≤ r.to → r.to ≤ length t → Walks t r.to
      → chosen p (texts_from t at) ≡ part t r.from r.to ∷ chosen p (texts_from t r.to) → Tells p t at (Some r)

pub record NextSays (p : List Element) (t : Text) (at : ℕ) (r : Option Part) : Type 0 where
  pub is : r ≡ next_in p at (texts_from t at)
  pub tells : Tells p t at r
