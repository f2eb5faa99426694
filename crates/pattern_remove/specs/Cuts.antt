-- Where a removal cuts a value.
use Rattle.std.specs.Prelude.{ℕ, suc, ◌≤◌, ◌≡◌, Bool, List, length}
use Rattle.stages.specs.Bytes.{Text}
use Rattle.stages.specs.Syntax.{Side}
use Rattle.stages.specs.Pattern.{Element, for_removal, matches}
use Rattle.stages.specs.Removal.{dropped, cut_at, first_cut, keep_all}

-- the part that a cut at k drops matches
abbrev pub matched_at : Side → List Element → Text → ℕ → Bool
matched_at side p v k = matches for_removal p (dropped side v k)

-- k is the first cut that is tried and matches, or the one that drops nothing
pub record CutsAt (side : Side) (down : Bool) (p : List Element) (v : Text) (k : ℕ) : Type 0 where
  pub first : k ≡ first_cut (λ i. matched_at side p v i) (keep_all side v) (cut_at down (length v)) 0 (suc (length v))
  pub within : k ≤ length v
