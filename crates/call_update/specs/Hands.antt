-- What the jobs on the paths answer, and what the lent buffer holds then, by document 02's stages: every value and every byte.
use Rattle.std.specs.Prelude.{ℕ, ◌≡◌, Bool, ◌&&◌, leb, length, take}
use Rattle.stages.specs.Numbers.{paths_limit}
use Rattle.stages.specs.Bytes.{Text}
use Rattle.stages.specs.Outcome.{pick}
use Rattle.stages.specs.Images.{is_some, paths_of, held_texts}
use Rattle.stages.specs.Updates as stage
use Rattle.call_update.specs.declared.Updated.{Updated}

-- a call, by what it is handed
abbrev pub updating : Text → ℕ → Text → stage.Updating
updating paths used path = record { paths = paths; used = used; path = path }

-- there is no 4
abbrev pub is_ready : stage.Updating → Bool
is_ready g = leb g.used (length g.paths) && (is_some (paths_of (take g.used g.paths)) && stage.is_path g.path)

-- the lesser of the buffer and 32,768
abbrev pub room_in : ℕ → ℕ
room_in size = pick (leb size paths_limit) size paths_limit

abbrev pub answer_as : ℕ → ℕ → Updated
answer_as n used = record { number = n; place = 0; used = used }

-- where the path is or belongs in the image that is given
abbrev pub place_of : stage.Updating → ℕ
place_of g = stage.place_in g.path (held_texts (take g.used g.paths))

-- the three values, and what the buffer holds; "bytes before its place are not touched"
pub record Hands (g : stage.Updating) (a : stage.Updated) (r : Updated) (left : Text) : Type 0 where
  pub number : r.number ≡ a.number
  pub place : r.place ≡ a.place
  pub used : r.used ≡ a.used
  pub paths : left ≡ a.paths
  pub untouched : take (place_of g) left ≡ take (place_of g) g.paths
