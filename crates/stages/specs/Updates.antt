-- Document 02, E11: "insertion and deletion of one path in the lent image, now a buffer with a used length".
use Rattle.std.specs.Prelude.{ℕ, Bool, true, false, ◌&&◌, ◌||◌, not, List, [], ◌∷◌, leb, length, take}
use Rattle.stages.specs.Numbers.{accepted, bad_paths, demanded, output_room, bad_path, paths_limit}
use Rattle.stages.specs.Bytes.{Text, all, not_zero, eq_text, lt_text}
use Rattle.stages.specs.Outcome.{Placed, refused_at, demands_at, done_at, ◌then◌, require}
use Rattle.stages.specs.Images.{not_empty, image, image_length, paths_of}
use Rattle.stages.specs.Call.{over, padded, or_refused}

-- "the list with that path added", in its order ..
unfoldable pub added : Text → List Text → List Text
added p [] = p ∷ []
added p (t ∷ l) = elim (lt_text p t) [ true ↦ p ∷ t ∷ l | false ↦ t ∷ added p l ]

-- .. "or removed"
unfoldable pub without : Text → List Text → List Text
without p [] = []
without p (t ∷ l) = elim (eq_text p t) [ true ↦ l | false ↦ t ∷ without p l ]

unfoldable pub is_there : Text → List Text → Bool
is_there p [] = false
is_there p (t ∷ l) = eq_text p t || is_there p l

-- the paths before a path's place: those in front that are below it
unfoldable pub below : Text → List Text → List Text
below p [] = []
below p (t ∷ l) = elim (lt_text t p) [ true ↦ t ∷ below p l | false ↦ [] ]

-- "its place": the length of their image
unfoldable pub place_in : Text → List Text → ℕ
unfolding below image_length
place_in p l = image_length (below p l)

-- "an empty path or one with a zero byte is 4"
unfoldable pub is_path : Text → Bool
is_path p = not_empty p && all not_zero p

-- what both jobs are handed: the buffer with the bytes in it, its used length, the path
pub record Updating : Type 0 where
  pub paths : Text
  pub used : ℕ
  pub path : Text

-- and what comes back: the number, the place, the used length, "which every answer gives"; and what the buffer holds then
pub record Updated : Type 0 where
  pub number : ℕ
  pub place : ℕ
  pub used : ℕ
  pub paths : Text

-- "checks in the order 4 for the image or a used length beyond the buffer, 4 for the path ..": the paths that are there
unfoldable pub paths_given : Updating → Placed (List Text)
unfolding or_refused paths_of is_path
paths_given g =
    require (leb g.used (length g.paths)) bad_paths 0 then λ _.
    or_refused bad_paths (paths_of (take g.used g.paths)) then λ l.
    require (is_path g.path) bad_paths 0 then λ _.
    done_at l

-- "no room in the buffer or 32,768 is 21"
unfoldable pub paths_fit : Updating → List Text → Bool
unfolding image
paths_fit g l = leb (length (image l)) (length g.paths) && leb (length (image l)) paths_limit

-- ".. 24, 21": the paths with the new one
unfoldable pub insertion : Updating → Placed (List Text)
unfolding paths_given is_there added paths_fit
insertion g =
    paths_given g then λ l.
    require (not (is_there g.path l)) bad_path 0 then λ _.
    require (paths_fit g (added g.path l)) output_room 0 then λ _.
    done_at (added g.path l)

-- the paths without it
unfoldable pub deletion : Updating → Placed (List Text)
unfolding paths_given is_there without
deletion g = paths_given g then λ l. require (is_there g.path l) bad_path 0 then λ _. done_at (without g.path l)

-- "A refusal has place 0 and changes nothing."; neither job demands a message
unfoldable pub updated : Updating → (Text → Text) → Placed (List Text) → Updated
unfolding image
updated g put (refused_at n place) = record { number = n; place = place; used = g.used; paths = g.paths }
updated g put (demands_at t place) = record { number = demanded; place = place; used = g.used; paths = g.paths }
updated g put (done_at l) = record { number = accepted; place = 0; used = length (image l); paths = put (image l) }

-- "bytes behind the image are kept on insertion ..
unfoldable pub inserter : Updating → Updated
unfolding updated insertion over
inserter g = updated g (λ t. over t g.paths) (insertion g)

-- .. and zero up to the old length on deletion"
unfoldable pub deleter : Updating → Updated
unfolding updated deletion over padded
deleter g = updated g (λ t. over (padded g.used t) g.paths) (deletion g)
