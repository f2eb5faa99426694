-- What the record writer and the store answer, and every byte that they leave: the bytes that a stage gives stand at the front of the old ones, or
-- the old ones stand as they were.
use Rattle.std.specs.Prelude.{ℕ, ◌≡◌, ◌&&◌, leb, length, Result, Ok, Err}
use Rattle.stages.specs.Numbers.{variable_room, output_room}
use Rattle.stages.specs.Bytes.{Text}
use Rattle.stages.specs.Outcome.{Outcome, refused, demands, done, ◌>>=◌, pick}
use Rattle.stages.specs.Images.{Pairs, framed, image, flat}
use Rattle.stages.specs.Params.{store}
use Rattle.stages.specs.Call.{over}
use Rattle.table_store.specs.declared.NoRoom.{NoRoom}

-- the answers in document 01's numbers
abbrev pub outcome_by : ℕ → Result ℕ NoRoom → Outcome ℕ
outcome_by number (Ok n) = done n
outcome_by number (Err e) = refused number

-- the bytes written, or 21, "no room for output"
abbrev pub put_outcome : Result ℕ NoRoom → Outcome ℕ
put_outcome = outcome_by output_room

-- the new used length, or 20, "no room for a variable"
abbrev pub stored_outcome : Result ℕ NoRoom → Outcome ℕ
stored_outcome = outcome_by variable_room

-- the greatest length that "a 2-byte big-endian length" says
abbrev pub text_limit : ℕ
text_limit = 65535

-- the record of a text, where it has a length and there is room for it
unfoldable pub record_in : ℕ → Text → Outcome Text
record_in room t = pick (leb (length t) text_limit && leb (length (framed t)) room) (done (framed t)) (refused output_room)

-- the image of the variables with one more stored, where there is room for it
unfoldable pub image_in : ℕ → Text → Text → Pairs → Outcome Text
unfolding store image
image_in room x t v = store room x t v >>= λ w. done (image (flat w))

abbrev pub length_of : Outcome Text → Outcome ℕ
length_of (refused n) = refused n
length_of (demands t) = demands t
length_of (done t) = done (length t)

-- "bytes behind either new image are unchanged", "On refusal .. buffers hold their old bytes"
abbrev pub left_by : Outcome Text → Text → Text
left_by (refused n) old = old
left_by (demands t) old = old
left_by (done t) old = over t old

-- what is answered and left where a stage gives bytes to write
pub record Writes (o : Outcome Text) (old left : Text) (answer : Outcome ℕ) : Type 0 where
  pub answers : answer ≡ length_of o
  pub leaves : left ≡ left_by o old
