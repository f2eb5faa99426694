-- A path added to others: it comes where its order wants it, if it is not there yet and the image has room.
use Rattle.std.specs.Prelude.{ℕ, ◌≤◌, ◌≡◌, Bool, true, false, List, ◌∷◌, ◌++◌, leb, length, take, drop, Result, Ok, Err}
use Rattle.std.proofs.Math.Option.{some}
use Rattle.stages.specs.Bytes.{Text}
use Rattle.stages.specs.Outcome.{pick}
use Rattle.stages.specs.Images.{texts, rising, written, image, image_length, held_texts}
use Rattle.stages.specs.Call.{over}
use Rattle.stages.specs.Updates.{added, without, is_there}
use Rattle.table.specs.declared.Part.{Part}
use Rattle.table_insert.specs.declared.AddError.{AddError}
use Rattle.table_insert.specs.declared.AddError.TheVariants.{Twice, NoRoom}

-- an image of single texts in rising order
pub record Column (t : Text) : Type 0 where
  pub table : texts t ≡ some (held_texts t)
  pub rises : rising (held_texts t) ≡ true

-- a place for a text that is not there: the bytes before it and behind it are those of other texts, and the new one comes between them
pub record Gap (t x : Text) (at : ℕ) : Type 0 where
  pub front : List Text
  pub back : List Text
  pub within : at ≤ length t
  pub low : take at t ≡ image front
  pub high : drop at t ≡ written back
  pub is : added x (held_texts t) ≡ front ++ x ∷ back
  pub new : is_there x (held_texts t) ≡ false

-- a text that is there: its record is the bytes from `at` to `end`
pub record Spot (t x : Text) (at end : ℕ) : Type 0 where
  pub front : List Text
  pub back : List Text
  pub low : at ≤ end
  pub high : end ≤ length t
  pub begins : take at t ≡ image front
  pub ends : drop end t ≡ written back
  pub is : without x (held_texts t) ≡ front ++ back
  pub there : is_there x (held_texts t) ≡ true

-- what an answer of the walk says of the bytes
pub data Free (t x : Text) : Result Part ℕ → Type 0 where
  free : {at : ℕ} → Gap t x at → Free t x (Err at)
  taken : {p : Part} → Spot t x p.from p.to → Free t x (Ok p)

-- bytes stand at the front of the old ones, if they are at most `limit`; if not, the old ones stand as they were
pub record Inserts (limit : ℕ) (new old left : Text) (r : Result ℕ AddError) : Type 0 where
  pub answers : r ≡ pick (leb (length new) limit) (Ok (length new)) (Err NoRoom)
  pub leaves : left ≡ pick (leb (length new) limit) (over new old) old

-- the paths with one more, or why not
pub data Adding : Type 0 where
  twice : Adding
  full : Adding
  holds : List Text → Adding

abbrev pub adding_by : Bool → Bool → List Text → Adding
adding_by true fits l = twice
adding_by false false l = full
adding_by false true l = holds l

unfoldable pub adding : ℕ → Text → List Text → Adding
unfolding image_length is_there added
adding limit x l = adding_by (is_there x l) (leb (image_length (added x l)) limit) (added x l)

abbrev pub answer_of : Adding → Result ℕ AddError
answer_of twice = Err Twice
answer_of full = Err NoRoom
answer_of (holds l) = Ok (image_length l)

-- the image stands at the front of the old bytes, or the old ones stand as they were
abbrev pub left_of : Adding → Text → Text
left_of twice old = old
left_of full old = old
left_of (holds l) old = over (image l) old

pub record Adds (o : Adding) (old left : Text) (r : Result ℕ AddError) : Type 0 where
  pub answers : r ≡ answer_of o
  pub leaves : left ≡ left_of o old
