-- What the writers answer, and every byte that they leave: the records of a stage's texts stand behind what was used, all else is as it was. A field that
-- 19 refuses touches no byte of the output; else nothing is said of the bytes after a refusal, since no caller keeps them.
use Rattle.std.specs.Prelude.{ℕ, ◌+◌, ◌*◌, ◌≤◌, ◌<◌, ◌≡◌, List, leb, length, Option, Some, None, Result, Ok, Err}
use Rattle.stages.specs.Numbers.{bracket_class, output_room}
use Rattle.stages.specs.Bytes.{Text}
use Rattle.stages.specs.Outcome.{Outcome, refused, done, ◌>>=◌, pick}
use Rattle.stages.specs.Images.{written, record_bytes}
use Rattle.table_store.specs.Splice.{placed}
use Rattle.table_store.specs.declared.NoRoom as store
use Rattle.split_field.specs.declared.WriteError.{WriteError}
use Rattle.split_field.specs.declared.WriteError.TheVariants.{BadClass, NoRoom}

-- the answers in document 01's numbers: the output's new length, 19, "bracket class", or 21, "no room for output"
abbrev pub written_outcome : Result ℕ WriteError → Outcome ℕ
written_outcome (Ok n) = done n
written_outcome (Err BadClass) = refused bracket_class
written_outcome (Err NoRoom) = refused output_room

-- an answer of a writer that looks at no pattern
abbrev pub answered : Result ℕ store.NoRoom → Result ℕ WriteError
answered (Ok n) = Ok n
answered (Err e) = Err NoRoom

-- the new length of an output with so much room, where the texts that a stage gives come behind its first `used` bytes
unfoldable pub length_with : ℕ → ℕ → Outcome (List Text) → Outcome ℕ
length_with room used o = o >>= λ l. pick (leb (used + record_bytes l) room) (done (used + record_bytes l)) (refused output_room)

-- what an answer says of the stage and of the bytes
pub data Says (o : Outcome (List Text)) (used : ℕ) (old left : Text) : Result ℕ WriteError → Type 0 where
  len : {n : ℕ} (l : List Text) → o ≡ done l → n ≡ used + record_bytes l → n ≤ length old → left ≡ placed used (written l) old →
      Says o used old left (Ok n)
  class : o ≡ refused bracket_class → Says o used old left (Err BadClass)
  no_room : (l : List Text) → o ≡ done l → length old < used + record_bytes l → Says o used old left (Err NoRoom)

-- a field with a bracket class is refused before a byte is written
abbrev pub Spares : Result ℕ WriteError → Text → Text → Type 0
Spares (Ok n) old left = Unit {0}
Spares (Err BadClass) old left = left ≡ old
Spares (Err NoRoom) old left = Unit {0}

-- what comes of a field that is settled in a table of so many words: an answer, or that the field has too many units for them, and all is as it was
abbrev pub TriedSays : Outcome (List Text) → ℕ → Text → Text → ℕ → Text → Text → Option (Result ℕ WriteError) → Type 0
TriedSays o used old left words field spent (Some r) = Says o used old left r × Spares r old left
TriedSays o used old left words field spent None = (left ≡ old) × (spent ≡ field) × (3 * (2 * words) < 4 * length field)

pub record Puts (o : Outcome (List Text)) (used : ℕ) (old left : Text) (r : Result ℕ WriteError) : Type 0 where
  pub answers : written_outcome r ≡ length_with (length old) used o
  pub says : Says o used old left r

-- the same of one field
pub record PutsOne (o : Outcome (List Text)) (used : ℕ) (old left : Text) (r : Result ℕ WriteError) : Type 0 where
  pub puts : Puts o used old left r
  pub spares : Spares r old left
