-- The lines of a text as records of a table: each is entered in order, and the first line that is none is told by its number.
use Rattle.std.specs.Prelude.{ℕ, suc, ◌≡◌, Bool, List, [], ◌∷◌, length, Result, Ok, Err}
use Rattle.stages.specs.Bytes.{Text}
use Rattle.stages.specs.Images.{Pairs, image}
use Rattle.stages.specs.Call.{over}
use Rattle.table.specs.Kinds.{in_twos}
use Rattle.table.specs.declared.Kind.{Kind}
use Rattle.tab_escape.specs.declared.Fault.{Fault}
use Rattle.tab_enter.specs.Records.{texts_by}
use Rattle.tab_enter.specs.Entries.{entry_of, Step, stop, go, entered}
use Rattle.tab_pack.specs.declared.BadLine.{BadLine}

-- the records of lines; or the number of the first that is none, why, and the records before it
pub data Packing : Type 0 where
  whole : Pairs → Packing
  fault : ℕ → Fault → Pairs → Packing

abbrev pub pack_on : Step → ℕ → Pairs → (Pairs → Packing) → Packing
pack_on (stop f) n v on = fault n f v
pack_on (go w) n v on = on w

unfoldable pub packed : Kind → ℕ → Pairs → List Text → Packing
unfolding entry_of entered
packed kind n v [] = whole v
packed kind n v (line ∷ l) = pack_on (entered (in_twos kind) (entry_of kind line) v) n v (λ w. packed kind (suc n) w l)

abbrev pub bad_line : ℕ → Fault → BadLine
bad_line n f = record { line = n; fault = f }

-- what packing answers and leaves: the image stands at the front of the old bytes, at a fault that of the records before it
pub data Packs (two : Bool) (o : Packing) (old left : Text) : Result ℕ BadLine → Type 0 where
  packs : {v : Pairs} {n : ℕ} → o ≡ whole v → n ≡ length (image (texts_by two v)) → left ≡ over (image (texts_by two v)) old → Packs two
      o old left (Ok n)
  fails : {v : Pairs} {n : ℕ} {f : Fault} → o ≡ fault n f v → left ≡ over (image (texts_by two v)) old → Packs two o old left (Err (bad_line n f))
