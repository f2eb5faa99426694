-- What a line is as a record: of variables or homes a key, `=` and the value's text, of paths the path's text; and what entering it among others gives.
use Rattle.std.specs.Prelude.{ℕ, suc, ◌≡◌, Bool, true, false, [], ◌∷◌, leb, length, take, drop, Result, Ok, Err}
use Rattle.std.proofs.Math.Option.{Option, none, some}
use Rattle.stages.specs.Bytes.{Text}
use Rattle.stages.specs.Outcome.{pick}
use Rattle.stages.specs.Images.{Pairs, image, image_length, lookup, stored}
use Rattle.stages.specs.Call.{over}
use Rattle.table.specs.Kinds.{key_fits}
use Rattle.table.specs.declared.Kind.{Kind}
use Rattle.table.specs.declared.Kind.TheVariants.{Variables, Homes, Paths, Fields}
use Rattle.tab_enter.specs.Records.{texts_by, limit_by}
use Rattle.tab_escape.specs.Escapes.{Reading, bad, good, read_text, up_to}
use Rattle.tab_escape.specs.declared.Fault.{Fault}
use Rattle.tab_escape.specs.declared.Fault.TheVariants.{NoEquals, NoKey, Twice, TooLong}
use Rattle.table_insert.specs.declared.AddError.{AddError}
use Rattle.table_insert.specs.declared.AddError.TheVariants as error

-- a record, or why a line is none
pub data Entry : Type 0 where
  faulty : Fault → Entry
  entry : Text → Text → Entry

abbrev pub valued : Text → Reading → Entry
valued key (bad f u) = faulty f
valued key (good t) = entry key t

-- by the place of the first `=`
abbrev pub entry_at : Kind → Text → ℕ → Entry
entry_at kind line e =
    pick (leb (length line) e) (faulty NoEquals)
    (pick (key_fits kind [] (take e line)) (valued (take e line) (read_text (drop (suc e) line))) (faulty NoKey))

unfoldable pub pair_of : Kind → Text → Entry
pair_of kind line = entry_at kind line (up_to 61 line)

-- a path is not empty
abbrev pub path_of : Reading → Entry
path_of (bad f u) = faulty f
path_of (good []) = faulty NoKey
path_of (good (b ∷ t)) = entry (b ∷ t) []

-- fields have no keys, and no line is a record of them
unfoldable pub entry_of : Kind → Text → Entry
unfolding pair_of read_text
entry_of Variables line = pair_of Variables line
entry_of Homes line = pair_of Homes line
entry_of Paths line = path_of (read_text line)
entry_of Fields line = faulty NoKey

-- the records with one more, or why not
pub data Step : Type 0 where
  stop : Fault → Step
  go : Pairs → Step

abbrev pub entered_by : Option Text → Bool → Pairs → Step
entered_by (some t) fits v = stop Twice
entered_by none false v = stop TooLong
entered_by none true v = go v

unfoldable pub entered : Bool → Entry → Pairs → Step
unfolding lookup stored image_length
entered two (faulty f) v = stop f
entered two (entry key t) v = entered_by (lookup key v) (leb (image_length (texts_by two (stored key t v))) (limit_by two)) (stored key t v)

-- why a path is not entered
abbrev pub fault_of_lem : AddError → Fault
fault_of_lem error.Twice = Twice
fault_of_lem error.NoRoom = TooLong

-- what entering a record answers and leaves
pub data Enters (two : Bool) (o : Step) (old left : Text) : Result ℕ Fault → Type 0 where
  takes : {w : Pairs} {n : ℕ} → o ≡ go w → n ≡ image_length (texts_by two w) → left ≡ over (image (texts_by two w)) old
      → Enters two o old left (Ok n)
  stops : {f : Fault} → o ≡ stop f → left ≡ old → Enters two o old left (Err f)
