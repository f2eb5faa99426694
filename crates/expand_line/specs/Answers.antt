-- What a word and a line give: by cases on the code's answer, an equation with the stage, and what stands in the lent bytes then.
use Rattle.std.specs.Prelude.{ℕ, ◌+◌, ◌≤◌, ◌<◌, ◌≡◌, true, List, [], ◌∷◌, ◌⊎◌, length, take, get_or, Option, Some, None, Result, Ok, Err}
use Prim.Native.Char.{code}
use Rattle.stages.specs.Numbers.{depth_limit, line_limit, work_least, image_limit, output_room}
use Rattle.stages.specs.Bytes.{Text, part, all, not_zero, is_bare_byte}
use Rattle.stages.specs.Outcome.{Outcome, refused, demands, done, ◌>>=◌, Placed, refused_at, demands_at, done_at, ◌then◌, pick}
use Rattle.stages.specs.Images.{Pairs, held, is_some, homes_of, paths_of, fields_of, written, image, record_bytes}
use Rattle.stages.specs.Syntax.{Parts, Word}
use Rattle.stages.specs.Read.{Taken, read_line}
use Rattle.stages.specs.Line.{Around, Fields, word_fields, out_fits, expand_words}
use Rattle.stages.specs.Call.{over}
use Rattle.read_mode.specs.declared.Mode.TheVariants as mode
use Rattle.read_still.specs.Walks.{Leaves}
use Rattle.table_store.specs.Holding.{Holds}
use Rattle.expand_add.specs.Answers.{Ready, Waits, Ends}
use Rattle.table_store.specs.Splice.{placed}
use Rattle.text.specs.Refusals.{refusal_number}
use Rattle.expand_add.specs.declared.answers.Stop.{Stop}
use Rattle.expand_add.specs.declared.answers.Stop.TheVariants.{Refused, Demanded}
use Rattle.expand_add.specs.declared.answers.LineStop.{LineStop}
use Rattle.read_still.specs.declared.StillWord.{StillWord}
use Rattle.expand_line.specs.declared.WordDone.{WordDone}
use Rattle.expand_line.specs.declared.LineDone.{LineDone}

-- a word's fields behind an image of n bytes, and the variables behind its stores: 21 if there is no room for them
unfoldable pub word_outcome : Around → Parts → ℕ → Pairs → Outcome (Fields × Pairs)
word_outcome a p n v = word_fields a p v >>= λ r. pick (out_fits a (n + record_bytes r.0)) (done r) (refused output_room)

-- a line's fields, once it is read
abbrev pub line_outcome : Around → Text → Pairs → Placed (Fields × Pairs)
line_outcome a t v = read_line t then λ ws. expand_words a ws 1 v

-- the word at a place is read, and there is room for its row; the tables are well formed, and `used` bytes of the output are
pub record WordReady (text : Text) (at : ℕ) (vars : Text) (vars_used room : ℕ) (houses params paths work out : Text) (used : ℕ) : Type 0 where
  pub ready : Ready text at (mode.Word true) depth_limit 0 (length work)
  pub holds : Holds room vars vars_used
  pub housed : is_some (homes_of houses) ≡ true
  pub handed : is_some (fields_of params) ≡ true
  pub listed : is_some (paths_of paths) ≡ true
  pub low : used ≤ length out
  pub few : length out ≤ image_limit

-- the word from `at` to r is bare, and a blank or the line's end stands behind it
pub record BareTo (line : Text) (at r : ℕ) : Type 0 where
  pub some : at < r
  pub within : r ≤ length line
  pub few : r ≤ at + line_limit
  pub bare : all is_bare_byte (part line at r) ≡ true
  pub ends : (r ≡ length line) ⊎ ((r < length line) × (get_or line r 0 ≡ code " "))

abbrev pub BareSays : Text → ℕ → Option ℕ → Type 0
BareSays line at (Some r) = BareTo line at r
BareSays line at None = Unit {0}

-- the bytes of a word in which nothing is expanded stand at the front of the work area
pub record CopiesTo (line : Text) (at : ℕ) (old left : Text) (len next : ℕ) : Type 0 where
  pub some : at < next
  pub is : Leaves line at old left len next
  pub few : next ≤ at + line_limit

abbrev pub CopiesStill : Text → ℕ → Text → Text → Option StillWord → Type 0
CopiesStill line at old left (Some w) = CopiesTo line at old left w.len w.next
CopiesStill line at old left None = Unit {0}

-- a bare word is written behind the first `used` bytes, or there is no room for it
abbrev pub PutsBare : Text → ℕ → ℕ → ℕ → Text → Text → Result WordDone Stop → Type 0
PutsBare t next vars_used used old out (Ok w) =
    (w.used ≡ used + record_bytes (t ∷ [])) × (w.used ≤ length old) × (out ≡ placed used (written (t ∷ [])) old) × (w.next ≡ next) ×
    (w.vars_used ≡ vars_used)
PutsBare t next vars_used used old out (Err (Refused e)) = (refusal_number e ≡ output_room) × (length old < used + record_bytes (t ∷ []))
PutsBare t next vars_used used old out (Err (Demanded from len)) = ⊥

-- a word's fields are written, and behind it stands `rest`
pub record IsFields (a : Around) (made : Outcome (Fields × Pairs)) (rest text : Text) (at used : ℕ) (vars old out : Text) (len next vars_used : ℕ) :
    Type 0 where
  pub fields : Fields
  pub is : made ≡ done (fields, held (take vars_used vars))
  pub long : len ≡ used + record_bytes fields
  pub fits : len ≤ length old
  pub stands : out ≡ placed used (written fields) old
  pub holds : Holds a.lent.room vars vars_used
  pub ends : Ends text at next rest

-- a word demands a message, which waits in the work area
pub record WordDemands (made : Outcome (Fields × Pairs)) (work : Text) (from len : ℕ) : Type 0 where
  pub message : Text
  pub is : made ≡ demands message
  pub waits : Waits message work from len

abbrev pub WordOf : Around → Outcome (Fields × Pairs) → Text → Text → ℕ → ℕ → Text → Text → Text → Text → Result WordDone Stop → Type 0
WordOf a made rest text at used vars old out work (Ok w) = IsFields a made rest text at used vars old out w.used w.next w.vars_used
WordOf a made rest text at used vars old out work (Err (Refused e)) = made ≡ refused (refusal_number e)
WordOf a made rest text at used vars old out work (Err (Demanded from len)) = WordDemands made work from len

-- the answer of a word, whatever it is read as
pub record WordSays (a : Around) (o : Taken) (text : Text) (at used : ℕ) (v : Pairs) (vars old out work : Text) (r : Result WordDone Stop) : Type 0 where
  pub says : (p : Parts × Text) → o ≡ done p → WordOf a (word_outcome a p.0 used v) p.1 text at used vars old out work r

-- the line is read and no byte of it is zero; the tables are well formed; the empty fields image has room
pub record LineReady (text vars : Text) (vars_used room : ℕ) (houses params paths work out : Text) : Type 0 where
  pub words : List Word
  pub read : read_line text ≡ done_at words
  pub clean : all not_zero text ≡ true
  pub holds : Holds room vars vars_used
  pub housed : is_some (homes_of houses) ≡ true
  pub handed : is_some (fields_of params) ≡ true
  pub listed : is_some (paths_of paths) ≡ true
  pub area : work_least ≤ length work
  pub byte : 1 ≤ length out
  pub few : length out ≤ image_limit

-- the fields' image stands at the front of the output, and the variables' image in its bytes
pub record IsLine (room : ℕ) (o : Placed (Fields × Pairs)) (vars old out : Text) (len vars_used : ℕ) : Type 0 where
  pub fields : Fields
  pub is : o ≡ done_at (fields, held (take vars_used vars))
  pub long : len ≡ length (image fields)
  pub fits : len ≤ length old
  pub stands : out ≡ over (image fields) old
  pub holds : Holds room vars vars_used

-- a word of the line demands a message, which waits in the work area
pub record LineDemands (o : Placed (Fields × Pairs)) (work : Text) (from len place : ℕ) : Type 0 where
  pub message : Text
  pub is : o ≡ demands_at message place
  pub waits : Waits message work from len

abbrev pub LineStops : Placed (Fields × Pairs) → Text → Stop → ℕ → Type 0
LineStops o work (Refused e) place = o ≡ refused_at (refusal_number e) place
LineStops o work (Demanded from len) place = LineDemands o work from len place

abbrev pub LineSays : ℕ → Placed (Fields × Pairs) → Text → Text → Text → Text → Result LineDone LineStop → Type 0
LineSays room o vars old out work (Ok d) = IsLine room o vars old out d.used d.vars_used
LineSays room o vars old out work (Err e) = LineStops o work e.stop e.place
