-- A turn, and what turns come to: what was read so far is cut into lines, each is answered as it ends, and what is left of the last one is held.
use Rattle.std.specs.Prelude.{ℕ, ◌≤◌, ◌≡◌, List, [], ◌∷◌, ◌++◌, length, take}
use Rattle.std.proofs.Math.Option.{none, some}
use Rattle.stages.specs.Bytes.{Text}
use Rattle.stages.specs.Call.{over, cleared}
use Rattle.stages.specs.Program.{Variables, lines_of, said_of, told_of, number_after, after_lines}
use Rattle.text.specs.Putting.{Puts}
use Rattle.recipe_cut.specs.Lines.{line_kept, kept_of, came, behind, next_place, Cuts, Holding}
use Rattle.recipe_cut.specs.Said.{written_room}
use Rattle.recipe_answer.specs.Says.{variables, Says}
use Rattle.recipe_answer.specs.declared.Carried.{Carried}
use Rattle.recipe_answer.specs.declared.Turn.{Turn}
use Rattle.recipe_answer.specs.declared.Turn.TheVariants.{Open, Answered}

-- what is kept of a line fits its buffer, and what can be said and told of one the words'
pub record Ready (line said : Text) (kept : ℕ) : Type 0 where
  pub most : kept ≤ line_kept
  pub room : line_kept ≤ length line
  pub words : written_room ≤ length said

-- the buffers that a turn changes
pub record Buffers : Type 0 where
  pub line : Text
  pub vars : Text
  pub said : Text

abbrev pub buffers : Text → Text → Text → Buffers
buffers line vars said = record { line = line; vars = vars; said = said }

-- what is kept of the line with what came of it in the block
abbrev pub grown : Text → ℕ → Text → ℕ → Text
grown line kept block at = kept_of (take kept line ++ came block at)

-- the block ran out: what came is kept, and nothing is said
pub record Stays (kept : ℕ) (block : Text) (at : ℕ) (b c : Buffers) (n : ℕ) : Type 0 where
  pub runs_out : next_place block (behind block at) ≡ none
  pub keeps : Puts (grown b.line kept block at) b.line c.line n
  pub same_vars : c.vars ≡ b.vars
  pub same_said : c.said ≡ b.said

-- the line ended: its answer is said, and what it demands is told, by its number and the variables as they stand
pub record Tells (homes paths params : Text) (k : Carried) (block : Text) (at : ℕ) (b c : Buffers) (len told used next : ℕ) : Type 0 where
  pub ends : next_place block (behind block at) ≡ some next
  pub keeps : c.line ≡ over (grown b.line k.kept block at) b.line
  pub says : Says homes paths params (variables b.vars k.vars_used k.shouts) k.line (grown b.line k.kept block at ∷ []) b.said c.said
      c.vars (record { len = len; told = told; vars_used = used })

pub data Turned (homes paths params : Text) (k : Carried) (block : Text) (at : ℕ) (b c : Buffers) : Turn → Type 0 where
  stays : {n : ℕ} → Stays k.kept block at b c n → Turned homes paths params k block at b c (Open n)
  tells : {len told used next : ℕ} → Tells homes paths params k block at b c len told used next
      → Turned homes paths params k block at b c (Answered len told used next)

-- the work area after a turn, and after lines: zero where a line was answered
abbrev pub area_after : Turn → Text → Text
area_after (Open n) work = work
area_after (Answered len told used next) work = cleared work

abbrev pub area_after_lines : List Text → Text → Text
area_after_lines [] work = work
area_after_lines (l ∷ ls) work = cleared work

-- what was written so far: words to standard output, messages to standard error
pub record Wrote : Type 0 where
  pub words : Text
  pub messages : Text

-- turns so far: of what was read the lines that ended are answered, in these words and with these messages, and the buffer holds what is left of the last
-- one, which has the number n
pub record Reaches (homes paths params : Text) (first : Variables) (read : Text) (w : Wrote) (line : Text) (kept n : ℕ) (now : Variables) : Type 0 where
  pub ended : List Text
  pub left : Text
  pub cuts : Cuts read ended left
  pub holds : Holding left line kept
  pub words : w.words ≡ said_of homes paths params first ended
  pub messages : w.messages ≡ told_of homes paths params first 1 ended
  pub counts : n ≡ number_after 1 ended
  pub after : now ≡ after_lines homes paths params first ended

-- turns came to their end: of the lines of what was read these are answered, in these words and with these messages; the others are not, since the system
-- failed
pub record Ran (homes paths params : Text) (first : Variables) (read : Text) (now : Variables) : Type 0 where
  pub wrote : Wrote
  pub lines : List Text
  pub others : List Text
  pub all : lines_of read ≡ lines ++ others
  pub words : wrote.words ≡ said_of homes paths params first lines
  pub messages : wrote.messages ≡ told_of homes paths params first 1 lines
  pub after : now ≡ after_lines homes paths params first lines
