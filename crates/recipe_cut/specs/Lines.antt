-- How a line is taken from blocks: the bytes up to the next newline, of which the first 2,049 are kept.
use Rattle.std.specs.Prelude.{ℕ, suc, ◌-◌, ◌≤◌, ◌≡◌, Bool, true, false, not, List, [], ◌∷◌, ◌++◌, eqb, length, take, drop}
use Prim.Native.Char.{code}
use Rattle.std.proofs.Math.Option.{Option, none, some}
use Rattle.stages.specs.Numbers.{line_limit}
use Rattle.stages.specs.Bytes.{Text, is_in, part, span}
use Rattle.stages.specs.Outcome.{pick}
use Rattle.stages.specs.Program.{lines_of}
use Rattle.text.specs.Putting.{Puts}
use Rattle.recipe_cut.specs.declared.Taken.{Taken}
use Rattle.recipe_cut.specs.declared.Taken.TheVariants.{Ended, Open}

abbrev pub not_newline : ℕ → Bool
not_newline b = not (eqb b (code "\n"))

-- "line above 2,048 bytes": one byte more than a line may have tells that it is too long
abbrev pub line_kept : ℕ
line_kept = suc line_limit

abbrev pub kept_of : Text → Text
kept_of t = take line_kept t

-- from a place of a block on: what is still of the line, and what begins with its newline
unfoldable pub came : Text → ℕ → Text
came block from = (span not_newline (drop from block)).0

unfoldable pub behind : Text → ℕ → Text
behind block from = (span not_newline (drop from block)).1

-- the place behind the newline, if there is one
abbrev pub next_place : Text → Text → Option ℕ
next_place block [] = none
next_place block (b ∷ t) = some (length block - length t)

-- the line from `from` on stops at `end`
pub record LineEnd (block : Text) (from end : ℕ) : Type 0 where
  pub is : span not_newline (drop from block) ≡ (part block from end, drop end block)
  pub onward : from ≤ end
  pub within : end ≤ length block

-- what an answer says: the bytes kept, and the place behind the newline
abbrev pub kept_in : Taken → ℕ
kept_in (Ended kept next) = kept
kept_in (Open kept) = kept

abbrev pub next_in : Taken → Option ℕ
next_in (Ended kept next) = some next
next_in (Open kept) = none

-- the buffer holds the first bytes of the line so far, then what it held; and the block is passed up to the next line
pub record Takes (line : Text) (kept : ℕ) (block : Text) (from : ℕ) (left : Text) (r : Taken) : Type 0 where
  pub puts : Puts (kept_of (take kept line ++ came block from)) line left (kept_in r)
  pub goes : next_in r ≡ next_place block (behind block from)

-- "an unended last one too if not empty"
abbrev pub any_line : List Text → Bool
any_line [] = false
any_line (l ∷ ls) = true

unfoldable pub has_line : Text → Bool
unfolding lines_of
has_line t = any_line (lines_of t)

-- that line, or none
unfoldable pub last_line : Text → List Text
last_line t = pick (has_line t) (t ∷ []) []

-- the lines that ended in what was read, and what is left after the last newline, whatever comes next
pub record Cuts (read : Text) (ended : List Text) (left : Text) : Type 0 where
  pub is : (later : Text) → lines_of (read ++ later) ≡ ended ++ lines_of (left ++ later)
  pub plain : is_in (code "\n") left ≡ false

-- the first bytes of a line so far, all that can matter of it, stand at the front of the line's buffer
pub record Holding (left line : Text) (kept : ℕ) : Type 0 where
  pub is : take kept line ≡ kept_of left
  pub long : kept ≡ length (kept_of left)
