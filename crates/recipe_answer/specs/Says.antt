-- What the program says and tells of lines, and the variables that it carries over, by the stages.
use Rattle.std.specs.Prelude.{ℕ, ◌+◌, ◌≤◌, ◌≡◌, Bool, List, ◌++◌, length}
use Rattle.stages.specs.Numbers.{work_least, row_limit}
use Rattle.stages.specs.Bytes.{Text}
use Rattle.stages.specs.Call.{over}
use Rattle.stages.specs.Program.{Variables, said_of, told_of, after_lines}
use Rattle.system.specs.Counts.{IsPrefixLen}
use Rattle.recipe_answer.specs.declared.Said.{Said}

abbrev pub variables : Text → ℕ → Bool → Variables
variables vars used shouts = record { buffer = vars; vars_used = used; shouts = shouts }

-- the work area and the message's buffer that are lent to the normaliser, by their lengths
pub record Lent (work message : Text) : Type 0 where
  pub area : work_least ≡ length work
  pub row : row_limit ≡ length message

-- the words of lines, the first of which has the number n, stand at the front of a buffer, what is told of them right behind, and the variables are as the
-- lines leave them
pub record Says (homes paths params : Text) (v : Variables) (n : ℕ) (lines : List Text) (old left vars : Text) (r : Said) : Type 0 where
  pub words : r.len ≡ length (said_of homes paths params v lines)
  pub messages : r.told ≡ length (told_of homes paths params v n lines)
  pub leaves : left ≡ over (said_of homes paths params v lines ++ told_of homes paths params v n lines) old
  pub after : variables vars r.vars_used v.shouts ≡ after_lines homes paths params v lines
  pub within : IsPrefixLen r.len left
  pub inside : r.len + r.told ≤ length left
