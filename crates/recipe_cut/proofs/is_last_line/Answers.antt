-- Bytes make a line unless there are none.
use Rattle.std.proofs.Common.{◌∙◌, ap}
use mathlib.Core.Bool.{not}
use Rattle.recipe_cut.proofs.Taking.{last_is}
use Rattle.recipe_cut.proofs.is_last_line.Goals as goal

pub returns : goal.returns
returns c = ap not c.is_empty.ensures ∙ last_is c.args.line.now
