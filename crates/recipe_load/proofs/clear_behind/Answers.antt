-- All bytes from n on are zero.
use Rattle.recipe_load.proofs.Reading.{behind_cleared}
use Rattle.recipe_load.proofs.clear_behind.Goals as goal

pub returns : goal.returns
returns c = behind_cleared c.args.buffer.now c.fill_zero.new.area c.args.n c.requires c.fill_zero.ensures
