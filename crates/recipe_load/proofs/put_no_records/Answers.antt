-- The version byte is written to zeros.
use Rattle.recipe_load.proofs.Reading.{no_records_put}
use Rattle.recipe_load.proofs.put_no_records.Goals as goal

pub returns : goal.returns
returns c = no_records_put c.args.buffer.now c.fill_zero.new.area c.requires c.fill_zero.ensures
