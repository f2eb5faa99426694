-- A file is settled where its bytes stand.
use Rattle.recipe_load.proofs.Reading.{settled_file}
use Rattle.recipe_load.proofs.settle.Goals as goal

pub returns-in-Some : goal.returns-in-Some
returns-in-Some c = settled_file c.args.buffer.now c.clear_behind.new.buffer c.in_ok-n.was c.in-Some.is c.requires.1 c.clear_behind.ensures
