-- The argument is put behind the others, or is too long for that.
use Rattle.recipe_arguments.proofs.Packing.{grows_fetched, grows_long}
use Rattle.recipe_arguments.proofs.take_argument.Goals as goal

pub returns-in-Ok : goal.returns-in-Ok
returns-in-Ok c = grows_fetched c.requires.1 _ c.hear.new.image c.hear.result c.hear.ensures

pub returns-in-Err : goal.returns-in-Err
returns-in-Err c = grows_long c.requires.1
