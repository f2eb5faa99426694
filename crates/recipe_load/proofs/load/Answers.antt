-- What was fetched is settled in the same buffer.
use Rattle.std.proofs.Common.{length}
use Rattle.recipe_load.proofs.Reading.{settles_loads}
use Rattle.recipe_load.proofs.load.Goals as goal

pub returns : goal.returns
returns c =
    let f = c.fetch-fetched in
    let s = c.settle in
    settles_loads (length c.args.buffer.now) f.new.buffer s.new.buffer f.auto.buffer f.result s.result c.requires f.ensures s.ensures
