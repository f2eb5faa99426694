-- `table_insert::add` meets its contract: a path that is there is told, and a new one is inserted at its place if there is room.
use Rattle.std.proofs.Common.{arith}
use Rattle.table_insert.proofs.Inserting.{add_taken, is_free, is_taken, add_inserts}
use Rattle.table_insert.proofs.add.Goals as goal

pub returns-in-Ok : goal.returns-in-Ok
returns-in-Ok c = add_taken (is_taken c.place_of.ensures _ c.in-Ok.is) c.args.limit c.args.image.now

pub returns-in-Err : goal.returns-in-Err
returns-in-Err c =
    let a = c.args in
    add_inserts a.image.now a.path.now a.used _ (omega arith) (is_free c.place_of.ensures _ c.in-Err.is) c.insert.ensures
