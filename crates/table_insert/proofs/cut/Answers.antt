-- `table_insert::cut` meets its contract: `shift` closes the place, and `fill_zero` clears what is left behind.
use Rattle.table_insert.proofs.Removing.{cut_leaves}
use Rattle.table_insert.proofs.cut.Goals as goal

pub returns : goal.returns
returns c =
    let a = c.args in
    cut_leaves a.image.now a.used a.at a.end c.requires _ _ c.shift.ensures c.fill_zero.ensures
