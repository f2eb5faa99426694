-- The words stand behind those of the sets before; the cell is the set's number there.
use native.Mathlib.Omega.{arith}
use Rattle.pattern_settle.proofs.Settling.{cell_set}
use Rattle.pattern_settle.proofs.set_cell.Goals as goal

pub returns : goal.returns
returns c special =
    let a = c.args in
    cell_set a.width a.pattern.now a.from a.to a.negative a.used special (omega (arith, c.if-sets-at.false)) c.put_set.auto.sets c.put_set.ensures
    c.set_of-set.ensures
