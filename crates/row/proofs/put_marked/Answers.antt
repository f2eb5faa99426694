-- The bytes passed stand as units at the front, and the rest of the area is as it was.
use Rattle.std.proofs.Common.{refl, arith}
use Rattle.row.proofs.Laws.{units, units_next, units_all}
use Rattle.row.proofs.put_marked.Goals as goal

pub loop-at-init : goal.loop-at-init
unfolding units
loop-at-init c = refl

pub loop-at-preserved : goal.loop-at-preserved
loop-at-preserved c = units_next c.loop-at.at _ c.args.text.now c.args.area.now (omega arith) (omega arith) c.loop-at.invariant

pub returns : goal.returns
returns c = units_all c.loop-at.at _ _ c.args.text.now c.args.area.now (omega arith) c.into-m.ensures c.loop-at.invariant
