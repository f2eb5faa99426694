use Rattle.std.proofs.Common.{◌≡◌, ◌*◌, ◌++◌, take, drop}
use Rattle.row.proofs.Laws.{units}
use Rattle.row.proofs.put_marked.Given as goal

abbrev pub invariant-loop-at : goal.invariant-loop-at
invariant-loop-at l = l.area ≡ units l.m (take l.at l.text) ++ drop (2 * l.at) l.initial.area
