-- The records of the lines passed stand as an image, and those ahead are left.
use Rattle.std.proofs.Common.{◌≡◌, ◌+◌, ◌-◌, length}
use Rattle.tab_pack.proofs.Going.{Going}
use Rattle.tab_pack.proofs.pack.Given as goal

abbrev pub invariant-loop-at : goal.invariant-loop-at
invariant-loop-at l = Going l.kind l.text l.initial.image l.image l.used l.at l.line × (length l.work ≡ length l.initial.work)

abbrev pub decreases-loop-at : goal.decreases-loop-at
decreases-loop-at l = length l.text + 1 - l.at
