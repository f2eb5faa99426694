-- `quote::put_bytes`: the bytes passed stand in the buffer, and those from `i` on are left.
use Rattle.std.proofs.Common.{length, ◌-◌}
use Rattle.quote.specs.Ways.{way_is}
use Rattle.quote.proofs.Writing.{Passed}
use Rattle.quote.proofs.put_bytes.Given as goal

abbrev pub invariant-loop-i : goal.invariant-loop-i
invariant-loop-i l = Passed (way_is l.way) l.field l.initial.out l.out l.used l.i

abbrev pub decreases-loop-i : goal.decreases-loop-i
decreases-loop-i l = length l.field - l.i
