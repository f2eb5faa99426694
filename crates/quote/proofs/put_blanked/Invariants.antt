-- `quote::put_blanked`: the fields passed stand in the buffer, each behind its blank, and those ahead are left.
use Rattle.std.proofs.Common.{length, ◌-◌}
use Rattle.quote.proofs.Walks.{Fills}
use Rattle.quote.proofs.put_blanked.Given as goal

abbrev pub invariant-loop-end : goal.invariant-loop-end
invariant-loop-end l = Fills l.fields l.from l.at l.initial.out l.out l.used

abbrev pub decreases-loop-end : goal.decreases-loop-end
decreases-loop-end l = length l.fields - l.at
