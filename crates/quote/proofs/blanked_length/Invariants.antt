-- `quote::blanked_length`: what is counted and what the fields ahead take are together what they all take.
use Rattle.std.proofs.Common.{length, ◌-◌}
use Rattle.quote.proofs.Walks.{Counts}
use Rattle.quote.proofs.blanked_length.Given as goal

abbrev pub invariant-loop-end : goal.invariant-loop-end
invariant-loop-end l = Counts l.fields l.from l.at l.n

abbrev pub decreases-loop-end : goal.decreases-loop-end
decreases-loop-end l = length l.fields - l.at
