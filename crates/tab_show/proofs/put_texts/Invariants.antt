-- `tab_show::put_texts`: the texts passed stand in the buffer, each with its `=` or newline, and those ahead are left.
use Rattle.std.proofs.Common.{length, ◌-◌}
use Rattle.tab_show.proofs.Writing.{Fills}
use Rattle.tab_show.proofs.put_texts.Given as goal

abbrev pub invariant-loop-end : goal.invariant-loop-end
invariant-loop-end l = Fills l.two l.image l.at l.first l.initial.out l.out l.used

abbrev pub decreases-loop-end : goal.decreases-loop-end
decreases-loop-end l = length l.image - l.at
