-- Each byte that is passed over differs from the cell's and is one that a star may take.
use Rattle.pattern_match.specs.Steps.{Skips}
use Rattle.pattern_match.proofs.skip.Given as goal

abbrev pub invariant-loop-k : goal.invariant-loop-k
invariant-loop-k l = Skips l.path l.first l.cell l.text l.since l.k
