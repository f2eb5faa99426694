-- The pairs before the j-th were met: each leads on, or is no mark.
use Rattle.std.proofs.Common.{◌≤◌}
use Rattle.pattern_set.specs.Sets.{has}
use Rattle.pattern_cost.proofs.Walking.{Walked}
use Rattle.pattern_cost.proofs.walk_row.Given as goal

abbrev pub invariant-loop-j : goal.invariant-loop-j
invariant-loop-j l = record {
  walked : Walked l.star (has l.set.words) l.text l.base l.initial.area l.area l.j l.count;
  few : l.count ≤ l.j;
}
