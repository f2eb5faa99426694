-- What the search from the loop's place on finds is what the whole search finds.
use Rattle.std.proofs.Common.{◌≡◌, ◌-◌, ◌≤◌, true, length}
use Rattle.pattern_element.specs.Ends.{sought_from}
use Rattle.pattern_element.proofs.search_end.Given as goal

abbrev pub invariant-loop-at : goal.invariant-loop-at
invariant-loop-at l = record {
  inside : l.at ≤ length l.pattern;
  same : sought_from l.width l.path true l.pattern l.fn.from ≡ sought_from l.width l.path l.first l.pattern l.at;
}

abbrev pub decreases-loop-at : goal.decreases-loop-at
decreases-loop-at l = length l.pattern - l.at
