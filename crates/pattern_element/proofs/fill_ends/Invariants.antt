-- The entries from the loop's unit on are right; the step at the unit before it looks only at these.
use Rattle.pattern_element.proofs.Filling.{Filling}
use Rattle.pattern_element.proofs.fill_ends.Given as goal

abbrev pub invariant-loop-unit : goal.invariant-loop-unit
invariant-loop-unit l = Filling l.width l.path l.pattern l.initial.ends l.ends l.unit
