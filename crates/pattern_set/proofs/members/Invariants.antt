-- The set holds what is listed by the units that are passed: with what the units from `at` on list, it is all that is listed.
use Rattle.std.proofs.Common.{◌≡◌, ℕ, ◌-◌, ◌≤◌, ◌<◌, ◌||◌, length, drop}
use Rattle.stages.specs.Pattern.{listed}
use Rattle.pattern_unit.specs.Widths.{signs_by}
use Rattle.pattern_set.specs.Sets.{has}
use Rattle.pattern_set.proofs.members.Given as goal

abbrev pub invariant-loop-at : goal.invariant-loop-at
invariant-loop-at l = record {
  inside : l.at ≤ length l.units;
  lists : (k : ℕ) → k < 256
      → listed 0 (signs_by l.width l.units) k ≡ (has l.set.words k || listed 0 (signs_by l.width (drop l.at l.units)) k);
}

abbrev pub decreases-loop-at : goal.decreases-loop-at
decreases-loop-at l = length l.units - l.at
