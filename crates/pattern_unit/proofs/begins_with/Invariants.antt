-- The text begins there just if what is left of it begins at the place that is reached.
use Rattle.std.proofs.Common.{◌≡◌, ◌≤◌, length, drop}
use Rattle.stages.specs.Pattern.{begin}
use Rattle.pattern_unit.specs.Widths.{signs_by}
use Rattle.pattern_unit.proofs.begins_with.Given as goal

abbrev pub invariant-loop-c : goal.invariant-loop-c
invariant-loop-c l = record {
  inside : l.k ≤ length l.units;
  left : begin l.text (signs_by l.width (drop l.fn.at l.units)) ≡ begin (drop l.c-index l.text) (signs_by l.width (drop l.k l.units));
}
