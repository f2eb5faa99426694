-- The path that is met counts, and those ahead are still to be counted.
use Rattle.test_measured.proofs.Counting.{counting_start, counting_end, counting_on}
use Rattle.test_measured.proofs.count_paths.Goals as goal

pub loop-path-init : goal.loop-path-init
loop-path-init c = λ es h. counting_start es c.args.paths.now c.requires.0

pub loop-path-preserved : goal.loop-path-preserved
loop-path-preserved c = λ es h. counting_on (c.next_path.ensures es h) (c.loop-path.invariant es h) c.in-Some.is

pub returns : goal.returns
returns c = λ es h. counting_end (c.next_path.ensures es h) (c.loop-path.invariant es h) c.in_default.is
