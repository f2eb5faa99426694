-- The fields so far stand after the version byte, and the words that are left give the rest. A word has a byte, so what is left of the line falls.
use Rattle.std.proofs.Common.{length, take, ◌-◌}
use Rattle.stages.specs.Images.{held}
use Rattle.table.specs.Around.{among}
use Rattle.expand_line.specs.Answers.{line_outcome}
use Rattle.expand_line.proofs.Standing.{State}
use Rattle.expand_line.proofs.expand_line.Given as goal

abbrev pub invariant-loop-place : goal.invariant-loop-place
invariant-loop-place l =
    State l.line l.homes l.params l.paths l.extent.vars_room l.extent.shouts
    (line_outcome (among l.extent.vars_room l.extent.shouts l.homes l.params l.paths (length l.initial.out)) l.line
    (held (take l.extent.vars_used l.initial.vars))) l.initial.out l.at l.used l.vars_used l.vars l.work l.out

abbrev pub decreases-loop-place : goal.decreases-loop-place
decreases-loop-place l = length l.line - l.at
