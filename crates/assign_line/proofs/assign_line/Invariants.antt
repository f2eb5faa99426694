-- The variables hold what the assignments so far left, and those that are left give the rest. An assignment has a byte, so what is left of the line falls.
use Rattle.std.proofs.Common.{length, take, ◌-◌}
use Rattle.stages.specs.Images.{held}
use Rattle.table.specs.Around.{lent_of}
use Rattle.assign_line.specs.Answers.{line_outcome}
use Rattle.assign_line.proofs.Standing.{State}
use Rattle.assign_line.proofs.assign_line.Given as goal

abbrev pub invariant-loop-place : goal.invariant-loop-place
invariant-loop-place l =
    State l.line l.homes l.params l.extent.vars_room l.extent.shouts
    (line_outcome (lent_of l.extent.vars_room l.extent.shouts l.homes l.params) l.line (held (take l.extent.vars_used l.initial.vars)))
    l.at l.vars_used l.vars l.work

abbrev pub decreases-loop-place : goal.decreases-loop-place
decreases-loop-place l = length l.line - l.at
