-- The lines before the walk's place are applied, one after the other, and those ahead are left.
use Rattle.std.proofs.Common.{◌≡◌, ◌-◌, length}
use Rattle.tab_assign.specs.Assignings.{buffers}
use Rattle.tab_assign.proofs.Walking.{Going}
use Rattle.tab_assign.proofs.assign_lines.Given as goal

abbrev pub invariant-loop-asked : goal.invariant-loop-asked
invariant-loop-asked l =
    Going l.homes l.params l.asked.shouts l.text (buffers l.initial.vars l.asked.vars_used l.initial.work l.initial.message)
    (buffers l.vars l.used l.work l.message) l.at l.line
    × (length l.vars ≡ length l.initial.vars) × (length l.work ≡ length l.initial.work) × (length l.message ≡ length l.initial.message)

abbrev pub decreases-loop-asked : goal.decreases-loop-asked
decreases-loop-asked l = length l.text - l.at
