-- The variables hold what the assignments so far left, and those that are left give the rest.
use Rattle.std.proofs.Common.{arith}
use Rattle.assign_line.proofs.Standing.{state_start, state_end, assignment_ready, state_stopped, state_further, state_next}
use Rattle.assign_line.proofs.assign_line.Goals as goal

pub loop-place-init : goal.loop-place-init
loop-place-init c =
    state_start c.args.extent.shouts c.requires

pub put_assignment-requires : goal.put_assignment-requires
put_assignment-requires c =
    assignment_ready c.args.extent.shouts c.requires c.loop-place.invariant c.in-Some.ensures

pub returns-in-Err : goal.returns-in-Err
returns-in-Err c =
    state_stopped c.args.extent.shouts c.requires c.loop-place.invariant c.in-Some.ensures c.in-Err.ensures

pub loop-place-smaller : goal.loop-place-smaller
loop-place-smaller c =
    omega (arith, state_further c.args.extent.shouts c.requires c.loop-place.invariant c.in-Some.ensures c.in-Ok.ensures)

pub loop-place-preserved : goal.loop-place-preserved
loop-place-preserved c =
    state_next c.args.extent.shouts c.requires c.loop-place.invariant c.in-Some.ensures c.in-Ok.ensures c.put_assignment.auto.work

pub returns : goal.returns
returns c =
    state_end c.args.extent.shouts c.requires c.loop-place.invariant c.in_default.ensures
