-- The places from the last on down.
use Rattle.pattern_remove.proofs.Placing.{fall_start, fall_short, fall_found}
use Rattle.pattern_remove.proofs.last_place.Goals as goal

pub returns-then-top-segment : goal.returns-then-top-segment
returns-then-top-segment c = fall_short c.args.value.now c.if-top-segment.true

pub loop-place-init : goal.loop-place-init
loop-place-init c = fall_start c.args.sets.now c.args.segment.now c.args.value.now c.args.top c.if-top-segment.false

pub returns-then-stands_at : goal.returns-then-stands_at
returns-then-stands_at c = fall_found c.loop-place.invariant c.loop-place-test.true c.stands_at.ensures c.if-stands_at.true
