-- From the star at hand on, the shortest suffix begins at `top`; each turn goes on to the last star before it.
use Prim.Native.Nat.{◌-◌}
use native.Mathlib.Omega.{arith}
use lib.ListN.{length}
use Rattle.pattern_remove.proofs.Stars.{shown_part}
use Rattle.pattern_remove.proofs.SuffixWalk.{turn, top_start, top_start_none, top_start_else, segment_start, segment_plain, top_on, top_on_none}
use Rattle.pattern_remove.proofs.shortest_suffix.Goals as goal

pub returns-then-value-count : goal.returns-then-value-count
returns-then-value-count c = top_start_none c.requires.stars_at λ i h x s. absurd (omega (arith, h, c.if-value-count.true))

pub stands_at-requires-clause-shown : goal.stands_at-requires-clause-shown
stands_at-requires-clause-shown c = shown_part c.requires.shown c.args.last (length c.args.cells.now - c.args.last)

pub returns-then-not-stands_at : goal.returns-then-not-stands_at
returns-then-not-stands_at c =
    top_start_else c.requires.stars_at (length c.args.value.now - (length c.args.cells.now - c.args.last)) (omega (arith, c.if-value-count.false))
    c.stands_at.ensures c.if-not-stands_at.true

pub loop-star-init : goal.loop-star-init
loop-star-init c =
    top_start c.requires.stars_at (length c.args.value.now - (length c.args.cells.now - c.args.last)) (omega (arith, c.if-value-count.false))
    c.stands_at.ensures c.if-not-stands_at.false

pub last_place-requires-clause-shown : goal.last_place-requires-clause-shown
last_place-requires-clause-shown c = shown_part c.requires.shown c.last_star-from.result (c.loop-star.star - c.last_star-from.result)

pub last_place-requires-clause-trails : goal.last_place-requires-clause-trails
last_place-requires-clause-trails c =
    segment_plain (turn c.requires.shown c.requires.stars_at c.loop-star.invariant c.loop-star-test.true c.last_star-from.ensures)

pub returns-in_err-top : goal.returns-in_err-top
returns-in_err-top c p s =
    rw c.from_residual.ensures
    (top_on_none (turn c.requires.shown c.requires.stars_at c.loop-star.invariant c.loop-star-test.true c.last_star-from.ensures)
    c.last_place.ensures c.in_err-top.was p s)

pub overflow_sub-star-in-loop-star : goal.overflow_sub-star-in-loop-star
overflow_sub-star-in-loop-star c =
    let h = segment_start (turn c.requires.shown c.requires.stars_at c.loop-star.invariant c.loop-star-test.true c.last_star-from.ensures) in
    omega (arith, h)

pub loop-star-preserved : goal.loop-star-preserved
loop-star-preserved c =
    top_on (turn c.requires.shown c.requires.stars_at c.loop-star.invariant c.loop-star-test.true c.last_star-from.ensures)
    c.last_place.ensures c.in_ok-top.was
