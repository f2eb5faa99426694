-- Up to the star before the place at hand, the shortest prefix ends at `low`; each turn goes on behind the next star.
use Prim.Native.Nat.{◌+◌, ◌-◌}
use mathlib.Core.Path.{sym, ◌∙◌}
use native.Mathlib.Omega.{arith}
use Rattle.pattern_remove.proofs.Stars.{shown_front, shown_part}
use Rattle.pattern_remove.proofs.PrefixWalk.{turn, low_start, low_start_none, low_room, low_on, low_on_none}
use Rattle.pattern_remove.proofs.shortest_prefix.Goals as goal

pub returns-then-value-first : goal.returns-then-value-first
returns-then-value-first c = low_start_none c.requires.stars_at λ h x s. absurd (omega (arith, h, c.if-value-first.true))

pub stands_at-requires-clause-shown : goal.stands_at-requires-clause-shown
stands_at-requires-clause-shown c = shown_front c.requires.shown c.args.first

pub returns-then-not-stands_at : goal.returns-then-not-stands_at
returns-then-not-stands_at c = low_start_none c.requires.stars_at λ h x s. sym (c.stands_at.ensures x s) ∙ c.if-not-stands_at.true

pub loop-from-init : goal.loop-from-init
loop-from-init c = low_start c.requires.stars_at c.if-value-first.false c.stands_at.ensures c.if-not-stands_at.false

pub first_place-requires-clause-shown : goal.first_place-requires-clause-shown
first_place-requires-clause-shown c =
    shown_part c.requires.shown c.loop-from.from (c.loop-from.from + c.first_star-count.result - c.loop-from.from)

pub returns-in_err-low : goal.returns-in_err-low
returns-in_err-low c p s =
    rw c.from_residual.ensures
    (low_on_none (turn c.requires.shown c.requires.stars_at c.loop-from.invariant c.loop-from-test.true c.first_star-count.ensures)
    c.first_place.ensures c.in_err-low.was p s)

pub overflow_add-low : goal.overflow_add-low
overflow_add-low c =
    let h = low_room (turn c.requires.shown c.requires.stars_at c.loop-from.invariant c.loop-from-test.true c.first_star-count.ensures)
    c.first_place.ensures c.in_ok-low.was in
    omega (arith, h)

pub loop-from-preserved : goal.loop-from-preserved
loop-from-preserved c =
    low_on (turn c.requires.shown c.requires.stars_at c.loop-from.invariant c.loop-from-test.true c.first_star-count.ensures)
    c.first_place.ensures c.in_ok-low.was
