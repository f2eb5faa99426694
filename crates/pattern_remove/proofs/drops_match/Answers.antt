-- A cut beyond the bound drops nothing that matches; within it its own part decides.
use Prim.Native.Nat.{◌-◌}
use mathlib.Core.Path.{◌∙◌}
use lib.ListN.{length}
use Rattle.pattern_remove.proofs.Stars.{shown_part}
use Rattle.pattern_remove.proofs.Deciding.{bound_within, bound_out_suffix, bound_out_prefix, bound_in_prefix}
use Rattle.pattern_remove.proofs.drops_match.Goals as goal

pub returns-else-has_room : goal.returns-else-has_room
returns-else-has_room c p s =
    let a = c.args in
    c.if-has_room.false
    ∙ bound_out_suffix (bound_within a.value.now a.suffix c.requires.bounds c.in-Within.is c.requires.shown a.k c.requires.k_in_bounds) c.if-suffix.true
    c.has_room.ensures c.if-has_room.false p s

pub stands_at-requires-clause-shown : goal.stands_at-requires-clause-shown
stands_at-requires-clause-shown c = shown_part c.requires.shown c.in-Within.last (length c.args.cells.now - c.in-Within.last)

pub returns-then-has_room-2 : goal.returns-then-has_room-2
returns-then-has_room-2 c =
    let a = c.args in
    bound_in_prefix (bound_within a.value.now a.suffix c.requires.bounds c.in-Within.is c.requires.shown a.k c.requires.k_in_bounds) c.if-suffix.false
    c.has_room-in-Within.ensures c.if-has_room-2.true c.stands_at.ensures

pub returns-else-has_room-2 : goal.returns-else-has_room-2
returns-else-has_room-2 c p s =
    let a = c.args in
    c.if-has_room-2.false
    ∙ bound_out_prefix (bound_within a.value.now a.suffix c.requires.bounds c.in-Within.is c.requires.shown a.k c.requires.k_in_bounds) c.if-suffix.false
    c.has_room-in-Within.ensures c.if-has_room-2.false p s
