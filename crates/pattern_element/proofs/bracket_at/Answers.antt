-- The members begin behind the `!` if there is one.
use Rattle.std.proofs.Common.{sym, ◌∙◌, arith}
use Rattle.pattern_unit.proofs.Units.{live_inside}
use Rattle.pattern_element.proofs.Searches.{bracket_others, bracket_plain}
use Rattle.pattern_element.proofs.bracket_at.Goals as goal

pub set_from-requires-clause-from_in_bounds : goal.set_from-requires-clause-from_in_bounds
set_from-requires-clause-from_in_bounds c =
    let a = c.args in
    omega (arith, c.unit_size.ensures, live_inside a.width a.pattern.now a.at 33 (sym c.is_live.ensures ∙ c.if-is_live.true))

pub returns-then-is_live : goal.returns-then-is_live
returns-then-is_live c =
    let a = c.args in
    let y = sym c.is_live.ensures ∙ c.if-is_live.true in
    c.set_from.ensures
    ∙ rw c.unit_size.ensures
    (sym (bracket_others a.width a.pattern.now a.path a.at y (live_inside a.width a.pattern.now a.at 33 y)))

pub returns : goal.returns
returns c =
    let a = c.args in
    c.set_from-2.ensures ∙ sym (bracket_plain a.width a.pattern.now a.path a.at (sym c.is_live.ensures ∙ c.if-is_live.false))
