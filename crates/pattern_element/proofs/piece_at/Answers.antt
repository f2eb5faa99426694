-- The active byte at the place decides, tried in the order of the definition.
use Rattle.std.proofs.Common.{sym, ◌∙◌}
use Rattle.pattern_element.proofs.Searches.{piece_star, piece_one, piece_bracket, piece_byte}
use Rattle.pattern_element.proofs.piece_at.Goals as goal

pub returns-then-is_live : goal.returns-then-is_live
returns-then-is_live c =
    let a = c.args in
    piece_star a.width a.path a.pattern.now a.at c.requires.width_in_bounds (sym c.is_live.ensures ∙ c.if-is_live.true)

pub returns-then-is_live-2 : goal.returns-then-is_live-2
returns-then-is_live-2 c =
    let a = c.args in
    piece_one a.width a.path a.pattern.now a.at c.requires.width_in_bounds (sym c.is_live.ensures ∙ c.if-is_live.false)
    (sym c.is_live-2.ensures ∙ c.if-is_live-2.true)

pub returns-then-is_live-3 : goal.returns-then-is_live-3
returns-then-is_live-3 c =
    let a = c.args in
    c.bracket_at.ensures
    ∙ rw c.unit_size.ensures
    (piece_bracket a.width a.path a.pattern.now a.at c.requires.width_in_bounds (sym c.is_live.ensures ∙ c.if-is_live.false)
    (sym c.is_live-2.ensures ∙ c.if-is_live-2.false) (sym c.is_live-3.ensures ∙ c.if-is_live-3.true))

pub returns : goal.returns
returns c =
    let a = c.args in
    piece_byte a.width a.path a.pattern.now a.at c.requires.width_in_bounds (sym c.is_live.ensures ∙ c.if-is_live.false)
    (sym c.is_live-2.ensures ∙ c.if-is_live-2.false) (sym c.is_live-3.ensures ∙ c.if-is_live-3.false)
