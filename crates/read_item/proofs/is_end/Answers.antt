-- At the line's end the mode says whether the text ends, and before a byte that byte does.
use native.Mathlib.Omega.{arith}
use Rattle.read_item.proofs.Ending.{end_of_line, end_at_byte}
use Rattle.read_item.proofs.is_end.Goals as goal

pub returns-then-at-text : goal.returns-then-at-text
returns-then-at-text c =
    let a = c.args in
    end_of_line a.text.now a.at a.mode _ c.if-at-text.true c.may_end.ensures

pub returns : goal.returns
returns c =
    let a = c.args in
    end_at_byte a.text.now a.at a.mode (omega (arith, c.if-at-text.false)) c.is_closer.ensures
