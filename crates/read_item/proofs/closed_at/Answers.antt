-- An open parenthesis decides, then the byte after the `)`.
use native.Mathlib.Omega.{arith}
use Rattle.read_item.proofs.Class.{second, closed_paren, closed_end, closed_stop, closed_wrong}
use Rattle.read_item.proofs.closed_at.Goals as goal

pub returns-then-parens-gt0 : goal.returns-then-parens-gt0
returns-then-parens-gt0 c =
    let a = c.args in
    closed_paren a.text.now a.from a.parens c.requires.0 c.requires.1 (omega (arith, c.if-parens-gt0.true))

pub returns-then-at-text : goal.returns-then-at-text
returns-then-at-text c = let a = c.args in closed_end a.text.now a.from a.parens (omega (arith, c.if-parens-gt0.false)) c.if-at-text.true

pub returns-then-b-eq41 : goal.returns-then-b-eq41
returns-then-b-eq41 c =
    let a = c.args in
    closed_stop a.text.now a.from a.parens (omega (arith, c.if-parens-gt0.false)) (second a.text.now a.from c.if-at-text.false) c.if-b-eq41.true

pub returns : goal.returns
returns c =
    let a = c.args in
    closed_wrong a.text.now a.from a.parens (omega (arith, c.if-parens-gt0.false)) (second a.text.now a.from c.if-at-text.false)
    c.if-b-eq41.false c.wrong_byte.result c.wrong_byte.ensures
