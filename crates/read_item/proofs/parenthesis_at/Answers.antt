-- A second parenthesis decides, then the depth.
use mathlib.Core.Path.{sym, ◌∙◌}
use Rattle.read_item.proofs.Class.{paren_other, paren_deep, paren_opens}
use Rattle.read_item.proofs.parenthesis_at.Goals as goal

pub returns-then-from-eq0 : goal.returns-then-from-eq0
returns-then-from-eq0 c =
    let a = c.args in paren_deep a.text.now a.from (sym c.is_at.ensures ∙ c.if-is_at.true) c.if-from-eq0.true

pub returns-then-is_at : goal.returns-then-is_at
returns-then-is_at c =
    let a = c.args in paren_opens a.text.now a.from (sym c.is_at.ensures ∙ c.if-is_at.true) c.if-from-eq0.false

pub returns : goal.returns
returns c = let a = c.args in paren_other a.text.now a.from (sym c.is_at.ensures ∙ c.if-is_at.false)
