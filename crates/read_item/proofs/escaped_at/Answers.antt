-- The byte after the backslash decides.
use mathlib.Core.Path.{sym, ◌∙◌}
use Rattle.read_item.proofs.Class.{second, escape_end, escape_line, escape_byte, escape_plain}
use Rattle.read_item.proofs.escaped_at.Goals as goal

pub returns-then-at-text : goal.returns-then-at-text
returns-then-at-text c = let a = c.args in escape_end a.text.now a.from c.if-at-text.true

pub returns-then-b-eq10 : goal.returns-then-b-eq10
returns-then-b-eq10 c =
    let a = c.args in
    escape_line (second a.text.now a.from c.if-at-text.false) c.if-b-eq10.true

pub returns-then-is_quotable : goal.returns-then-is_quotable
returns-then-is_quotable c =
    let a = c.args in
    escape_byte (second a.text.now a.from c.if-at-text.false) c.if-b-eq10.false (sym c.is_quotable.ensures ∙ c.if-is_quotable.true)

pub returns : goal.returns
returns c =
    let a = c.args in
    escape_plain (second a.text.now a.from c.if-at-text.false) c.if-b-eq10.false (sym c.is_quotable.ensures ∙ c.if-is_quotable.false)
