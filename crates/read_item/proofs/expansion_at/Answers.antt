-- The byte after the `$` decides.
use mathlib.Core.Path.{sym, ◌∙◌}
use Rattle.read_item.proofs.Class.{second}
use Rattle.read_item.proofs.Dollars.{no_name, dollar_end, dollar_name, dollar_paren, dollar_brace, dollar_special}
use Rattle.read_item.proofs.expansion_at.Goals as goal

pub returns-then-at-text : goal.returns-then-at-text
returns-then-at-text c = dollar_end c.args.text.now c.args.from c.requires c.if-at-text.true

pub returns-then-in_class : goal.returns-then-in_class
returns-then-in_class c =
    let a = c.args in
    dollar_name (second a.text.now a.from c.if-at-text.false) (sym c.in_class.ensures ∙ c.if-in_class.true)
    c.run_end-to.result c.run_end-to.ensures

pub returns-then-b-eq40 : goal.returns-then-b-eq40
returns-then-b-eq40 c =
    let a = c.args in
    dollar_paren (no_name a.text.now a.from c.if-at-text.false (sym c.in_class.ensures ∙ c.if-in_class.false)) c.if-b-eq40.true
    c.parenthesis_at.result c.parenthesis_at.ensures

pub returns-then-b-eq123 : goal.returns-then-b-eq123
returns-then-b-eq123 c =
    let a = c.args in
    dollar_brace (no_name a.text.now a.from c.if-at-text.false (sym c.in_class.ensures ∙ c.if-in_class.false)) c.if-b-eq40.false c.if-b-eq123.true
    c.braced_at.result c.braced_at.ensures

pub returns : goal.returns
returns c =
    let a = c.args in
    dollar_special (no_name a.text.now a.from c.if-at-text.false (sym c.in_class.ensures ∙ c.if-in_class.false)) c.if-b-eq40.false c.if-b-eq123.false
    c.special_at.result c.special_at.ensures
