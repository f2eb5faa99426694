-- The byte behind the backslash decides.
use Rattle.std.proofs.Common.{rules, sym, ◌∙◌}
use Rattle.read_escape.proofs.Places.{escape_ends, escape_x, escape_digits, escape_none, escape_letter}
use Rattle.read_escape.proofs.escape_at.Goals as goal

pub returns-then-from-text : goal.returns-then-from-text
returns-then-from-text c = escape_ends c.args.text.now c.args.at c.if-from-text.true

pub returns-then-b-eq120 : goal.returns-then-b-eq120
returns-then-b-eq120 c = escape_x c.args.text.now c.args.at c.if-from-text.false c.if-b-eq120.true c.behind_x.result c.behind_x.ensures

pub returns-then-in_class : goal.returns-then-in_class
returns-then-in_class c =
    escape_digits c.args.text.now c.args.at c.if-from-text.false c.if-b-eq120.false (sym c.in_class.ensures ∙ c.if-in_class.true)
    c.digits_at.result c.digits_at.ensures

pub returns-in_default : goal.returns-in_default
returns-in_default c =
    escape_none c.args.text.now c.args.at c.if-from-text.false c.if-b-eq120.false (sym c.in_class.ensures ∙ c.if-in_class.false) c.in_default.ensures

pub returns : goal.returns
returns c =
    escape_letter c.args.text.now c.args.at c.if-from-text.false c.if-b-eq120.false (sym c.in_class.ensures ∙ c.if-in_class.false)
    c.in-Some.byte c.in-Some.ensures (search rules)
