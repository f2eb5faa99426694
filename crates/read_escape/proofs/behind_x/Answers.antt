-- The byte behind the `x` decides.
use Rattle.std.proofs.Common.{sym, ◌∙◌}
use Rattle.read_escape.proofs.Places.{x_ends, x_bad, x_digits}
use Rattle.read_escape.proofs.behind_x.Goals as goal

pub returns-then-first-text : goal.returns-then-first-text
returns-then-first-text c = x_ends c.args.text.now c.args.at c.if-first-text.true

pub returns-then-not-in_class : goal.returns-then-not-in_class
returns-then-not-in_class c = x_bad c.args.text.now c.args.at c.if-first-text.false (sym c.in_class.ensures ∙ c.if-not-in_class.true)

pub returns : goal.returns
returns c =
    x_digits c.args.text.now c.args.at c.if-first-text.false (sym c.in_class.ensures ∙ c.if-not-in_class.false) c.digits_at.result c.digits_at.ensures
