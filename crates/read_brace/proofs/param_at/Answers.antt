-- The first byte decides.
use mathlib.Core.Path.{sym, ◌∙◌}
use Rattle.read_brace.proofs.Braces.{called_name, called_number, called_none}
use Rattle.read_brace.proofs.param_at.Goals as goal

pub returns-then-in_class : goal.returns-then-in_class
returns-then-in_class c =
    let a = c.args in
    called_name a.text.now a.at c.requires
    (sym c.in_class.ensures ∙ c.if-in_class.true) c.run_end-to.result c.run_end-to.ensures

pub returns-then-is_first_digit : goal.returns-then-is_first_digit
returns-then-is_first_digit c =
    let a = c.args in
    called_number a.text.now a.at c.requires
    (sym c.in_class.ensures ∙ c.if-in_class.false)
    (sym c.is_first_digit.ensures ∙ c.if-is_first_digit.true)
    c.run_end-to-then-is_first_digit.result c.run_end-to-then-is_first_digit.ensures

pub returns : goal.returns
returns c =
    let a = c.args in
    called_none a.text.now a.at c.requires
    (sym c.in_class.ensures ∙ c.if-in_class.false) (sym c.is_first_digit.ensures ∙ c.if-is_first_digit.false)
