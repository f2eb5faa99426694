-- The mode decides.
use mathlib.Core.Path.{sym, ap, ◌∙◌}
use Rattle.text.specs.Cases.{lists_of}
use Rattle.read_brace.proofs.Braces.{list_served, list_barred}
use Rattle.read_brace.proofs.list_at.Goals as goal

pub returns : goal.returns
returns c =
    let a = c.args in
    list_served a.text.now a.from (sym c.lists_in.ensures ∙ ap lists_of c.if-not-lists_in.false) c.behind_list.result
    c.behind_list.ensures

pub returns-then-not-lists_in : goal.returns-then-not-lists_in
returns-then-not-lists_in c =
    let a = c.args in
    list_barred a.text.now a.from (sym c.lists_in.ensures ∙ ap lists_of c.if-not-lists_in.true)
