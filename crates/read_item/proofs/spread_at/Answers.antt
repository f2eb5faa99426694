-- The mode decides.
use mathlib.Core.Path.{sym, ap, ◌∙◌}
use Rattle.text.specs.Cases.{lists_of}
use Rattle.read_item.proofs.Dollars.{spread_served, spread_barred}
use Rattle.read_item.proofs.spread_at.Goals as goal

pub returns-then-lists_in : goal.returns-then-lists_in
returns-then-lists_in c =
    spread_served c.args.text.now c.args.from c.requires
    (sym c.lists_in.ensures ∙ ap lists_of c.if-lists_in.true) c.is_apart.result
    c.is_apart.ensures

pub returns : goal.returns
returns c =
    let a = c.args in
    spread_barred a.text.now a.from (sym c.lists_in.ensures ∙ ap lists_of c.if-lists_in.false)
