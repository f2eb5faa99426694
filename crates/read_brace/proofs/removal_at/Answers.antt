-- Whether the sign stands twice decides the form and the place.
use mathlib.Core.Path.{sym, ap, ◌∙◌}
use mathlib.Core.Bool.{Bool}
use Rattle.stages.specs.Syntax.{removal}
use Rattle.text.specs.Cases.{reach_of}
use Rattle.read_brace.specs.Shows.{removal_side}
use Rattle.read_brace.proofs.Names.{ended, removal_doubled, removal_once}
use Rattle.read_brace.proofs.removal_at.Goals as goal

pub returns-then-doubled : goal.returns-then-doubled
returns-then-doubled c =
    let f = c.removal_form in
    removal_doubled (ended c.args.text.now c.args.from c.args.param c.requires) c.args.prefix (sym c.is_at-doubled.ensures ∙ c.if-doubled.true) f.result
    (f.ensures ∙ ap (λ (d : Bool). removal (removal_side c.args.prefix) (reach_of d)) c.if-doubled.true)

pub returns-else-doubled : goal.returns-else-doubled
returns-else-doubled c =
    let f = c.removal_form in
    removal_once (ended c.args.text.now c.args.from c.args.param c.requires) c.args.prefix (sym c.is_at-doubled.ensures ∙ c.if-doubled.false) f.result
    (f.ensures ∙ ap (λ (d : Bool). removal (removal_side c.args.prefix) (reach_of d)) c.if-doubled.false)
