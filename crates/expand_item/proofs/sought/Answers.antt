-- An unset parameter is refused if the switch is on; else its value is given.
use Rattle.std.proofs.Common.{sym, ap, ◌∙◌}
use Rattle.stages.specs.Bytes.{Text}
use Rattle.stages.specs.Outcome.{done}
use Rattle.stages.specs.Images.{held, held_texts}
use Rattle.read_brace.specs.Shows.{param_of}
use Rattle.expand_item.proofs.Seeking.{sought_refuses, sought_gives}
use Rattle.expand_item.proofs.sought.Goals as goal

pub returns-then-must_shout : goal.returns-then-must_shout
returns-then-must_shout c =
    let a = c.args in
    sought_refuses a.shouts (held_texts a.params.now) (held a.vars.now) (param_of a.text.now a.param)
    (sym c.must_shout.ensures ∙ c.if-must_shout.true)

pub returns : goal.returns
returns c =
    let a = c.args in
    sought_gives a.shouts (held_texts a.params.now) (held a.vars.now) (param_of a.text.now a.param)
    (sym c.must_shout.ensures ∙ c.if-must_shout.false)
    ∙ ap (λ (t : Text). done t) (sym c.value_of.ensures)
