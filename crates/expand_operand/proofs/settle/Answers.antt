-- By what is given.
use Rattle.std.proofs.Common.{refl}
use Rattle.table.specs.Around.{lent_of}
use Rattle.read_brace.specs.Shows.{param_of}
use Rattle.row.specs.Marks.{mark_of}
use Rattle.expand_form.specs.Plans.{settled}
use Rattle.expand_operand.proofs.Finishing.{settle_value, adds_none}
use Rattle.expand_operand.proofs.settle.Goals as goal

pub returns-in-Value : goal.returns-in-Value
returns-in-Value c =
    let a = c.args in
    λ room shouts homes. rw c.in-Value.is
    (settle_value (lent_of room shouts homes a.params.now) a.vars.now a.params.now refl a.row.units a.on (param_of a.text.now a.param)
    (mark_of a.row.mark) c.give_value.new.area c.give_value.result c.give_value.ensures)

pub returns-in-Nothing : goal.returns-in-Nothing
unfolding settled
returns-in-Nothing c =
    let a = c.args in
    λ room shouts homes. rw (c.in-Nothing.is, c.row.ensures) (adds_none a.row.units a.on a.work.now c.requires.3)
