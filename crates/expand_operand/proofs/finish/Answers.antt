-- By what the operand is used for.
use Rattle.std.proofs.Common.{refl, sym, false, take, arith}
use Rattle.stages.specs.Bytes.{part}
use Rattle.stages.specs.Images.{held, held_texts}
use Rattle.table.specs.Around.{lent_of}
use Rattle.read_brace.specs.Shows.{param_of}
use Rattle.row.specs.Marks.{mark_of}
use Rattle.table_store.proofs.Holding.{table_held}
use Rattle.expand_param.proofs.Holding.{value_held}
use Rattle.expand_operand.specs.Operands.{row_at}
use Rattle.expand_operand.proofs.Storing.{finish_stored, finish_number}
use Rattle.expand_operand.proofs.Finishing.{finish_given, finish_cut, finish_demanded}
use Rattle.expand_operand.proofs.finish.Goals as goal

pub cut-requires : goal.cut-requires
cut-requires c =
    let a = c.args in
    let p = c.requires in
    (p.0, table_held a.extent.vars_room a.vars.now a.extent.vars_used p.3, p.1, omega (arith, p.2.few), p.4, p.5)

pub returns-in-Given : goal.returns-in-Given
returns-in-Given c =
    let a = c.args in
    λ homes. rw c.in-Given.is
    (finish_given (lent_of a.extent.vars_room a.extent.shouts homes a.params.now) a.row.units
    (record { next = a.operand.next; vars_used = a.extent.vars_used; of_none = a.operand.of_none }) a.operand.units (param_of a.text.now a.param)
    (mark_of a.row.mark) a.work.now a.vars.now c.requires.3 c.requires.2 c.admit.ensures)

pub returns-in-Stored : goal.returns-in-Stored
returns-in-Stored c =
    let a = c.args in
    λ homes. rw c.in-Stored.is
    (finish_number (lent_of a.extent.vars_room a.extent.shouts homes a.params.now) a.row.units (part a.text.now a.param.from a.param.to)
    (mark_of a.row.mark) (row_at a.work.now a.operand.units) (held (take a.extent.vars_used a.vars.now)) a.operand.of_none c.if-param.true)

pub returns-in-Stored-2 : goal.returns-in-Stored-2
returns-in-Stored-2 c =
    let a = c.args in
    λ homes. rw c.in-Stored-2.is
    (finish_stored (lent_of a.extent.vars_room a.extent.shouts homes a.params.now) a.row.units (part a.text.now a.param.from a.param.to)
    (mark_of a.row.mark) (row_at a.work.now a.operand.units) (held (take a.extent.vars_used a.vars.now)) a.operand.of_none c.if-param.false
    a.operand.next c.assign.new.work c.assign.new.vars c.assign.result c.assign.ensures)

pub returns-in-Removed : goal.returns-in-Removed
returns-in-Removed c =
    let a = c.args in
    λ homes. rw c.in-Removed.is
    (finish_cut (lent_of a.extent.vars_room a.extent.shouts homes a.params.now) a.row.units
    (record { next = a.operand.next; vars_used = a.extent.vars_used; of_none = false }) a.operand.units (param_of a.text.now a.param)
    (mark_of a.row.mark) a.work.now a.vars.now c.requires.3 refl c.in-Removed.suffix c.in-Removed.long a.operand.of_none c.cut.new.work c.cut.result
    (sym (value_held (lent_of a.extent.vars_room a.extent.shouts homes a.params.now) (held_texts a.params.now) refl
    (held (take a.extent.vars_used a.vars.now)) (param_of a.text.now a.param))) c.cut.ensures)

pub returns-in-Demanded : goal.returns-in-Demanded
returns-in-Demanded c =
    let a = c.args in
    λ homes. finish_demanded (lent_of a.extent.vars_room a.extent.shouts homes a.params.now) a.row.units (param_of a.text.now a.param)
    (mark_of a.row.mark) (row_at a.work.now a.operand.units, held (take a.extent.vars_used a.vars.now), a.operand.of_none) a.operand.next
    c.demand.new.work a.vars.now c.in-Demanded.is c.demand.result c.demand.ensures
