-- The store is the stage's, and the value that is given is the one that was stored.
use Rattle.std.proofs.Common.{refl, false, take}
use Rattle.stages.specs.Images.{held}
use Rattle.row.specs.Marks.{mark_of}
use Rattle.table_store.proofs.Holding.{table_held}
use Rattle.expand_operand.specs.Operands.{row_at}
use Rattle.expand_operand.proofs.Storing.{assign_full, assign_given}
use Rattle.expand_operand.proofs.assign.Goals as goal

pub returns-in_default : goal.returns-in_default
returns-in_default c =
    let a = c.args in
    assign_full a.extent.vars_room a.row.units a.name.now (mark_of a.row.mark) (row_at a.work.now a.operand.units)
    (held (take a.extent.vars_used a.vars.now)) a.operand.next c.store_operand.new.work c.store_operand.new.vars c.in_default.ensures

pub value_of-value-requires : goal.value_of-value-requires
value_of-value-requires c = table_held _ _ _ c.in-Ok.ensures.1

pub returns : goal.returns
returns c =
    let a = c.args in
    assign_given a.extent.vars_room a.row.units a.name.now (mark_of a.row.mark) (row_at a.work.now a.operand.units)
    (held (take a.extent.vars_used a.vars.now))
    (record { next = a.operand.next; vars_used = c.in-Ok.vars_used; of_none = false }) refl c.give_expanded.new.area c.store_operand.new.vars
    c.give_expanded.result c.in-Ok.ensures c.value_of-value.ensures c.give_expanded.ensures.adds
