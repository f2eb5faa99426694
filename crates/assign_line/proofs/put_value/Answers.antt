-- The value's row stands at the front of the work area, and the answer of its store is the assignment's.
use Rattle.std.proofs.lemmas.Result.{err_from_is_err_and}
use Rattle.stages.proofs.Tables.{fields_of_lem}
use Rattle.table.proofs.Tables.{homes_table}
use Rattle.assign_line.proofs.Valuing.{value_stopped, there, value_storable, value_full, value_stored}
use Rattle.assign_line.proofs.put_value.Goals as goal

pub expand_text-requires : goal.expand_text-requires
expand_text-requires c =
    let p = c.requires in
    (p.ready, p.holds, homes_table _ p.housed, (fields_of_lem _ p.handed).table)

pub returns-in_err-row : goal.returns-in_err-row
returns-in_err-row c =
    let p = err_from_is_err_and c.from_residual.result c.from_residual.ensures.1 in
    rw (p.1, p.2) (value_stopped c.args.extent.shouts c.requires c.expand_text.new.work c.expand_text.new.vars c.in_err-row.field-0.0 c.in_err-row.ensures)

pub store_operand-requires : goal.store_operand-requires
store_operand-requires c = (
  value_storable c.args.extent.shouts c.requires c.expand_text.new.work c.expand_text.new.vars c.in_ok-row.row c.in_ok-row.ensures,
  (there
      c.args.extent.shouts c.requires c.expand_text.new.work c.expand_text.new.vars c.in_ok-row.row c.in_ok-row.ensures).holds,
)

pub returns-in-Ok : goal.returns-in-Ok
returns-in-Ok c =
    value_stored c.args.extent.shouts c.requires c.expand_text.new.work c.expand_text.new.vars c.in_ok-row.row c.in_ok-row.ensures
    c.store_operand.new.vars c.in-Ok.vars_used c.in-Ok.ensures

pub returns-in-Err : goal.returns-in-Err
returns-in-Err c =
    value_full c.args.extent.shouts c.requires c.expand_text.new.work c.expand_text.new.vars c.in_ok-row.row c.in_ok-row.ensures
    c.store_operand.new.vars c.in-Err.field-0 c.in-Err.ensures
