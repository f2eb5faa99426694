-- The row stands at the front of the work area, and its fields or the refusal of them are the word's.
use Rattle.std.proofs.Common.{◌*◌, arith}
use Rattle.std.proofs.lemmas.List.{length-take-le}
use Rattle.std.proofs.lemmas.Result.{err_from_is_err_and}
use Rattle.stages.proofs.Tables.{paths_of_lem, fields_of_lem}
use Rattle.table.proofs.Tables.{variables_table, homes_table}
use Rattle.expand_line.proofs.Wording.{row_within, there, word_stopped, word_class, word_full, word_written}
use Rattle.expand_line.proofs.put_expanded.Goals as goal

pub expand_text-requires : goal.expand_text-requires
expand_text-requires c =
    let p = c.requires in
    (p.ready, p.holds, homes_table _ p.housed, (fields_of_lem _ p.handed).table)

pub returns-in_err-row : goal.returns-in_err-row
returns-in_err-row c =
    let p = err_from_is_err_and c.from_residual.result c.from_residual.ensures.1 in
    rw (p.1, p.2) (word_stopped c.args.extent.shouts c.requires c.expand_text.new.work c.expand_text.new.vars c.in_err-row.field-0.0 c.in_err-row.ensures)

pub put_word_fields-requires-clause-vars_used_in_bounds : goal.put_word_fields-requires-clause-vars_used_in_bounds
put_word_fields-requires-clause-vars_used_in_bounds c =
    let h = (there c.args.extent.shouts c.requires c.expand_text.new.work c.expand_text.new.vars c.in_ok-row.row c.in_ok-row.ensures).holds in
    (h.inside, variables_table _ h.formed)

pub put_word_fields-requires-clause-listed : goal.put_word_fields-requires-clause-listed
put_word_fields-requires-clause-listed c =
    let r = there c.args.extent.shouts c.requires c.expand_text.new.work c.expand_text.new.vars c.in_ok-row.row c.in_ok-row.ensures in
    let t = length-take-le (2 * c.in_ok-row.row.units) c.expand_text.new.work (row_within r) in
    ((paths_of_lem _ c.requires.listed).table, omega (arith, t, r.fits))

pub returns-in-Ok : goal.returns-in-Ok
returns-in-Ok c =
    word_written c.args.extent.shouts c.requires c.expand_text.new.work c.expand_text.new.vars c.in_ok-row.row c.in_ok-row.ensures c.in-Ok.ensures

pub returns-in-Err-BadClass : goal.returns-in-Err-BadClass
returns-in-Err-BadClass c =
    word_class c.args.extent.shouts c.requires c.expand_text.new.work c.expand_text.new.vars c.in_ok-row.row c.in_ok-row.ensures (rw
    c.in-Err-BadClass.field-0-is at c.in-Err-BadClass.ensures)

pub returns-in-Err-NoRoom : goal.returns-in-Err-NoRoom
returns-in-Err-NoRoom c =
    word_full c.args.extent.shouts c.requires c.expand_text.new.work c.expand_text.new.vars c.in_ok-row.row c.in_ok-row.ensures (rw
    c.in-Err-NoRoom.field-0-is at c.in-Err-NoRoom.ensures)
