-- A quiet row is one field, its own bytes. For any other row IFS is looked up in the used part of the variables.
use mathlib.Core.Path.{sym, ◌∙◌}
use lib.ListN.{take}
use Rattle.std.proofs.lemmas.Result.{err_from_is_err_and}
use Rattle.stages.specs.Images.{held, held_texts}
use Rattle.text.specs.Rows.{row_of}
use Rattle.split_row.proofs.Quiet.{quiet_puts}
use Rattle.split_row.proofs.Words.{word_puts}
use Rattle.split_row.proofs.put_word_fields.Goals as goal

pub returns-in_err-put_own : goal.returns-in_err-put_own
returns-in_err-put_own c =
    let a = c.args in
    let p = err_from_is_err_and c.from_residual.result c.from_residual.ensures.1 in
    rw (p.1, p.2)
    (quiet_puts (held_texts a.paths.now) (held (take a.vars_used a.vars.now)) a.row.now c.if-row-gt1.true (sym c.is_quiet.ensures ∙ c.if-is_quiet.true)
    c.in_err-put_own.ensures)

pub returns-then-is_quiet : goal.returns-then-is_quiet
returns-then-is_quiet c =
    let a = c.args in
    quiet_puts (held_texts a.paths.now) (held (take a.vars_used a.vars.now)) a.row.now c.if-row-gt1.true (sym c.is_quiet.ensures ∙ c.if-is_quiet.true)
    c.in_ok-put_own.ensures

pub returns : goal.returns
returns c =
    let a = c.args in
    word_puts (held (take a.vars_used a.vars.now)) (held_texts a.paths.now) (row_of a.row.now) c.ifs_of-ifs.ensures c.put_parts.ensures
