-- Each refusal is the stage's where those before it are passed.
use Rattle.std.proofs.Common.{sym, ◌∙◌}
use Rattle.std.proofs.lemmas.Result.{err_from_is_err_and}
use Rattle.call_check.proofs.Checking.{assign_unlent, assign_unnumbered, assign_unplain, assign_read}
use Rattle.call_check.proofs.check_assignments.Goals as goal

pub returns-in_err-check_lent : goal.returns-in_err-check_lent
returns-in_err-check_lent c b m =
    let p = err_from_is_err_and c.from_residual.result c.from_residual.ensures.1 in
    rw (p.1, p.2) (assign_unlent _ c.in_err-check_lent.ensures)

pub returns-then-not-numbered : goal.returns-then-not-numbered
returns-then-not-numbered c b m =
    rw c.refuse.ensures (assign_unnumbered _ c.in_ok-check_lent.ensures (sym c.well_formed-numbered.ensures ∙ c.if-not-numbered.true))

pub returns-in_err-check_bytes : goal.returns-in_err-check_bytes
returns-in_err-check_bytes c b m =
    let p = err_from_is_err_and c.from_residual-in_err-check_bytes.result c.from_residual-in_err-check_bytes.ensures.1 in
    rw (p.1, p.2) (assign_unplain _ c.in_ok-check_lent.ensures (sym c.well_formed-numbered.ensures ∙ c.if-not-numbered.false) c.in_err-check_bytes.ensures)

pub returns : goal.returns
returns c b m =
    assign_read _ c.in_ok-check_lent.ensures (sym c.well_formed-numbered.ensures ∙ c.if-not-numbered.false) c.in_ok-check_bytes.ensures
    c.read_assignments.result c.read_assignments.ensures
