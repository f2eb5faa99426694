-- Each refusal is the stage's where those before it are passed.
use Rattle.std.proofs.Common.{sym, ◌∙◌}
use Rattle.std.proofs.lemmas.Result.{err_from_is_err_and}
use Rattle.read_line.proofs.Lines.{accepted, refused_line}
use Rattle.call_check.proofs.Checking.{lent_stops, paths_bad, parameters_bad, tables_fine, line_unplain, line_refused, room_none, room_some}
use Rattle.call_check.proofs.check.Goals as goal

pub returns-in_err-check_lent : goal.returns-in_err-check_lent
returns-in_err-check_lent c b m =
    let p = err_from_is_err_and c.from_residual.result c.from_residual.ensures.1 in
    rw (p.1, p.2) (lent_stops _ _ c.in_err-check_lent.ensures)

pub returns-then-not-well_formed : goal.returns-then-not-well_formed
returns-then-not-well_formed c b m =
    rw c.refuse.ensures (paths_bad _ _ c.in_ok-check_lent.ensures (sym c.if-not-well_formed.ensures))

pub returns-then-not-well_formed-2 : goal.returns-then-not-well_formed-2
returns-then-not-well_formed-2 c b m =
    rw c.refuse-then-not-well_formed-2.ensures (parameters_bad _ _ c.in_ok-check_lent.ensures (sym c.if-not-well_formed.ensures) (sym
    c.if-not-well_formed-2.ensures))

pub returns-in_err-check_bytes : goal.returns-in_err-check_bytes
returns-in_err-check_bytes c b m =
    let p = err_from_is_err_and c.from_residual-in_err-check_bytes.result c.from_residual-in_err-check_bytes.ensures.1 in
    let t = tables_fine c.args.job _ c.in_ok-check_lent.ensures (sym c.if-not-well_formed.ensures) (sym c.if-not-well_formed-2.ensures) in
    rw (p.1, p.2) (line_unplain _ _ t c.in_err-check_bytes.ensures)

pub returns-in_err-read_line : goal.returns-in_err-read_line
returns-in_err-read_line c b m =
    let p = err_from_is_err_and c.from_residual-in_err-read_line.result c.from_residual-in_err-read_line.ensures.1 in
    let t = tables_fine c.args.job _ c.in_ok-check_lent.ensures (sym c.if-not-well_formed.ensures) (sym c.if-not-well_formed-2.ensures) in
    rw (p.1, p.2) (line_refused _ _ t c.in_ok-check_bytes.ensures.short c.in_ok-check_bytes.ensures.whole _ _ (refused_line _ _ _
    c.in_err-read_line.ensures))

pub returns-then-room-eq0 : goal.returns-then-room-eq0
returns-then-room-eq0 c b m =
    let t = tables_fine c.args.job _ c.in_ok-check_lent.ensures (sym c.if-not-well_formed.ensures) (sym c.if-not-well_formed-2.ensures) in
    rw c.refuse-then-room-eq0.ensures
    (room_none _ _ t c.in_ok-check_bytes.ensures.short c.in_ok-check_bytes.ensures.whole (accepted _ c.in_ok-read_line.ensures) (sym c.room.ensures ∙
    c.if-room-eq0.true))

pub returns : goal.returns
returns c b m =
    let t = tables_fine c.args.job _ c.in_ok-check_lent.ensures (sym c.if-not-well_formed.ensures) (sym c.if-not-well_formed-2.ensures) in
    room_some _ _ t c.in_ok-check_bytes.ensures.short c.in_ok-check_bytes.ensures.whole (accepted _ c.in_ok-read_line.ensures) (λ e.
    c.if-room-eq0.false (c.room.ensures ∙ e))
