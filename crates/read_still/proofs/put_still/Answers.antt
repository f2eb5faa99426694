-- The bare bytes and then what is quoted are put behind what was said; each way out of the loop is one end of the walk.
use Rattle.std.proofs.Common.{sym, ◌∙◌}
use Rattle.read_still.proofs.Copying.{copy_starts, copy_runs, leaves_line, leaves_blank, leaves_none, copy_goes}
use Rattle.read_still.proofs.put_still.Goals as goal
use Rattle.read_still.proofs.put_still.Goals.{then-run-line-via-then-run-line, then-run-line-via-else-run-line+then-in_class}

pub loop-at-init : goal.loop-at-init
loop-at-init c = copy_starts c.requires.0 c.requires.1

pub returns-then-run-line : goal.returns-then-run-line
returns-then-run-line c =
    let r = copy_runs c.loop-at.invariant c.run_end-run.ensures c.put_behind-n.ensures in
    elim c.then-run-line.branch [
      | then-run-line-via-then-run-line w ↦ leaves_line r w.if-run-line.true
      | then-run-line-via-else-run-line+then-in_class w ↦ leaves_blank r w.if-run-line.false (sym w.in_class.ensures ∙ w.if-in_class.true)
    ]

pub returns-in_err-found : goal.returns-in_err-found
returns-in_err-found c =
    rw c.from_residual.ensures
    (leaves_none (copy_runs c.loop-at.invariant c.run_end-run.ensures c.put_behind-n.ensures) c.if-run-line.false
    (sym c.in_class.ensures ∙ c.if-in_class.false) c.in_err-found.ensures)

pub loop-at-preserved : goal.loop-at-preserved
loop-at-preserved c =
    copy_goes (copy_runs c.loop-at.invariant c.run_end-run.ensures c.put_behind-n.ensures) c.if-run-line.false
    (sym c.in_class.ensures ∙ c.if-in_class.false) c.in_ok-found.ensures c.put_behind-n-in-loop-at.ensures
