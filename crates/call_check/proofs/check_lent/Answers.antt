-- 1 to 3 in this order.
use Rattle.std.proofs.Common.{sym}
use Rattle.call_check.specs.Checks.{small_area, used_beyond, vars_bad, homes_bad}
use Rattle.call_check.proofs.check_lent.Goals as goal
use Rattle.call_check.proofs.check_lent.Goals.{
  then-vars-vars_used-via-then-vars-vars_used,
  then-vars-vars_used-via-else-vars-vars_used+then-not-well_formed,
}

pub returns-then-work-lt-WORK_LEAST : goal.returns-then-work-lt-WORK_LEAST
returns-then-work-lt-WORK_LEAST c = rw c.refuse.ensures (small_area c.if-work-lt-WORK_LEAST.true)

pub returns-then-vars-vars_used : goal.returns-then-vars-vars_used
returns-then-vars-vars_used c =
    rw c.refuse-then-vars-vars_used.ensures
    (elim c.then-vars-vars_used.branch [
      | then-vars-vars_used-via-then-vars-vars_used w ↦ used_beyond c.if-work-lt-WORK_LEAST.false w.if-vars-vars_used.true
      | then-vars-vars_used-via-else-vars-vars_used+then-not-well_formed w ↦
          vars_bad c.if-work-lt-WORK_LEAST.false w.if-vars-vars_used.false (sym w.if-not-well_formed.ensures)
    ])

pub returns-then-not-well_formed-2 : goal.returns-then-not-well_formed-2
returns-then-not-well_formed-2 c =
    rw c.refuse-then-not-well_formed-2.ensures
    (homes_bad c.if-work-lt-WORK_LEAST.false c.if-vars-vars_used.false (sym c.if-not-well_formed.ensures) (sym c.if-not-well_formed-2.ensures))
