-- The laws of `Read`, one for each way through the loop.
use Rattle.arith_constant.proofs.Digits.{read_bad, read_more, read_end, counts_more, counts_over, counts_past}
use native.Mathlib.Omega.{arith}
use Rattle.arith_constant.proofs.in_base.Goals.{in-Some, in_default-2, in_default}
use Rattle.arith_constant.proofs.in_base.Goals as goal

pub returns-then-base-d : goal.returns-then-base-d
returns-then-base-d c = read_bad c.loop-b.invariant c.loop-b-test.true (rw c.digit-d.ensures at c.if-base-d.true)

pub loop-b-preserved : goal.loop-b-preserved
loop-b-preserved c =
    let a = c.args in
    let r = c.loop-b.invariant in
    let d = c.digit-d in
    read_more r c.loop-b-test.true (rw d.ensures at c.if-base-d.false)
    (elim c.match-n.branch [
      | in-Some w ↦
          rw (w.n-is, ← d.ensures) (counts_more a.base a.limit r.sum w.in-Some.k d.result (omega arith) (omega arith)
          (rw w.in-Some.is at r.counts) w.if-k-limit.true)
      | in_default-2 w ↦
          rw (w.n-is, ← d.ensures) (counts_over a.base a.limit r.sum w.in-Some.k d.result (omega arith) (omega arith)
          (rw w.in-Some.is at r.counts) w.if-k-limit.false)
      | in_default w ↦
          rw (w.n-is, ← d.ensures) (counts_past a.base a.limit r.sum d.result (omega arith) (rw w.in_default.is at r.counts))
    ])

pub returns : goal.returns
returns c = rw c.ok_or.ensures.value (read_end c.loop-b.invariant c.loop-b-test.false)
