-- `tab_escape::read_text` meets its contract: what stands before `i` is read and stands in the buffer.
use Rattle.std.proofs.Common.{arith}
use Rattle.std.proofs.lemmas.Result.{err_from_is_err_and}
use Rattle.tab_escape.proofs.Escaping.{front_starts, front_ends, front_bad, front_more}
use Rattle.tab_escape.proofs.read_text.Goals as goal

pub loop-i-init : goal.loop-i-init
loop-i-init c = front_starts c.args.text.now c.args.out.now c.requires

pub returns-in_err-byte : goal.returns-in_err-byte
returns-in_err-byte c =
    let p = err_from_is_err_and c.from_residual.result c.from_residual.ensures.1 in
    rw (p.1, p.2) (front_bad c.loop-i.invariant c.loop-i-test.true c.byte_at.ensures _ c.in_err-byte.was)

pub overflow_add-i-in-loop-i : goal.overflow_add-i-in-loop-i
overflow_add-i-in-loop-i c =
    omega (arith, (front_more c.loop-i.invariant c.loop-i-test.true c.byte_at.ensures _ _ c.in_ok-byte.was).within)

pub loop-i-preserved : goal.loop-i-preserved
loop-i-preserved c = front_more c.loop-i.invariant c.loop-i-test.true c.byte_at.ensures _ _ c.in_ok-byte.was

pub returns : goal.returns
returns c = front_ends c.loop-i.invariant c.loop-i-test.false
