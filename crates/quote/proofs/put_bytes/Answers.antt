-- `quote::put_bytes` meets its contract: the bytes passed stand in the buffer, and those from `i` on are left; they begin with a run that is copied, or with a
-- byte that is written by itself.
use native.Mathlib.Omega.{arith}
use Rattle.quote.specs.Ways.{way_is}
use Rattle.quote.proofs.Writing.{passed_none, run_fits, run_put, byte_next, byte_fits, byte_put, passed_all}
use Rattle.quote.proofs.put_bytes.Goals as goal

-- a run

-- a byte

-- the end

pub loop-i-init : goal.loop-i-init
loop-i-init c =
    passed_none (way_is c.args.way) c.args.field.now c.args.out.now c.requires

pub copy_in-requires : goal.copy_in-requires
copy_in-requires c = run_fits c.loop-i.invariant c.run_end-end.ensures

pub loop-i-preserved-then-i-end : goal.loop-i-preserved-then-i-end
loop-i-preserved-then-i-end c =
    let call = c.copy_in in
    run_put c.loop-i.invariant c.run_end-end.ensures call.new.to call.ensures

pub put_byte-n-requires : goal.put_byte-n-requires
put_byte-n-requires c = byte_fits c.loop-i.invariant c.loop-i-test.true

pub overflow_add-used-else-i-end : goal.overflow_add-used-else-i-end
overflow_add-used-else-i-end c =
    omega (arith, c.put_byte-n.ensures.counts, byte_next c.loop-i.invariant c.loop-i-test.true)

pub loop-i-preserved : goal.loop-i-preserved
loop-i-preserved c =
    let call = c.put_byte-n in
    byte_put c.loop-i.invariant c.loop-i-test.true call.new.out call.result call.ensures

pub returns : goal.returns
returns c = passed_all c.loop-i.invariant c.loop-i-test.false
