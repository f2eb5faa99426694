-- The last digit stands behind the others.
use mathlib.Core.Path.{refl, sym}
use mathlib.Core.List.{[]}
use Prim.Native.Nat.{◌+◌, ◌-◌, ◌/◌, ◌%◌}
use native.Mathlib.Omega.{arith}
use lib.ListN.{length-append}
use Rattle.stages.specs.Units.{digits}
use Rattle.stages.specs.Call.{over}
use Rattle.arith_decimal.proofs.Writing.{digits_none, digits_one, digits_more, put_last, short_room, long_room}
use Rattle.arith_decimal.proofs.+put_digits.Goals as goal

pub returns-then-k-eq0 : goal.returns-then-k-eq0
unfolding over
returns-then-k-eq0 t c = rw (digits_none c.args.k c.args.n c.if-k-eq0.true) (record { counts = refl; leaves = refl })

pub bounds-out-0 : goal.bounds-out-0
bounds-out-0 t c = short_room c.args.k c.args.n c.args.out.now c.if-k-eq0.false c.if-n-lt10.true c.requires

pub returns-then-n-lt10 : goal.returns-then-n-lt10
unfolding over
returns-then-n-lt10 t c =
    let a = c.args in
    let room = short_room a.k a.n a.out.now c.if-k-eq0.false c.if-n-lt10.true c.requires in
    rw (digits_one a.k a.n c.if-k-eq0.false c.if-n-lt10.true)
    (record { counts = refl; leaves = put_last [] a.out.now (48 + a.n) 0 refl room })

pub put_digits-used-requires : goal.put_digits-used-requires
put_digits-used-requires t c =
    let a = c.args in
    (omega arith, omega (arith, long_room a.k a.n a.out.now c.if-k-eq0.false c.if-n-lt10.false c.requires))

pub bounds-out-used : goal.bounds-out-used
bounds-out-used t c =
    let a = c.args in
    let call = c.put_digits-used in
    omega (arith, long_room a.k a.n a.out.now c.if-k-eq0.false c.if-n-lt10.false c.requires, call.ensures.counts, call.auto.out)

pub overflow_add-result : goal.overflow_add-result
overflow_add-result t c =
    let a = c.args in
    omega (arith, long_room a.k a.n a.out.now c.if-k-eq0.false c.if-n-lt10.false c.requires, c.put_digits-used.ensures.counts, c.well_formed.0.0)

pub returns : goal.returns
returns t c =
    let a = c.args in
    let call = c.put_digits-used in
    let more = digits_more a.k a.n c.if-k-eq0.false c.if-n-lt10.false in
    let is = call.ensures in
    record {
      counts = rw (more, length-append, is.counts);
      leaves =
          rw (is.leaves, more)
          (put_last (digits (a.k - 1) (a.n / 10)) a.out.now (48 + a.n % 10) call.result (sym is.counts)
          (omega (arith, long_room a.k a.n a.out.now c.if-k-eq0.false c.if-n-lt10.false c.requires, is.counts)));
    }
