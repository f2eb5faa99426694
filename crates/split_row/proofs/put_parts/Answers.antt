-- Each part leaves those behind its break mark.
use Rattle.std.proofs.Common.{◌≡◌, Err, rules}
use Rattle.split_field.specs.declared.WriteError.TheVariants.{BadClass, NoRoom}
use Rattle.split_row.proofs.Parts.{pace_start, pace_full, pace_fits, paced, pace_class, pace_on, pace_over}
use Rattle.split_row.proofs.put_parts.Goals as goal

pub loop-at-init : goal.loop-at-init
loop-at-init c = pace_start _ _ _ _ _ c.requires.used_in_bounds.0

pub returns-in-Err-BadClass : goal.returns-in-Err-BadClass
returns-in-Err-BadClass c =
    let e : c.put_fields-written.result ≡ Err BadClass = search rules in
    pace_class (paced c.loop-at.invariant c.part_end-end.ensures c.put_fields-written.ensures c.put_fields-written.auto.row c.put_fields-written.auto.out)
    e

pub loop-at-preserved-in-Ok : goal.loop-at-preserved-in-Ok
loop-at-preserved-in-Ok c =
    pace_on (paced c.loop-at.invariant c.part_end-end.ensures c.put_fields-written.ensures c.put_fields-written.auto.row c.put_fields-written.auto.out)
    c.in-Ok.is

pub loop-at-preserved : goal.loop-at-preserved
loop-at-preserved c =
    let e : c.put_fields-written.result ≡ Err NoRoom = search rules in
    pace_over (paced c.loop-at.invariant c.part_end-end.ensures c.put_fields-written.ensures c.put_fields-written.auto.row c.put_fields-written.auto.out)
    e

pub returns-then-short : goal.returns-then-short
returns-then-short c = pace_full c.loop-at.invariant c.loop-at-test.false c.if-short.true

pub returns-else-short : goal.returns-else-short
returns-else-short c = pace_fits c.loop-at.invariant c.loop-at-test.false c.if-short.false
