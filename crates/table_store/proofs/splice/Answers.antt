-- `table_store::splice` meets its contract: where there is room, `shift` makes the place and two calls of `put_record` fill it.
use Rattle.std.proofs.Common.{◌+◌, length, arith}
use Rattle.table_store.proofs.Writing.{put_fits}
use Rattle.table_store.proofs.Splices.{part_room, has_room, lacks_room, splice_full, splice_kept}
use Rattle.table_store.proofs.splice.Goals as goal

pub returns-then-not-fits : goal.returns-then-not-fits
returns-then-not-fits c =
    let a = c.args in
    splice_full a.vars.now a.name.now a.value.now a.vars_used a.at a.end a.limit c.requires
    (lacks_room _ _ _ c.fits.ensures c.if-not-fits.true)

pub returns : goal.returns
returns c =
    let a = c.args in
    splice_kept a.vars.now a.name.now a.value.now a.vars_used a.at a.end a.limit c.requires c.shift.new.area
    c.put_record.new.out (has_room _ _ _ c.fits.ensures c.if-not-fits.false) c.shift.ensures c.shift.auto.area c.put_record.ensures
    c.put_record-2.new.out c.put_record-2.ensures

pub unwrap-requires : goal.unwrap-requires
unwrap-requires c =
    let a = c.args in
    let h = has_room _ _ _ c.fits.ensures c.if-not-fits.false in
    put_fits _ a.name.now c.put_record.result (omega arith) (part_room a.at (length a.name.now + 2) c.shift.new.area (omega (arith, c.shift.auto.area)))
    c.put_record.ensures

pub unwrap-requires-2 : goal.unwrap-requires-2
unwrap-requires-2 c =
    let a = c.args in
    let h = has_room _ _ _ c.fits.ensures c.if-not-fits.false in
    put_fits _ a.value.now c.put_record-2.result (omega arith)
    (part_room (a.at + 2 + length a.name.now) (length a.value.now + 2) _ (omega (arith, c.shift.auto.area, c.put_record.auto.out))) c.put_record-2.ensures
