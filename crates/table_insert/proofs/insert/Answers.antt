-- `table_insert::insert` meets its contract: where there is room, `shift` makes the place and `put_record` fills it.
use Rattle.std.proofs.Common.{◌+◌, length, arith}
use Rattle.table_store.proofs.Writing.{put_fits}
use Rattle.table_store.proofs.Splices.{part_room}
use Rattle.table_insert.proofs.Inserting.{insert_full, insert_kept}
use Rattle.table_insert.proofs.insert.Goals as goal
use Rattle.table_insert.proofs.insert.Goals.{then-room-lt2-via-then-room-lt2, then-room-lt2-via-else-room-lt2+then-room-path}

pub returns-then-room-lt2 : goal.returns-then-room-lt2
returns-then-room-lt2 c =
    let a = c.args in
    insert_full a.image.now a.path.now a.used a.at a.limit c.requires
    (elim c.then-room-lt2.branch [
      | then-room-lt2-via-then-room-lt2 w ↦ omega arith
      | then-room-lt2-via-else-room-lt2+then-room-path w ↦ omega arith
    ])

pub unwrap-requires : goal.unwrap-requires
unwrap-requires c =
    let a = c.args in
    put_fits _ a.path.now c.put_record.result (omega arith) (part_room a.at (length a.path.now + 2) c.shift.new.area (omega (arith, c.shift.auto.area)))
    c.put_record.ensures

pub returns : goal.returns
returns c =
    let a = c.args in
    insert_kept a.image.now a.path.now a.used a.at a.limit c.requires c.shift.new.area c.put_record.new.out (omega arith) c.shift.ensures
    c.shift.auto.area c.put_record.ensures
