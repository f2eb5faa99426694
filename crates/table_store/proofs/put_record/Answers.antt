-- `table_store::put_record` meets its contract: by the two tests the record has room or not, and `copy_in` puts the text behind its length.
use Rattle.std.proofs.Common.{length, arith}
use Rattle.stages.specs.Numbers.{output_room}
use Rattle.table_store.proofs.Writing.{writes_refused, record_long, record_full, high_byte, low_byte, put_wrote}
use Rattle.table_store.proofs.put_record.Goals as goal
use Rattle.table_store.proofs.put_record.Goals.{then-n-gt-TEXT_LIMIT-via-then-n-gt-TEXT_LIMIT, then-n-gt-TEXT_LIMIT-via-else-n-gt-TEXT_LIMIT+then-out-n}

pub returns-then-n-gt-TEXT_LIMIT : goal.returns-then-n-gt-TEXT_LIMIT
returns-then-n-gt-TEXT_LIMIT c =
    elim c.then-n-gt-TEXT_LIMIT.branch [
      | then-n-gt-TEXT_LIMIT-via-then-n-gt-TEXT_LIMIT w ↦ writes_refused output_room _ (record_long _ _ w.if-n-gt-TEXT_LIMIT.true)
      | then-n-gt-TEXT_LIMIT-via-else-n-gt-TEXT_LIMIT+then-out-n w ↦ writes_refused output_room _ (record_full _ _ w.if-out-n.true)
    ]

pub returns : goal.returns
returns c =
    let t = c.args.text.now in
    put_wrote t _ _ (high_byte (length t) (omega arith) c.to_be_bytes.ensures) (low_byte (length t) (omega arith) c.to_be_bytes.ensures) c.args.out.now
    c.copy_in.new.to (omega arith) (omega arith) c.copy_in.ensures
