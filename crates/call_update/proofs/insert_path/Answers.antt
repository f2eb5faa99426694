-- `call_update::insert_path` meets its contract: what adding gives is the stage's answer.
use Rattle.std.proofs.Common.{sym, ◌∙◌, take, Ok, Err}
use Rattle.stages.specs.Images.{held_texts}
use Rattle.table_insert.specs.declared.AddError.TheVariants.{Twice, NoRoom}
use Rattle.call_update.specs.Hands.{updating}
use Rattle.call_update.proofs.Answering.{ready_of, add_ready, insert_unready, insert_hands}
use Rattle.call_update.proofs.insert_path.Goals as goal

pub returns-then-not-is_ready : goal.returns-then-not-is_ready
returns-then-not-is_ready c =
    insert_unready (updating c.args.paths.now c.args.paths_used c.args.path.now) (λ i. (c.slice_known-1.given i).fits) (sym c.is_ready.ensures ∙
    c.if-not-is_ready.true) c.refuse.ensures

pub add-requires-clause-used_le_limit : goal.add-requires-clause-used_le_limit
add-requires-clause-used_le_limit c =
    (add_ready (updating c.args.paths.now c.args.paths_used c.args.path.now) (ready_of (updating c.args.paths.now c.args.paths_used c.args.path.now)
    (sym c.is_ready.ensures ∙ c.if-not-is_ready.false)) c.room-limit.result c.room-limit.ensures).0

pub add-requires-clause-column : goal.add-requires-clause-column
add-requires-clause-column c =
    (add_ready (updating c.args.paths.now c.args.paths_used c.args.path.now) (ready_of (updating c.args.paths.now c.args.paths_used c.args.path.now)
    (sym c.is_ready.ensures ∙ c.if-not-is_ready.false)) c.room-limit.result c.room-limit.ensures).1

pub returns-in-Ok : goal.returns-in-Ok
returns-in-Ok c =
    insert_hands (updating c.args.paths.now c.args.paths_used c.args.path.now) (held_texts (take c.args.paths_used c.args.paths.now)) (ready_of
    (updating c.args.paths.now c.args.paths_used c.args.path.now) (sym c.is_ready.ensures ∙ c.if-not-is_ready.false))
    (λ i. (c.slice_known-1.given i).fits) c.room-limit.result c.room-limit.ensures c.add.new.image (Ok c.in-Ok.n) c.in-Ok.ensures c.accept.ensures

pub returns-in-Err-Twice : goal.returns-in-Err-Twice
returns-in-Err-Twice c =
    insert_hands (updating c.args.paths.now c.args.paths_used c.args.path.now) (held_texts (take c.args.paths_used c.args.paths.now)) (ready_of
    (updating c.args.paths.now c.args.paths_used c.args.path.now) (sym c.is_ready.ensures ∙ c.if-not-is_ready.false))
    (λ i. (c.slice_known-1.given i).fits) c.room-limit.result c.room-limit.ensures c.add.new.image (Err Twice) (rw c.in-Err-Twice.field-0-is at
    c.in-Err-Twice.ensures) c.refuse-in-Err-Twice.ensures

pub returns-in-Err-NoRoom : goal.returns-in-Err-NoRoom
returns-in-Err-NoRoom c =
    insert_hands (updating c.args.paths.now c.args.paths_used c.args.path.now) (held_texts (take c.args.paths_used c.args.paths.now)) (ready_of
    (updating c.args.paths.now c.args.paths_used c.args.path.now) (sym c.is_ready.ensures ∙ c.if-not-is_ready.false))
    (λ i. (c.slice_known-1.given i).fits) c.room-limit.result c.room-limit.ensures c.add.new.image (Err NoRoom) (rw c.in-Err-NoRoom.field-0-is at
    c.in-Err-NoRoom.ensures) c.refuse-in-Err-NoRoom.ensures
