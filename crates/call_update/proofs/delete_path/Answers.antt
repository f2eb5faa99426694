-- `call_update::delete_path` meets its contract: what removing gives is the stage's answer.
use Rattle.std.proofs.Common.{sym, ◌∙◌, take, Some, None}
use Rattle.stages.specs.Images.{held_texts}
use Rattle.call_update.specs.Hands.{updating}
use Rattle.call_update.proofs.Answering.{ready_of, column_of, delete_unready, delete_hands}
use Rattle.call_update.proofs.delete_path.Goals as goal

pub returns-then-not-is_ready : goal.returns-then-not-is_ready
returns-then-not-is_ready c =
    delete_unready (updating c.args.paths.now c.args.paths_used c.args.path.now) (λ i. (c.slice_known-1.given i).fits) (sym c.is_ready.ensures ∙
    c.if-not-is_ready.true) c.refuse.ensures

pub remove-requires-clause-column : goal.remove-requires-clause-column
remove-requires-clause-column c =
    column_of (updating c.args.paths.now c.args.paths_used c.args.path.now) (ready_of (updating c.args.paths.now c.args.paths_used c.args.path.now)
    (sym c.is_ready.ensures ∙ c.if-not-is_ready.false))

pub returns-in-Some : goal.returns-in-Some
returns-in-Some c =
    delete_hands (updating c.args.paths.now c.args.paths_used c.args.path.now) (held_texts (take c.args.paths_used c.args.paths.now)) (ready_of
    (updating c.args.paths.now c.args.paths_used c.args.path.now) (sym c.is_ready.ensures ∙ c.if-not-is_ready.false))
    (λ i. (c.slice_known-1.given i).fits) c.remove.new.image (Some c.in-Some.n) c.in-Some.ensures c.accept.ensures

pub returns-in-None : goal.returns-in-None
returns-in-None c =
    delete_hands (updating c.args.paths.now c.args.paths_used c.args.path.now) (held_texts (take c.args.paths_used c.args.paths.now)) (ready_of
    (updating c.args.paths.now c.args.paths_used c.args.path.now) (sym c.is_ready.ensures ∙ c.if-not-is_ready.false))
    (λ i. (c.slice_known-1.given i).fits) c.remove.new.image None c.in-None.ensures c.refuse-in-None.ensures
