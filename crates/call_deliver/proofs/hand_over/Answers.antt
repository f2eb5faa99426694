-- The message that waits is told, and the work area is cleared.
use Rattle.call_deliver.proofs.Awaiting.{handed_over}
use Rattle.call_deliver.proofs.hand_over.Goals as goal

pub returns : goal.returns
returns c =
    handed_over c.args.draft c.args.work.now c.args.message.now c.tell-told.ensures c.fill_zero.ensures
