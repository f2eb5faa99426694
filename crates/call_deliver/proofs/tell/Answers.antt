-- As much of the message is copied as its buffer holds.
use Rattle.call_deliver.proofs.Handing.{told}
use Rattle.call_deliver.proofs.tell.Goals as goal

pub returns : goal.returns
returns c = told c.args.text.now c.args.message.now _ c.min-len.ensures c.copy_in.ensures
