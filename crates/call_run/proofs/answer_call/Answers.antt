-- The answer is the stage's once the message that waits is handed over, and the work area is cleared whatever it is.
use Rattle.std.proofs.Common.{sym, ◌∙◌}
use Rattle.call_deliver.proofs.Awaiting.{cleared_same, handed_gives}
use Rattle.call_run.proofs.Answering.{answer_clear}
use Rattle.call_run.proofs.answer_call.Goals as goal

pub hand_over-requires : goal.hand_over-requires
hand_over-requires c =
    c.from_checks-draft.ensures.fits

pub returns : goal.returns
returns c =
    handed_gives _ c.from_checks-draft.ensures c.hand_over.ensures (answer_clear c.args.job _ ∙ cleared_same _ _ (sym c.from_checks-draft.auto.work))
