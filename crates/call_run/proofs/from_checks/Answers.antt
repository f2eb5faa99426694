-- A call is refused by its checks, or worked out on copies.
use Rattle.std.proofs.Common.{refl}
use Rattle.call_deliver.proofs.Awaiting.{untold_awaits, awaits_as}
use Rattle.call_run.proofs.Answering.{answer_refused}
use Rattle.call_run.proofs.from_checks.Goals as goal

pub returns-in-Err : goal.returns-in-Err
returns-in-Err c =
    awaits_as _ c.refuse_with.ensures (untold_awaits refl c.args.work.now _ λ m. answer_refused c.args.job _ (c.in-Err.ensures _ m).is refl)

pub with_copy-requires-clause-passed : goal.with_copy-requires-clause-passed
with_copy-requires-clause-passed c =
    λ m. c.in-Ok.ensures _ m
