-- A call is refused by its checks, or worked out on a copy.
use Rattle.std.proofs.Common.{refl}
use Rattle.call_deliver.proofs.Awaiting.{untold_awaits, awaits_as}
use Rattle.call_assign.proofs.Assigning.{answer_refused}
use Rattle.call_assign.proofs.from_checks.Goals as goal

pub returns-in-Err : goal.returns-in-Err
returns-in-Err c =
    awaits_as _ c.refuse_with.ensures (untold_awaits refl c.args.work.now _ λ m. answer_refused _ (c.in-Err.ensures _ m).is refl)

pub with_copy-requires-clause-assign_passed : goal.with_copy-requires-clause-assign_passed
with_copy-requires-clause-assign_passed c =
    λ m. c.in-Ok.ensures _ m
