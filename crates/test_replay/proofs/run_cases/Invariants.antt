-- What the block holds stays within it, and its length stays; no more cases differ than were run.
use Rattle.std.proofs.Common.{◌≡◌, ◌≤◌, length}
use Rattle.test_replay.proofs.run_cases.Given as goal

abbrev pub invariant-loop-cases : goal.invariant-loop-cases
invariant-loop-cases g l = (l.have ≤ length l.block) × (length l.block ≡ length l.initial.block) × (l.differ ≤ l.cases)
