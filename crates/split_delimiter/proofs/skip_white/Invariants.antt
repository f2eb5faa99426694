-- The invariant: white units are passed from `at` to `to`.
use Prim.Native.Nat.{◌-◌}
use lib.ListN.{length}
use Rattle.split_delimiter.proofs.Places.{Skipping}
use Rattle.split_delimiter.proofs.skip_white.Given as goal

abbrev pub invariant-loop-to : goal.invariant-loop-to
invariant-loop-to l = Skipping l.ifs l.row l.at l.to

abbrev pub decreases-loop-to : goal.decreases-loop-to
decreases-loop-to l = length l.row - l.to
