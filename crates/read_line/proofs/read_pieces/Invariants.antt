-- The verdict on the line is that on the pieces from here on. A piece has a byte, so what is left falls.
use Prim.Native.Nat.{◌-◌}
use lib.ListN.{length}
use Rattle.read_line.proofs.Lines.{Walks}
use Rattle.read_line.proofs.read_pieces.Given as goal

abbrev pub invariant-loop-place : goal.invariant-loop-place
invariant-loop-place l = Walks l.pieces l.line l.at

abbrev pub decreases-loop-place : goal.decreases-loop-place
decreases-loop-place l = length l.line - l.at
