-- A text in its place leaves an area as long as it was.
use Prim.Native.Nat.{ℕ, ◌+◌, ◌≤◌}
use native.Mathlib.Omega.{arith}
use mathlib.Core.Path.{◌≡◌}
use lib.ListN.{length, length-append, length-drop}
use lib.Seq.{length-take-le}
use Rattle.stages.specs.Bytes.{Text}
use Rattle.table_store.specs.Splice.{placed}

pub placed_length : (at : ℕ) (t old : Text) → at + length t ≤ length old → length (placed at t old) ≡ length old
unfolding placed
placed_length at t old h = simp (length-append, length-drop, length-take-le at old (omega arith)) (omega arith)
