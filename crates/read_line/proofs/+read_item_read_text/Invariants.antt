-- What is read so far stands in front of what the stage reads from here on. At each call the place grows, so twice the bytes that are left fall; the
-- loop's turn counts one more.
use Prim.Native.Nat.{◌*◌, ◌+◌, ◌-◌}
use lib.ListN.{length}
use Rattle.read_line.proofs.Items.{Reads}
use Rattle.read_line.proofs.+read_item_read_text.Given as goal

abbrev pub decreases-read_item : goal.decreases-read_item
decreases-read_item l = 2 * (length l.text.now - l.from.at)

abbrev pub decreases-read_text : goal.decreases-read_text
decreases-read_text l = 2 * (length l.text.now - l.from.at) + 1

abbrev pub invariant-read_text-loop-place : goal.invariant-read_text-loop-place
invariant-read_text-loop-place l = Reads l.text l.fn.from l.here

abbrev pub decreases-read_text-loop-place : goal.decreases-read_text-loop-place
decreases-read_text-loop-place l = length l.text - l.here.at
