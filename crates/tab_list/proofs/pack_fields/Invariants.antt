-- The fields of the lines passed stand as an image, and those ahead are left.
use Rattle.std.proofs.Common.{◌≡◌, ◌+◌, ◌-◌, length}
use Rattle.tab_list.proofs.Listing.{Going}
use Rattle.tab_list.proofs.pack_fields.Given as goal

abbrev pub invariant-loop-at : goal.invariant-loop-at
invariant-loop-at l = Going l.text l.initial.out l.out l.used l.at l.line × (length l.work ≡ length l.initial.work)

abbrev pub decreases-loop-at : goal.decreases-loop-at
decreases-loop-at l = length l.text + 1 - l.at
