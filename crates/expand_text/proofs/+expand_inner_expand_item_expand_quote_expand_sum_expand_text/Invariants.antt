-- What is expanded so far stands in front of what is still to be expanded. The place grows from each text to those in it.
use Rattle.std.proofs.Common.{◌*◌, ◌+◌, ◌-◌, length, take}
use Rattle.stages.specs.Images.{held}
use Rattle.row.specs.Marks.{mark_of}
use Rattle.table.specs.Around.{lent_of}
use Rattle.expand_text.proofs.Looping.{Going}
use Rattle.expand_text.proofs.+expand_inner_expand_item_expand_quote_expand_sum_expand_text.Given as goal

abbrev pub decreases-expand_inner : goal.decreases-expand_inner
decreases-expand_inner l = 3 * (length l.text.now - l.from.at) + 3

abbrev pub decreases-expand_item : goal.decreases-expand_item
decreases-expand_item l = 3 * (length l.text.now - l.from.at) + 1

abbrev pub decreases-expand_quote : goal.decreases-expand_quote
decreases-expand_quote l = 3 * (length l.text.now - l.from.at) + 3

abbrev pub decreases-expand_sum : goal.decreases-expand_sum
decreases-expand_sum l = 3 * (length l.text.now - l.at) + 3

abbrev pub decreases-expand_text : goal.decreases-expand_text
decreases-expand_text l = 3 * (length l.text.now - l.from.at) + 2

abbrev pub invariant-expand_text-loop-from : goal.invariant-expand_text-loop-from
invariant-expand_text-loop-from l =
    Going (lent_of l.extent.vars_room l.extent.shouts l.homes l.params) l.text l.from.at l.from.mode l.from.depth (mark_of l.row.mark) l.row.units
    (held (take l.extent.vars_used l.initial.vars)) l.initial.work l.initial.vars l.work l.vars l.n l.i l.inside l.left l.of_none

abbrev pub decreases-expand_text-loop-from : goal.decreases-expand_text-loop-from
decreases-expand_text-loop-from l = length l.text - l.i
