-- The bytes of the units passed stand at the front of the row, and the units ahead are as they were.
use Rattle.std.proofs.Common.{◌<◌, ◌-◌, ◌*◌, length, sym, ◌∙◌, arith}
use Rattle.row.proofs.Laws.{strip_keep, strip_drop, strip_end, stripped_to}
use Rattle.row.proofs.strip_marks.Goals as goal
use Rattle.row.proofs.strip_marks.Goals.{then-is_mark, else-is_mark}

pub loop-at-preserved : goal.loop-at-preserved
loop-at-preserved c =
    let l = c.loop-at in
    let t : 1 < length c.args.row.now - 2 * l.at = omega arith in
    elim c.if-is_mark.branch [
      | then-is_mark w ↦ stripped_to (strip_keep l.invariant t (sym c.is_mark.ensures ∙ w.if-is_mark.true)) w.row-is w.kept-is (omega arith)
      | else-is_mark w ↦ stripped_to (strip_drop l.invariant t (sym c.is_mark.ensures ∙ w.if-is_mark.false)) w.row-is w.kept-is (omega arith)
    ]

pub returns : goal.returns
returns c = strip_end c.loop-at.invariant (omega arith)
