-- Each way out of the loop is one end of the walk.
use Rattle.std.proofs.Common.{sym, ◌∙◌}
use Rattle.read_still.proofs.Walking.{walk_fails, walk_goes, end_line, end_blank}
use Rattle.read_still.proofs.still_end.Goals as goal
use Rattle.read_still.proofs.still_end.Goals.{then-run-line-via-then-run-line, then-run-line-via-else-run-line+then-in_class}

pub returns-then-run-line : goal.returns-then-run-line
returns-then-run-line c =
    let i = c.loop-at.invariant.walked in
    elim c.then-run-line.branch [
      | then-run-line-via-then-run-line w ↦ end_line i c.run_end-run.ensures w.if-run-line.true
      | then-run-line-via-else-run-line+then-in_class w ↦
          end_blank i c.run_end-run.ensures w.if-run-line.false (sym w.in_class.ensures ∙ w.if-in_class.true)
    ]

pub returns-in-None : goal.returns-in-None
returns-in-None c =
    walk_fails c.loop-at.invariant.walked c.run_end-run.ensures c.if-run-line.false (sym c.in_class.ensures ∙ c.if-in_class.false) c.in-None.ensures

pub loop-at-preserved : goal.loop-at-preserved
loop-at-preserved c = record {
  said = _;
  walked = walk_goes c.loop-at.invariant.walked c.run_end-run.ensures c.if-run-line.false (sym c.in_class.ensures ∙ c.if-in_class.false)
      c.in-Some.ensures;
}
