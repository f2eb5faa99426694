-- A mark is counted and leads on; what is none is passed.
use Rattle.std.proofs.Common.{◌+◌, length, refl, ap, not, add-one, ltb, arith}
use borrow.Author.Tests.{eq-eqb, ne_eqb}
use Rattle.pattern_set.specs.Sets.{has}
use Rattle.pattern_cost.proofs.Walking.{walked_start, walked_skip, walked_lead, walked_end}
use Rattle.pattern_cost.proofs.walk_row.Goals as goal
use Rattle.pattern_cost.proofs.walk_row.Goals.{then-area-base-ne0, else-area-base-ne0}

pub loop-j-init : goal.loop-j-init
loop-j-init c = record { walked = walked_start _ _ _ _ _ c.requires.clear; few = omega arith }

pub loop-j-preserved : goal.loop-j-preserved
loop-j-preserved c =
    let l = c.loop-j in
    let a = c.args in
    elim c.if-area-base-ne0.branch [
      | then-area-base-ne0 w ↦ record {
        walked = rw (w.area-is, w.count-is, add-one l.j)
            (walked_lead a.star (has a.set.words) a.text.now a.base a.area.now l.area l.j l.count l.invariant.walked (omega arith)
            w.lead_on.new.area (ap not (ne_eqb _ 0 w.if-area-base-ne0.true)) (ltb (l.j + 1) (length a.text.now + 1))
            w.takes_next-taken.result refl w.takes_next-taken.ensures w.lead_on.ensures);
        few = omega arith;
      }
      | else-area-base-ne0 w ↦ record {
        walked = rw (w.area-is, w.count-is, add-one l.j)
            (walked_skip a.star (has a.set.words) a.text.now a.base a.area.now l.area l.j l.count l.invariant.walked (omega arith)
            (ap not (eq-eqb _ 0 w.if-area-base-ne0.false)));
        few = omega arith;
      }
    ]

pub returns : goal.returns
returns c =
    let l = c.loop-j in
    let a = c.args in
    walked_end a.star (has a.set.words) a.text.now a.base a.area.now l.area l.j l.count l.invariant.walked (omega arith)
