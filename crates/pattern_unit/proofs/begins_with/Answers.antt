-- What is left of the text is its next byte, at the place that is reached, and the rest of it behind that place.
use Rattle.std.proofs.Common.{sym, ◌∙◌, arith}
use Rattle.pattern_unit.proofs.Units.{live_inside, text_fails, text_on, text_over}
use Rattle.pattern_unit.proofs.begins_with.Goals as goal

pub returns-then-not-is_live : goal.returns-then-not-is_live
returns-then-not-is_live c =
    let a = c.args in
    let l = c.loop-c in
    sym (l.invariant.left ∙ text_fails a.width a.units.now l.k a.text.now l.c-index c.loop-c-test.true
    (sym c.is_live.ensures ∙ c.if-not-is_live.true))

pub loop-c-preserved : goal.loop-c-preserved
loop-c-preserved c =
    let a = c.args in
    let l = c.loop-c in
    let met = sym c.is_live.ensures ∙ c.if-not-is_live.false in
    record {
      inside = omega (arith, c.unit_size-size.ensures, live_inside a.width a.units.now l.k _ met);
      left =
          l.invariant.left ∙ text_on a.width a.units.now l.k a.text.now l.c-index c.loop-c-test.true met
          ∙ rw c.unit_size-size.ensures;
    }

pub returns : goal.returns
returns c =
    let a = c.args in
    let l = c.loop-c in
    sym (l.invariant.left ∙ text_over a.width a.units.now l.k a.text.now l.c-index c.loop-c-test.false)
