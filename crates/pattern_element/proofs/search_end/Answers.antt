-- Behind all bytes no end is found.
use Rattle.std.proofs.Common.{sym, ◌∙◌, arith}
use Rattle.pattern_unit.proofs.Units.{size_bounds}
use Rattle.pattern_element.proofs.Searches.{sought_over}
use Rattle.pattern_element.proofs.search_end.Goals as goal

pub returns : goal.returns
returns c =
    let a = c.args in
    let l = c.loop-at in
    sym (l.invariant.same
    ∙ sought_over a.width a.pattern.now a.path l.first l.at (omega (arith, c.loop-at-test.false, size_bounds a.width)))
