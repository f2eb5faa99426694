use mathlib.Core.Path.{sym, ◌∙◌}
use borrow.Author.Tests.{ne_eqb}
use Rattle.pattern_match.proofs.Matching.{skip_on}
use Rattle.pattern_match.proofs.skip.Goals as goal

pub loop-k-preserved : goal.loop-k-preserved
loop-k-preserved c =
    let a = c.args in
    skip_on a.path a.first a.cell a.text.now a.since c.loop-k.invariant c.if-first.false c.if-cell-ge-ONE.false c.loop-k-test.true
    (ne_eqb a.cell _ c.if-cell-text.false) (sym c.passes_byte.ensures ∙ c.if-not-passes_byte.false)
