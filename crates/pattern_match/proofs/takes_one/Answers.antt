-- Each kind of cell is the stage's test of the element that it stands for; a set is looked up in its words.
use mathlib.Core.Path.{◌∙◌, ap}
use mathlib.Core.Bool.{Bool, ◌&&◌}
use borrow.Author.Tests.{eq-eqb}
use Rattle.stages.specs.Pattern.{passes}
use Rattle.pattern_match.proofs.Matching.{byte_takes, set_takes, star_takes_none, one_takes}
use Rattle.pattern_match.proofs.takes_one.Goals as goal

pub returns-then-cell-lt-ONE : goal.returns-then-cell-lt-ONE
returns-then-cell-lt-ONE c e i =
    let a = c.args in
    c.takes_byte.ensures ∙ byte_takes a.sets.now a.cell a.path a.head a.first a.b c.if-cell-lt-ONE.true e i

pub returns-then-cell-ge-FIRST_SET : goal.returns-then-cell-ge-FIRST_SET
returns-then-cell-ge-FIRST_SET c e i =
    let a = c.args in
    let b = c.ranges.b.fits in
    c.takes_member.ensures ∙ ap (λ (x : Bool). passes a.path a.first a.b && x) (c.set_in-set.ensures a.b b)
    ∙ set_takes a.sets.now a.cell a.path a.head a.first a.b c.if-cell-ge-FIRST_SET.true b e i

pub returns-then-cell-ne-STAR : goal.returns-then-cell-ne-STAR
returns-then-cell-ne-STAR c e i =
    let a = c.args in
    c.passes_byte.ensures ∙ one_takes a.sets.now a.cell a.path a.head a.first a.b c.if-cell-lt-ONE.false c.if-cell-ge-FIRST_SET.false
    c.if-cell-ne-STAR.true e i

pub returns-else-cell-ne-STAR : goal.returns-else-cell-ne-STAR
returns-else-cell-ne-STAR c e i =
    let a = c.args in
    let h = c.if-cell-ne-STAR.false in
    rw (eq-eqb a.cell 257 h) (star_takes_none a.sets.now a.cell a.path a.head a.first a.b h e i)
