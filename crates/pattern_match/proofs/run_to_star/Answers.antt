-- Each way out of the loop is one law.
use mathlib.Core.Path.{◌∙◌}
use native.Mathlib.Omega.{arith}
use borrow.Author.Tests.{eq-eqb, ne_eqb}
use Rattle.pattern_cell.specs.Cells.{star_cell}
use Rattle.pattern_match.proofs.Matching.{
  cell_lies,
  run_star,
  star_met,
  star_there,
  run_short,
  run_fails,
  run_takes,
  star_takes,
  run_left,
  run_whole,
}
use Rattle.pattern_match.proofs.run_to_star.Goals as goal

pub returns-then-cell-eq-STAR : goal.returns-then-cell-eq-STAR
returns-then-cell-eq-STAR c =
    let a = c.args in
    let l = c.loop-at in
    let h = c.loop-at-test.true in
    let y = eq-eqb _ star_cell c.if-cell-eq-STAR.true in
    record {
      says = λ es s. l.invariant.same es s ∙ run_star s l.at h a.path l.head l.first a.text.now l.k y;
      keeps = λ es s z. star_met s l.at h a.path l.head l.first a.text.now l.k y (l.invariant.keeps es s z);
      there = star_there a.cells.now l.at y;
      further = omega arith;
      inside = omega arith;
      beyond = l.invariant.beyond;
      within = l.invariant.within;
    }

pub returns-then-text-k : goal.returns-then-text-k
returns-then-text-k c es s =
    let l = c.loop-at in
    l.invariant.same es s ∙ run_short s l.at c.loop-at-test.true c.args.path l.head l.first c.args.text.now l.k
    (ne_eqb _ star_cell c.if-cell-eq-STAR.false) c.if-text-k.true

pub takes_one-requires : goal.takes_one-requires
takes_one-requires c = cell_lies c.requires.shown.shows c.loop-at.at c.loop-at-test.true

pub returns-then-not-takes_one : goal.returns-then-not-takes_one
returns-then-not-takes_one c es s =
    let l = c.loop-at in
    l.invariant.same es s ∙ run_fails s l.at c.loop-at-test.true c.args.path l.head l.first c.args.text.now l.k
    (ne_eqb _ star_cell c.if-cell-eq-STAR.false) c.if-text-k.false c.takes_one.ensures c.if-not-takes_one.true

pub loop-at-preserved : goal.loop-at-preserved
loop-at-preserved c =
    let a = c.args in
    let l = c.loop-at in
    let h = c.loop-at-test.true in
    let n = ne_eqb _ star_cell c.if-cell-eq-STAR.false in
    let m = c.if-text-k.false in
    let y = c.if-not-takes_one.false in
    record {
      within = omega arith;
      beyond = omega arith;
      same = λ es s. l.invariant.same es s ∙ run_takes s l.at h a.path l.head l.first a.text.now l.k n m c.takes_one.ensures y;
      keeps = λ es s z. star_takes s l.at h a.path l.head l.first a.text.now l.k n m c.takes_one.ensures y (l.invariant.keeps es s z);
    }

pub returns-then-k-text : goal.returns-then-k-text
returns-then-k-text c es s =
    let l = c.loop-at in
    l.invariant.same es s ∙ run_left s l.at c.loop-at-test.false c.args.path l.head l.first c.args.text.now l.k c.if-k-text.true

pub returns-else-k-text : goal.returns-else-k-text
returns-else-k-text c es s =
    let l = c.loop-at in
    l.invariant.same es s ∙ run_whole s l.at c.loop-at-test.false c.args.path l.head l.first c.args.text.now l.k c.if-k-text.false
