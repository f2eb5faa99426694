-- A star that is met becomes the last one, and where a run fails the last star takes one byte more, and before each run all bytes with which no end can
-- begin.
use mathlib.Core.Path.{sym, ◌∙◌}
use native.Mathlib.Omega.{arith}
use lib.ListN.{drop}
use Rattle.pattern_match.proofs.Matching.{end_matches, end_last, end_bars, end_on, skip_reach, last_star}
use Rattle.pattern_match.proofs.behind_star.Goals as goal

pub returns-in-Whole : goal.returns-in-Whole
returns-in-Whole c es s =
    let a = c.args in
    let l = c.loop-at in
    let k = c.skip-k.result in
    let reached = l.invariant.same es s ∙ skip_reach s l.at (omega (arith, c.requires.trails.inside)) a.path l.first a.text.now c.skip-k.ensures in
    sym (reached ∙ end_matches a.path (drop l.at es) l.first a.text.now k (c.in-Whole.ensures es s))

pub returns-then-text-k : goal.returns-then-text-k
returns-then-text-k c es s =
    let a = c.args in
    let l = c.loop-at in
    let k = c.skip-k.result in
    let reached = l.invariant.same es s ∙ skip_reach s l.at (omega (arith, c.requires.trails.inside)) a.path l.first a.text.now c.skip-k.ensures in
    sym (reached ∙ end_last a.path (drop l.at es) l.first a.text.now k (c.in-Fails.ensures es s) c.if-text-k.true)

pub returns-then-not-passes_byte : goal.returns-then-not-passes_byte
returns-then-not-passes_byte c es s =
    let a = c.args in
    let l = c.loop-at in
    let k = c.skip-k.result in
    let reached = l.invariant.same es s ∙ skip_reach s l.at (omega (arith, c.requires.trails.inside)) a.path l.first a.text.now c.skip-k.ensures in
    sym (reached ∙ end_bars a.path (drop l.at es) l.first a.text.now k (c.in-Fails.ensures es s) c.if-text-k.false
    (sym c.passes_byte.ensures ∙ c.if-not-passes_byte.true))

pub loop-at-preserved-in-Fails : goal.loop-at-preserved-in-Fails
loop-at-preserved-in-Fails c = record {
  inside = c.loop-at.invariant.inside;
  within = omega arith;
  same = λ es s.
      let a = c.args in
      let l = c.loop-at in
      let k = c.skip-k.result in
      let reached = l.invariant.same es s ∙ skip_reach s l.at (omega (arith, c.requires.trails.inside)) a.path l.first a.text.now c.skip-k.ensures in
      reached ∙ end_on a.path (drop l.at es) l.first a.text.now k (c.in-Fails.ensures es s) c.if-text-k.false
      (sym c.passes_byte.ensures ∙ c.if-not-passes_byte.false);
}

pub loop-at-preserved : goal.loop-at-preserved
loop-at-preserved c =
    let m = c.in-Star.ensures in
    record {
      inside = m.inside;
      within = m.within;
      same = λ es s.
          let a = c.args in
          let l = c.loop-at in
          let k = c.skip-k.result in
          let reached = l.invariant.same es s ∙ skip_reach s l.at (omega (arith, c.requires.trails.inside)) a.path l.first a.text.now c.skip-k.ensures in
          reached ∙ last_star a.path a.sets.now a.cells.now a.text.now l.at k l.first m es s;
    }
