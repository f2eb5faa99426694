-- The run over the rest of the pattern at the text's end decides whether that end matches, and the gap before it whether the star reaches it.
use Prim.Native.Nat.{◌-◌}
use mathlib.Core.Path.{◌≡◌, sym, ◌∙◌}
use mathlib.Core.Bool.{false, ◌&&◌}
use native.Mathlib.Omega.{arith}
use borrow.Author.Rules.{rules}
use lib.Dec.{eqb}
use lib.ListN.{length}
use Rattle.pattern_match.proofs.Ends.{rest_short, rest_matches, rest_fails, rest_missed}
use Rattle.pattern_match.proofs.behind_last_star.Goals as goal

pub returns-then-text-k : goal.returns-then-text-k
returns-then-text-k c es s =
    let a = c.args in
    sym (rest_short s a.at c.requires.trails a.path a.first a.text.now a.k c.if-text-k.true)

pub returns : goal.returns
returns c es s =
    let a = c.args in
    let end = length a.text.now - (length a.cells.now - a.at) in
    let begun : c.if-first.begins ≡ (a.first && eqb a.k end) = search rules in
    c.gap_passes.ensures ∙ sym (rest_matches s a.at c.requires.trails a.path a.first a.text.now a.k end (omega arith) (omega arith) begun
    (c.in-Whole.ensures es s))

pub returns-in_default : goal.returns-in_default
returns-in_default c es s =
    let a = c.args in
    let end = length a.text.now - (length a.cells.now - a.at) in
    let begun : c.if-first.begins ≡ (a.first && eqb a.k end) = search rules in
    sym (rest_fails s a.at c.requires.trails a.path a.first a.text.now a.k end (omega arith) (omega arith) begun
    (rest_missed a.path a.sets.now a.cells.now a.text.now a.at end false _ c.requires.trails c.run_to_star.ensures c.in_default.not-Whole es s))
