-- None of the cuts before the one at hand matches: the first that does is the first from there on.
use mathlib.Core.Path.{refl, sym, ◌∙◌}
use native.Mathlib.Omega.{arith}
use Rattle.text.specs.Cases.{side_of}
use Rattle.pattern_remove.proofs.Cutting.{cut_here, cut_on, cut_none, cut_within, cuts_at}
use Rattle.pattern_remove.proofs.cut_place.Goals as goal

pub loop-i-init : goal.loop-i-init
loop-i-init c p s = refl

pub drops_match-requires-clause-k_in_bounds : goal.drops_match-requires-clause-k_in_bounds
drops_match-requires-clause-k_in_bounds c =
    let a = c.args in
    cut_within (side_of a.suffix) a.down c.requires.shown.es a.value.now c.loop-i.i (omega arith) c.cut_at-k.ensures

pub returns-then-drops_match : goal.returns-then-drops_match
returns-then-drops_match c p s =
    let l = c.loop-i in
    let a = c.args in
    cuts_at (side_of a.suffix) a.down p a.value.now
    (cut_here (side_of a.suffix) a.down p a.value.now l.i (omega arith) c.cut_at-k.ensures (sym (c.drops_match.ensures p s) ∙ c.if-drops_match.true)
    ∙ sym (l.invariant p s))
    (cut_within (side_of a.suffix) a.down p a.value.now l.i (omega arith) c.cut_at-k.ensures)

pub loop-i-preserved : goal.loop-i-preserved
loop-i-preserved c p s =
    let l = c.loop-i in
    let a = c.args in
    l.invariant p s
    ∙ cut_on (side_of a.suffix) a.down p a.value.now l.i (omega arith) c.cut_at-k.ensures (sym (c.drops_match.ensures p s) ∙ c.if-drops_match.false)

pub returns-then-suffix : goal.returns-then-suffix
returns-then-suffix c p s =
    let l = c.loop-i in
    let a = c.args in
    cuts_at (side_of a.suffix) a.down p a.value.now
    (sym (l.invariant p s ∙ cut_none (side_of a.suffix) a.down p a.value.now l.i (omega arith) ∙ rw c.if-suffix.true))
    (omega arith)

pub returns-else-suffix : goal.returns-else-suffix
returns-else-suffix c p s =
    let l = c.loop-i in
    let a = c.args in
    cuts_at (side_of a.suffix) a.down p a.value.now
    (sym (l.invariant p s ∙ cut_none (side_of a.suffix) a.down p a.value.now l.i (omega arith) ∙ rw c.if-suffix.false))
    (omega arith)
