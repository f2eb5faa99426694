-- Outside paths every byte passes; in paths each way out of the loop is one law.
use mathlib.Core.Path.{sym, ◌∙◌, ap}
use mathlib.Core.Bool.{Bool}
use Rattle.pattern_match.specs.Steps.{all_pass}
use Rattle.pattern_match.proofs.Ends.{gap_free, gap_bars, gap_on, gap_over}
use Rattle.pattern_match.proofs.gap_passes.Goals as goal

pub returns-then-not-path : goal.returns-then-not-path
returns-then-not-path c =
    let a = c.args in
    sym (ap (λ (p : Bool). all_pass p a.begins a.gap.now) c.if-not-path.true ∙ gap_free a.begins a.gap.now)

pub returns-then-not-passes_byte : goal.returns-then-not-passes_byte
returns-then-not-passes_byte c =
    let l = c.loop-b in
    sym (l.invariant ∙ gap_bars c.args.path l.first c.args.gap.now l.b-index c.loop-b-test.true (sym c.passes_byte.ensures ∙ c.if-not-passes_byte.true))

pub loop-b-preserved : goal.loop-b-preserved
loop-b-preserved c =
    let l = c.loop-b in
    l.invariant ∙ gap_on c.args.path l.first c.args.gap.now l.b-index c.loop-b-test.true (sym c.passes_byte.ensures ∙ c.if-not-passes_byte.false)

pub returns : goal.returns
returns c =
    let l = c.loop-b in
    sym (l.invariant ∙ gap_over c.args.path l.first c.args.gap.now l.b-index c.loop-b-test.false)
