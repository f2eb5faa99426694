-- Each text passed matched nothing.
use Rattle.std.proofs.Common.{◌≡◌, None, Ok, ap, sym, ◌∙◌, arith, rules}
use Rattle.pattern_paths.proofs.Walking.{passing_start, passing_end, passing_bad, passing_found, passing_on, text_low, text_high}
use Rattle.pattern_paths.proofs.next_path.Goals as goal

pub loop-end-init : goal.loop-end-init
loop-end-init c es s = passing_start es c.args.paths.now c.args.at c.requires.walks

pub overflow_add-start : goal.overflow_add-start
overflow_add-start c =
    let k = c.requires.shown.0 in
    let w = c.loop-end.invariant k.es k.shows in
    let e = c.in-Ok-Some.is ∙ ap Ok c.in-Ok-Some.field-0-is in
    omega (arith, text_low w c.text_at.ensures e, text_high w c.text_at.ensures e)

pub slice_bounds-matches-count : goal.slice_bounds-matches-count
slice_bounds-matches-count c =
    let k = c.requires.shown.0 in
    text_low (c.loop-end.invariant k.es k.shows) c.text_at.ensures (c.in-Ok-Some.is ∙ ap Ok c.in-Ok-Some.field-0-is)

pub slice_bounds-matches-end : goal.slice_bounds-matches-end
slice_bounds-matches-end c =
    let k = c.requires.shown.0 in
    text_high (c.loop-end.invariant k.es k.shows) c.text_at.ensures (c.in-Ok-Some.is ∙ ap Ok c.in-Ok-Some.field-0-is)

pub returns-then-matches : goal.returns-then-matches
returns-then-matches c es s =
    passing_found (c.loop-end.invariant es s) c.text_at.ensures (c.in-Ok-Some.is ∙ ap Ok c.in-Ok-Some.field-0-is)
    (sym (c.matches.ensures es s) ∙ c.if-matches.true)

pub loop-end-smaller : goal.loop-end-smaller
loop-end-smaller c =
    let k = c.requires.shown.0 in
    let w = c.loop-end.invariant k.es k.shows in
    let e = c.in-Ok-Some.is ∙ ap Ok c.in-Ok-Some.field-0-is in
    omega (arith, text_low w c.text_at.ensures e, text_high w c.text_at.ensures e)

pub loop-end-preserved : goal.loop-end-preserved
loop-end-preserved c es s =
    passing_on (c.loop-end.invariant es s) c.text_at.ensures (c.in-Ok-Some.is ∙ ap Ok c.in-Ok-Some.field-0-is)
    (sym (c.matches.ensures es s) ∙ c.if-matches.false)

pub returns-in_default : goal.returns-in_default
returns-in_default c es s =
    let n : c.in_default.field-0 ≡ None = search rules in
    passing_end (c.loop-end.invariant es s) c.text_at.ensures (c.in_default.is ∙ ap Ok n)

pub returns-in_default-2 : goal.returns-in_default-2
returns-in_default-2 c es s = passing_bad (c.loop-end.invariant es s) c.text_at.ensures c.in_default.is

pub slice_bounds-matches-start : goal.slice_bounds-matches-start
slice_bounds-matches-start c =
    let k = c.requires.shown.0 in
    text_low (c.loop-end.invariant k.es k.shows) c.text_at.ensures (c.in-Ok-Some.is ∙ ap Ok c.in-Ok-Some.field-0-is)
