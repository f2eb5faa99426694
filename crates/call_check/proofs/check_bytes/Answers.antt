-- 5 before 6.
use mathlib.Core.Path.{sym, ap, ◌∙◌}
use mathlib.Core.Bool.{not}
use borrow.Author.Tests.{not-true, not-false}
use Rattle.text.proofs.Zeros.{zero_among}
use Rattle.call_check.specs.Checks.{too_long, has_zero}
use Rattle.call_check.proofs.check_bytes.Goals as goal

pub returns-then-line-gt-LINE_LIMIT : goal.returns-then-line-gt-LINE_LIMIT
returns-then-line-gt-LINE_LIMIT c = rw c.refuse.ensures (too_long c.if-line-gt-LINE_LIMIT.true)

pub returns-then-not-no_zero : goal.returns-then-not-no_zero
returns-then-not-no_zero c =
    rw c.refuse-then-not-no_zero.ensures
    (has_zero c.if-line-gt-LINE_LIMIT.false (zero_among c.args.line.now ∙ ap not (sym c.no_zero.ensures ∙ not-true _ c.if-not-no_zero.true-raw)))

pub returns : goal.returns
returns c = record {
  short = c.if-line-gt-LINE_LIMIT.false;
  whole = zero_among c.args.line.now ∙ ap not (sym c.no_zero.ensures ∙ not-false _ c.if-not-no_zero.false-raw);
}
