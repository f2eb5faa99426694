-- `table::text_at` meets its contract: what `frame_at` finds, and whether one of its bytes is zero, decide.
use Rattle.std.proofs.Common.{Ok, sym, ap, ◌∙◌, arith}
use Rattle.std.proofs.lemmas.Result.{err_from_is_err_and}
use Rattle.table.proofs.Pieces.{Framed, is_framed, framed_none, framed_malformed, framed_text, framed_broken}
use Rattle.table.proofs.text_at.Goals as goal
use Rattle.table.proofs.text_at.Goals.{In-Some}

-- the text that `frame_at` found
framed : (c : In-Some) → Framed c.args.image.now c.args.at c.in-Some.end
framed c = is_framed _ _ c.frame_at.ensures (c.in_ok-end.was ∙ ap Ok c.in-Some.is)

pub returns-in_err-end : goal.returns-in_err-end
returns-in_err-end c =
    let p = err_from_is_err_and c.from_residual.result c.from_residual.ensures.1 in
    p.1 ∙ framed_malformed _ _ c.frame_at.ensures c.in_err-end.was

pub returns-in_default : goal.returns-in_default
returns-in_default c = framed_none _ _ c.frame_at.ensures (c.in_ok-end.was ∙ ap Ok c.in_default.is)

pub overflow_add-start : goal.overflow_add-start
overflow_add-start c = let f = framed c in omega (arith, f.low, f.high)

pub slice_bounds-no_zero-count : goal.slice_bounds-no_zero-count
slice_bounds-no_zero-count c = (framed (goal.at.slice_bounds-no_zero-count c).In-Some).low

pub slice_bounds-no_zero-start : goal.slice_bounds-no_zero-start
slice_bounds-no_zero-start c = (framed (goal.at.slice_bounds-no_zero-start c).In-Some).low

pub slice_bounds-no_zero-end : goal.slice_bounds-no_zero-end
slice_bounds-no_zero-end c = (framed (goal.at.slice_bounds-no_zero-end c).In-Some).high

pub returns-then-no_zero : goal.returns-then-no_zero
returns-then-no_zero c = framed_text (framed (goal.at.returns-then-no_zero c).In-Some) (sym c.no_zero.ensures ∙ c.if-no_zero.true)

pub returns-else-no_zero : goal.returns-else-no_zero
returns-else-no_zero c = framed_broken (framed (goal.at.returns-else-no_zero c).In-Some) (sym c.no_zero.ensures ∙ c.if-no_zero.false)
