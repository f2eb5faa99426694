-- `table_insert::place_of` meets its contract: the paths passed are below the new one, and the first that is not decides.
use Rattle.std.proofs.Common.{◌≡◌, None, Ok, sym, ap, ◌∙◌, arith, rules}
use Rattle.table_insert.proofs.Placing.{Facing, starts, next_text, place_end, place_bad, place_less, place_same, place_more}
use Rattle.table_insert.proofs.place_of.Goals as goal
use Rattle.table_insert.proofs.place_of.Goals.{In-Ok-Some}

-- the walk where a text stands at its place
facing : (c : In-Ok-Some) → Facing c.args.image.now c.args.path.now c.loop-end.at c.in-Ok-Some.end
facing c = next_text c.loop-end.invariant c.text_at.ensures (c.in-Ok-Some.is ∙ ap Ok c.in-Ok-Some.field-0-is)

pub loop-end-init : goal.loop-end-init
loop-end-init c = starts _ _ c.requires (λ i. (c.type_inv.image i).fits)

pub slice_bounds-compare-count : goal.slice_bounds-compare-count
slice_bounds-compare-count c = (facing (goal.at.slice_bounds-compare-count c).In-Ok-Some).text.low

pub slice_bounds-compare-start : goal.slice_bounds-compare-start
slice_bounds-compare-start c = (facing (goal.at.slice_bounds-compare-start c).In-Ok-Some).text.low

pub slice_bounds-compare-end : goal.slice_bounds-compare-end
slice_bounds-compare-end c = (facing (goal.at.slice_bounds-compare-end c).In-Ok-Some).text.ahead.within

pub returns-in-Less : goal.returns-in-Less
returns-in-Less c = place_less (facing (goal.at.returns-in-Less c).In-Ok-Some) (sym c.compare.ensures ∙ c.in-Less.is)

pub returns-in-Equal : goal.returns-in-Equal
returns-in-Equal c = place_same (facing (goal.at.returns-in-Equal c).In-Ok-Some) (sym c.compare.ensures ∙ c.in-Equal.is)

pub loop-end-smaller : goal.loop-end-smaller
loop-end-smaller c = let t = (facing (goal.at.loop-end-smaller c).In-Ok-Some).text in omega (arith, t.low, t.ahead.within)

pub loop-end-preserved : goal.loop-end-preserved
loop-end-preserved c = place_more (facing (goal.at.loop-end-preserved c).In-Ok-Some) (sym c.compare.ensures ∙ c.in-Greater.is)

pub returns-in_default : goal.returns-in_default
returns-in_default c =
    let n : c.in_default.field-0 ≡ None = search rules in
    place_end c.loop-end.invariant c.text_at.ensures (c.in_default.is ∙ ap Ok n)

pub returns-in_default-2 : goal.returns-in_default-2
returns-in_default-2 c = place_bad c.loop-end.invariant c.text_at.ensures c.in_default.is
