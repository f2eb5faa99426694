-- `tab_list::pack_fields` meets its contract: the line at the walk's place is added behind those before it.
use Rattle.std.proofs.Common.{◌≡◌, refl, ◌∙◌, arith, rules}
use Rattle.std.proofs.lemmas.Result.{err_from_is_err_and}
use Rattle.tab_pack.proofs.Going.{told_as}
use Rattle.tab_list.proofs.Listing.{going_starts, going_ends, line_there, going_end, going_bad, going_more, lists_for}
use Rattle.tab_list.proofs.pack_fields.Goals as goal

pub loop-at-init : goal.loop-at-init
loop-at-init c = (going_starts c.args.text.now c.args.out.now c.requires.0, refl)

pub overflow_add-end : goal.overflow_add-end
overflow_add-end c = omega (arith, going_end (line_there c.loop-at.invariant.0 c.loop-at-test.true c.find.ensures))

pub slice_bounds-add_line-end : goal.slice_bounds-add_line-end
slice_bounds-add_line-end c = going_end (line_there c.loop-at.invariant.0 c.loop-at-test.true c.find.ensures)

pub returns-in_err-used : goal.returns-in_err-used
returns-in_err-used c =
    let k : told_as c.loop-at.line c.add_line.result ≡ c.map_err.result = search rules in
    let p = err_from_is_err_and c.from_residual.result c.from_residual.ensures.1 in
    let l = line_there c.loop-at.invariant.0 c.loop-at-test.true c.find.ensures in
    rw (p.1, p.2) (lists_for c.args.text.now c.args.out.now (going_bad l c.add_line.ensures (k ∙ c.in_err-used.was)))

pub loop-at-preserved : goal.loop-at-preserved
loop-at-preserved c =
    let k : told_as c.loop-at.line c.add_line.result ≡ c.map_err.result = search rules in
    let l = line_there c.loop-at.invariant.0 c.loop-at-test.true c.find.ensures in
    (going_more l c.add_line.ensures (k ∙ c.in_ok-used.was), c.add_line.auto.work ∙ c.loop-at.invariant.1)

pub returns : goal.returns
returns c = lists_for c.args.text.now c.args.out.now (going_ends c.loop-at.invariant.0 c.loop-at-test.false)
