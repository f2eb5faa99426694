-- `tab_pack::pack` meets its contract: the line at the walk's place is entered behind those before it.
use Rattle.std.proofs.Common.{◌≡◌, refl, ◌∙◌, arith, rules}
use Rattle.std.proofs.lemmas.Result.{err_from_is_err_and}
use Rattle.tab_pack.proofs.Going.{
  stands_table,
  going_starts,
  going_ends,
  line_there,
  told_as,
  going_end,
  going_bad,
  going_more,
  packs_from,
}
use Rattle.tab_pack.proofs.pack.Goals as goal

pub loop-at-init : goal.loop-at-init
loop-at-init c = (going_starts c.args.kind c.args.text.now c.args.image.now c.requires.0, refl)

pub overflow_add-end : goal.overflow_add-end
overflow_add-end c = omega (arith, going_end (line_there c.loop-at.invariant.0 c.loop-at-test.true c.find.ensures))

pub slice_bounds-enter_line-end : goal.slice_bounds-enter_line-end
slice_bounds-enter_line-end c = going_end (line_there c.loop-at.invariant.0 c.loop-at-test.true c.find.ensures)

pub enter_line-requires-clause-table_by : goal.enter_line-requires-clause-table_by
enter_line-requires-clause-table_by c = stands_table c.loop-at.invariant.0.stands

pub returns-in_err-used : goal.returns-in_err-used
returns-in_err-used c =
    let k : told_as c.loop-at.line c.enter_line.result ≡ c.map_err.result = search rules in
    let p = err_from_is_err_and c.from_residual.result c.from_residual.ensures.1 in
    rw (p.1, p.2) (packs_from (going_bad (line_there c.loop-at.invariant.0 c.loop-at-test.true c.find.ensures) c.enter_line.ensures (k ∙ c.in_err-used.was)))

pub loop-at-preserved : goal.loop-at-preserved
loop-at-preserved c =
    let k : told_as c.loop-at.line c.enter_line.result ≡ c.map_err.result = search rules in
    let l = line_there c.loop-at.invariant.0 c.loop-at-test.true c.find.ensures in
    (going_more l c.enter_line.ensures (k ∙ c.in_ok-used.was), c.enter_line.auto.work ∙ c.loop-at.invariant.1)

pub returns : goal.returns
returns c = packs_from (going_ends c.loop-at.invariant.0 c.loop-at-test.false)
