-- What stands at each place is one part of the text's tree, and its own row stands after the rows before it.
use Rattle.std.proofs.Common.{◌≡◌, ◌<◌, ◌≤◌, ◌+◌, ◌-◌, ◌*◌, ◌||◌, length, Ok, refl, sym, ap, ◌∙◌, arith}
use Rattle.std.specs.Result.{result_from_control_flow}
use Rattle.std.proofs.lemmas.Result.{err_from_is_err_and}
use borrow.Rule.Slice.PartMut.{put_mid, mid_len, same_len_mid}
use Rattle.stages.specs.Numbers.{row_limit}
use Rattle.table.specs.Around.{lent_of}
use Rattle.table_store.proofs.Holding.{table_held}
use Rattle.row.specs.Marks.{mark_of}
use Rattle.read_mode.specs.Modes.{form_of}
use Rattle.read_brace.specs.Shows.{param_of}
use Rattle.read_item.specs.After.{mode_after_read, stops_read}
use Rattle.expand_add.proofs.Standing.{empty_front}
use Rattle.expand_text.proofs.Inside.{lending, quote_full, quote_expanded, quote_stopped, quote_waiting, quote_row, plan_refused, unused_given}
use Rattle.expand_text.proofs.Inside.{operand_expanded, used_stopped, used_ready, used_holds, used_given, sum_expanded, sum_stopped, sum_holds}
use Rattle.expand_text.proofs.Inside.{sum_few, sum_given}
use Rattle.expand_text.proofs.Items.{here_at, item_stop, item_byte, item_paren, item_value, item_count, item_total, item_spread, item_home}
use Rattle.expand_text.proofs.Items.{item_quote, item_inner, item_sum, value_name, count_name, quote_place, quote_ready}
use Rattle.expand_text.proofs.Items.{inner_place, inner_places, inner_ready, inner_name, sum_place, sum_ready}
use Rattle.expand_text.proofs.Looping.{run_full, run_refused, going_start, going_room, going_ready, going_put, going_fault, expanding_item}
use Rattle.expand_text.proofs.Looping.{going_close, going_close_within, going_stopped, going_waiting, going_fits, going_end, moved, going_row}
use Rattle.expand_text.proofs.Looping.{came_before, came_now}
use Rattle.expand_text.proofs.+expand_inner_expand_item_expand_quote_expand_sum_expand_text.Goals as goal
use Rattle.expand_text.proofs.+expand_inner_expand_item_expand_quote_expand_sum_expand_text.Goals.{
  expand_text-then-of_none,
  expand_text-else-of_none,
}

pub expand_inner-plan_at-requires : goal.expand_inner-plan_at-requires
expand_inner-plan_at-requires t c =
    (c.requires.5, table_held _ _ _ c.requires.1, c.requires.3)

pub expand_inner-returns-in_err-what : goal.expand_inner-returns-in_err-what
expand_inner-returns-in_err-what t c =
    let a = c.args in
    let p = err_from_is_err_and c.from_residual.result c.from_residual.ensures.1 in
    rw (p.1, p.2)
    (plan_refused a.row.units a.params.now (param_of a.text.now a.named.param) (form_of a.named.form) (mark_of a.row.mark) c.requires.0
    (lending {shouts = a.extent.shouts} a.params.now c.requires.1 c.requires.2 c.requires.3) refl c.in_err-what.ensures refl a.work.now a.vars.now)

pub expand_inner-settle-requires : goal.expand_inner-settle-requires
expand_inner-settle-requires t c =
    (c.requires.5, table_held _ _ _ c.requires.1, c.requires.3, c.requires.4, omega (arith, c.requires.0.area))

pub expand_inner-returns-in_ok-next-in-Unused : goal.expand_inner-returns-in_ok-next-in-Unused
expand_inner-returns-in_ok-next-in-Unused t c =
    let a = c.args in
    unused_given a.row.units a.params.now (param_of a.text.now a.named.param) (form_of a.named.form) (mark_of a.row.mark) c.requires.0
    (lending {shouts = a.extent.shouts} a.params.now c.requires.1 c.requires.2 c.requires.3) refl c.in_ok-what.ensures (ap Ok c.in-Unused.is)
    c.in_ok-next-in-Unused.ensures c.settle.new.work c.settle.result
    (c.settle.ensures a.extent.vars_room a.extent.shouts a.homes.now)

pub expand_inner-returns-in_err-given-in-Used : goal.expand_inner-returns-in_err-given-in-Used
expand_inner-returns-in_err-given-in-Used t c =
    let a = c.args in
    let x = operand_expanded a.params.now (param_of a.text.now a.named.param) a.row.units (form_of a.named.form) (mark_of a.row.mark) c.in-Used.what
    c.requires.0 (lending {shouts = a.extent.shouts} a.params.now c.requires.1 c.requires.2 c.requires.3) refl (rw c.in-Used.is at c.in_ok-what.ensures)
    c.operand_mark.ensures c.expand_text.new.work c.expand_text.new.vars c.expand_text.result c.expand_text.ensures in
    let p = err_from_is_err_and c.from_residual-in_err-given-in-Used.result c.from_residual-in_err-given-in-Used.ensures.1 in
    rw (p.1, p.2) (used_stopped x c.in_err-given-in-Used.field-0.0 c.in_err-given-in-Used.was)

pub expand_inner-finish-requires : goal.expand_inner-finish-requires
expand_inner-finish-requires t c =
    let a = c.args in
    let x = operand_expanded a.params.now (param_of a.text.now a.named.param) a.row.units (form_of a.named.form) (mark_of a.row.mark) c.in-Used.what
    c.requires.0 (lending {shouts = a.extent.shouts} a.params.now c.requires.1 c.requires.2 c.requires.3) refl (rw c.in-Used.is at c.in_ok-what.ensures)
    c.operand_mark.ensures c.expand_text.new.work c.expand_text.new.vars c.expand_text.result c.expand_text.ensures in
    let q = c.in_ok-given-in-Used.was in
    (c.requires.5, c.requires.3, used_ready x q c.requires.6, used_holds x q, c.requires.4, omega (arith, c.requires.0.area, c.expand_text.auto.work))

pub expand_inner-returns-in_ok-given-in-Used : goal.expand_inner-returns-in_ok-given-in-Used
expand_inner-returns-in_ok-given-in-Used t c =
    let a = c.args in
    let x = operand_expanded a.params.now (param_of a.text.now a.named.param) a.row.units (form_of a.named.form) (mark_of a.row.mark) c.in-Used.what
    c.requires.0 (lending {shouts = a.extent.shouts} a.params.now c.requires.1 c.requires.2 c.requires.3) refl (rw c.in-Used.is at c.in_ok-what.ensures)
    c.operand_mark.ensures c.expand_text.new.work c.expand_text.new.vars c.expand_text.result c.expand_text.ensures in
    used_given x c.in_ok-given-in-Used.was c.finish.new.work c.finish.new.vars c.finish.result (c.finish.ensures a.homes.now)

pub expand_item-expand_quote-requires : goal.expand_item-expand_quote-requires
expand_item-expand_quote-requires t c =
    let a = c.args in
    let x = here_at (mark_of a.row.mark) a.item c.requires.1 (lending {shouts = a.extent.shouts} a.params.now c.requires.2 c.requires.3 c.requires.4)
    c.requires.0 in
    let n = quote_place x c.in-Quote.is in
    (omega (arith, c.decreases, n.onward, n.within), (quote_ready x c.in-Quote.is, c.requires.2, c.requires.3, c.requires.4))

pub expand_item-give_sought-requires : goal.expand_item-give_sought-requires
expand_item-give_sought-requires t c =
    let a = c.args in
    let x = here_at (mark_of a.row.mark) a.item c.requires.1 (lending {shouts = a.extent.shouts} a.params.now c.requires.2 c.requires.3 c.requires.4)
    c.requires.0 in
    (value_name x c.in-Value.is, table_held _ _ _ c.requires.2, c.requires.4, c.requires.1.few, omega (arith, c.requires.1.area))

pub expand_item-give_length-requires : goal.expand_item-give_length-requires
expand_item-give_length-requires t c =
    let a = c.args in
    let x = here_at (mark_of a.row.mark) a.item c.requires.1 (lending {shouts = a.extent.shouts} a.params.now c.requires.2 c.requires.3 c.requires.4)
    c.requires.0 in
    (count_name x c.in-Count.is, table_held _ _ _ c.requires.2, c.requires.4, c.requires.1.few, omega (arith, c.requires.1.area))

pub expand_item-give_list-requires-clause-table : goal.expand_item-give_list-requires-clause-table
expand_item-give_list-requires-clause-table t c =
    (table_held _ _ _ c.requires.2, c.requires.4)

pub expand_item-expand_inner-requires : goal.expand_item-expand_inner-requires
expand_item-expand_inner-requires t c =
    let a = c.args in
    let x = here_at (mark_of a.row.mark) a.item c.requires.1 (lending {shouts = a.extent.shouts} a.params.now c.requires.2 c.requires.3 c.requires.4)
    c.requires.0 in
    let n = inner_place x c.in-Inner.is in (
      omega (arith, c.decreases, n.onward, n.within),
      (
        inner_ready x c.in-Inner.is,
        c.requires.2,
        c.requires.3,
        c.requires.4,
        c.requires.1.few,
        inner_places x c.in-Inner.is,
        inner_name x c.in-Inner.is,
      ),
    )

pub expand_item-expand_sum-requires : goal.expand_item-expand_sum-requires
expand_item-expand_sum-requires t c =
    let a = c.args in
    let x = here_at (mark_of a.row.mark) a.item c.requires.1 (lending {shouts = a.extent.shouts} a.params.now c.requires.2 c.requires.3 c.requires.4)
    c.requires.0 in
    let y = sum_ready x c.in-Sum.is in
    (omega (arith, c.decreases, sum_place x c.in-Sum.is, y.start), (y, c.requires.2, c.requires.3, c.requires.4, c.requires.1.few))

pub expand_item-give_home-requires : goal.expand_item-give_home-requires
expand_item-give_home-requires t c =
    (table_held _ _ _ c.requires.2, c.requires.3, c.requires.1.few, omega (arith, c.requires.1.area))

pub expand_item-returns-in-Stop : goal.expand_item-returns-in-Stop
expand_item-returns-in-Stop t c =
    let a = c.args in
    let x = here_at (mark_of a.row.mark) a.item c.requires.1 (lending {shouts = a.extent.shouts} a.params.now c.requires.2 c.requires.3 c.requires.4)
    c.requires.0 in
    item_stop x a.work.now c.in-Stop.is

pub expand_item-returns-in-Byte : goal.expand_item-returns-in-Byte
expand_item-returns-in-Byte t c =
    let a = c.args in
    let x = here_at (mark_of a.row.mark) a.item c.requires.1 (lending {shouts = a.extent.shouts} a.params.now c.requires.2 c.requires.3 c.requires.4)
    c.requires.0 in
    item_byte x c.in-Byte.is c.literal_mark.ensures c.give_unit.new.area c.give_unit.result c.give_unit.ensures

pub expand_item-returns-in-Paren : goal.expand_item-returns-in-Paren
expand_item-returns-in-Paren t c =
    let a = c.args in
    let x = here_at (mark_of a.row.mark) a.item c.requires.1 (lending {shouts = a.extent.shouts} a.params.now c.requires.2 c.requires.3 c.requires.4)
    c.requires.0 in
    item_paren x c.in-Paren.is c.give_unit-in-Paren.new.area c.give_unit-in-Paren.result c.give_unit-in-Paren.ensures

pub expand_item-returns-in-Quote : goal.expand_item-returns-in-Quote
expand_item-returns-in-Quote t c =
    let a = c.args in
    let x = here_at (mark_of a.row.mark) a.item c.requires.1 (lending {shouts = a.extent.shouts} a.params.now c.requires.2 c.requires.3 c.requires.4)
    c.requires.0 in
    item_quote x c.in-Quote.is c.expand_quote.new.work c.expand_quote.new.vars c.expand_quote.result c.expand_quote.ensures

pub expand_item-returns-in-Value : goal.expand_item-returns-in-Value
expand_item-returns-in-Value t c =
    let a = c.args in
    let x = here_at (mark_of a.row.mark) a.item c.requires.1 (lending {shouts = a.extent.shouts} a.params.now c.requires.2 c.requires.3 c.requires.4)
    c.requires.0 in
    item_value x c.in-Value.is c.give_sought.new.area c.give_sought.result c.give_sought.ensures

pub expand_item-returns-in-Count : goal.expand_item-returns-in-Count
expand_item-returns-in-Count t c =
    let a = c.args in
    let x = here_at (mark_of a.row.mark) a.item c.requires.1 (lending {shouts = a.extent.shouts} a.params.now c.requires.2 c.requires.3 c.requires.4)
    c.requires.0 in
    item_count x c.in-Count.is c.give_length.new.area c.give_length.result c.give_length.ensures

pub expand_item-returns-in-Total : goal.expand_item-returns-in-Total
expand_item-returns-in-Total t c =
    let a = c.args in
    let x = here_at (mark_of a.row.mark) a.item c.requires.1 (lending {shouts = a.extent.shouts} a.params.now c.requires.2 c.requires.3 c.requires.4)
    c.requires.0 in
    item_total x c.in-Total.is c.give_total.new.area c.give_total.result c.give_total.ensures

pub expand_item-returns-in-Home : goal.expand_item-returns-in-Home
expand_item-returns-in-Home t c =
    let a = c.args in
    let x = here_at (mark_of a.row.mark) a.item c.requires.1 (lending {shouts = a.extent.shouts} a.params.now c.requires.2 c.requires.3 c.requires.4)
    c.requires.0 in
    item_home x c.in-Home.is c.give_home.new.area c.give_home.result c.give_home.ensures

pub expand_item-returns-in-Spread : goal.expand_item-returns-in-Spread
expand_item-returns-in-Spread t c =
    let a = c.args in
    let x = here_at (mark_of a.row.mark) a.item c.requires.1 (lending {shouts = a.extent.shouts} a.params.now c.requires.2 c.requires.3 c.requires.4)
    c.requires.0 in
    item_spread x c.in-Spread.is c.is_of_none.ensures c.give_list.new.area c.give_list.result c.give_list.ensures

pub expand_item-returns-in-Inner : goal.expand_item-returns-in-Inner
expand_item-returns-in-Inner t c =
    let a = c.args in
    let x = here_at (mark_of a.row.mark) a.item c.requires.1 (lending {shouts = a.extent.shouts} a.params.now c.requires.2 c.requires.3 c.requires.4)
    c.requires.0 in
    item_inner x c.in-Inner.is c.expand_inner.new.work c.expand_inner.new.vars c.expand_inner.result c.expand_inner.ensures

pub expand_item-returns-in-Sum : goal.expand_item-returns-in-Sum
expand_item-returns-in-Sum t c =
    let a = c.args in
    let x = here_at (mark_of a.row.mark) a.item c.requires.1 (lending {shouts = a.extent.shouts} a.params.now c.requires.2 c.requires.3 c.requires.4)
    c.requires.0 in
    item_sum x c.in-Sum.is c.expand_sum.new.work c.expand_sum.new.vars c.expand_sum.result c.expand_sum.ensures

pub expand_quote-returns-then-units-ge-ROW_LIMIT : goal.expand_quote-returns-then-units-ge-ROW_LIMIT
expand_quote-returns-then-units-ge-ROW_LIMIT t c =
    let a = c.args in
    quote_full c.requires.0 (lending {shouts = a.extent.shouts} a.params.now c.requires.1 c.requires.2 c.requires.3) a.work.now a.vars.now
    c.if-units-ge-ROW_LIMIT.true

pub expand_quote-returns-in-Ok : goal.expand_quote-returns-in-Ok
expand_quote-returns-in-Ok t c =
    let a = c.args in
    let l : a.units < row_limit = omega arith in
    let x = quote_expanded c.requires.0 (lending {shouts = a.extent.shouts} a.params.now c.requires.1 c.requires.2 c.requires.3) l c.expand_text.new.work
    c.expand_text.new.vars c.expand_text.result c.expand_text.ensures in
    quote_row x c.in-Ok.is c.units_in_quotes.ensures c.put_empty.new.area _ _ (empty_front a.work.now c.put_empty.new.area c.put_empty.ensures)

pub expand_quote-behind-requires : goal.expand_quote-behind-requires
expand_quote-behind-requires t c =
    let a = c.args in
    let l : a.units < row_limit = omega arith in
    let x = quote_expanded c.requires.0 (lending {shouts = a.extent.shouts} a.params.now c.requires.1 c.requires.2 c.requires.3) l c.expand_text.new.work
    c.expand_text.new.vars c.expand_text.result c.expand_text.ensures in
    let w = c.put_empty.new.area in
    omega (
      arith,
      quote_waiting x c.in-Err.stop c.in-Err.is,
      c.expand_text.auto.work,
      mid_len 2 (length w) w (omega arith),
      c.put_empty.auto.area,
      c.well_formed,
    )

pub expand_quote-returns-in-Err : goal.expand_quote-returns-in-Err
expand_quote-returns-in-Err t c =
    let a = c.args in
    let l : a.units < row_limit = omega arith in
    let x = quote_expanded c.requires.0 (lending {shouts = a.extent.shouts} a.params.now c.requires.1 c.requires.2 c.requires.3) l c.expand_text.new.work
    c.expand_text.new.vars c.expand_text.result c.expand_text.ensures in
    let w : 2 ≤ length c.put_empty.new.area = omega (arith, c.requires.0.area, c.put_empty.auto.area) in
    rw c.behind.ensures (quote_stopped x c.in-Err.stop c.in-Err.is c.put_empty.new.area _ w)

pub expand_sum-returns-in_err-summed : goal.expand_sum-returns-in_err-summed
expand_sum-returns-in_err-summed t c =
    let a = c.args in
    let x = sum_expanded (lent_of a.extent.vars_room a.extent.shouts a.homes.now a.params.now) a.vars.now a.extent.vars_used a.row.units
    (mark_of a.row.mark) c.requires.0 c.expand_text.new.work c.expand_text.new.vars c.expand_text.result c.expand_text.ensures in
    let p = err_from_is_err_and c.from_residual.result c.from_residual.ensures.1 in
    rw (p.1, p.2) (sum_stopped x c.in_err-summed.field-0.0 c.in_err-summed.was)

pub expand_sum-sum_up-requires : goal.expand_sum-sum_up-requires
expand_sum-sum_up-requires t c =
    let a = c.args in
    let x = sum_expanded (lent_of a.extent.vars_room a.extent.shouts a.homes.now a.params.now) a.vars.now a.extent.vars_used a.row.units
    (mark_of a.row.mark) c.requires.0 c.expand_text.new.work c.expand_text.new.vars c.expand_text.result c.expand_text.ensures in
    let q = c.in_ok-summed.was in
    (sum_holds x q, sum_few x q, c.requires.4, omega (arith, c.requires.0.area, c.expand_text.auto.work))

pub expand_sum-returns : goal.expand_sum-returns
expand_sum-returns t c =
    let a = c.args in
    let x = sum_expanded (lent_of a.extent.vars_room a.extent.shouts a.homes.now a.params.now) a.vars.now a.extent.vars_used a.row.units
    (mark_of a.row.mark) c.requires.0 c.expand_text.new.work c.expand_text.new.vars c.expand_text.result c.expand_text.ensures in
    sum_given x c.in_ok-summed.was c.sum_up.new.work c.sum_up.new.vars c.sum_up.result (c.sum_up.ensures a.homes.now a.params.now)

pub expand_text-loop-from-init : goal.expand_text-loop-from-init
expand_text-loop-from-init t c =
    going_start (mark_of c.args.row.mark) c.args.work.now c.requires.0 c.requires.1

pub expand_text-returns-then-not-put_run : goal.expand_text-returns-then-not-put_run
expand_text-returns-then-not-put_run t c =
    run_refused c.loop-from.invariant c.behind_literals-passed.ensures _ (run_full c.put_run.ensures c.if-not-put_run.true)

pub expand_text-overflow_add-result : goal.expand_text-overflow_add-result
expand_text-overflow_add-result t c =
    let r = going_put c.loop-from.invariant c.behind_literals-passed.ensures c.put_run.ensures c.if-not-put_run.false c.put_run.auto.area in
    let e = sym c.is_end.ensures ∙ c.if-is_end.true in
    omega (arith, going_close_within r e c.end_length.ensures)

pub expand_text-returns-then-is_end : goal.expand_text-returns-then-is_end
expand_text-returns-then-is_end t c =
    let r = going_put c.loop-from.invariant c.behind_literals-passed.ensures c.put_run.ensures c.if-not-put_run.false c.put_run.auto.area in
    let e = sym c.is_end.ensures ∙ c.if-is_end.true in
    going_close r e c.end_length.ensures

pub expand_text-returns-in_err-item : goal.expand_text-returns-in_err-item
expand_text-returns-in_err-item t c =
    let r = going_put c.loop-from.invariant c.behind_literals-passed.ensures c.put_run.ensures c.if-not-put_run.false c.put_run.auto.area in
    going_fault r c.in_err-item.field-0.0 c.in_err-item.ensures c.from_residual.result _ _

pub expand_text-expand_item-requires : goal.expand_text-expand_item-requires
expand_text-expand_item-requires t c =
    let r = going_put c.loop-from.invariant c.behind_literals-passed.ensures c.put_run.ensures c.if-not-put_run.false c.put_run.auto.area in
    let l = c.loop-from in
    let w = put_mid (2 * l.n) (length l.work - 2 * l.n) l.work c.put_run.new.area in
    let n = l.n + (c.behind_literals-passed.result.at - l.i) in (
      omega (arith, c.decreases, r.onward, r.within),
      (
        c.in_ok-item.ensures,
        going_ready r c.requires.0.clean _ c.requires.0.area (omega (arith, mid_len (2 * n) (length w) w (omega arith), going_room r)),
        r.holds,
        c.requires.2,
        c.requires.3,
      ),
    )

pub expand_text-overflow_add-n : goal.expand_text-overflow_add-n
expand_text-overflow_add-n t c =
    let r = going_put c.loop-from.invariant c.behind_literals-passed.ensures c.put_run.ensures c.if-not-put_run.false c.put_run.auto.area in
    let x = expanding_item c.in_ok-item.item c.expand_item.new.work c.expand_item.new.vars c.expand_item.result r c.expand_item.ensures in
    omega (arith, going_fits x c.in-Ok.is)

pub expand_text-returns-then-is_stop : goal.expand_text-returns-then-is_stop
expand_text-returns-then-is_stop t c =
    let r = going_put c.loop-from.invariant c.behind_literals-passed.ensures c.put_run.ensures c.if-not-put_run.false c.put_run.auto.area in
    let x = expanding_item c.in_ok-item.item c.expand_item.new.work c.expand_item.new.vars c.expand_item.result r c.expand_item.ensures in
    let flag : c.if-of_none.of_none ≡ (c.loop-from.of_none || c.in-Ok.given.of_none) = elim c.if-of_none.branch [
      | expand_text-then-of_none w ↦ came_before c.loop-from.of_none _ (w.if-of_none.true, w.of_none-is)
      | expand_text-else-of_none w ↦ came_now c.loop-from.of_none _ (w.if-of_none.false, w.of_none-is)
    ] in
    let e : c.item_at-read.result ≡ Ok c.in_ok-item.item = c.branch-item.ensures ∙ ap result_from_control_flow c.in_ok-item.is in
    going_end x c.in-Ok.is flag (sym (c.is_stop.ensures ∙ ap stops_read e) ∙ c.if-is_stop.true) _

pub expand_text-loop-from-smaller : goal.expand_text-loop-from-smaller
expand_text-loop-from-smaller t c =
    let r = going_put c.loop-from.invariant c.behind_literals-passed.ensures c.put_run.ensures c.if-not-put_run.false c.put_run.auto.area in
    let x = expanding_item c.in_ok-item.item c.expand_item.new.work c.expand_item.new.vars c.expand_item.result r c.expand_item.ensures in
    let e : c.item_at-read.result ≡ Ok c.in_ok-item.item = c.branch-item.ensures ∙ ap result_from_control_flow c.in_ok-item.is in
    let m = moved x c.in-Ok.is (sym (c.is_stop.ensures ∙ ap stops_read e) ∙ c.if-is_stop.false) in
    omega (arith, c.behind_literals-passed.ensures.run.onward, m.onward, m.within)

pub expand_text-loop-from-preserved : goal.expand_text-loop-from-preserved
expand_text-loop-from-preserved t c =
    let r = going_put c.loop-from.invariant c.behind_literals-passed.ensures c.put_run.ensures c.if-not-put_run.false c.put_run.auto.area in
    let x = expanding_item c.in_ok-item.item c.expand_item.new.work c.expand_item.new.vars c.expand_item.result r c.expand_item.ensures in
    let flag : c.if-of_none.of_none ≡ (c.loop-from.of_none || c.in-Ok.given.of_none) = elim c.if-of_none.branch [
      | expand_text-then-of_none w ↦ came_before c.loop-from.of_none _ (w.if-of_none.true, w.of_none-is)
      | expand_text-else-of_none w ↦ came_now c.loop-from.of_none _ (w.if-of_none.false, w.of_none-is)
    ] in
    let l = c.loop-from in
    let w = put_mid (2 * l.n) (length l.work - 2 * l.n) l.work c.put_run.new.area in
    let n = l.n + (c.behind_literals-passed.result.at - l.i) in
    let e : c.item_at-read.result ≡ Ok c.in_ok-item.item = c.branch-item.ensures ∙ ap result_from_control_flow c.in_ok-item.is in
    going_row x c.in-Ok.is (sym (c.is_stop.ensures ∙ ap stops_read e) ∙ c.if-is_stop.false) flag
    (c.mode_after-inside.ensures ∙ ap (λ r. mode_after_read r c.behind_literals-passed.result.mode) e) _
    (same_len_mid (2 * n) (length w - 2 * n) w c.expand_item.new.work c.expand_item.auto.work) c.expand_item.auto.vars

pub expand_text-behind-requires : goal.expand_text-behind-requires
expand_text-behind-requires t c =
    let r = going_put c.loop-from.invariant c.behind_literals-passed.ensures c.put_run.ensures c.if-not-put_run.false c.put_run.auto.area in
    let x = expanding_item c.in_ok-item.item c.expand_item.new.work c.expand_item.new.vars c.expand_item.result r c.expand_item.ensures in
    let l = c.loop-from in
    let w = put_mid (2 * l.n) (length l.work - 2 * l.n) l.work c.put_run.new.area in
    let n = l.n + (c.behind_literals-passed.result.at - l.i) in
    omega (
      arith,
      going_waiting x c.in-Err.stop c.in-Err.is,
      c.expand_item.auto.work,
      mid_len (2 * n) (length w) w (omega arith),
      going_room r,
      r.long,
      c.well_formed,
    )

pub expand_text-returns-in-Err : goal.expand_text-returns-in-Err
expand_text-returns-in-Err t c =
    let r = going_put c.loop-from.invariant c.behind_literals-passed.ensures c.put_run.ensures c.if-not-put_run.false c.put_run.auto.area in
    let x = expanding_item c.in_ok-item.item c.expand_item.new.work c.expand_item.new.vars c.expand_item.result r c.expand_item.ensures in
    rw c.behind.ensures (going_stopped x c.in-Err.stop c.in-Err.is _)
