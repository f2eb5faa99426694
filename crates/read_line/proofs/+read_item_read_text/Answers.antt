-- Each item is read as its case says; the loop passes a run, then reads the item behind it.
use Rattle.std.proofs.Common.{◌≡◌, arith, ap, sym, ◌∙◌, Ok}
use Rattle.std.specs.Result.{result_from_control_flow}
use Rattle.std.proofs.lemmas.Result.{err_from_is_err_and}
use Rattle.read_item.specs.After.{mode_after_read, stops_read}
use Rattle.read_line.proofs.Items.{item_stop, item_byte, item_paren, item_value, item_count, item_total, item_spread, item_quote, item_inner, item_sum}
use Rattle.read_line.proofs.Items.{item_home, fault_read, ends, goes_on, reads_start, reads_run, reads_fault, reads_end, reads_close, reads_next}
use Rattle.read_line.proofs.+read_item_read_text.Goals as goal

pub read_item-returns-in-Stop : goal.read_item-returns-in-Stop
read_item-returns-in-Stop t c = item_stop c.requires c.in-Stop.is

pub read_item-returns-in-Byte : goal.read_item-returns-in-Byte
read_item-returns-in-Byte t c = item_byte c.requires c.in-Byte.is

pub read_item-returns-in-Paren : goal.read_item-returns-in-Paren
read_item-returns-in-Paren t c = item_paren c.requires c.in-Paren.is

pub read_item-returns-in-Value : goal.read_item-returns-in-Value
read_item-returns-in-Value t c = item_value c.requires c.in-Value.is

pub read_item-returns-in-Count : goal.read_item-returns-in-Count
read_item-returns-in-Count t c = item_count c.requires c.in-Count.is

pub read_item-returns-in-Quote : goal.read_item-returns-in-Quote
read_item-returns-in-Quote t c = item_quote c.requires c.in-Quote.is c.read_text.result c.read_text.ensures

pub read_item-returns-in-Inner : goal.read_item-returns-in-Inner
read_item-returns-in-Inner t c = item_inner c.requires c.in-Inner.is c.read_text-in-Inner.result c.read_text-in-Inner.ensures

pub read_item-returns-in-Sum : goal.read_item-returns-in-Sum
read_item-returns-in-Sum t c = item_sum c.requires c.in-Sum.is c.read_text-in-Sum.result c.read_text-in-Sum.ensures

pub read_item-returns-in-Home : goal.read_item-returns-in-Home
read_item-returns-in-Home t c = item_home c.requires c.in-Home.is

pub read_item-returns-in-Total : goal.read_item-returns-in-Total
read_item-returns-in-Total t c = item_total c.requires c.in-Total.is

pub read_item-returns-in-Spread : goal.read_item-returns-in-Spread
read_item-returns-in-Spread t c = item_spread c.requires c.in-Spread.is

pub read_text-loop-place-init : goal.read_text-loop-place-init
read_text-loop-place-init t c = reads_start c.args.text.now c.args.from c.requires.0 c.requires.1

pub read_text-overflow_add-result : goal.read_text-overflow_add-result
read_text-overflow_add-result t c =
    let r = reads_close (reads_run c.loop-place.invariant c.behind_literals-place.ensures)
    (sym c.is_end.ensures ∙ c.if-is_end.true) c.end_length.ensures in
    omega (arith, r.within)

pub read_text-returns-then-is_end : goal.read_text-returns-then-is_end
read_text-returns-then-is_end t c =
    reads_close (reads_run c.loop-place.invariant c.behind_literals-place.ensures)
    (sym c.is_end.ensures ∙ c.if-is_end.true) c.end_length.ensures

pub read_text-returns-in_err-item : goal.read_text-returns-in_err-item
read_text-returns-in_err-item t c =
    let p = err_from_is_err_and c.from_residual.result c.from_residual.ensures.1 in
    rw (p.1, p.2)
    (reads_fault (reads_run c.loop-place.invariant c.behind_literals-place.ensures)
    (fault_read c.args.text.now c.behind_literals-place.result c.in_err-item.field-0.0 c.in_err-item.ensures))

pub read_text-returns-in_err-next : goal.read_text-returns-in_err-next
read_text-returns-in_err-next t c =
    let p = err_from_is_err_and c.from_residual-in_err-next.result c.from_residual-in_err-next.ensures.1 in
    rw (p.1, p.2) (reads_fault (reads_run c.loop-place.invariant c.behind_literals-place.ensures) c.in_err-next.ensures)

pub read_text-returns-then-is_stop : goal.read_text-returns-then-is_stop
read_text-returns-then-is_stop t c =
    let e : c.item_at-read.result ≡ Ok c.in_ok-item.item = c.branch-item.ensures ∙ ap result_from_control_flow c.in_ok-item.is in
    reads_end (reads_run c.loop-place.invariant c.behind_literals-place.ensures)
    (ends c.in_ok-item.item _ c.behind_literals-place.result c.in_ok-next.ensures (sym (c.is_stop.ensures ∙ ap stops_read e) ∙ c.if-is_stop.true))

pub read_text-loop-place-preserved : goal.read_text-loop-place-preserved
read_text-loop-place-preserved t c =
    let e : c.item_at-read.result ≡ Ok c.in_ok-item.item = c.branch-item.ensures ∙ ap result_from_control_flow c.in_ok-item.is in
    let p = c.behind_literals-place.result in
    reads_next (reads_run c.loop-place.invariant c.behind_literals-place.ensures)
    (goes_on c.in_ok-item.item _ p c.in_ok-next.ensures (sym (c.is_stop.ensures ∙ ap stops_read e) ∙ c.if-is_stop.false))
    (c.mode_after.ensures ∙ ap (λ r. mode_after_read r p.mode) e)
