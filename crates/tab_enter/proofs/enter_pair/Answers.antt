-- Its tests are the definition's, and what is read after the `=` is entered under the key.
use Rattle.std.proofs.Common.{sym}
use Rattle.std.proofs.lemmas.Result.{err_from_is_err_and}
use lib.Seq.{length-take-le}
use Rattle.tab_enter.proofs.Entering.{keyed, no_equals, no_key, read_bad, read_good}
use Rattle.tab_enter.proofs.enter_pair.Goals as goal

pub returns-then-line-end : goal.returns-then-line-end
returns-then-line-end c = no_equals c.args.kind c.args.line.now c.find-end.result c.find-end.ensures _ _ c.if-line-end.true

pub returns-then-not-key_fits : goal.returns-then-not-key_fits
returns-then-not-key_fits c =
    no_key c.args.kind c.args.line.now c.find-end.result c.find-end.ensures c.if-line-end.false _ _ (sym c.if-not-key_fits.ensures)

pub returns-in_err-n : goal.returns-in_err-n
returns-in_err-n c =
    let p = err_from_is_err_and c.from_residual.result c.from_residual.ensures.1 in
    rw (p.1, p.2) (read_bad (keyed c.find-end.ensures c.if-line-end.false (sym c.if-not-key_fits.ensures)) c.read_text.ensures _ _ _ c.in_err-n.was)

pub slice_bounds-enter-end-2 : goal.slice_bounds-enter-end-2
slice_bounds-enter-end-2 c = (read_good (keyed c.find-end.ensures c.if-line-end.false (sym c.if-not-key_fits.ensures)) c.read_text.ensures _ c.in_ok-n.was).long

pub slice_bounds-enter-end-3 : goal.slice_bounds-enter-end-3
slice_bounds-enter-end-3 c =
    let g = read_good (keyed c.find-end.ensures c.if-line-end.false (sym c.if-not-key_fits.ensures)) c.read_text.ensures _ c.in_ok-n.was in
    sym (length-take-le _ _ g.long)

pub returns : goal.returns
returns c =
    let g = read_good (keyed c.find-end.ensures c.if-line-end.false (sym c.if-not-key_fits.ensures)) c.read_text.ensures _ c.in_ok-n.was in
    rw g.is c.enter.ensures
