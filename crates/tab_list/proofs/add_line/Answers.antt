-- `tab_list::add_line` meets its contract: what is read is a record behind the image, if the free part has room for it.
use Rattle.std.proofs.Common.{◌≡◌, sym, ◌∙◌, arith, rules}
use Rattle.std.proofs.lemmas.Result.{err_from_is_err_and}
use lib.Seq.{length-take-le}
use Rattle.tab_list.proofs.Adding.{put_as, put_ok, not_put, line_bad, line_good, line_fits, line_put, line_full}
use Rattle.tab_list.proofs.add_line.Goals as goal

pub returns-in_err-n : goal.returns-in_err-n
returns-in_err-n c =
    λ l e.
    let p = err_from_is_err_and c.from_residual.result c.from_residual.ensures.1 in
    rw (p.1, p.2) (line_bad c.args.line.now c.read_text.ensures _ _ _ _ c.in_err-n.was)

pub slice_bounds-put_record-end-2 : goal.slice_bounds-put_record-end-2
slice_bounds-put_record-end-2 c = (line_good c.args.line.now c.read_text.ensures _ c.in_ok-n.was).long

pub slice_bounds-put_record-end-3 : goal.slice_bounds-put_record-end-3
slice_bounds-put_record-end-3 c = sym (length-take-le _ _ (line_good c.args.line.now c.read_text.ensures _ c.in_ok-n.was).long)

pub returns-in_err-m : goal.returns-in_err-m
returns-in_err-m c =
    λ l e.
    let k : put_as c.put_record.result ≡ c.map_err.result = search rules in
    let f = not_put c.put_record.result (k ∙ c.in_err-m.was) in
    let p = err_from_is_err_and c.from_residual-in_err-m.result c.from_residual-in_err-m.ensures.1 in
    rw (p.1, p.2, f.2) (line_full (line_good c.args.line.now c.read_text.ensures _ c.in_ok-n.was)
    c.args.used c.args.out.now c.put_record.new.out c.put_record.result c.requires.0 c.requires.1 c.put_record.ensures l e f.1)

pub overflow_add-result : goal.overflow_add-result
overflow_add-result c =
    let k : put_as c.put_record.result ≡ c.map_err.result = search rules in
    omega (
      arith,
      line_fits (line_good c.args.line.now c.read_text.ensures _ c.in_ok-n.was) c.args.used c.args.out.now c.put_record.new.out
          c.put_record.result c.requires.0 c.requires.1 c.put_record.ensures (put_ok (k ∙ c.in_ok-m.was)),
    )

pub returns : goal.returns
returns c =
    λ l e.
    let k : put_as c.put_record.result ≡ c.map_err.result = search rules in
    line_put (line_good c.args.line.now c.read_text.ensures _ c.in_ok-n.was)
    c.args.used c.args.out.now c.put_record.new.out c.put_record.result c.requires.0 c.requires.1 c.put_record.ensures l e (put_ok (k ∙ c.in_ok-m.was))
