-- What is read is added, if it is not empty.
use Rattle.std.proofs.Common.{rules, ◌≡◌, sym}
use Rattle.std.proofs.lemmas.Result.{err_from_is_err_and}
use lib.Seq.{length-take-le}
use Rattle.tab_enter.proofs.Entering.{entered_as, path_bad, path_none, path_good, path_enters}
use Rattle.tab_enter.proofs.enter_path.Goals as goal

pub returns-in_err-n : goal.returns-in_err-n
returns-in_err-n c =
    let p = err_from_is_err_and c.from_residual.result c.from_residual.ensures.1 in
    rw (p.1, p.2) (path_bad c.args.line.now c.read_text.ensures _ _ _ c.in_err-n.was)

pub returns-then-n-eq0 : goal.returns-then-n-eq0
returns-then-n-eq0 c = path_none (path_good c.args.line.now c.read_text.ensures _ c.in_ok-n.was) _ _ c.if-n-eq0.true

pub slice_bounds-add-end : goal.slice_bounds-add-end
slice_bounds-add-end c = (path_good c.args.line.now c.read_text.ensures _ c.in_ok-n.was).long

pub slice_bounds-add-end-2 : goal.slice_bounds-add-end-2
slice_bounds-add-end-2 c = sym (length-take-le _ _ (path_good c.args.line.now c.read_text.ensures _ c.in_ok-n.was).long)

pub returns : goal.returns
returns c =
    let k : entered_as c.add.result ≡ c.map_err.result = search rules in
    path_enters (path_good c.args.line.now c.read_text.ensures _ c.in_ok-n.was) c.if-n-eq0.false _ _ c.add.new.image _ c.add.ensures _ k
