-- The tilde before the bytes of its login, and one unit more than they are.
use Rattle.std.proofs.Common.{◌≡◌, ◌+◌, length, arith}
use Prim.Native.Char.{code}
use Rattle.stages.specs.Units.{cell, marked}
use Rattle.stages.specs.Expand.{tilde_row}
use Rattle.row.specs.Marks.{mark_of}
use Rattle.expand_add.specs.Expanded.{row_on}
use Rattle.expand_item.proofs.Homes.{headed_full, headed_fits}
use Rattle.expand_item.proofs.give_literal.Goals as goal

pub returns-then-login-room : goal.returns-then-login-room
unfolding tilde_row marked
returns-then-login-room c =
    let a = c.args in
    headed_full a.row.units a.on (cell (mark_of a.row.mark) (code "~")) (mark_of a.row.mark) a.login.now (omega arith)

pub returns : goal.returns
unfolding tilde_row marked
returns c =
    let a = c.args in
    let e : c.row.result ≡ row_on a.on (length a.login.now + 1) = c.row.ensures in
    rw e
    (headed_fits a.row.units a.on (cell (mark_of a.row.mark) (code "~")) (mark_of a.row.mark) a.login.now (omega arith) a.area.now c.put_unit.new.area _
    c.put_marked.new.area _ c.put_unit.ensures c.put_marked.ensures)
