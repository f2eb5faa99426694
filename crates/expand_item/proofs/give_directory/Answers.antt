-- An N before the bytes, and one unit more than they are.
use Rattle.std.proofs.Common.{◌≡◌, ◌+◌, length, arith}
use Rattle.stages.specs.Units.{N, Q}
use Rattle.expand_add.specs.Expanded.{row_on}
use Rattle.expand_item.proofs.Homes.{headed_full, headed_fits}
use Rattle.expand_item.proofs.give_directory.Goals as goal

pub returns-then-directory-room : goal.returns-then-directory-room
returns-then-directory-room c =
    let a = c.args in
    headed_full a.row.units a.on N Q a.directory.now (omega arith)

pub returns : goal.returns
returns c =
    let a = c.args in
    let e : c.row.result ≡ row_on a.on (length a.directory.now + 1) = c.row.ensures in
    rw e
    (headed_fits a.row.units a.on N Q a.directory.now (omega arith) a.area.now c.put_empty.new.area _
    c.put_marked.new.area _ c.put_empty.ensures c.put_marked.ensures)
