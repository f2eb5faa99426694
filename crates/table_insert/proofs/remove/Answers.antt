-- `table_insert::remove` meets its contract: a path that is not there is told, and the record of one that is there is cut out.
use Rattle.std.proofs.Common.{sym, ◌∙◌}
use Rattle.table.proofs.Finds.{ok_some, ok_none}
use Rattle.table_insert.proofs.Inserting.{is_free, is_taken}
use Rattle.table_insert.proofs.Removing.{remove_none, remove_cuts}
use Rattle.table_insert.proofs.remove.Goals as goal

pub returns-in_err-record : goal.returns-in_err-record
returns-in_err-record c =
    let a = c.args in
    let k = ok_none c.place_of.result (sym c.ok.ensures.value ∙ c.in_err-record.was) in
    rw c.from_residual.ensures (remove_none (is_free c.place_of.ensures k.0 k.1) a.used a.image.now)

pub returns : goal.returns
returns c =
    let a = c.args in
    let e = ok_some c.place_of.result c.in_ok-record.record (sym c.ok.ensures.value ∙ c.in_ok-record.was) in
    remove_cuts a.image.now a.path.now a.used _ _ c.requires.used_in_bounds (is_taken c.place_of.ensures _ e) c.cut.ensures
