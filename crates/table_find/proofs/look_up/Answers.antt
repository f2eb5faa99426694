-- `table_find::look_up` meets its contract: the value of a known key is what stands behind its name.
use Rattle.std.proofs.Common.{sym, ◌∙◌}
use Rattle.table.proofs.Finds.{look_some, look_none}
use Rattle.table_find.proofs.look_up.Goals as goal

pub returns-in_err-record : goal.returns-in_err-record
returns-in_err-record c = rw c.from_residual.ensures (look_none c.place_of.ensures (sym c.ok.ensures.value ∙ c.in_err-record.was))

pub returns : goal.returns
returns c = look_some c.place_of.ensures c.in_ok-record.record (sym c.ok.ensures.value ∙ c.in_ok-record.was)
