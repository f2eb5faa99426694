-- `table_store::store` meets its contract: `place_of` finds the bytes that the name's record replaces, or none, and the splice there is the stage's
-- store.
use Rattle.std.proofs.Common.{◌≤◌, length, arith}
use Rattle.table.proofs.Finds.{is_known, is_fresh_lem}
use Rattle.table_store.proofs.StoredImages.{store_writes}
use Rattle.table_store.proofs.store.Goals as goal

pub returns-in-Ok : goal.returns-in-Ok
returns-in-Ok c =
    let a = c.args in
    let h : a.vars_used ≤ length a.vars.now = omega arith in
    store_writes a.vars.now a.name.now a.vars_used _ _ h (is_known c.place_of.ensures _ c.in-Ok.is).0 a.value.now _ a.limit (omega arith) c.splice.ensures

pub returns-in-Err : goal.returns-in-Err
returns-in-Err c =
    let a = c.args in
    let h : a.vars_used ≤ length a.vars.now = omega arith in
    store_writes a.vars.now a.name.now a.vars_used _ _ h (is_fresh_lem c.place_of.ensures _ c.in-Err.is).0 a.value.now _ a.limit (omega arith)
    c.splice-in-Err.ensures
