-- A key that is there is told, and a new one is stored at its place if there is room.
use Rattle.std.proofs.Common.{rules, ◌≡◌, sym}
use Rattle.tab_enter.proofs.Entering.{found_twice, found_none, stored_as, store_enters}
use Rattle.tab_enter.proofs.enter.Goals as goal

pub returns-then-is_some : goal.returns-then-is_some
returns-then-is_some c = found_twice c.look_up.ensures _ _ (sym c.if-is_some.ensures)

pub returns : goal.returns
returns c =
    let k : stored_as c.store.result ≡ c.map_err.result = search rules in
    rw (← k) (store_enters c.args.key.now c.args.value.now _ _ _ c.store.result (found_none c.look_up.ensures (sym c.if-is_some.ensures)) c.store.ensures)
