-- The store's limit is the lesser of the room and 8,192.
use Rattle.std.proofs.Common.{◌∙◌, arith}
use Rattle.table_store.proofs.Holding.{table_held, limited, limit_min, stores_within}
use Rattle.table_store.proofs.store_within.Goals as goal

pub store-requires-clause-vars_used_le_limit : goal.store-requires-clause-vars_used_le_limit
store-requires-clause-vars_used_le_limit c = let k = limited c.requires.1 (c.min-limit.ensures ∙ limit_min c.args.vars_room) in omega arith

pub store-requires-clause-table : goal.store-requires-clause-table
store-requires-clause-table c = table_held c.args.vars_room c.args.vars.now c.args.vars_used c.requires.1

pub returns : goal.returns
returns c =
    let a = c.args in
    stores_within a.vars_room a.vars_used a.name.now a.value.now a.vars.now _ c.requires.1 c.requires.0 (c.min-limit.ensures ∙ limit_min a.vars_room)
    c.store.result c.store.ensures c.store.auto.vars
