-- Only a set writes into the table; any other element's cell is known by itself.
use mathlib.Core.Path.{sym, subst}
use borrow.Author.Rules.{rules}
use Rattle.pattern_element.specs.declared.Piece.{Piece}
use Rattle.pattern_settle.specs.Celled.{CellSays}
use Rattle.pattern_settle.proofs.Settling.{cell_star, cell_one, cell_byte}
use Rattle.pattern_settle.proofs.cell_of.Goals as goal

pub returns-in-Star : goal.returns-in-Star
returns-in-Star c =
    let a = c.args in
    cell_star a.width a.pattern.now a.used a.special a.sets.now c.requires.used_le_sets_limit.1 c.in-Star.is

pub returns-in-One : goal.returns-in-One
returns-in-One c =
    let a = c.args in
    cell_one a.width a.pattern.now a.used a.special a.sets.now c.requires.used_le_sets_limit.1 c.in-One.is

pub returns-in-Byte : goal.returns-in-Byte
returns-in-Byte c =
    let a = c.args in
    cell_byte a.width a.pattern.now a.used a.special a.sets.now c.requires.used_le_sets_limit.1 c.in-Byte.is (search rules)

pub returns-in-Set : goal.returns-in-Set
returns-in-Set c =
    let a = c.args in
    subst (λ (q : Piece). CellSays a.width a.pattern.now q a.used a.special a.sets.now c.set_cell.new.sets c.set_cell.result) (sym c.in-Set.is)
    (c.set_cell.ensures a.special)
