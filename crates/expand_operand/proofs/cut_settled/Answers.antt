-- The cells stand for the elements of the pattern, so what the removal leaves is what the stage leaves.
use Rattle.text.specs.Cases.{side_of, reach_of}
use Rattle.expand_operand.proofs.Removing.{cut_class, cut_given}
use Rattle.expand_operand.proofs.cut_settled.Goals as goal

pub returns-in-Err-BadClass : goal.returns-in-Err-BadClass
returns-in-Err-BadClass c =
    let a = c.args in
    cut_class (side_of a.removal.suffix) (reach_of a.removal.long) a.value.now a.row a.on c.requires.0.full
    (rw c.in-Err-BadClass.field-0-is at c.in-Err-BadClass.ensures)

pub returns-in-Ok : goal.returns-in-Ok
returns-in-Ok c =
    let a = c.args in
    let e = c.in-Ok.ensures in
    cut_given (side_of a.removal.suffix) (reach_of a.removal.long) a.value.now a.row a.on c.requires.0.full c.give_text.new.area
    c.give_text.result e.served (c.removed-left.ensures _ e.shows) c.expanded_end.ensures c.give_text.ensures.adds
