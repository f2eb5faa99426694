-- The word is an assignment, since it is read as one; its value is put.
use Rattle.assign_line.proofs.Valuing.{not_bad, value_ready}
use Rattle.assign_line.proofs.put_assignment.Goals as goal

pub returns-in_default : goal.returns-in_default
returns-in_default c =
    absurd (not_bad c.requires c.in_default.ensures)

pub put_value-requires : goal.put_value-requires
put_value-requires c =
    value_ready c.requires c.in-Some.ensures
