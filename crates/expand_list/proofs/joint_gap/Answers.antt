-- The first byte of the value that the look-up shows, or of the blanks.
use Rattle.expand_list.proofs.Gaps.{joint_space, joint_byte, joint_nothing}
use Rattle.expand_list.proofs.joint_gap.Goals as goal

pub returns-in-None : goal.returns-in-None
returns-in-None c = joint_space c.look_up_ifs.ensures c.in-None.is

pub returns-in-Some : goal.returns-in-Some
returns-in-Some c = joint_byte c.look_up_ifs.ensures c.in-Some.is c.if-part.true

pub returns-in-Some-2 : goal.returns-in-Some-2
returns-in-Some-2 c = joint_nothing c.look_up_ifs.ensures c.in-Some.is c.if-part.false
