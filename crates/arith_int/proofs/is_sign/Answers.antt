-- By the kinds of operators.
use Rattle.arith_int.proofs.Operators as operators
use borrow.Enum.Refused.{opened}
use Rattle.arith_int.proofs.is_sign.Goals as goal

pub returns-in-Add : goal.returns-in-Add
returns-in-Add c = operators.is_sign_lem c.args.op c.in-Add.in-Add-own.keys1

pub returns-in_default : goal.returns-in_default
returns-in_default c = operators.no_sign c.args.op (opened c.in_default.in_default-own.keys2)
