-- Nothing else may stand behind the value.
use Rattle.stages.specs.Arith.{stop, ended}
use Rattle.arith_eval.proofs.Operands.{token_shown, ended_by, not_ended}
use Rattle.arith_eval.proofs.ended.Goals as goal

pub returns-in-Stop : goal.returns-in-Stop
unfolding ended
returns-in-Stop c = λ l. ended_by c.args.text.now c.args.at stop _ (token_shown c.in_ok-token.ensures c.in-Stop.is) l

pub returns-in_default : goal.returns-in_default
returns-in_default c = λ l. not_ended c.args.text.now c.args.at _ c.in_ok-token.ensures c.in_default.not-Stop l
