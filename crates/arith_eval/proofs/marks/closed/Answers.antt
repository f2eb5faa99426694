-- Nothing else may stand behind the value.
use Rattle.stages.specs.Arith.{shuts, ended}
use Rattle.arith_eval.proofs.Operands.{token_shown, ended_by, not_closed}
use Rattle.arith_eval.proofs.marks.closed.Goals as goal

pub returns-in-Shuts : goal.returns-in-Shuts
unfolding ended
returns-in-Shuts c =
    let t = token_shown c.in_ok-token.ensures c.in-Shuts.is in
    (t.ends, λ l. ended_by c.args.text.now c.args.at shuts _ t l)

pub returns-in_default : goal.returns-in_default
returns-in_default c = λ l. not_closed c.args.text.now c.args.at _ c.in_ok-token.ensures c.in_default.not-Shuts l
