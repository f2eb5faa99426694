-- A mark that is no `:` ends no side.
use Rattle.arith_eval.proofs.Reading.{beyond_none}
use Rattle.arith_eval.proofs.marks.beyond.Goals as goal

pub returns-in_default : goal.returns-in_default
returns-in_default c = beyond_none c.args.text.now c.args.at _ c.in_ok-mark.ensures c.in_default.not-Colon
