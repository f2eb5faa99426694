-- A constant, what is behind it, and the end.
use native.Mathlib.Omega.{arith}
use Rattle.arith_int.proofs.Ranges.{kept}
use Rattle.arith_token.proofs.Lexing.{nothing_left}
use Rattle.arith_eval.proofs.Plainly.{plain_comes}
use Rattle.arith_eval.proofs.plain.plain_text.Goals as goal

pub returns : goal.returns
returns c =
    let text = c.args.text.now in
    rw (kept c.in_ok-all.all.value (omega arith))
    (plain_comes text c.in_ok-first.ensures (rw (kept c.in_ok-first.first.value (omega arith)) at c.in_ok-all.ensures)
    (nothing_left text _ c.run_end.result c.run_end.ensures c.if-run_end-text.false))
