-- The run is a constant, whose number or refusal is the token's.
use native.Mathlib.Omega.{arith}
use Rattle.std.proofs.lemmas.Result.{err_from_is_err_and}
use Rattle.arith_int.proofs.Ranges.{kept}
use Rattle.arith_token.proofs.Lexing.{bad_constant, good_constant}
use Rattle.arith_token.proofs.constant_at.Goals as goal

pub returns-in_err-value : goal.returns-in_err-value
returns-in_err-value c =
    let p = err_from_is_err_and c.from_residual.result c.from_residual.ensures.1 in
    rw (p.1, p.2) (bad_constant c.args.text.now c.args.at c.run_end-to.result c.requires.within c.run_end-to.ensures c.requires.bare c.requires.is _
    c.in_err-value.ensures)

pub returns : goal.returns
returns c =
    rw (kept c.in_ok-value.value (omega arith)) (good_constant c.args.text.now c.args.at c.run_end-to.result c.requires.within c.run_end-to.ensures
    c.requires.bare c.requires.is _ c.in_ok-value.ensures)
