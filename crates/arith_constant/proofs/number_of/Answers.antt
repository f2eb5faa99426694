-- A constant that is refused at 2^63 is refused with either sign.
use mathlib.Core.Path.{◌∙◌}
use Rattle.std.proofs.lemmas.Result.{err_from_is_err_and}
use Rattle.stages.specs.Constants.{constant}
use Rattle.arith_constant.proofs.Signs.{sign_refused, sign_given}
use Rattle.arith_constant.proofs.number_of.Goals as goal

pub returns-in_err-n : goal.returns-in_err-n
returns-in_err-n c =
    let p = err_from_is_err_and c.from_residual.result c.from_residual.ensures.1 in
    rw (p.1, p.2) (sign_refused c.args.below (constant c.args.text.now) _ c.in_err-n.ensures)

pub returns : goal.returns
returns c = c.of_magnitude.ensures ∙ sign_given c.args.below (constant c.args.text.now) _ c.in_ok-n.ensures
