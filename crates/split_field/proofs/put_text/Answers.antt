-- The record writer was lent the free part.
use native.Mathlib.Omega.{arith}
use Rattle.std.proofs.lemmas.Result.{err_from_is_err_and}
use Rattle.split_field.proofs.Placing.{text_fits, text_put, text_full}
use Rattle.split_field.proofs.put_text.Goals as goal

pub returns-in_err-n : goal.returns-in_err-n
returns-in_err-n c =
    let p = err_from_is_err_and c.from_residual.result c.from_residual.ensures.1 in
    rw p.1 (text_full _ _ _ _ _ c.requires.0 c.requires.1 c.put_record.ensures c.in_err-n.was)

pub overflow_add-result : goal.overflow_add-result
overflow_add-result c =
    let h = text_fits _ _ _ _ c.put_record.result c.requires.0 c.requires.1 c.put_record.ensures c.in_ok-n.was in
    omega (arith, h)

pub returns : goal.returns
returns c = text_put _ _ _ _ _ c.requires.0 c.requires.1 c.put_record.ensures c.in_ok-n.was
