-- Where no path matches, the length stays, and only then.
use mathlib.Core.Path.{sym, ap, ◌∙◌}
use Rattle.std.proofs.lemmas.Result.{err_from_is_err_and}
use Rattle.std.proofs.Common.{Ok}
use Rattle.stages.specs.Images.{held_texts}
use Rattle.text.specs.Rows.{row_of}
use Rattle.split_field.specs.Answers.{answered}
use Rattle.split_field.proofs.Choosing.{own_only, own_instead, paths_written, paths_full}
use Rattle.split_field.proofs.put_paths_or_own.Goals as goal

pub returns-in_err-put_own : goal.returns-in_err-put_own
returns-in_err-put_own c es s k =
    let a = c.args in
    let p = err_from_is_err_and c.from_residual.result c.from_residual.ensures.1 in
    rw (p.1, p.2) (own_only (held_texts a.paths.now) (row_of a.field.now) es (sym k ∙ c.if-not-special.true) c.in_err-put_own.ensures)

pub returns-then-not-special : goal.returns-then-not-special
returns-then-not-special c es s k =
    let a = c.args in
    own_only (held_texts a.paths.now) (row_of a.field.now) es (sym k ∙ c.if-not-special.true) c.in_ok-put_own.ensures

pub returns-in_err-len : goal.returns-in_err-len
returns-in_err-len c es s k =
    let a = c.args in
    let p = err_from_is_err_and c.from_residual-in_err-len.result c.from_residual-in_err-len.ensures.1 in
    rw (p.1, p.2)
    (paths_full (held_texts a.paths.now) (row_of a.field.now) es (sym k ∙ c.if-not-special.false) (c.put_paths.ensures es s)
    c.requires.used_in_bounds.0 (ap answered c.in_err-len.was))

pub returns-in_err-put_own-2 : goal.returns-in_err-put_own-2
returns-in_err-put_own-2 c es s k =
    let a = c.args in
    let p = err_from_is_err_and c.from_residual-in_err-put_own-2.result c.from_residual-in_err-put_own-2.ensures.1 in
    rw (p.1, p.2)
    (own_instead (held_texts a.paths.now) (row_of a.field.now) es (sym k ∙ c.if-not-special.false) (c.put_paths.ensures es s)
    (ap answered (c.in_ok-len.was ∙ ap Ok c.if-len-used.true)) c.in_err-put_own-2.ensures)

pub returns-then-len-used : goal.returns-then-len-used
returns-then-len-used c es s k =
    let a = c.args in
    own_instead (held_texts a.paths.now) (row_of a.field.now) es (sym k ∙ c.if-not-special.false) (c.put_paths.ensures es s)
    (ap answered (c.in_ok-len.was ∙ ap Ok c.if-len-used.true)) c.in_ok-put_own-2.ensures

pub returns : goal.returns
returns c es s k =
    let a = c.args in
    paths_written (held_texts a.paths.now) (row_of a.field.now) es (sym k ∙ c.if-not-special.false) (c.put_paths.ensures es s) (ap answered c.in_ok-len.was)
    c.if-len-used.false
