-- The byte after the colon decides.
use mathlib.Core.Path.{sym, ◌∙◌}
use native.Mathlib.Omega.{arith}
use Rattle.read_brace.proofs.Names.{coloned, two_more, colon_end, colon_sign, colon_wrong}
use Rattle.read_brace.proofs.behind_colon.Goals as goal

pub returns-then-to-text : goal.returns-then-to-text
returns-then-to-text c =
    let a = c.args in
    colon_end a.text.now a.from a.param c.if-to-text.true

pub behind_sign-requires : goal.behind_sign-requires
behind_sign-requires c =
    (c.requires.0, c.requires.1, omega arith, two_more c.args.param.to, c.if-to-text.false, c.requires.3)

pub returns-then-is_in : goal.returns-then-is_in
returns-then-is_in c =
    let a = c.args in
    colon_sign (coloned a.text.now a.from a.param c.requires c.if-to-text.false) (sym c.is_in.ensures ∙ c.if-is_in.true)
    c.behind_sign.result c.behind_sign.ensures

pub returns : goal.returns
returns c =
    let a = c.args in
    colon_wrong (coloned a.text.now a.from a.param c.requires c.if-to-text.false) (sym c.is_in.ensures ∙ c.if-is_in.false)
    c.wrong_byte.result c.wrong_byte.ensures
