-- The byte after the colon decides.
use mathlib.Core.Path.{sym, ◌∙◌}
use native.Mathlib.Omega.{arith}
use Rattle.read_brace.proofs.Braces.{list_colon_end, list_colon_sign, list_colon_wrong}
use Rattle.read_brace.proofs.behind_list_colon.Goals as goal

pub returns-then-at-text : goal.returns-then-at-text
returns-then-at-text c =
    let a = c.args in
    list_colon_end a.text.now a.from c.if-at-text.true

pub returns-then-is_in : goal.returns-then-is_in
returns-then-is_in c =
    let a = c.args in
    list_colon_sign a.text.now a.from (omega (arith, c.if-at-text.false)) (sym c.is_in.ensures ∙ c.if-is_in.true)

pub returns : goal.returns
returns c =
    let a = c.args in
    list_colon_wrong a.text.now a.from (omega (arith, c.if-at-text.false))
    (sym c.is_in.ensures ∙ c.if-is_in.false) c.wrong_byte.result c.wrong_byte.ensures
