-- The byte after the sign decides.
use mathlib.Core.Path.{sym, ◌∙◌}
use native.Mathlib.Omega.{arith}
use Rattle.read_brace.proofs.Braces.{list_end, list_close, list_colon, list_sign, list_wrong}
use Rattle.read_brace.proofs.behind_list.Goals as goal

pub returns-then-at-text : goal.returns-then-at-text
returns-then-at-text c =
    let a = c.args in
    list_end a.text.now a.from c.if-at-text.true

pub returns-then-b-eq125 : goal.returns-then-b-eq125
returns-then-b-eq125 c =
    let a = c.args in
    list_close a.text.now a.from (omega (arith, c.if-at-text.false)) c.if-b-eq125.true
    c.is_apart.result c.is_apart.ensures

pub returns-then-b-eq58 : goal.returns-then-b-eq58
returns-then-b-eq58 c =
    let a = c.args in
    list_colon a.text.now a.from (omega (arith, c.if-at-text.false)) c.if-b-eq125.false
    c.if-b-eq58.true c.behind_list_colon.result c.behind_list_colon.ensures

pub returns-then-is_in : goal.returns-then-is_in
returns-then-is_in c =
    let a = c.args in
    list_sign a.text.now a.from (omega (arith, c.if-at-text.false))
    c.if-b-eq125.false c.if-b-eq58.false (sym c.is_in.ensures ∙ c.if-is_in.true)

pub returns : goal.returns
returns c =
    let a = c.args in
    list_wrong a.text.now a.from (omega (arith, c.if-at-text.false))
    c.if-b-eq125.false c.if-b-eq58.false
    (sym c.is_in.ensures ∙ c.if-is_in.false) c.wrong_byte.result c.wrong_byte.ensures
