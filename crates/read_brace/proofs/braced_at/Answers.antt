-- The depth decides, then the byte after the `${`.
use mathlib.Core.Path.{sym, ◌∙◌}
use native.Mathlib.Omega.{arith}
use Rattle.read_brace.proofs.Braces.{brace_deep, brace_end, brace_length, brace_list, brace_named, brace_wrong}
use Rattle.read_brace.proofs.braced_at.Goals as goal

pub returns-then-from-eq0 : goal.returns-then-from-eq0
returns-then-from-eq0 c =
    let a = c.args in
    brace_deep a.text.now a.from c.if-from-eq0.true

pub returns-then-at-text : goal.returns-then-at-text
returns-then-at-text c =
    let a = c.args in
    brace_end a.text.now a.from c.if-from-eq0.false c.if-at-text.true

pub returns-then-b-eq35 : goal.returns-then-b-eq35
returns-then-b-eq35 c =
    brace_length (record { deep = c.if-from-eq0.false; there = omega (arith, c.if-at-text.false) }) c.if-b-eq35.true c.length_at.result c.length_at.ensures

pub returns-then-is_in : goal.returns-then-is_in
returns-then-is_in c =
    brace_list (record { deep = c.if-from-eq0.false; there = omega (arith, c.if-at-text.false) }) c.if-b-eq35.false
    (sym c.is_in.ensures ∙ c.if-is_in.true)
    c.list_at.result c.list_at.ensures

pub behind_name-requires : goal.behind_name-requires
behind_name-requires c =
    (c.in-Some.ensures.starts, c.in-Some.ensures.onward, c.in-Some.ensures.within, omega (arith, c.if-from-eq0.false))

pub returns-in-Some : goal.returns-in-Some
returns-in-Some c =
    let a = c.args in
    brace_named (record { deep = c.if-from-eq0.false; there = omega (arith, c.if-at-text.false) })
    c.if-b-eq35.false
    (sym c.is_in.ensures ∙ c.if-is_in.false) c.in-Some.param
    c.in-Some.ensures
    c.behind_name.result c.behind_name.ensures

pub returns-in-None : goal.returns-in-None
returns-in-None c =
    let a = c.args in
    brace_wrong {s = a.text.now} {from = a.from} (record { deep = c.if-from-eq0.false; there = omega (arith, c.if-at-text.false) })
    c.if-b-eq35.false
    (sym c.is_in.ensures ∙ c.if-is_in.false)
    c.in-None.ensures c.wrong_byte.result c.wrong_byte.ensures
