-- The byte after the `#` decides.
use native.Mathlib.Omega.{arith}
use Rattle.read_brace.proofs.Braces.{hash_end, hash_total, hash_param, hash_wrong}
use Rattle.read_brace.proofs.length_at.Goals as goal

pub returns-then-at-text : goal.returns-then-at-text
returns-then-at-text c =
    let a = c.args in
    hash_end a.text.now a.from c.if-at-text.true

pub returns-then-b-eq125 : goal.returns-then-b-eq125
returns-then-b-eq125 c =
    let a = c.args in
    hash_total a.text.now a.from (omega (arith, c.if-at-text.false)) c.if-b-eq125.true

pub behind_length-requires : goal.behind_length-requires
behind_length-requires c =
    (c.in-Some.ensures.starts, c.in-Some.ensures.onward, c.in-Some.ensures.within)

pub returns-in-Some : goal.returns-in-Some
returns-in-Some c =
    let a = c.args in
    hash_param a.text.now a.from (omega (arith, c.if-at-text.false))
    c.if-b-eq125.false c.in-Some.param
    c.in-Some.ensures
    c.behind_length.result c.behind_length.ensures

pub returns-in-None : goal.returns-in-None
returns-in-None c =
    let a = c.args in
    hash_wrong a.text.now a.from (omega (arith, c.if-at-text.false))
    c.if-b-eq125.false
    c.in-None.ensures
    c.wrong_byte.result c.wrong_byte.ensures
