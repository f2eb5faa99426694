-- The byte after the name decides.
use native.Mathlib.Omega.{arith}
use Rattle.read_brace.proofs.Names.{length_end, length_close, length_wrong}
use Rattle.read_brace.proofs.behind_length.Goals as goal

pub returns-then-to-text : goal.returns-then-to-text
returns-then-to-text c =
    let a = c.args in
    length_end a.text.now a.from a.param c.if-to-text.true

pub returns-then-b-ne125 : goal.returns-then-b-ne125
returns-then-b-ne125 c =
    let a = c.args in
    length_wrong a.text.now a.from a.param (omega (arith, c.if-to-text.false)) c.if-b-ne125.true c.wrong_byte.result c.wrong_byte.ensures

pub returns : goal.returns
returns c =
    let a = c.args in
    length_close a.text.now a.from a.param (omega (arith, c.if-to-text.false)) c.requires.0 c.requires.1 c.if-b-ne125.false
