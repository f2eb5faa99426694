-- The text of the number in the one image, or the value of the name in the other.
use Rattle.std.proofs.Common.{arith}
use Rattle.stages.specs.Bytes.{part}
use Rattle.expand_param.proofs.Finding.{holds_name, holds_number}
use Rattle.expand_param.proofs.value_of.Goals as goal

pub returns-then-param : goal.returns-then-param
returns-then-param c =
    let a = c.args in
    holds_number a.vars.now a.params.now (part a.text.now a.param.from a.param.to) c.requires.2 (omega arith) c.number_of-number.ensures
    c.if-param.true c.text_of.ensures

pub returns : goal.returns
returns c =
    let a = c.args in
    holds_name a.vars.now a.params.now (part a.text.now a.param.from a.param.to) c.if-param.false c.value_of.ensures
