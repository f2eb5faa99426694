-- A number is found in the one image, a name in the other.
use Rattle.std.proofs.Common.{arith}
use Rattle.stages.specs.Bytes.{part}
use Rattle.expand_param.proofs.Finding.{finds_name, finds_number}
use Rattle.expand_param.proofs.look_up.Goals as goal

pub returns-then-param : goal.returns-then-param
returns-then-param c =
    let a = c.args in
    finds_number a.vars.now a.params.now (part a.text.now a.param.from a.param.to) c.requires.2 (omega arith) c.number_of-number.ensures
    c.if-param.true c.find_text.ensures

pub returns : goal.returns
returns c =
    let a = c.args in
    finds_name a.vars.now a.params.now (part a.text.now a.param.from a.param.to) c.if-param.false c.look_up.ensures
