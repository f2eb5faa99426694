-- `arith_constant::value_of` meets its contract: each way is a law of `valued`.
use mathlib.Core.Path.{◌∙◌, ap}
use lib.IntN.{pos}
use Rattle.stages.specs.Bytes.{Text}
use Rattle.stages.specs.Constants.{number, constant, minus_of}
use Rattle.arith_constant.proofs.Signs.{lent, empty_value, minus_first, plus_first, no_sign_first}
use Rattle.arith_constant.proofs.value_of.Goals as goal

pub returns-then-text-eq0 : goal.returns-then-text-eq0
returns-then-text-eq0 c =
    empty_value c.args.text.now c.if-text-eq0.true

pub returns-then-text-eq45 : goal.returns-then-text-eq45
returns-then-text-eq45 c =
    let t = c.args.text.now in
    c.number_of.ensures ∙ ap (λ (u : Text). number minus_of (constant u)) (lent 1 t) ∙ minus_first t
    c.if-text-eq0.false c.if-text-eq45.true

pub returns-then-text-eq43 : goal.returns-then-text-eq43
returns-then-text-eq43 c =
    let t = c.args.text.now in
    c.number_of-then-text-eq43.ensures ∙ ap (λ (u : Text). number pos (constant u)) (lent 1 t) ∙ plus_first t
    c.if-text-eq0.false c.if-text-eq43.true

pub returns : goal.returns
returns c =
    let t = c.args.text.now in
    c.number_of-2.ensures ∙ no_sign_first t c.if-text-eq0.false c.if-text-eq45.false
    c.if-text-eq43.false
