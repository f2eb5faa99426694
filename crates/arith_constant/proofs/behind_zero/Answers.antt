-- `arith_constant::behind_zero` meets its contract: each way is a law of `behind_zero`.
use mathlib.Core.Path.{◌∙◌, ap}
use mathlib.Core.Logic.{inl, inr}
use Rattle.stages.specs.Bytes.{Text}
use Rattle.stages.specs.Constants.{in_base}
use Rattle.arith_constant.specs.Answers.{within}
use Rattle.arith_constant.proofs.Signs.{lent, zero_alone, mark_alone, hexadecimal, octal}
use Rattle.arith_constant.proofs.behind_zero.Goals.{then-text-eq120-via-then-text-eq120, then-text-eq120-via-else-text-eq120+then-text-eq88}
use Rattle.arith_constant.proofs.behind_zero.Goals as goal

pub returns-then-text-eq0 : goal.returns-then-text-eq0
returns-then-text-eq0 c =
    zero_alone c.args.limit c.args.text.now c.if-text-eq0.true

pub returns-then-text-eq1 : goal.returns-then-text-eq1
returns-then-text-eq1 c =
    mark_alone c.args.limit c.args.text.now (elim c.then-text-eq120.branch [
      | then-text-eq120-via-then-text-eq120 w ↦ inl w.if-text-eq120.true
      | then-text-eq120-via-else-text-eq120+then-text-eq88 w ↦ inr w.if-text-eq88.true
    ])
    c.if-text-eq1.true

pub returns-then-text-eq120 : goal.returns-then-text-eq120
returns-then-text-eq120 c =
    let t = c.args.text.now in
    c.in_base.ensures ∙ ap (λ (u : Text). within c.args.limit (in_base 16 0 u)) (lent 1 t)
    ∙ ap (within c.args.limit)
    (hexadecimal t (elim c.then-text-eq120.branch [
      | then-text-eq120-via-then-text-eq120 w ↦ inl w.if-text-eq120.true
      | then-text-eq120-via-else-text-eq120+then-text-eq88 w ↦ inr w.if-text-eq88.true
    ])
    c.if-text-eq0.false c.if-text-eq1.false)

pub returns : goal.returns
returns c =
    c.in_base-2.ensures ∙ ap (within c.args.limit)
    (octal c.args.text.now c.if-text-eq0.false c.if-text-eq120.false
    c.if-text-eq88.false)
