-- `arith_constant::constant_of` meets its contract: each way is a law of `constant`.
use mathlib.Core.Path.{◌∙◌, ap}
use mathlib.Core.Logic.{inl, inr}
use Rattle.stages.specs.Bytes.{Text}
use Rattle.stages.specs.Constants.{behind_zero}
use Rattle.arith_constant.specs.Answers.{within}
use Rattle.arith_constant.proofs.Signs.{lent, empty_constant, zero_first, digit_first, other_first}
use Rattle.arith_constant.proofs.constant_of.Goals.{then-text-lt49-via-then-text-lt49, then-text-lt49-via-else-text-lt49+then-text-gt57}
use Rattle.arith_constant.proofs.constant_of.Goals as goal

pub returns-then-text-eq0 : goal.returns-then-text-eq0
returns-then-text-eq0 c =
    empty_constant c.args.limit c.args.text.now c.if-text-eq0.true

pub returns-then-text-eq48 : goal.returns-then-text-eq48
returns-then-text-eq48 c =
    let t = c.args.text.now in
    c.behind_zero.ensures ∙ ap (λ (u : Text). within c.args.limit (behind_zero u)) (lent 1 t)
    ∙ ap (within c.args.limit) (zero_first t c.if-text-eq0.false c.if-text-eq48.true)

pub returns-then-text-lt49 : goal.returns-then-text-lt49
returns-then-text-lt49 c =
    other_first c.args.limit c.args.text.now c.if-text-eq0.false c.if-text-eq48.false
    (elim c.then-text-lt49.branch [
      | then-text-lt49-via-then-text-lt49 w ↦ inl w.if-text-lt49.true
      | then-text-lt49-via-else-text-lt49+then-text-gt57 w ↦ inr w.if-text-gt57.true
    ])

pub returns : goal.returns
returns c =
    c.in_base.ensures
    ∙ ap (within c.args.limit)
    (digit_first c.args.text.now c.if-text-eq0.false
    c.if-text-eq48.false c.if-text-lt49.false c.if-text-gt57.false)
