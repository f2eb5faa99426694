-- A run of bare bytes, if it is not empty, not too long, and ends where a word may.
use Rattle.std.proofs.Common.{sym, ◌∙◌, inl, inr, arith}
use borrow.Author.Tests.{eqb-true}
use Rattle.expand_line.proofs.Bare.{bare_some}
use Rattle.expand_line.proofs.bare_end.Goals as goal
use Rattle.expand_line.proofs.bare_end.Goals.{then-end-line, else-end-line}

pub returns-then-line-end-eq32 : goal.returns-then-line-end-eq32
returns-then-line-end-eq32 c =
    bare_some c.run_end-end.ensures c.if-at-end.true c.if-end-at-le-LINE_LIMIT.true
    (elim c.if-end-line.branch [
      | then-end-line w ↦ inl w.if-end-line.true
      | else-end-line w ↦ inr (omega (arith, w.if-end-line.false, c.run_end-end.ensures.within), eqb-true _ _ (sym w.value-is ∙ c.if-line-end-eq32.true))
    ])
