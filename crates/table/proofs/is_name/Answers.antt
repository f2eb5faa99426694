-- `table::is_name` meets its contract: behind the first byte a run of name bytes reaches the end just if all are.
use Rattle.std.proofs.Common.{sym, ◌∙◌}
use Rattle.stages.proofs.Bools.{no}
use borrow.Author.Tests.{eqb-true, eqb-false}
use Rattle.table.proofs.Keys.{no_name, bad_start, name_is}
use Rattle.table.proofs.is_name.Goals as goal
use Rattle.table.proofs.is_name.Goals.{then-not-is_empty, else-not-is_empty}

pub returns-then-in_class : goal.returns-then-in_class
returns-then-in_class c =
    elim c.if-not-is_empty.branch [
      | then-not-is_empty w ↦ name_is _ _ (eqb-false _ _ (sym c.is_empty.ensures ∙ w.if-not-is_empty.true))
          (sym w.in_class.ensures ∙ sym w.value-is ∙ c.if-in_class.true) c.run_end.ensures
      | else-not-is_empty w ↦ absurd (no (sym (rw w.if-not-is_empty.false at w.value-is) ∙ c.if-in_class.true))
    ]

pub returns-else-in_class : goal.returns-else-in_class
returns-else-in_class c =
    elim c.if-not-is_empty.branch [
      | then-not-is_empty w ↦ c.if-in_class.false ∙ bad_start _ (sym w.in_class.ensures ∙ sym w.value-is ∙ c.if-in_class.false)
      | else-not-is_empty w ↦ c.if-in_class.false ∙ no_name _ (eqb-true _ _ (sym c.is_empty.ensures ∙ w.if-not-is_empty.false))
    ]
