-- A unit is there or not, it is active or not, and its byte decides.
use Rattle.std.proofs.Common.{sym, ◌∙◌, arith}
use borrow.Author.Tests.{lt-leb}
use Rattle.stages.proofs.Bools.{apart}
use Rattle.pattern_unit.proofs.Units.{live_beyond, live_seen}
use Rattle.pattern_unit.proofs.is_live.Goals as goal
use Rattle.pattern_unit.proofs.is_live.Goals.{then-at-unit_size, else-at-unit_size}

pub returns-then-is_active : goal.returns-then-is_active
returns-then-is_active c =
    let a = c.args in
    elim c.if-at-unit_size.branch [
      | then-at-unit_size w ↦
          sym (live_seen a.width a.units.now a.at a.c (omega (arith, c.unit_size.ensures, w.if-at-unit_size.true))
          ∙ rw (sym w.is_active.ensures ∙ sym w.value-is ∙ c.if-is_active.true))
      | else-at-unit_size w ↦ absurd (apart (w.value-is ∙ lt-leb _ _ (omega (arith, w.if-at-unit_size.false))) c.if-is_active.true)
    ]

pub returns-else-is_active : goal.returns-else-is_active
returns-else-is_active c =
    let a = c.args in
    elim c.if-at-unit_size.branch [
      | then-at-unit_size w ↦
          c.if-is_active.false
          ∙ sym (live_seen a.width a.units.now a.at a.c (omega (arith, c.unit_size.ensures, w.if-at-unit_size.true))
          ∙ rw (sym w.is_active.ensures ∙ sym w.value-is ∙ c.if-is_active.false))
      | else-at-unit_size w ↦
          c.if-is_active.false
          ∙ sym (live_beyond a.width a.units.now a.at a.c (omega (arith, c.unit_size.ensures, w.if-at-unit_size.false)))
    ]
