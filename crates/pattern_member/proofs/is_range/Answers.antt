-- The dash is there, a unit is behind it, and that neither closes the bracket nor bars it.
use Rattle.std.proofs.Common.{◌+◌, ◌≤◌, length, not, sym, ◌∙◌, ap, arith}
use borrow.Author.Tests.{not-true, not-false, lt-leb}
use Rattle.stages.proofs.Bools.{apart}
use Rattle.pattern_unit.specs.Widths.{size}
use Rattle.pattern_member.proofs.Members.{range_no_dash, range_last, range_closed, range_open}
use Rattle.pattern_member.proofs.is_range.Goals as goal
use Rattle.pattern_member.proofs.is_range.Goals.{then-end-size, else-end-size}

pub returns-then-not-is_live : goal.returns-then-not-is_live
returns-then-not-is_live c =
    let a = c.args in
    sym (range_no_dash a.width a.units.now a.at a.path (sym c.is_live.ensures ∙ c.if-not-is_live.true))

pub returns-then-not-is_live-2 : goal.returns-then-not-is_live-2
returns-then-not-is_live-2 c =
    let a = c.args in
    let e = c.unit_size-size.ensures in
    elim c.if-end-size.branch [
      | then-end-size w ↦
          let there : a.at + size a.width + size a.width ≤ length a.units.now = omega (arith, e, w.if-end-size.true) in
          ap not c.bars.ensures
          ∙ rw e
          (sym (range_open a.width a.units.now a.at a.path there (sym c.is_live.ensures ∙ c.if-not-is_live.false)
          (rw (sym e) (sym w.is_live-then-end-size.ensures ∙ not-true _ (sym w.value-is ∙ c.if-not-is_live-2.true)))))
      | else-end-size w ↦ absurd (apart (w.value-is ∙ lt-leb _ _ (omega (arith, w.if-end-size.false))) c.if-not-is_live-2.true)
    ]

pub returns-else-not-is_live-2 : goal.returns-else-not-is_live-2
returns-else-not-is_live-2 c =
    let a = c.args in
    let e = c.unit_size-size.ensures in
    elim c.if-end-size.branch [
      | then-end-size w ↦
          let there : a.at + size a.width + size a.width ≤ length a.units.now = omega (arith, e, w.if-end-size.true) in
          c.if-not-is_live-2.false
          ∙ sym (range_closed a.width a.units.now a.at a.path there (sym c.is_live.ensures ∙ c.if-not-is_live.false)
          (rw (sym e) (sym w.is_live-then-end-size.ensures ∙ not-false _ (sym w.value-is ∙ c.if-not-is_live-2.false))))
      | else-end-size w ↦
          c.if-not-is_live-2.false ∙ sym (range_last a.width a.units.now a.at a.path (omega (arith, e, w.if-end-size.false)))
    ]
