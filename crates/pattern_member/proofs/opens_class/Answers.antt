-- An active `[` here and one of three active bytes behind it, tried one after the other.
use Rattle.std.proofs.Common.{sym, ◌∙◌}
use Rattle.stages.proofs.Bools.{apart}
use Rattle.pattern_member.proofs.Members.{opens_at, open_inside}
use Rattle.pattern_member.proofs.opens_class.Goals as goal
use Rattle.pattern_member.proofs.opens_class.Goals.{then-is_live, else-is_live}

pub returns-then-not-is_live : goal.returns-then-not-is_live
returns-then-not-is_live c =
    let a = c.args in
    sym (opens_at a.width a.units.now a.at ∙ rw (sym c.is_live.ensures ∙ c.if-not-is_live.true))

pub is_live-requires-2 : goal.is_live-requires-2
is_live-requires-2 c = open_inside c.args.width c.args.units.now c.args.at c.unit_size.ensures c.is_live.ensures c.if-not-is_live.false

pub is_live-requires-else-is_live : goal.is_live-requires-else-is_live
is_live-requires-else-is_live c =
    open_inside c.args.width c.args.units.now c.args.at c.unit_size.ensures c.is_live.ensures c.if-not-is_live.false

pub is_live-requires-else-is_live-2 : goal.is_live-requires-else-is_live-2
is_live-requires-else-is_live-2 c =
    open_inside c.args.width c.args.units.now c.args.at c.unit_size.ensures c.is_live.ensures c.if-not-is_live.false

pub returns-then-is_live-2 : goal.returns-then-is_live-2
returns-then-is_live-2 c =
    let a = c.args in
    let opened = sym c.is_live.ensures ∙ c.if-not-is_live.false in
    elim c.if-is_live.branch [
      | then-is_live w ↦
          c.if-is_live-2.true
          ∙ sym (opens_at a.width a.units.now a.at ∙ rw (opened, sym c.unit_size.ensures, sym c.is_live-2.ensures ∙ w.if-is_live.true))
      | else-is_live w ↦
          c.if-is_live-2.true
          ∙ sym (opens_at a.width a.units.now a.at ∙ rw (
            opened,
            sym c.unit_size.ensures,
            sym c.is_live-2.ensures ∙ w.if-is_live.false,
            sym w.is_live-else-is_live.ensures ∙ sym w.value-is ∙ c.if-is_live-2.true,
          ))
    ]

pub returns-else-is_live-2 : goal.returns-else-is_live-2
returns-else-is_live-2 c =
    let a = c.args in
    elim c.if-is_live.branch [
      | then-is_live w ↦ absurd (apart c.if-is_live-2.false (w.value-is ∙ w.if-is_live.true))
      | else-is_live w ↦
          sym (opens_at a.width a.units.now a.at ∙ rw (
            sym c.is_live.ensures ∙ c.if-not-is_live.false,
            sym c.unit_size.ensures,
            sym c.is_live-2.ensures ∙ w.if-is_live.false,
            sym w.is_live-else-is_live.ensures ∙ sym w.value-is ∙ c.if-is_live-2.false,
            sym c.is_live-else-is_live-2.ensures,
          ))
    ]
