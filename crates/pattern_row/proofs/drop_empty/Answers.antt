-- A unit that is a byte is kept behind those before it, another is passed.
use Rattle.std.proofs.Common.{◌≡◌, ◌+◌, ◌*◌, ◌<◌, length, sym, ◌∙◌, arith}
use Rattle.pattern_row.proofs.Keeping.{going_length, going_skip, going_keep, going_end}
use Rattle.pattern_row.proofs.drop_empty.Goals as goal
use Rattle.pattern_row.proofs.drop_empty.Goals.{then-is_mark, else-is_mark}

pub loop-unit-preserved : goal.loop-unit-preserved
loop-unit-preserved c =
    let l = c.loop-unit in
    let there : 2 * l.unit + 1 < length c.args.row.now = omega (arith, going_length l.invariant) in
    let next : 2 * (l.unit + 1) ≡ 2 * l.unit + 2 = omega arith in
    elim c.if-is_mark.branch [
      | then-is_mark w ↦ rw (w.row-is, w.to-is, next) (going_keep l.invariant there (sym c.is_mark.ensures ∙ w.if-is_mark.true))
      | else-is_mark w ↦ rw (w.row-is, w.to-is, next) (going_skip l.invariant there (sym c.is_mark.ensures ∙ w.if-is_mark.false))
    ]

pub returns : goal.returns
returns c = going_end c.loop-unit.invariant (omega (arith, going_length c.loop-unit.invariant))
