-- The gap is put, and the text's place is behind it.
use Rattle.std.proofs.Common.{◌≡◌, ◌+◌, ◌*◌, ◌-◌, length, None, Ok, sym, ap, ◌∙◌, arith, rules}
use borrow.Rule.Slice.PartMut.{put_mid}
use Rattle.text.proofs.Parts.{rest_length}
use Rattle.expand_list.proofs.Putting.{
  fronts_at,
  fronts_length,
  putting_start,
  putting_end,
  putting_bad,
  next,
  this_length,
  room,
  gap_put,
  putting_on,
}
use Rattle.expand_list.proofs.put_list.Goals as goal

pub loop-end-init : goal.loop-end-init
loop-end-init c = putting_start _ _ _ _ c.requires.0 c.requires.1

pub put_gap-requires : goal.put_gap-requires
put_gap-requires c =
    omega (
      arith,
      room c.loop-end.invariant c.text_at.ensures (c.in-Ok-Some.is ∙ ap Ok c.in-Ok-Some.field-0-is),
      fronts_length c.loop-end.invariant.fronts,
      rest_length c.loop-end.to c.loop-end.area,
    )

pub slice_bounds-put_marked-count : goal.slice_bounds-put_marked-count
slice_bounds-put_marked-count c = (next c.loop-end.invariant c.text_at.ensures (c.in-Ok-Some.is ∙ ap Ok c.in-Ok-Some.field-0-is)).low

pub slice_bounds-put_marked-start : goal.slice_bounds-put_marked-start
slice_bounds-put_marked-start c = (next c.loop-end.invariant c.text_at.ensures (c.in-Ok-Some.is ∙ ap Ok c.in-Ok-Some.field-0-is)).low

pub slice_bounds-put_marked-end : goal.slice_bounds-put_marked-end
slice_bounds-put_marked-end c = (next c.loop-end.invariant c.text_at.ensures (c.in-Ok-Some.is ∙ ap Ok c.in-Ok-Some.field-0-is)).ahead.within

pub slice_bounds-put_marked-count-in-Ok-Some : goal.slice_bounds-put_marked-count-in-Ok-Some
slice_bounds-put_marked-count-in-Ok-Some c =
    let f = fronts_at (ap (λ n. c.loop-end.to + 2 * n) (sym c.gap_units.ensures))
    (gap_put c.loop-end.invariant c.text_at.ensures (c.in-Ok-Some.is ∙ ap Ok c.in-Ok-Some.field-0-is) c.put_gap.ensures) in
    omega (arith, f.inside, fronts_length f)

pub slice_bounds-put_marked-start-in-Ok-Some : goal.slice_bounds-put_marked-start-in-Ok-Some
slice_bounds-put_marked-start-in-Ok-Some c =
    let f = fronts_at (ap (λ n. c.loop-end.to + 2 * n) (sym c.gap_units.ensures))
    (gap_put c.loop-end.invariant c.text_at.ensures (c.in-Ok-Some.is ∙ ap Ok c.in-Ok-Some.field-0-is) c.put_gap.ensures) in
    omega (arith, f.inside, fronts_length f)

pub put_marked-requires : goal.put_marked-requires
put_marked-requires c =
    let f = fronts_at (ap (λ n. c.loop-end.to + 2 * n) (sym c.gap_units.ensures))
    (gap_put c.loop-end.invariant c.text_at.ensures (c.in-Ok-Some.is ∙ ap Ok c.in-Ok-Some.field-0-is) c.put_gap.ensures) in
    let l = c.loop-end in
    omega (
      arith,
      room c.loop-end.invariant c.text_at.ensures (c.in-Ok-Some.is ∙ ap Ok c.in-Ok-Some.field-0-is),
      c.gap_units.ensures,
      fronts_length f,
      rest_length (l.to + 2 * c.gap_units.result) (put_mid l.to (length l.area - l.to) l.area c.put_gap.new.area),
      this_length c.loop-end.invariant c.text_at.ensures (c.in-Ok-Some.is ∙ ap Ok c.in-Ok-Some.field-0-is),
    )

pub overflow_sub-to : goal.overflow_sub-to
overflow_sub-to c = omega (arith, (next c.loop-end.invariant c.text_at.ensures (c.in-Ok-Some.is ∙ ap Ok c.in-Ok-Some.field-0-is)).low)

pub overflow_sub-to-in-Ok-Some : goal.overflow_sub-to-in-Ok-Some
overflow_sub-to-in-Ok-Some c = omega (arith, (next c.loop-end.invariant c.text_at.ensures (c.in-Ok-Some.is ∙ ap Ok c.in-Ok-Some.field-0-is)).low)

pub overflow_add-to : goal.overflow_add-to
overflow_add-to c =
    omega (
      arith,
      room c.loop-end.invariant c.text_at.ensures (c.in-Ok-Some.is ∙ ap Ok c.in-Ok-Some.field-0-is),
      fronts_length c.loop-end.invariant.fronts,
      c.well_formed,
      c.gap_units.ensures,
    )

pub loop-end-smaller : goal.loop-end-smaller
loop-end-smaller c =
    let t = next c.loop-end.invariant c.text_at.ensures (c.in-Ok-Some.is ∙ ap Ok c.in-Ok-Some.field-0-is) in
    omega (arith, t.low, t.ahead.within)

pub loop-end-preserved : goal.loop-end-preserved
loop-end-preserved c =
    let f = fronts_at (ap (λ n. c.loop-end.to + 2 * n) (sym c.gap_units.ensures))
    (gap_put c.loop-end.invariant c.text_at.ensures (c.in-Ok-Some.is ∙ ap Ok c.in-Ok-Some.field-0-is) c.put_gap.ensures) in
    putting_on c.loop-end.invariant c.text_at.ensures (c.in-Ok-Some.is ∙ ap Ok c.in-Ok-Some.field-0-is) f
    (ap (λ n. c.loop-end.to + 2 * n) c.gap_units.ensures) c.put_marked.ensures

pub returns-in_default : goal.returns-in_default
returns-in_default c =
    let n : c.in_default.field-0 ≡ None = search rules in
    putting_end c.loop-end.invariant c.text_at.ensures (c.in_default.is ∙ ap Ok n)

pub returns-in_default-2 : goal.returns-in_default-2
returns-in_default-2 c = putting_bad c.loop-end.invariant c.text_at.ensures c.in_default.is
