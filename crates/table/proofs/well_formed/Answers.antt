-- `table::well_formed` meets its contract: the image is well formed just if what is left of it is, behind the last key.
use Rattle.std.proofs.Common.{◌≡◌, None, Ok, sym, ap, ◌∙◌, arith, rules}
use borrow.Author.Tests.{eqb-true, eqb-false}
use Rattle.table.proofs.Walk.{
  Keyed,
  begins,
  too_long,
  empty,
  other_version,
  Key,
  key_text,
  no_key,
  broken_key,
  key_fails,
  no_second,
  bad_second,
  next_record,
  record_on,
}
use Rattle.table.proofs.well_formed.Goals as goal
use Rattle.table.proofs.well_formed.Goals.{
  then-limit-image-via-then-limit-image,
  then-limit-image-via-else-limit-image+then-is_empty,
  then-limit-image-via-else-limit-image+else-is_empty+then-image-ne-VERSION,
  In-Ok-Some,
  Else-not-key_fits,
}

-- the key that was read at the walk's place
stood : (c : In-Ok-Some) → Key c.args.kind c.args.image.now c.loop-end.at c.in-Ok-Some.end
stood c = key_text _ _ _ c.key_at.ensures (c.in-Ok-Some.is ∙ ap Ok c.in-Ok-Some.field-0-is)

-- and it may stand there
keyed : (c : Else-not-key_fits) → Keyed c.args.kind c.args.image.now c.loop-end.at c.loop-end.from c.loop-end.to c.in-Ok-Some.end
keyed c =
    let k = key_text _ _ _ c.key_at.ensures (c.in-Ok-Some.is ∙ ap Ok c.in-Ok-Some.field-0-is) in
    let e = sym c.key_fits.ensures ∙ c.if-not-key_fits.false in
    record { going = c.loop-end.invariant; stands = k.fitting _ e; fits = e }

pub returns-then-limit-image : goal.returns-then-limit-image
returns-then-limit-image c =
    elim c.then-limit-image.branch [
      | then-limit-image-via-then-limit-image w ↦ too_long _ _ (omega (arith, c.limit.ensures, w.if-limit-image.true))
      | then-limit-image-via-else-limit-image+then-is_empty w ↦
          empty _ _ (omega (arith, c.limit.ensures, w.if-limit-image.false)) (eqb-true _ _ (sym w.is_empty.ensures ∙ w.if-is_empty.true))
      | then-limit-image-via-else-limit-image+else-is_empty+then-image-ne-VERSION w ↦
          other_version _ _ (omega (arith, c.limit.ensures, w.if-limit-image.false)) w.if-image-ne-VERSION.true
    ]

pub loop-end-init : goal.loop-end-init
loop-end-init c =
    let n = eqb-false _ _ (sym c.is_empty.ensures ∙ c.if-is_empty.false) in
    begins _ _ (omega (arith, c.limit.ensures, c.if-limit-image.false)) n c.if-image-ne-VERSION.false

pub returns-in-Ok-None : goal.returns-in-Ok-None
returns-in-Ok-None c = no_key c.loop-end.invariant c.key_at.ensures (c.in-Ok-None.is ∙ ap Ok c.in-Ok-None.field-0-is)

pub returns-in-Err : goal.returns-in-Err
returns-in-Err c = broken_key c.loop-end.invariant c.key_at.ensures c.in-Err.is

pub slice_bounds-key_fits-count-in-loop-end : goal.slice_bounds-key_fits-count-in-loop-end
slice_bounds-key_fits-count-in-loop-end c = (stood (goal.at.slice_bounds-key_fits-count-in-loop-end c).In-Ok-Some).low

pub slice_bounds-key_fits-start-in-loop-end : goal.slice_bounds-key_fits-start-in-loop-end
slice_bounds-key_fits-start-in-loop-end c = (stood (goal.at.slice_bounds-key_fits-start-in-loop-end c).In-Ok-Some).low

pub slice_bounds-key_fits-end-in-loop-end : goal.slice_bounds-key_fits-end-in-loop-end
slice_bounds-key_fits-end-in-loop-end c = (stood (goal.at.slice_bounds-key_fits-end-in-loop-end c).In-Ok-Some).high

pub returns-then-not-key_fits : goal.returns-then-not-key_fits
returns-then-not-key_fits c =
    key_fails c.loop-end.invariant (stood (goal.at.returns-then-not-key_fits c).In-Ok-Some) (sym c.key_fits.ensures ∙ c.if-not-key_fits.true)

pub returns-in_default : goal.returns-in_default
returns-in_default c =
    let n : c.in_default.field-0 ≡ None = search rules in
    no_second (keyed (goal.at.returns-in_default c).Else-not-key_fits) c.record_end.ensures (c.in_default.is ∙ ap Ok n)

pub returns-in_default-2 : goal.returns-in_default-2
returns-in_default-2 c = bad_second (keyed (goal.at.returns-in_default-2 c).Else-not-key_fits) c.record_end.ensures c.in_default.is

pub loop-end-smaller : goal.loop-end-smaller
loop-end-smaller c =
    let k = keyed (goal.at.loop-end-smaller c).Else-not-key_fits in
    let e = c.in-Ok-Some-record_end.is ∙ ap Ok c.in-Ok-Some-record_end.field-0-is in
    omega (arith, k.stands.low, k.stands.high, record_on k c.record_end.ensures e)

pub loop-end-preserved : goal.loop-end-preserved
loop-end-preserved c =
    let k = keyed (goal.at.loop-end-preserved c).Else-not-key_fits in
    next_record k c.record_end.ensures (c.in-Ok-Some-record_end.is ∙ ap Ok c.in-Ok-Some-record_end.field-0-is)
