-- `quote::put_plain` meets its contract: a quote, the field as it is, and a quote behind it.
use native.Mathlib.Omega.{arith}
use mathlib.Core.Path.{refl, ap}
use mathlib.Core.List.{[], ◌∷◌}
use lib.ListN.{length}
use Rattle.stages.specs.Quote.{singled, quoted_bytes}
use Rattle.text.proofs.Filling.{fill_room, fill_length, fill_fits, fill_ends}
use Rattle.quote.proofs.Writing.{field_opened, field_inside, field_closed, plain_inside}
use Rattle.quote.proofs.put_plain.Goals as goal

pub bounds-out-0 : goal.bounds-out-0
bounds-out-0 c = let f = field_opened singled c.args.field.now c.args.out.now c.requires.field_in_bounds in omega (arith, fill_room f)

pub slice_bounds-copy_in-count : goal.slice_bounds-copy_in-count
slice_bounds-copy_in-count c =
    let f = field_opened singled c.args.field.now c.args.out.now c.requires.field_in_bounds in
    omega (arith, fill_room f, fill_length f)

pub slice_bounds-copy_in-start : goal.slice_bounds-copy_in-start
slice_bounds-copy_in-start c =
    let f = field_opened singled c.args.field.now c.args.out.now c.requires.field_in_bounds in
    omega (arith, fill_room f, fill_length f)

pub copy_in-requires : goal.copy_in-requires
copy_in-requires c =
    let f = field_opened singled c.args.field.now c.args.out.now c.requires.field_in_bounds in
    omega (arith, ap length c.requires.field_value, fill_fits f (quoted_bytes singled c.args.field.now) (39 ∷ []) refl)

pub bounds-out-field : goal.bounds-out-field
bounds-out-field c =
    let f = field_inside singled _ _ c.requires.field_in_bounds c.copy_in.new.to _ (plain_inside _ _ _ c.requires.field_value c.copy_in.ensures) in
    omega (arith, fill_room f, fill_length f)

pub returns : goal.returns
returns c =
    let f = field_closed singled _ _ c.requires.field_in_bounds c.copy_in.new.to _ (plain_inside _ _ _ c.requires.field_value c.copy_in.ensures) in
    fill_ends f refl
