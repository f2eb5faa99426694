-- `quote::put_changed` meets its contract: the field is written in its quotes, behind a `$` where it holds a control byte.
use native.Mathlib.Omega.{arith}
use mathlib.Core.Path.{refl, sym, ap}
use mathlib.Core.List.{[], append-nil}
use lib.ListN.{length}
use Rattle.stages.specs.Quote.{enclosed}
use Rattle.text.proofs.Filling.{fill_room, fill_length, fill_fits, fill_ends}
use Rattle.quote.specs.Ways.{way_is}
use Rattle.quote.proofs.Fields.{field_singled, field_dollared, same_put}
use Rattle.quote.proofs.Writing.{dollar_first, dollar_filled}
use Rattle.quote.proofs.put_changed.Goals as goal

pub put_enclosed-requires : goal.put_enclosed-requires
put_enclosed-requires c = omega (arith, ap length (field_singled c.args.field.now c.way_of-way.ensures c.in-Singled.is), c.requires.field_in_bounds)

pub bounds-out-0 : goal.bounds-out-0
bounds-out-0 c = omega (arith, ap length (field_dollared c.args.field.now c.way_of-way.ensures c.in-Dollared.is), c.requires.field_in_bounds)

pub slice_bounds-put_enclosed-count : goal.slice_bounds-put_enclosed-count
slice_bounds-put_enclosed-count c =
    let b = dollar_first (enclosed (way_is c.way_of-way.result) c.args.field.now) c.args.out.now (omega (
      arith,
      ap length (field_dollared
          c.args.field.now c.way_of-way.ensures c.in-Dollared.is),
      c.requires.field_in_bounds,
    )) in
    omega (arith, fill_room b, fill_length b)

pub slice_bounds-put_enclosed-start : goal.slice_bounds-put_enclosed-start
slice_bounds-put_enclosed-start c =
    let b = dollar_first (enclosed (way_is c.way_of-way.result) c.args.field.now) c.args.out.now (omega (
      arith,
      ap length (field_dollared
          c.args.field.now c.way_of-way.ensures c.in-Dollared.is),
      c.requires.field_in_bounds,
    )) in
    omega (arith, fill_room b, fill_length b)

pub put_enclosed-n-requires : goal.put_enclosed-n-requires
put_enclosed-n-requires c =
    let t = enclosed (way_is c.way_of-way.result) c.args.field.now in
    let b = dollar_first (enclosed (way_is c.way_of-way.result) c.args.field.now) c.args.out.now (omega (
      arith,
      ap length (field_dollared
          c.args.field.now c.way_of-way.ensures c.in-Dollared.is),
      c.requires.field_in_bounds,
    )) in
    fill_fits b t [] (sym (append-nil t))

pub overflow_add-result : goal.overflow_add-result
overflow_add-result c =
    let e = dollar_filled (enclosed (way_is c.way_of-way.result) c.args.field.now) c.args.out.now (omega (
      arith,
      ap length (field_dollared
          c.args.field.now c.way_of-way.ensures c.in-Dollared.is),
      c.requires.field_in_bounds,
    )) c.put_enclosed-n.new.out _ c.put_enclosed-n.ensures in
    omega (arith, fill_room e)

pub returns-in-Singled : goal.returns-in-Singled
returns-in-Singled c = same_put _ _ _ _ _ (field_singled c.args.field.now c.way_of-way.ensures c.in-Singled.is) c.put_enclosed.ensures

pub returns-in-Dollared : goal.returns-in-Dollared
returns-in-Dollared c =
    let e = dollar_filled (enclosed (way_is c.way_of-way.result) c.args.field.now) c.args.out.now (omega (
      arith,
      ap length (field_dollared
          c.args.field.now c.way_of-way.ensures c.in-Dollared.is),
      c.requires.field_in_bounds,
    )) c.put_enclosed-n.new.out _ c.put_enclosed-n.ensures in
    same_put _ _ _ _ _ (field_dollared c.args.field.now c.way_of-way.ensures c.in-Dollared.is) (fill_ends e refl)
