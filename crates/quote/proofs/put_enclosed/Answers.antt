-- `quote::put_enclosed` meets its contract: a quote, the bytes behind it, and a quote behind those.
use native.Mathlib.Omega.{arith}
use mathlib.Core.Path.{refl}
use mathlib.Core.List.{[], ◌∷◌}
use Rattle.stages.specs.Quote.{quoted_bytes}
use Rattle.quote.specs.Ways.{way_is}
use Rattle.text.proofs.Filling.{fill_room, fill_length, fill_fits, fill_ends}
use Rattle.quote.proofs.Writing.{field_opened, field_inside, field_closed}
use Rattle.quote.proofs.put_enclosed.Goals as goal

pub bounds-out-0 : goal.bounds-out-0
bounds-out-0 c =
    let f = field_opened (way_is c.args.way) c.args.field.now c.args.out.now c.requires in
    omega (arith, fill_room f)

pub slice_bounds-put_bytes-count : goal.slice_bounds-put_bytes-count
slice_bounds-put_bytes-count c =
    let f = field_opened (way_is c.args.way) c.args.field.now c.args.out.now c.requires in
    omega (arith, fill_room f, fill_length f)

pub slice_bounds-put_bytes-start : goal.slice_bounds-put_bytes-start
slice_bounds-put_bytes-start c =
    let f = field_opened (way_is c.args.way) c.args.field.now c.args.out.now c.requires in
    omega (arith, fill_room f, fill_length f)

pub put_bytes-n-requires : goal.put_bytes-n-requires
put_bytes-n-requires c =
    let f = field_opened (way_is c.args.way) c.args.field.now c.args.out.now c.requires in
    fill_fits f (quoted_bytes (way_is c.args.way) c.args.field.now) (39 ∷ []) refl

pub overflow_add-out : goal.overflow_add-out
overflow_add-out c =
    let p = c.put_bytes-n in
    let f = field_inside (way_is c.args.way) c.args.field.now c.args.out.now c.requires p.new.out p.result p.ensures in
    omega (arith, fill_room f)

pub bounds-out-n : goal.bounds-out-n
bounds-out-n c =
    let p = c.put_bytes-n in
    let f = field_inside (way_is c.args.way) c.args.field.now c.args.out.now c.requires p.new.out p.result p.ensures in
    omega (arith, fill_room f, fill_length f)

pub overflow_add-result : goal.overflow_add-result
overflow_add-result c =
    let p = c.put_bytes-n in
    let f = field_closed (way_is c.args.way) c.args.field.now c.args.out.now c.requires p.new.out p.result p.ensures in
    omega (arith, fill_room f)

pub returns : goal.returns
returns c =
    let p = c.put_bytes-n in
    let f = field_closed (way_is c.args.way) c.args.field.now c.args.out.now c.requires p.new.out p.result p.ensures in
    fill_ends f refl
