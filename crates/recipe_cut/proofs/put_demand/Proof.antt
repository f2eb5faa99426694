-- Each piece is written after the last one.
use Prim.Native.Nat.{ℕ, ◌+◌, ◌-◌}
use native.Mathlib.Omega.{arith}
use mathlib.Core.Path.{refl}
use mathlib.Core.List.{[], ◌++◌}
use lib.ListN.{length, set}
use borrow.Author.Rules.{rules}
use borrow.Rule.Slice.PartMut.{put_mid}
use Rattle.stages.specs.Bytes.{Text, text}
use Rattle.text.proofs.Filling.{Filling, fill_room, fill_length, fill_fits, fill_ends}
use Rattle.recipe_cut.specs.Said.{demand_text}
use Rattle.recipe_cut.proofs.Telling.{demand_number, demand_colon, demand_message, demand_ended}
use Rattle.recipe_cut.proofs.put_demand.Statement.{statement}
use Rattle.recipe_cut.proofs.put_demand.Tie as tie

-- where the number has been written: the call's entry, and the buffer before it
module _ (c : tie.After-put_decimal-a) where
  abbrev entry : tie.Start
  entry = c.before.before.before.before.before.before.before.before.before.before

  abbrev copying : tie.After-copy_in
  copying = c.before.before.before.before

  abbrev first : Text
  first = copying.copy_in.new.to

  abbrev second : Text
  second = put_mid 5 (length first - 5) first c.put_decimal-a.new.out

  abbrev at : ℕ
  at = c.put_decimal-a.result + 5

  numbered : let a = entry.args in Filling (demand_text a.line a.message.now) (text ": " ++ (a.message.now ++ text "\n")) a.out.now second at
  numbered =
      let a = entry.args in
      demand_number a.line a.message.now a.out.now first entry.requires copying.copy_in.ensures c.put_decimal-a.new.out c.put_decimal-a.result
      c.put_decimal-a.ensures

-- where the colon has been written
module _ (c : tie.After-copy_in-2) where
  abbrev counted : tie.After-put_decimal-a
  counted = c.before.before.before.before.before.before

  abbrev third : Text
  third = put_mid (at counted) (length (second counted) - at counted) (second counted) c.copy_in-2.new.to

  parted : let a = (entry counted).args in Filling (demand_text a.line a.message.now) (a.message.now ++ text "\n") a.out.now third (at counted + 2)
  parted =
      let a = (entry counted).args in
      let q = counted.put_decimal-a in
      demand_colon a.line a.message.now a.out.now (first counted) (entry counted).requires (copying counted).copy_in.ensures q.new.out q.result
      q.ensures c.copy_in-2.new.to c.copy_in-2.ensures

-- where the message has been written
module _ (c : tie.After-copy_in-3) where
  abbrev colon : tie.After-copy_in-2
  colon = c.before.before.before.before

  abbrev start : ℕ
  start = at (counted colon) + 2

  abbrev fourth : Text
  fourth = put_mid start (length (third colon) - start) (third colon) c.copy_in-3.new.to

  abbrev end : ℕ
  end = start + length (entry (counted colon)).args.message.now

  messaged : let a = (entry (counted colon)).args in Filling (demand_text a.line a.message.now) (text "\n") a.out.now fourth end
  messaged =
      let k = counted colon in
      let a = (entry k).args in
      let q = k.put_decimal-a in
      demand_message a.line a.message.now a.out.now (first k) (entry k).requires (copying k).copy_in.ensures q.new.out q.result q.ensures
      colon.copy_in-2.new.to colon.copy_in-2.ensures c.copy_in-3.new.to c.copy_in-3.ensures

  -- and the newline after it
  ended : let a = (entry (counted colon)).args in Filling (demand_text a.line a.message.now) [] a.out.now (set fourth end 10) (end + 1)
  ended =
      let k = counted colon in
      let a = (entry k).args in
      let q = k.put_decimal-a in
      demand_ended a.line a.message.now a.out.now (first k) (entry k).requires (copying k).copy_in.ensures q.new.out q.result q.ensures
      colon.copy_in-2.new.to colon.copy_in-2.ensures c.copy_in-3.new.to c.copy_in-3.ensures

copy-in-requires : tie.Need-copy_in-requires
copy-in-requires c κs = search rules

sub-put-decimal : tie.Need-slice_bounds-put_decimal-count
sub-put-decimal c = search rules

part-put-decimal-start : tie.Need-slice_bounds-put_decimal-start
part-put-decimal-start c = search rules

part-put-decimal-end : tie.Need-slice_bounds-put_decimal-end
part-put-decimal-end c = search rules

put-decimal-requires : tie.Need-put_decimal-a-requires
put-decimal-requires c κs = search rules

add-colon : tie.Need-overflow_add-colon
add-colon c = omega (arith, fill_room (numbered c.before.before))

sub-copy-in : tie.Need-slice_bounds-copy_in-count
sub-copy-in c = let f = numbered c.before.before.before.before in omega (arith, fill_room f, fill_length f)

part-copy-in-start : tie.Need-slice_bounds-copy_in-start
part-copy-in-start c = let f = numbered c.before.before.before.before in omega (arith, fill_room f, fill_length f)

part-copy-in-end : tie.Need-slice_bounds-copy_in-end-3
part-copy-in-end c = search rules

copy-in-requires-2 : tie.Need-copy_in-requires-2
copy-in-requires-2 c κs = fill_fits (numbered c.before.before.before.before.before) (text ": ") _ refl

add_start : tie.Need-overflow_add-start
add_start c = omega (arith, fill_room (parted c.before.before))

sub-copy-in-2 : tie.Need-slice_bounds-copy_in-count-2
sub-copy-in-2 c = let f = parted c.before.before in omega (arith, fill_room f, fill_length f)

part-copy-in-start-2 : tie.Need-slice_bounds-copy_in-start-2
part-copy-in-start-2 c = let f = parted c.before.before in omega (arith, fill_room f, fill_length f)

part-copy-in-end-2 : tie.Need-slice_bounds-copy_in-end-4
part-copy-in-end-2 c = search rules

copy-in-requires-3 : tie.Need-copy_in-requires-3
copy-in-requires-3 c κs =
    let f = c.before.before.before in
    fill_fits (parted f) (entry (counted f)).args.message.now (text "\n") refl

add-end : tie.Need-overflow_add-end
add-end c = omega (arith, fill_room (messaged c.before.before))

slice-write-out : tie.Need-bounds-out-end
slice-write-out c = let f = messaged c.before.before in omega (arith, fill_room f, fill_length f)

add-result : tie.Need-overflow_add-result
add-result c = omega (arith, fill_room (ended c.before.before))

same_length : tie.Need-shape_of-out
same_length c = fill_length (ended c.before.before)

returns : tie.Need-returns
returns c = fill_ends (ended c.before.before) refl

pub put_demand_spec : {M : Type 1} → statement M
put_demand_spec =
    tie.close
    (tie.spec
    copy-in-requires
    sub-put-decimal
    part-put-decimal-start
    part-put-decimal-end
    put-decimal-requires
    add-colon
    sub-copy-in
    part-copy-in-start
    part-copy-in-end
    copy-in-requires-2
    add_start
    sub-copy-in-2
    part-copy-in-start-2
    part-copy-in-end-2
    copy-in-requires-3
    add-end
    slice-write-out
    add-result
    same_length
    returns)
