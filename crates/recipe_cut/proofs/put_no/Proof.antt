-- Each piece is written after the last one.
use Prim.Native.Nat.{ℕ, ◌+◌, ◌-◌}
use native.Mathlib.Omega.{arith}
use mathlib.Core.Path.{refl}
use mathlib.Core.List.{[], ◌++◌}
use lib.ListN.{length, set}
use borrow.Author.Rules.{rules}
use borrow.Rule.Slice.PartMut.{put_mid}
use Rattle.stages.specs.Bytes.{Text, text}
use Rattle.stages.specs.Units.{decimal}
use Rattle.text.proofs.Filling.{Filling, fill_room, fill_length, fill_free_length, fill_ends}
use Rattle.recipe_cut.specs.Said.{no_text}
use Rattle.recipe_cut.proofs.Saying.{decimal_most, no_number, no_blank, no_place, no_ended}
use Rattle.recipe_cut.proofs.put_no.Statement.{statement}
use Rattle.recipe_cut.proofs.put_no.Tie as tie

-- where the number has been written: the call's entry, and the buffer before it
module _ (c : tie.After-put_decimal-a) where
  abbrev entry : tie.Start
  entry = c.before.before.before.before.before.before.before.before.before

  abbrev copying : tie.After-copy_in
  copying = c.before.before.before.before

  abbrev first : Text
  first = copying.copy_in.new.to

  abbrev second : Text
  second = put_mid 3 (length first - 3) first c.put_decimal-a.new.out

  abbrev at : ℕ
  at = c.put_decimal-a.result + 3

  numbered : let a = entry.args in Filling (no_text a.number a.place) (text " " ++ (decimal a.place ++ text "\n")) a.out.now second at
  numbered =
      let a = entry.args in
      no_number a.number a.place a.out.now first entry.requires copying.copy_in.ensures c.put_decimal-a.new.out c.put_decimal-a.result
      c.put_decimal-a.ensures

  -- and the blank after it
  blanked : let a = entry.args in Filling (no_text a.number a.place) (decimal a.place ++ text "\n") a.out.now (set second at 32) (at + 1)
  blanked =
      let a = entry.args in
      no_blank a.number a.place a.out.now first entry.requires copying.copy_in.ensures c.put_decimal-a.new.out c.put_decimal-a.result
      c.put_decimal-a.ensures

-- where the place has been written
module _ (c : tie.After-put_decimal-b) where
  abbrev counted : tie.After-put_decimal-a
  counted = c.before.before.before.before

  abbrev third : Text
  third = set (second counted) (at counted) 32

  abbrev fourth : Text
  fourth = put_mid (at counted + 1) (length third - (at counted + 1)) third c.put_decimal-b.new.out

  abbrev end : ℕ
  end = at counted + 1 + c.put_decimal-b.result

  placed : let a = (entry counted).args in Filling (no_text a.number a.place) (text "\n") a.out.now fourth end
  placed =
      let a = (entry counted).args in
      let q = counted.put_decimal-a in
      let u = c.put_decimal-b in
      no_place a.number a.place a.out.now (first counted) (entry counted).requires (copying counted).copy_in.ensures q.new.out q.result
      q.ensures u.new.out u.result u.ensures

  -- and the newline after it
  ended : let a = (entry counted).args in Filling (no_text a.number a.place) [] a.out.now (set fourth end 10) (end + 1)
  ended =
      let a = (entry counted).args in
      let q = counted.put_decimal-a in
      let u = c.put_decimal-b in
      no_ended a.number a.place a.out.now (first counted) (entry counted).requires (copying counted).copy_in.ensures q.new.out q.result
      q.ensures u.new.out u.result u.ensures

copy-in-requires : tie.Need-copy_in-requires
copy-in-requires c κs = search rules

sub-put-decimal : tie.Need-slice_bounds-put_decimal-count
sub-put-decimal c = search rules

part-put-decimal-start : tie.Need-slice_bounds-put_decimal-start
part-put-decimal-start c = search rules

part-put-decimal-end : tie.Need-slice_bounds-put_decimal-end
part-put-decimal-end c = search rules

put-decimal-requires : tie.Need-put_decimal-a-requires
put-decimal-requires c κs = search rules

add-blank : tie.Need-overflow_add-blank
add-blank c = omega (arith, fill_room (numbered c.before.before))

slice-write-out : tie.Need-bounds-out-blank
slice-write-out c = let f = numbered c.before.before in omega (arith, fill_room f, fill_length f)

add_start : tie.Need-overflow_add-start
add_start c = omega (arith, fill_room (blanked c.before.before))

sub-put-decimal-2 : tie.Need-slice_bounds-put_decimal-count-2
sub-put-decimal-2 c = let f = blanked c.before.before in omega (arith, fill_room f, fill_length f)

part-put-decimal-start-2 : tie.Need-slice_bounds-put_decimal-start-2
part-put-decimal-start-2 c = let f = blanked c.before.before in omega (arith, fill_room f, fill_length f)

part-put-decimal-end-2 : tie.Need-slice_bounds-put_decimal-end-2
part-put-decimal-end-2 c = search rules

put-decimal-requires-2 : tie.Need-put_decimal-b-requires
put-decimal-requires-2 c κs =
    let q = c.before.before.before in
    omega (arith, fill_free_length (blanked q), q.put_decimal-a.ensures.counts, decimal_most (entry q).args.number, (entry q).requires)

add-end : tie.Need-overflow_add-end
add-end c = omega (arith, fill_room (placed c.before.before))

slice-write-out-2 : tie.Need-bounds-out-end
slice-write-out-2 c = let f = placed c.before.before in omega (arith, fill_room f, fill_length f)

add-result : tie.Need-overflow_add-result
add-result c = omega (arith, fill_room (ended c.before.before))

same_length : tie.Need-shape_of-out
same_length c = fill_length (ended c.before.before)

returns : tie.Need-returns
returns c = fill_ends (ended c.before.before) refl

pub put_no_spec : {M : Type 1} → statement M
put_no_spec =
    tie.close
    (tie.spec
    copy-in-requires
    sub-put-decimal
    part-put-decimal-start
    part-put-decimal-end
    put-decimal-requires
    add-blank
    slice-write-out
    add_start
    sub-put-decimal-2
    part-put-decimal-start-2
    part-put-decimal-end-2
    put-decimal-requires-2
    add-end
    slice-write-out-2
    add-result
    same_length
    returns)
