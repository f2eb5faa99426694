-- `tab_show::put_byte` meets its contract: the byte itself, a letter behind a backslash, or two digits behind `\x`.
use native.Mathlib.Omega.{arith}
use mathlib.Core.Path.{sym, ◌∙◌}
use lib.ListN.{length-set}
use Rattle.tab_show.proofs.Writing.{
  Escaped,
  Hex,
  byte_long,
  plain_put,
  newline_room,
  newline_put,
  backslash_room,
  backslash_put,
  hex_room,
  hex_put,
}
use borrow.Author.Rules.{rules}
use Rattle.tab_show.proofs.put_byte.Statement.{statement}
use Rattle.tab_show.proofs.put_byte.Tie as tie

-- the byte does not stand for itself
escaped : (c : tie.Else-is_plain) → let a = c.args in Escaped a.b a.out.now
escaped c = record { odd = sym c.is_plain.ensures ∙ c.if-is_plain.false; room = c.requires }

-- and has no letter
hex : (c : tie.Else-b-eq-BACKSLASH) → let a = c.args in Hex a.b a.out.now
hex c = record { escape = escaped c.before.before; not_newline_lem = c.if-b-eq-NEWLINE.false; not_backslash = c.if-b-eq-BACKSLASH.false }

is-plain-requires : tie.Need-is_plain-requires
is-plain-requires c κs = search rules

slice-write-out : tie.Need-bounds-out-0
slice-write-out c = let s = c in omega (arith, (byte_long s.args.b).0, s.requires)

same_length : tie.Need-shape_of-out-then-is_plain
same_length c = search rules

returns : tie.Need-returns-then-is_plain
returns c =
    let s = c in
    plain_put s.args.b s.args.out.now (sym c.is_plain.ensures ∙ c.if-is_plain.true) (omega (arith, (byte_long s.args.b).0, s.requires))

slice-write-out-2 : tie.Need-bounds-out-0-2
slice-write-out-2 c = let s = c in omega (arith, (byte_long s.args.b).0, s.requires)

slice-write-out-3 : tie.Need-bounds-out-1
slice-write-out-3 c = simp length-set (omega (arith, newline_room (escaped c.before) c.if-b-eq-NEWLINE.true))

same-length-2 : tie.Need-shape_of-out-then-b-eq-NEWLINE
same-length-2 c = search rules

returns-2 : tie.Need-returns-then-b-eq-NEWLINE
returns-2 c = newline_put (escaped c.before) c.if-b-eq-NEWLINE.true

slice-write-out-4 : tie.Need-bounds-out-1-then-b-eq-BACKSLASH
slice-write-out-4 c = simp length-set (omega (arith, backslash_room (escaped c.before.before) c.if-b-eq-NEWLINE.false c.if-b-eq-BACKSLASH.true))

same-length-3 : tie.Need-shape_of-out-then-b-eq-BACKSLASH
same-length-3 c = search rules

returns-3 : tie.Need-returns-then-b-eq-BACKSLASH
returns-3 c = backslash_put (escaped c.before.before) c.if-b-eq-NEWLINE.false c.if-b-eq-BACKSLASH.true

slice-write-out-5 : tie.Need-bounds-out-1-2
slice-write-out-5 c = simp length-set (omega (arith, hex_room (hex c)))

hex-digit-requires : tie.Need-hex_digit-requires
hex-digit-requires c κs = search rules

slice-write-out-6 : tie.Need-bounds-out-2
slice-write-out-6 c = simp length-set (omega (arith, hex_room (hex c.before)))

hex-digit-requires-2 : tie.Need-hex_digit-requires-2
hex-digit-requires-2 c κs = search rules

slice-write-out-7 : tie.Need-bounds-out-3
slice-write-out-7 c = simp length-set (omega (arith, hex_room (hex c.before.before)))

same-length-4 : tie.Need-shape_of-out
same-length-4 c = search rules

returns-4 : tie.Need-returns
returns-4 c = hex_put (hex c.before.before) _ _ c.hex_digit.ensures c.hex_digit-2.ensures

pub put_byte_spec : {M : Type 1} → statement M
put_byte_spec =
    tie.close
    (tie.spec
    is-plain-requires
    slice-write-out
    same_length
    returns
    slice-write-out-2
    slice-write-out-3
    same-length-2
    returns-2
    slice-write-out-4
    same-length-3
    returns-3
    slice-write-out-5
    hex-digit-requires
    slice-write-out-6
    hex-digit-requires-2
    slice-write-out-7
    same-length-4
    returns-4)
