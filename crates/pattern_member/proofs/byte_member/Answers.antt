-- No range goes on from the byte, or one that ends with a class, or one that ends with a byte.
use Rattle.std.proofs.Common.{sym, ◌∙◌, arith}
use Rattle.pattern_unit.proofs.Units.{size_bounds}
use Rattle.pattern_member.proofs.Members.{range_inside, byte_single, byte_to_class, byte_to_byte}
use Rattle.pattern_member.proofs.byte_member.Goals as goal

pub returns-then-not-is_range : goal.returns-then-not-is_range
returns-then-not-is_range c =
    let a = c.args in
    byte_single a.width a.units.now a.at c.requires a.path a.b (sym c.is_range.ensures ∙ c.if-not-is_range.true)

pub opens_class-requires : goal.opens_class-requires
opens_class-requires c =
    let a = c.args in
    omega (arith, c.unit_size.ensures, range_inside a.width a.units.now a.at a.path (sym c.is_range.ensures ∙ c.if-not-is_range.false))

pub returns-then-opens_class : goal.returns-then-opens_class
returns-then-opens_class c =
    let a = c.args in
    byte_to_class a.width a.units.now a.at c.requires a.path a.b (sym c.is_range.ensures ∙ c.if-not-is_range.false)
    (rw (sym c.unit_size.ensures) (sym c.opens_class.ensures ∙ c.if-opens_class.true))

pub bounds-units-end : goal.bounds-units-end
bounds-units-end c =
    let a = c.args in
    omega (
      arith,
      c.unit_size.ensures,
      size_bounds a.width,
      range_inside a.width a.units.now a.at a.path (sym c.is_range.ensures ∙ c.if-not-is_range.false),
    )

pub returns : goal.returns
returns c =
    let a = c.args in
    rw c.unit_size.ensures
    (byte_to_byte a.width a.units.now a.at c.requires a.path a.b (sym c.is_range.ensures ∙ c.if-not-is_range.false)
    (rw (sym c.unit_size.ensures) (sym c.opens_class.ensures ∙ c.if-opens_class.false)))
