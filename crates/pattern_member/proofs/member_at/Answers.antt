-- The member is read behind the place's unit, as a class or as a byte, by whether a class opens there.
use Rattle.std.proofs.Common.{◌+◌, sym, ◌∙◌, subst}
use Rattle.stages.specs.Pattern as pattern
use Rattle.pattern_unit.specs.Widths.{size}
use Rattle.pattern_member.specs.Members.{Says}
use Rattle.pattern_member.proofs.Members.{member_class, member_byte}
use Rattle.pattern_member.proofs.member_at.Goals as goal

pub returns-then-opens_class : goal.returns-then-opens_class
returns-then-opens_class c =
    let a = c.args in
    subst (λ (m : pattern.Member). Says a.width a.units.now (a.at + size a.width) m c.class_member.result)
    (member_class a.width a.units.now a.at a.path c.requires (sym c.opens_class.ensures ∙ c.if-opens_class.true))
    (rw c.unit_size.ensures at c.class_member.ensures)

pub returns : goal.returns
returns c =
    let a = c.args in
    subst (λ (m : pattern.Member). Says a.width a.units.now (a.at + size a.width) m c.byte_member.result)
    (member_byte a.width a.units.now a.at a.path c.requires (sym c.opens_class.ensures ∙ c.if-opens_class.false))
    (rw c.unit_size.ensures at c.byte_member.ensures)
