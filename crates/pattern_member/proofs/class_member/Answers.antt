-- The class that is found is a member unless a range goes on from it; what is not found is none.
use Rattle.std.proofs.Common.{◌≡◌, ◌*◌, length, sym, ◌∙◌}
use Rattle.stages.specs.Classes.{written}
use Rattle.pattern_unit.specs.Widths.{size}
use Rattle.pattern_class.specs.Rows.{row_class}
use Rattle.pattern_member.proofs.Members.{class_unknown, class_to_more, class_alone}
use Rattle.pattern_member.proofs.class_member.Goals as goal

pub returns-in_default : goal.returns-in_default
returns-in_default c =
    let a = c.args in
    class_unknown a.width a.units.now a.at c.requires a.path c.in_default.ensures

pub returns-then-is_range : goal.returns-then-is_range
returns-then-is_range c =
    let a = c.args in
    let row = c.in-Some.row in
    let scaled : c.unit_size.result * c.written_length.result ≡ size a.width * length (written (row_class row)) =
    rw (c.unit_size.ensures, c.written_length.ensures) in
    class_to_more a.width a.units.now a.at c.requires a.path row c.in-Some.ensures
    (rw (sym scaled) (sym c.is_range.ensures ∙ c.if-is_range.true))

pub returns : goal.returns
returns c =
    let a = c.args in
    let row = c.in-Some.row in
    let scaled : c.unit_size.result * c.written_length.result ≡ size a.width * length (written (row_class row)) =
    rw (c.unit_size.ensures, c.written_length.ensures) in
    class_alone a.width a.units.now a.at c.requires a.path row c.in-Some.ensures
    (rw (sym scaled) (sym c.is_range.ensures ∙ c.if-is_range.false))
