-- Where the search goes on, the table is right behind the member.
use Rattle.std.proofs.Common.{sym, ◌∙◌, ap, false, arith}
use Rattle.pattern_element.specs.Ends.{entry}
use Rattle.pattern_element.proofs.Searches.{sought_over}
use Rattle.pattern_element.proofs.end_at.Goals as goal

pub returns-then-pattern-next : goal.returns-then-pattern-next
returns-then-pattern-next c =
    let a = c.args in
    let g = rw c.in-Ok-On.field-0-is at c.in-Ok-On.ensures in
    sym (ap entry (g.same ∙ sought_over a.width a.pattern.now a.path false c.in-Ok-On.next
    (omega (arith, c.unit_size.ensures, c.if-pattern-next.true))))
