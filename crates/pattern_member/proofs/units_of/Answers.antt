-- Each member's length is the stage's, and its first unit is one more; what is written for a class is short.
use Rattle.std.proofs.Common.{◌+◌, sym, ◌∙◌, ap, subst, arith}
use Rattle.stages.specs.Pattern.{member_length}
use Rattle.pattern_class.proofs.Table.{row_short}
use Rattle.pattern_member.specs.Members.{member_of, is_row}
use Rattle.pattern_member.specs.declared.Member.{Member}
use Rattle.pattern_member.proofs.units_of.Goals as goal

pub overflow_add-result : goal.overflow_add-result
overflow_add-result c = omega (arith, c.written_length.ensures, row_short c.in-Class.row (subst is_row c.in-Class.is c.requires))

pub returns-in-Single : goal.returns-in-Single
unfolding member_length
returns-in-Single c = sym (ap (λ (m : Member). member_length (member_of m) + 1) c.in-Single.is)

pub returns-in-Range : goal.returns-in-Range
unfolding member_length
returns-in-Range c = sym (ap (λ (m : Member). member_length (member_of m) + 1) c.in-Range.is)

pub returns-in-Class : goal.returns-in-Class
unfolding member_length
returns-in-Class c = ap (λ n. n + 1) c.written_length.ensures ∙ sym (ap (λ (m : Member). member_length (member_of m) + 1) c.in-Class.is)
