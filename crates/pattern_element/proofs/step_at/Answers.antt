-- Each way out is one step of the search; the last goes on behind the member.
use Rattle.std.proofs.Common.{◌+◌, sym, ◌∙◌, arith}
use Rattle.std.proofs.lemmas.Result.{err_from_is_err_and}
use Rattle.stages.specs.Pattern.{member_length}
use Rattle.pattern_unit.proofs.Units.{size_bounds}
use Rattle.pattern_member.specs.Members.{member_of}
use Rattle.pattern_member.proofs.Members.{behind_inside, behind_further}
use Rattle.pattern_element.proofs.Searches.{sought_over, sought_close, sought_bar, sought_unserved, sought_on}
use Rattle.pattern_element.proofs.step_at.Goals as goal

pub returns-then-pattern-at : goal.returns-then-pattern-at
returns-then-pattern-at c =
    let a = c.args in
    sought_over a.width a.pattern.now a.path a.first a.at (omega (arith, c.unit_size.ensures, c.if-pattern-at.true))

pub returns-then-closes : goal.returns-then-closes
returns-then-closes c =
    let a = c.args in
    sought_close a.width a.pattern.now a.path a.first a.at (omega (arith, c.unit_size.ensures, c.if-pattern-at.false))
    (sym c.closes.ensures ∙ c.if-closes.true)

pub returns-then-bars : goal.returns-then-bars
returns-then-bars c =
    let a = c.args in
    sought_bar a.width a.pattern.now a.path a.first a.at (omega (arith, c.unit_size.ensures, c.if-pattern-at.false))
    (sym c.closes.ensures ∙ c.if-closes.false) (sym c.bars.ensures ∙ c.if-bars.true)

pub returns-in_err-member : goal.returns-in_err-member
returns-in_err-member c =
    let a = c.args in
    let p = err_from_is_err_and c.from_residual.result c.from_residual.ensures.1 in
    rw p.1
    (sought_unserved a.width a.pattern.now a.path a.first a.at (omega (arith, c.unit_size.ensures, c.if-pattern-at.false))
    (sym c.closes.ensures ∙ c.if-closes.false) (sym c.bars.ensures ∙ c.if-bars.false) c.in_err-member.ensures)

pub returns : goal.returns
returns c =
    let a = c.args in
    let s = c.in_ok-member.ensures in
    record {
      units = member_length (member_of c.in_ok-member.member) + 1;
      is = c.behind.ensures;
      further = omega (arith, c.behind.ensures, size_bounds a.width, behind_further a.at s);
      inside = omega (arith, c.behind.ensures, behind_inside a.at s);
      same = rw c.behind.ensures
          (sought_on a.width a.pattern.now a.path a.first a.at (omega (arith, c.unit_size.ensures, c.if-pattern-at.false))
          (sym c.closes.ensures ∙ c.if-closes.false) (sym c.bars.ensures ∙ c.if-bars.false) s);
    }
