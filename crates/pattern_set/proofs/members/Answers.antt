-- A member adds what it holds; what refuses a pattern is passed.
use Rattle.std.proofs.Common.{◌≡◌, refl, ◌||◌, drop, sym, ◌∙◌, ap, arith}
use mathlib.Core.Bool.{or-false}
use Rattle.stages.specs.Pattern.{member_holds, listed}
use Rattle.pattern_unit.specs.Widths.{signs_by}
use Rattle.pattern_member.specs.Members.{read_of, behind_read}
use Rattle.pattern_member.proofs.Members.{behind_inside}
use Rattle.pattern_set.specs.Sets.{has}
use Rattle.pattern_set.proofs.Gathering.{lists_on, lists_none, gathered}
use Rattle.pattern_set.proofs.members.Goals.{in-Ok, in_default}
use Rattle.pattern_set.proofs.members.Goals as goal

pub loop-at-preserved : goal.loop-at-preserved
unfolding member_holds
loop-at-preserved c =
    let a = c.args in
    let l = c.loop-at in
    let r = c.member_at-read.result in
    let s = c.member_at-read.ensures in
    let e : c.match-read.read ≡ r = elim c.match-read.branch [ in-Ok w ↦ w.read-is ∙ sym w.in-Ok.is | in_default w ↦ w.read-is ] in
    rw (c.behind-at.ensures, e) record {
      inside = behind_inside l.at s;
      lists = λ k h. gathered _ (has l.set.words k) (listed 0 (signs_by a.width (drop (behind_read r l.at a.width) a.units.now)) k)
          (member_holds (read_of r) k) _ (l.invariant.lists k h)
          (lists_on a.width a.units.now l.at k (omega (arith, c.unit_size-size.ensures, c.loop-at-test.true)) s)
          (elim c.match-read.branch [
            | in-Ok w ↦ rw (w.set-is, w.in-Ok.is) (w.with_member-set.ensures k h)
            | in_default w ↦ rw (w.set-is, w.in_default.is) refl
          ]);
    }

pub returns : goal.returns
returns c =
    let a = c.args in
    let l = c.loop-at in
    λ k h. sym (l.invariant.lists k h
    ∙ ap (λ b. has l.set.words k || b)
    (lists_none a.width a.units.now l.at k (omega (arith, c.unit_size-size.ensures, c.loop-at-test.false)))
    ∙ or-false (has l.set.words k))
