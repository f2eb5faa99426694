-- Each kind of member adds the bytes that the stage says it holds.
use Rattle.std.proofs.Common.{◌≡◌, ℕ, Bool, ◌||◌, sym, ◌∙◌, ap}
use Rattle.stages.specs.Pattern.{member_holds}
use Rattle.pattern_member.specs.Members.{member_of}
use Rattle.pattern_member.specs.declared.Member.{Member}
use Rattle.pattern_set.specs.Sets.{has}
use Rattle.pattern_set.proofs.ByteSet.with_member.Goals as goal

-- what was added is what the member holds
added : {m n : Member} {r : Bool} (k : ℕ) (had : Bool) → m ≡ n → r ≡ (member_holds (member_of n) k || had) → r ≡ (member_holds (member_of m) k || had)
added k had e h = h ∙ sym (ap (λ (x : Member). member_holds (member_of x) k || had) e)

pub returns-in-Single : goal.returns-in-Single
unfolding member_holds
returns-in-Single c = λ k h. added k (has c.args.self.words k) c.in-Single.is (c.with_byte.ensures k h)

pub returns-in-Range : goal.returns-in-Range
unfolding member_holds
returns-in-Range c = λ k h. added k (has c.args.self.words k) c.in-Range.is (c.with_range.ensures k h)

pub returns-in-Class : goal.returns-in-Class
unfolding member_holds
returns-in-Class c = λ k h. added k (has c.args.self.words k) c.in-Class.is (c.with_class.ensures k h)
