-- The members, or with the `!` the set of all other bytes, which is the stage's test turned.
use Rattle.std.proofs.Common.{Bool, sym, ◌∙◌, ap}
use Rattle.stages.specs.Pattern.{sense_of, in_set}
use Rattle.pattern_unit.specs.Widths.{signs_by}
use Rattle.pattern_set.proofs.Gathering.{in_members, in_others}
use Rattle.pattern_set.proofs.set_of.Goals as goal

pub returns-then-negative : goal.returns-then-negative
returns-then-negative c =
    let a = c.args in
    λ k h. in_others (signs_by a.width a.units.now) k (c.members-set.ensures k h) (c.others.ensures k h)
    ∙ ap (λ (b : Bool). in_set (sense_of b) (signs_by a.width a.units.now) k) (sym c.if-negative.true)

pub returns-else-negative : goal.returns-else-negative
returns-else-negative c =
    let a = c.args in
    λ k h. in_members (signs_by a.width a.units.now) k (c.members-set.ensures k h)
    ∙ ap (λ (b : Bool). in_set (sense_of b) (signs_by a.width a.units.now) k) (sym c.if-negative.false)
