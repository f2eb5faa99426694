-- The four runs of the class are added one after the other.
use Rattle.std.proofs.Common.{◌∙◌, ap, Bool, ◌||◌}
use Rattle.pattern_set.specs.Sets.{has}
use Rattle.pattern_set.proofs.Gathering.{four_runs}
use Rattle.pattern_set.proofs.ByteSet.with_class.Goals as goal

pub returns : goal.returns
returns c = λ k h.
    let had = has c.args.self.words k in
    four_runs c.runs-runs.result k had (c.with_range.ensures k h) (c.with_range-2.ensures k h) (c.with_range-3.ensures k h)
    (c.with_range-4.ensures k h)
    ∙ ap (λ (b : Bool). b || had) (c.runs-runs.ensures.holds k h)
