-- What refuses is what the stage refuses by, in its order; what is counted in the cleared area is what is reached, and it is cleared again.
use Rattle.std.proofs.Common.{ℕ, sym, inl, inr, arith}
use lib.Seq.{length-take-le}
use Rattle.call_cost.proofs.Answering.{small_refuses, class_refuses, many_refuse, pairs_reported, marks_cleared}
use Rattle.call_cost.proofs.pairs.Goals as goal
use Rattle.call_cost.proofs.pairs.Goals.{
  then-elements-gt-ELEMENTS_LIMIT-via-then-elements-gt-ELEMENTS_LIMIT,
  then-elements-gt-ELEMENTS_LIMIT-via-else-elements-gt-ELEMENTS_LIMIT+then-text-gt-COMPARED_LIMIT,
}

pub returns-then-work-lt-WORK_LEAST-clause-counts :
    goal.returns-then-work-lt-WORK_LEAST-clause-counts
returns-then-work-lt-WORK_LEAST-clause-counts c = small_refuses _ _ _ c.if-work-lt-WORK_LEAST.true

pub returns-in_default-clause-counts : goal.returns-in_default-clause-counts
returns-in_default-clause-counts c = class_refuses _ _ _ c.if-work-lt-WORK_LEAST.false c.in_default.ensures

pub returns-then-elements-gt-ELEMENTS_LIMIT-clause-counts :
    goal.returns-then-elements-gt-ELEMENTS_LIMIT-clause-counts
returns-then-elements-gt-ELEMENTS_LIMIT-clause-counts c =
    many_refuse _ _ _ c.if-work-lt-WORK_LEAST.false c.in-Ok.ensures
    (elim c.then-elements-gt-ELEMENTS_LIMIT.branch [
      | then-elements-gt-ELEMENTS_LIMIT-via-then-elements-gt-ELEMENTS_LIMIT w ↦ inl w.if-elements-gt-ELEMENTS_LIMIT.true
      | then-elements-gt-ELEMENTS_LIMIT-via-else-elements-gt-ELEMENTS_LIMIT+then-text-gt-COMPARED_LIMIT w ↦
          inr w.if-text-gt-COMPARED_LIMIT.true
    ])

pub slice_bounds-fill_zero-end-2 : goal.slice_bounds-fill_zero-end-2
slice_bounds-fill_zero-end-2 c =
    sym (length-take-le {A = ℕ} _ c.count_pairs-pairs.new.area
    (omega (arith, c.count_pairs-pairs.ensures.same, c.if-work-lt-WORK_LEAST.false)))

pub returns-clause-counts : goal.returns-clause-counts
returns-clause-counts c =
    pairs_reported _ _ _ c.if-work-lt-WORK_LEAST.false c.in-Ok.ensures c.if-elements-gt-ELEMENTS_LIMIT.false
    c.if-text-gt-COMPARED_LIMIT.false c.count_pairs-pairs.ensures.counts

pub returns-clause-left : goal.returns-clause-left
returns-clause-left c =
    marks_cleared _ _ _ c.if-work-lt-WORK_LEAST.false c.in-Ok.ensures c.if-elements-gt-ELEMENTS_LIMIT.false
    c.if-text-gt-COMPARED_LIMIT.false c.requires c.count_pairs-pairs.ensures c.fill_zero.ensures
