-- What the cut leaves is the part of the value before it, or behind it.
use Prim.Native.Nat.{ℕ}
use mathlib.Core.Path.{sym, ◌∙◌, ap}
use mathlib.Core.Bool.{Bool}
use lib.ListN.{take, drop}
use Rattle.stages.specs.Removal.{cut, left, removed}
use Rattle.text.specs.Cases.{side_of, reach_of}
use Rattle.pattern_remove.proofs.Covering.{part_suffix}
use Rattle.pattern_remove.proofs.Cutting.{cut_is}
use Rattle.pattern_remove.proofs.removed.Goals as goal

pub returns-then-suffix : goal.returns-then-suffix
unfolding removed
returns-then-suffix c p s =
    let a = c.args in
    ap (λ (k : ℕ). take k a.value.now) (cut_is (side_of a.suffix) (reach_of a.long) p a.value.now c.from_end-down.ensures (c.cut_place-k.ensures p s))
    ∙ ap (λ (z : Bool). left (side_of z) a.value.now (cut (side_of a.suffix) (reach_of a.long) p a.value.now)) (sym c.if-suffix.true)

pub returns-else-suffix : goal.returns-else-suffix
unfolding removed
returns-else-suffix c p s =
    let a = c.args in
    part_suffix a.value.now c.cut_place-k.result
    ∙ ap (λ (k : ℕ). drop k a.value.now) (cut_is (side_of a.suffix) (reach_of a.long) p a.value.now c.from_end-down.ensures (c.cut_place-k.ensures p s))
    ∙ ap (λ (z : Bool). left (side_of z) a.value.now (cut (side_of a.suffix) (reach_of a.long) p a.value.now)) (sym c.if-suffix.false)
