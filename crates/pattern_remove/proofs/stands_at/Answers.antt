-- The part that is lent has as many bytes as the segment has cells, and these as many as elements.
use Prim.Native.Nat.{ℕ, ◌+◌}
use mathlib.Core.Path.{sym, ◌∙◌, ap}
use Rattle.stages.specs.Bytes.{part}
use Rattle.stages.specs.Pattern.{for_removal, matches}
use Rattle.pattern_cell.proofs.Showing.{shown_length}
use Rattle.pattern_remove.proofs.stands_at.Goals as goal

pub returns : goal.returns
returns c x s =
    let a = c.args in
    c.matches.ensures x s ∙ ap (λ (n : ℕ). matches for_removal x (part a.value.now a.at (a.at + n))) (sym (shown_length s))
