-- The answer for the whole is that for the last star, from where it stands on. Either the pattern left or the text left gets shorter.
use Prim.Native.Nat.{◌+◌, ◌-◌, ◌≤◌}
use mathlib.Core.Path.{◌≡◌}
use mathlib.Core.Bool.{false}
use mathlib.Core.List.{List}
use lib.ListN.{length, drop}
use Rattle.stages.specs.Pattern.{Element}
use Rattle.pattern_cell.specs.Cells.{Shows}
use Rattle.pattern_match.specs.Steps.{behind_star}
use Rattle.pattern_match.proofs.behind_star.Given as goal

abbrev pub invariant-loop-at : goal.invariant-loop-at
invariant-loop-at l = record {
  inside : l.at ≤ length l.cells;
  within : l.k ≤ length l.text;
  same : (es : List Element) → Shows l.sets l.cells es
      → behind_star l.path (drop l.start es) false l.begins (drop l.since l.text) ≡ behind_star l.path (drop l.at es) false l.first (drop l.k l.text);
}

abbrev pub decreases-loop-at : goal.decreases-loop-at
decreases-loop-at l = (length l.cells - l.at) + (length l.text - l.k)
