-- The answer for the whole is that for the elements from `at` on with the text from `k` on, and a star that stood before the run reaches no more than one that
-- stands there.
use Prim.Native.Nat.{◌≤◌}
use mathlib.Core.Bool.{true}
use mathlib.Core.List.{List}
use mathlib.Core.Path.{◌≡◌}
use lib.ListN.{length, drop}
use Rattle.stages.specs.Pattern.{Element, matches_from}
use Rattle.pattern_cell.specs.Cells.{Shows}
use Rattle.pattern_match.specs.Steps.{behind_star}
use Rattle.pattern_match.proofs.run_to_star.Given as goal

abbrev pub invariant-loop-at : goal.invariant-loop-at
invariant-loop-at l = record {
  within : l.k ≤ length l.text;
  beyond : l.since ≤ l.k;
  same : (es : List Element) → Shows l.sets l.cells es
      → matches_from l.path (drop l.start es) l.starts l.begins (drop l.since l.text) ≡ matches_from l.path (drop l.at es) l.head l.first (drop l.k l.text);
  keeps : (es : List Element) → Shows l.sets l.cells es
      → behind_star l.path (drop l.start es) l.starts l.begins (drop l.since l.text) ≡ true
      → behind_star l.path (drop l.at es) l.head l.first (drop l.k l.text) ≡ true;
}
