-- The answer for the whole gap is that for the bytes from the place on.
use mathlib.Core.Path.{◌≡◌}
use lib.ListN.{drop}
use Rattle.pattern_match.specs.Steps.{all_pass}
use Rattle.pattern_match.proofs.gap_passes.Given as goal

abbrev pub invariant-loop-b : goal.invariant-loop-b
invariant-loop-b l = all_pass l.path l.begins l.gap ≡ all_pass l.path l.first (drop l.b-index l.gap)
