-- Below `b` the set has the bytes of the range too, and from `b` on it is as it was.
use Rattle.std.proofs.Common.{◌≡◌, ℕ, ◌≤◌, ◌<◌, ◌||◌}
use Rattle.stages.specs.Bytes.{between}
use Rattle.pattern_set.specs.Sets.{has}
use Rattle.pattern_set.proofs.ByteSet.with_range.Given as goal

abbrev pub invariant-loop-b : goal.invariant-loop-b
invariant-loop-b l = record {
  below : (k : ℕ) → k < l.b → k < 256 → has l.self.words k ≡ (between l.fn.lo k l.fn.hi || has l.initial.self.words k);
  above : (k : ℕ) → l.b ≤ k → k < 256 → has l.self.words k ≡ has l.initial.self.words k;
}
