-- A test that antt computes at every number below a bound passes at each of them.
use Prim.Native.Nat.{ℕ, zero, suc, ◌+◌, ◌<◌}
use native.Mathlib.Nat.{add-zero, zero-add, add-suc, suc-add, le_of_suc-le-suc, not-suc-le-zero}
use mathlib.Core.Path.{◌≡◌, ◌∙◌, sym, ap}
use mathlib.Core.Bool.{Bool, true, ◌&&◌}
use Rattle.stages.proofs.Bools.{and_left, and_right}

-- the test passes at n numbers from i on
abbrev pub every : (ℕ → Bool) → ℕ → ℕ → Bool
every f i zero = true
every f i (suc n) = f i && every f (suc i) n

from : (f : ℕ → Bool) (i n : ℕ) → every f i n ≡ true → (k : ℕ) → k < n → f (i + k) ≡ true
from f i zero e k h = absurd (not-suc-le-zero h)
from f i (suc n) e zero h = ap f (add-zero i) ∙ and_left (f i) (every f (suc i) n) e
from f i (suc n) e (suc k) h = ap f (add-suc i k ∙ sym (suc-add i k)) ∙ from f (suc i) n (and_right (f i) (every f (suc i) n) e) k (le_of_suc-le-suc h)

pub every_at : (f : ℕ → Bool) (n : ℕ) → every f 0 n ≡ true → (k : ℕ) → k < n → f k ≡ true
every_at f n e k h = ap f (sym (zero-add k)) ∙ from f 0 n e k h
