-- Whatever two outcomes a contract of this crate allows for one input, they are equal: a set is its 256 bits, and of two places for one star the nearer would
-- have to be plain and a star at once.
use Prim.Native.Nat.{ℕ, ◌-◌, ◌<◌}
use mathlib.Core.Path.{◌≡◌}
use mathlib.Core.List.{List}
use native.Mathlib.Omega.{arith}
use native.Mathlib.Decide.{dec_lt}
use lib.ListN.{drop}
use Rattle.stages.proofs.Bools.{apart}
use Rattle.pattern_set.specs.Sets.{has}
use Rattle.pattern_set.specs.declared.ByteSet.{ByteSet}
use Rattle.pattern_set.proofs.Determined.{Typed, set_determined}
use Rattle.pattern_cell.specs.Cells.{words_at, FirstStar, LastStar}

pub set_in_determined : (cell : ℕ) (sets : List ℕ) (r q : ByteSet) → Typed r → Typed q
    → ((k : ℕ) → k < 256 → has r.words k ≡ has (drop (words_at cell) sets) k)
    → ((k : ℕ) → k < 256 → has q.words k ≡ has (drop (words_at cell) sets) k) → r ≡ q
set_in_determined cell sets = set_determined (λ k. has (drop (words_at cell) sets) k)

-- neither place is before the other
same_place : (r q : ℕ) → (r < q → ⊥) → (q < r → ⊥) → r ≡ q
same_place r q f g = go (dec_lt r q) (dec_lt q r)
  where
    go : Dec (r < q) → Dec (q < r) → r ≡ q
    go (yes h) d = absurd (f h)
    go (no h) (yes k) = absurd (g k)
    go (no h) (no k) = omega arith

first_after : (cells : List ℕ) (r q : ℕ) → FirstStar cells r → FirstStar cells q → r < q → ⊥
first_after cells r q a b h = apart (b.plain r h) (a.here (omega (arith, b.inside)))

pub first_star_determined : (cells : List ℕ) (r q : ℕ) → FirstStar cells r → FirstStar cells q → r ≡ q
first_star_determined cells r q a b = same_place r q (first_after cells r q a b) (first_after cells q r b a)

last_after : (cells : List ℕ) (r q : ℕ) → LastStar cells r → LastStar cells q → r < q → ⊥
last_after cells r q a b h =
    apart (a.trails.plain (q - 1) (omega arith) (omega (arith, b.trails.inside))) (b.behind (q - 1) (omega arith))

pub last_star_determined : (cells : List ℕ) (r q : ℕ) → LastStar cells r → LastStar cells q → r ≡ q
last_star_determined cells r q a b = same_place r q (last_after cells r q a b) (last_after cells q r b a)
