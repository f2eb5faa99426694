-- A line without a zero byte is read safely: its pieces stand within it, and what holds of each one that is read holds of all.
use Prim.Native.Nat.{ℕ, suc, ◌+◌, ◌-◌, ◌≤◌, ◌<◌}
use Prim.Native.Char.{code}
use native.Mathlib.Omega.{arith}
use mathlib.Core.Path.{◌≡◌, refl}
use mathlib.Core.Bool.{Bool, true, false, ◌||◌}
use mathlib.Core.List.{[], ◌∷◌}
use lib.Dec.{eqb}
use lib.ListN.{length}
use Rattle.stages.specs.Recur.{by_size}
use Rattle.stages.specs.Bytes.{Text, all, not_zero, is_blank, is_operator}
use Rattle.stages.specs.Outcome.{Outcome}
use Rattle.stages.specs.Numbers.{bare_operator}
use Rattle.stages.specs.Read.{Piece, piece_at, pieces_size, pieces}
use Rattle.stages.proofs.Bools.{and_right}
use Rattle.stages.proofs.Read.{Good, stays, leaves}
use Rattle.stages.proofs.Pieces.{Takes, pieces_end, pieces_blank, pieces_operator, pieces_piece}
use Rattle.stages.proofs.Outcomes.{Each, is_fault, Safe, refuses, gives, SafeBy, refuses_at, gives_at, safe_then, safe_at}
use Rattle.stages.proofs.Safe.{NoZero}

both_safe : {A : Type 0} {n : ℕ} {P : A × Text → Type 0} {r : Outcome (A × Text)} → Good n r → Safe P r → Safe (λ p. P p × (length p.1 ≤ n)) r
both_safe (stays g) (refuses e) = refuses e
both_safe (leaves l) (gives p) = gives (p, l)

-- pieces of a line of so many bytes: R holds of what a piece is read as, and Q of the piece as it is kept
module _ {A B : Type 0} (one : Piece A) (keep : ℕ → A → B) (short : Takes one) (first other : ℕ → Bool) (faults : (n : ℕ) → is_fault n ≡ true → other n ≡ true)
    (size : ℕ) (R : A → Type 0) (Q : B → Type 0) (safe : (t : Text) → NoZero t → Safe (λ p. R p.0 × NoZero p.1) (one t))
    (kept : (place : ℕ) (a : A) → place ≤ size - 1 → R a → Q (keep place a)) where
  abbrev Reads : ℕ × Text → Type 0
  Reads q = NoZero q.1 → q.0 + length q.1 ≤ size → SafeBy first other size (Each Q) (pieces one keep q)

  piece_safe : (place b : ℕ) (t : Text) → is_blank b ≡ false → NoZero (b ∷ t) → place + suc (length t) ≤ size
      → ((q : ℕ × Text) → length q.1 < suc (length t) → Reads q) → SafeBy first other size (Each Q) (piece_at one keep (pieces one keep) place (b ∷ t))
  unfolding piece_at
  piece_safe place b t e z l ih =
      safe_then _ (safe_at faults place (omega arith) (both_safe (short b t e) (safe (b ∷ t) z)))
      (λ p s. safe_then _ (ih (place + (suc (length t) - length p.1), p.1) (omega (arith, s.1)) s.0.1 (omega (arith, s.1)))
      (λ ws h. gives_at (kept place p.0 (omega arith) s.0.0, h)))

  pub pieces_safe : (q : ℕ × Text) → Reads q
  pieces_safe q = by_size pieces_size Reads step q
    where
      cons : (place b : ℕ) (t : Text) (x : Bool) → is_blank b ≡ x → (y : Bool) → (is_operator b || eqb b (code "#")) ≡ y
          → ((q : ℕ × Text) → length q.1 < suc (length t) → Reads q) → Reads (place, b ∷ t)
      cons place b t true e y d ih z l =
          rw (pieces_blank one keep place b t e) (ih (suc place, t) (omega arith) (and_right (not_zero b) (all not_zero t) z) (omega arith))
      cons place b t false e true d ih z l =
          rw (pieces_operator one keep place b t e d) (refuses_at {place = place} (faults bare_operator refl) (omega arith))
      cons place b t false e false d ih z l = rw (pieces_piece one keep short place b t e d) (piece_safe place b t e z l ih)

      step : (q : ℕ × Text) → ((r : ℕ × Text) → pieces_size r < pieces_size q → Reads r) → Reads q
      step (place, []) ih z l = rw (pieces_end one keep place) (gives_at tt)
      step (place, b ∷ t) ih z l = cons place b t (is_blank b) refl (is_operator b || eqb b (code "#")) refl ih z l
