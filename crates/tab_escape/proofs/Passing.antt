-- What is read passes the tests that its bytes pass: no byte of it is zero.
use Rattle.std.specs.Prelude.{Ok, Err}
use Prim.Native.Nat.{ℕ, zero, suc}
use native.Mathlib.Omega.{arith}
use mathlib.Core.Path.{◌≡◌, refl, sym}
use mathlib.Core.Bool.{Bool, true}
use mathlib.Core.List.{[], ◌∷◌}
use borrow.Author.Tests.{le-leb}
use Rattle.stages.specs.Bytes.{Text, all, not_zero}
use Rattle.stages.proofs.Bools.{and_both}
use Rattle.tab_escape.specs.Escapes.{Got, taking, byte_at, Reading, bad, good, before, read_on, read_from, read_text}
use Rattle.tab_escape.specs.declared.Fault.{Fault}
use Rattle.tab_escape.proofs.Escaping.{is_within}

good_same : {t u : Text} → good t ≡ good u → t ≡ u
good_same e = cc

bad_good : {f : Fault} {u t : Text} → bad f u ≡ good t → ⊥
bad_good e = let z : ◌≡◌ {A = ℕ} 0 1 = cc in omega arith

-- what is read passes a test that each of its bytes passes
module _ (f : ℕ → Bool) (Q : Text → Type 0) (later : (b : ℕ) (t : Text) → Q (b ∷ t) → Q t)
    (passes : (b : ℕ) (t : Text) (c k : ℕ) → Q (b ∷ t) → byte_at (b ∷ t) 0 ≡ taking c k → f c ≡ true) where
  pub from_all : (k : ℕ) (t u : Text) → Q t → read_from k t ≡ good u → all f u ≡ true
  unfolding read_from
  from_all k [] u q e = rw (← good_same e) refl
  from_all (suc k) (b ∷ t) u q e = from_all k t u (later b t q) e
  from_all zero (b ∷ t) u q e = by_byte (λ k w d. from_all k t w (later b t q) d) (byte_at (b ∷ t) 0) refl e
    where
      by_rest : (c : ℕ) (r : Reading) → f c ≡ true → ((w : Text) → r ≡ good w → all f w ≡ true) → before c r ≡ good u → all f u ≡ true
      by_rest c (bad g w) h ih d = absurd (bad_good d)
      by_rest c (good w) h ih d = rw (← good_same d) (and_both h (ih w refl))

      by_byte : ((k : ℕ) (w : Text) → read_from k t ≡ good w → all f w ≡ true) → (y : Got) → byte_at (b ∷ t) 0 ≡ y → read_on y
          (λ k. read_from k t) ≡ good u
          → all f u ≡ true
      by_byte ih (Err g) d e = absurd (bad_good e)
      by_byte ih (Ok r) d e = by_rest r.b (read_from r.more t) (passes b t r.b r.more q d) (ih r.more) e

pub read_fine : (t u : Text) → read_text t ≡ good u → all not_zero u ≡ true
unfolding read_text
read_fine t u e =
    from_all not_zero (λ _. Unit {0}) (λ _ _ _. tt) (λ b t c k _ d. le-leb 1 c (is_within (b ∷ t) 0 c k (taking c k) (omega arith) (sym d) refl).1) 0 t u tt e
