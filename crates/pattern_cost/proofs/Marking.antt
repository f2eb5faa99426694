-- The flags of the area: one more set, and what a pair leads to.
use Prim.Native.Nat.{ℕ, ◌+◌, ◌≤◌, ◌<◌}
use native.Mathlib.Omega.{arith}
use native.Mathlib.Decide.{dec_lt}
use mathlib.Core.Path.{◌≡◌, refl, sym, ◌∙◌, ap}
use mathlib.Core.Bool.{Bool, true, false, not, ◌&&◌, ◌||◌, or-false}
use lib.Dec.{eqb}
use lib.ListN.{length, get_or, set, length-set}
use lib.Seq.{get_or-set_same, get_or-set_other, set_out}
use borrow.Author.Tests.{eqb-true, eqb-false, eq-eqb, ne_eqb}
use Rattle.stages.proofs.Bools.{no as never, either, and_both, or_left, or_right}
use Rattle.stages.specs.Bytes.{Text}
use Rattle.pattern_cost.specs.Areas.{on, Flags, Clear, leads_to, Led}

-- one flag more
pub on_set : (a : Text) (x y : ℕ) → x < length a → on (set a x 1) y ≡ (eqb y x || on a y)
on_set a x y h =
    either (eqb y x)
    (λ e. ap (λ (v : ℕ). not (eqb v 0)) (ap (λ (z : ℕ). get_or (set a x 1) z 0) (eqb-true y x e) ∙ get_or-set_same a x 1 0 h) ∙ sym (or_left (on a y) e))
    λ n. ap (λ (v : ℕ). not (eqb v 0)) (get_or-set_other a x y 1 0 (eqb-false y x n)) ∙ sym (ap (λ (z : Bool). z || on a y) n)

-- what is set stays a flag
pub flags_set : (a : Text) (x : ℕ) → Flags a → Flags (set a x 1)
flags_set a x f k = go (dec_lt x (length a)) (eqb k x) refl
  where
    go : Dec (x < length a) → (e : Bool) → eqb k x ≡ e → get_or (set a x 1) k 0 ≤ 1
    go (yes h) true e = rw (eqb-true k x e, get_or-set_same a x 1 0 h) (omega arith)
    go (no n) true e = rw (set_out a x 1 (omega arith)) (f k)
    go d false e = rw (get_or-set_other a x k 1 0 (eqb-false k x e)) (f k)

pub clear_flags : (a : Text) → Clear a 0 → Flags a
clear_flags a z k = go (eqb (get_or a k 0) 0) refl (z k (omega arith))
  where
    go : (x : Bool) → eqb (get_or a k 0) 0 ≡ x → not x ≡ false → get_or a k 0 ≤ 1
    go true e h = omega (arith, eqb-true (get_or a k 0) 0 e)
    go false e h = absurd (never (sym h))

-- what a pair leads to is marked
module _ (a : Text) (here width : ℕ) (fits : here + width + 1 < length a) (star more taken : Bool) where
  pub lead_row : star ≡ true → more ≡ false → Led star more taken here width a (set a (here + width) 1)
  unfolding leads_to
  lead_row e f = record {
    leads = λ y. on_set a (here + width) y (omega arith) ∙ sym (rw (e, f) (ap (λ (x : Bool). x || on a y) (or-false (eqb y (here + width)))));
    flags = flags_set a (here + width);
  }

  pub lead_star : star ≡ true → more ≡ true → Led star more taken here width a (set (set a (here + width) 1) (here + 1) 1)
  unfolding leads_to
  lead_star e f = record {
    leads = λ y.
        on_set (set a (here + width) 1) (here + 1) y (simp length-set (omega arith))
        ∙ ap (λ (x : Bool). eqb y (here + 1) || x) (on_set a (here + width) y (omega arith))
        ∙ swap (eqb y (here + 1)) (eqb y (here + width)) (on a y) ∙ sym (rw (e, f));
    flags = λ h. flags_set (set a (here + width) 1) (here + 1) (flags_set a (here + width) h);
  }
    where
      swap : (p q r : Bool) → (p || (q || r)) ≡ ((q || p) || r)
      swap true true r = refl
      swap true false r = refl
      swap false true r = refl
      swap false false r = refl

  pub lead_both : star ≡ false → taken ≡ true → Led star more taken here width a (set a (here + width + 1) 1)
  unfolding leads_to
  lead_both e f = record {
    leads = λ y. on_set a (here + width + 1) y fits ∙ sym (rw (e, f));
    flags = flags_set a (here + width + 1);
  }

  pub lead_nowhere : star ≡ false → taken ≡ false → Led star more taken here width a a
  unfolding leads_to
  lead_nowhere e f = record { leads = λ y. sym (rw (e, f)); flags = λ h. h }

-- a pair does not lead to y
pub misses : (star more taken : Bool) (here width y : ℕ)
    → (star ≡ true → y ≡ here + width → ⊥) → (star ≡ true → more ≡ true → y ≡ here + 1 → ⊥) → (star ≡ false → taken ≡ true → y ≡ here + width + 1 → ⊥)
    → leads_to star more taken here width y ≡ false
unfolding leads_to
misses true true taken here width y a b c = rw (ne_eqb y (here + width) (a refl), ne_eqb y (here + 1) (b refl refl))
misses true false taken here width y a b c = rw (ne_eqb y (here + width) (a refl))
misses false more true here width y a b c = ne_eqb y (here + width + 1) (c refl refl)
misses false more false here width y a b c = refl

-- it leads to y
pub hits_row : (star more taken : Bool) (here width y : ℕ) → star ≡ true → y ≡ here + width → leads_to star more taken here width y ≡ true
unfolding leads_to
hits_row true more taken here width y e q = or_left (more && eqb y (here + 1)) (eq-eqb y (here + width) q)
hits_row false more taken here width y e q = absurd (never e)

pub hits_byte : (star more taken : Bool) (here width y : ℕ) → star ≡ true → more ≡ true → y ≡ here + 1 → leads_to star more taken here width y ≡ true
unfolding leads_to
hits_byte true more taken here width y e m q = or_right (eqb y (here + width)) (and_both m (eq-eqb y (here + 1) q))
hits_byte false more taken here width y e m q = absurd (never e)

pub hits_both : (star more taken : Bool) (here width y : ℕ) → star ≡ false → y ≡ here + width + 1 → leads_to star more taken here width y ≡ taken
unfolding leads_to
hits_both true more taken here width y e q = absurd (never (sym e))
hits_both false more true here width y e q = eq-eqb y (here + width + 1) q
hits_both false more false here width y e q = refl
