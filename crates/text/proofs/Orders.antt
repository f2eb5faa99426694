-- What each answer of a comparison says of the two texts.
use Rattle.std.proofs.Common.{ℕ, arith, ◌≡◌, ◌∙◌, refl, Bool, true, false, cond, ◌||◌, ◌+◌, ◌<◌, ◌-◌, length, take, drop, nat_lt}
use Rattle.std.specs.Ordering.{nat_cmp}
use Rattle.std.specs.Cmp.Lexicographic.{slice_cmp}
use Rattle.text.proofs.Library.{cmp_order}
use native.Mathlib.Numerals.{add-one}
use lib.ListN.{get_or, length-drop}
use lib.Seq.{drop-cons, take_all}
use borrow.Author.Tests.{le-ltb, eq-eqb, ne_eqb}
use Rattle.stages.specs.Bytes.{Text, eq_text, lt_text}
use Rattle.stages.proofs.Texts.{lt_text_above}
use Rattle.text.specs.Orders.{order_of, pick_order}
use Rattle.std.specs.declared.cmp.Ordering.TheVariants.{Less, Equal, Greater}

less : (p q : Bool) → pick_order p q ≡ Less → p ≡ true
less true q e = refl
less false true e = absurd (let z : ◌≡◌ {A = ℕ} 0 1 = cc in omega arith)
less false false e = absurd (let z : ◌≡◌ {A = ℕ} 0 1 = cc in omega arith)

same : (p q : Bool) → pick_order p q ≡ Equal → (p ≡ false) × (q ≡ true)
same true q e = absurd (let z : ◌≡◌ {A = ℕ} 0 1 = cc in omega arith)
same false true e = (refl, refl)
same false false e = absurd (let z : ◌≡◌ {A = ℕ} 0 1 = cc in omega arith)

more : (p q : Bool) → pick_order p q ≡ Greater → (p ≡ false) × (q ≡ false)
more true q e = absurd (let z : ◌≡◌ {A = ℕ} 0 1 = cc in omega arith)
more false true e = absurd (let z : ◌≡◌ {A = ℕ} 0 1 = cc in omega arith)
more false false e = (refl, refl)

module _ (a b : Text) where
  pub order_below : order_of a b ≡ Less → lt_text a b ≡ true
  order_below e = less (lt_text a b) (eq_text a b) e

  pub order_equal : order_of a b ≡ Equal → eq_text a b ≡ true
  order_equal e = (same (lt_text a b) (eq_text a b) e).1

  pub order_above : order_of a b ≡ Greater → lt_text b a ≡ true
  order_above e = let m : (lt_text a b ≡ false) × (eq_text a b ≡ false) = more (lt_text a b) (eq_text a b) e in lt_text_above a b m.0 m.1

  pub above_not_equal : order_of a b ≡ Greater → eq_text a b ≡ false
  above_not_equal e = (more (lt_text a b) (eq_text a b) e).1

  pub equal_not_below : order_of a b ≡ Equal → lt_text a b ≡ false
  equal_not_below e = (same (lt_text a b) (eq_text a b) e).0

  pub above_not_below : order_of a b ≡ Greater → lt_text a b ≡ false
  above_not_below e = (more (lt_text a b) (eq_text a b) e).0

-- two texts, the same so far
pub record Alike (a b : Text) (i : ℕ) : Type 0 where
  pub less : lt_text a b ≡ lt_text (drop i a) (drop i b)
  pub same : eq_text a b ≡ eq_text (drop i a) (drop i b)

module _ (a b : Text) (i : ℕ) (p : Alike a b i) where
  module _ (h : i < length a) (k : i < length b) where
    pub order_unlike : (get_or a i 0 ≡ get_or b i 0 → ⊥) → nat_cmp (get_or a i 0) (get_or b i 0) ≡ order_of a b
    order_unlike n = rw (p.less, p.same, drop-cons a i 0, drop-cons b i 0, ne_eqb (get_or a i 0) (get_or b i 0) n) (go (nat_lt (get_or a i 0) (get_or b i 0)))
      where
        go : (l : Bool) → cond l Less Greater ≡ pick_order (l || false) false
        go true = refl
        go false = refl

    pub order_again : get_or a i 0 ≡ get_or b i 0 → Alike a b (i + 1)
    order_again e = record {
      less = p.less ∙ rw (
        drop-cons a i 0,
        drop-cons b i 0,
        le-ltb (get_or a i 0) (get_or b i 0) (omega arith),
        eq-eqb (get_or a i 0) (get_or b i 0) e,
        add-one i,
      );
      same = p.same ∙ rw (drop-cons a i 0, drop-cons b i 0, eq-eqb (get_or a i 0) (get_or b i 0) e, add-one i);
    }

  -- and what is left is compared behind the place
  pub order_rest : (m n : ℕ) → m ≡ length a - i → n ≡ length b - i → slice_cmp nat_cmp (take m (drop i a)) (take n (drop i b)) ≡ order_of a b
  order_rest m n e f =
      rw (take_all m (drop i a) (omega (arith, length-drop i a)), take_all n (drop i b) (omega (arith, length-drop i b)))
      (cmp_order (drop i a) (drop i b) ∙ rw (p.less, p.same) refl)
