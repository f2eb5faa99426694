-- The cuts of a value one after the other, for the four removals at once.
use Prim.Native.Nat.{ℕ, suc, ◌+◌, ◌-◌, ◌≤◌, ◌<◌}
use mathlib.Core.Path.{◌≡◌, refl, sym, ◌∙◌, ap}
use mathlib.Core.Bool.{Bool, true, false}
use native.Mathlib.Omega.{arith}
use native.Mathlib.Numerals.{add-one}
use mathlib.Core.List.{List}
use lib.ListN.{length}
use Rattle.stages.specs.Outcome.{pick}
use Rattle.stages.specs.Bytes.{Text}
use Rattle.stages.specs.Syntax.{Side, Reach}
use Rattle.stages.specs.Pattern.{Element}
use Rattle.stages.specs.Removal.{first_cut, cut_at, keep_all, from_end, cut}
use Rattle.pattern_remove.specs.Cuts.{matched_at, CutsAt}

-- the first of some cuts, by whether the first one tried passes
one_cut : (f : ℕ → Bool) (other : ℕ) (at : ℕ → ℕ) (i d : ℕ) → first_cut f other at i (suc d) ≡ pick (f (at i)) (at i)
    (first_cut f other at (suc i) d)
unfolding first_cut
one_cut f other at i d = go (f (at i))
  where
    go : (x : Bool) → elim x [ true ↦ at i | false ↦ first_cut f other at (suc i) d ] ≡ pick x (at i) (first_cut f other at (suc i) d)
    go true = refl
    go false = refl

module _ (side : Side) (down : Bool) (p : List Element) (v : Text) where
  abbrev first : ℕ → ℕ → ℕ
  first i d = first_cut (λ k. matched_at side p v k) (keep_all side v) (cut_at down (length v)) i d

  -- the cut that is taken if none before the i-th is
  abbrev pub cut_from : ℕ → ℕ
  cut_from i = first i (suc (length v) - i)

  from_here : (i d : ℕ) → suc (length v) - i ≡ suc d → {x : Bool} → matched_at side p v (cut_at down (length v) i) ≡ x → cut_from i ≡
      pick x (cut_at down (length v) i) (first (suc i) d)
  from_here i d e y =
      ap (first i) e ∙ one_cut (λ k. matched_at side p v k) (keep_all side v) (cut_at down (length v)) i d
      ∙ ap (λ (b : Bool). pick b (cut_at down (length v) i) (first (suc i) d)) y

  module _ (i : ℕ) {k : ℕ} (h : i ≤ length v) (e : k ≡ cut_at down (length v) i) where
    pub cut_here : matched_at side p v k ≡ true → k ≡ cut_from i
    cut_here y = e ∙ sym (from_here i (length v - i) (omega arith) (sym (ap (λ (n : ℕ). matched_at side p v n) e) ∙ y))

    pub cut_on : matched_at side p v k ≡ false → cut_from i ≡ cut_from (i + 1)
    cut_on y = from_here i (suc (length v) - (i + 1)) (omega arith) (sym (ap (λ (n : ℕ). matched_at side p v n) e) ∙ y) ∙ rw (add-one i)

    -- each cut is inside the value
    pub cut_within : k ≤ length v
    cut_within = rw e (within down)
      where
        within : (d : Bool) → cut_at d (length v) i ≤ length v
        within true = omega arith
        within false = h

  pub cut_none : (i : ℕ) → length v < i → cut_from i ≡ keep_all side v
  unfolding first_cut
  cut_none i h = let d : suc (length v) - i ≡ 0 = omega arith in rw d

  pub cuts_at : {k : ℕ} → k ≡ cut_from 0 → k ≤ length v → CutsAt side down p v k
  cuts_at e h = let d : suc (length v) - 0 ≡ suc (length v) = omega arith in record { first = e ∙ rw d; within = h }

-- the cut that the walk finds is the stage's
pub cut_is : (side : Side) (reach : Reach) (p : List Element) (v : Text) {down : Bool} {k : ℕ} → down ≡ from_end side reach → CutsAt side down p v k
    → k ≡ cut side reach p v
unfolding cut
cut_is side reach p v e c =
    c.first ∙ ap (λ (d : Bool). first_cut (λ i. matched_at side p v i) (keep_all side v) (cut_at d (length v)) 0 (suc (length v))) e
