-- The walk over a row on plain lists: what stands in the area while the pairs of one row are met in order.
use Prim.Native.Nat.{ℕ, zero, suc, ◌+◌, ◌≤◌, ◌<◌}
use native.Mathlib.Omega.{arith}
use mathlib.Core.Path.{◌≡◌, refl, sym, ◌∙◌, ap}
use mathlib.Core.Bool.{Bool, true, false, ◌&&◌, ◌||◌, and-false, and-true, or-false}
use lib.Dec.{eqb, leb, ltb}
use lib.ListN.{length, get_or}
use borrow.Author.Tests.{eqb-true, eqb-false, lt-ltb, le-ltb, ltb-true, leb-true, leb-false}
use Rattle.stages.proofs.Bools.{no, either, and_left, and_both, or_left, or_right, same_tests}
use Rattle.stages.specs.Bytes.{Text}
use Rattle.stages.specs.Cost.{spread, onward, tally}
use Rattle.pattern_cost.specs.Areas.{on, Flags, Led, row, Clear, RowWalked}
use Rattle.pattern_cost.proofs.Marking.{misses, hits_row, hits_byte, hits_both}

-- what the pairs before the j-th lead to in the next row
unfoldable pub led : Bool → (ℕ → Bool) → Text → (ℕ → Bool) → ℕ → ℕ → Bool
led true passes t g j k = ltb k j && g k
led false passes t g j zero = false
led false passes t g j (suc k) = ltb k j && (passes (get_or t k 0) && g k)

module _ (passes : ℕ → Bool) (t : Text) (g : ℕ → Bool) where
  led_none : (s : Bool) (k : ℕ) → led s passes t g 0 k ≡ false
  unfolding led
  led_none true k = rw (le-ltb k 0 (omega arith))
  led_none false zero = refl
  led_none false (suc k) = rw (le-ltb k 0 (omega arith))

  led_all : (s : Bool) (j k : ℕ) → k < j → led s passes t g j k ≡ onward s passes t g k
  unfolding led onward
  led_all true j k l = rw (lt-ltb k j l)
  led_all false j zero l = refl
  led_all false j (suc k) l = rw (lt-ltb k j (omega arith))

  -- all but the j-th
  below_other : (j k : ℕ) → (k ≡ j → ⊥) → ltb k (suc j) ≡ ltb k j
  below_other j k n =
      same_tests (ltb k (suc j)) (ltb k j)
      (λ y. let h = ltb-true k (suc j) y in either (eqb k j) (λ e. absurd (n (eqb-true k j e))) λ e. lt-ltb k j (between h (eqb-false k j e)))
      λ y. lt-ltb k (suc j) (omega (arith, ltb-true k j y))
    where
      between : k < suc j → (k ≡ j → ⊥) → k < j
      between h n = omega arith

  led_other : (s : Bool) (j k : ℕ) → (s ≡ true → k ≡ j → ⊥) → (s ≡ false → k ≡ suc j → ⊥) → led s passes t g (suc j) k ≡ led s passes t g j k
  unfolding led
  led_other true j k a b = rw (below_other j k (a refl))
  led_other false j zero a b = refl
  led_other false j (suc k) a b = rw (below_other j k (λ e. b refl (ap suc e)))

  led_off : (s : Bool) (j k : ℕ) → g j ≡ false → led s passes t g (suc j) k ≡ led s passes t g j k
  unfolding led
  led_off true j k n = either (eqb k j) (λ e. at_last (eqb-true k j e)) λ e. rw (below_other j k (eqb-false k j e))
    where
      at_last : k ≡ j → (ltb k (suc j) && g k) ≡ (ltb k j && g k)
      at_last e = rw (e, n, le-ltb j j (omega arith), lt-ltb j (suc j) (omega arith))
  led_off false j zero n = refl
  led_off false j (suc k) n = either (eqb k j) (λ e. at_last (eqb-true k j e)) λ e. rw (below_other j k (eqb-false k j e))
    where
      at_last : k ≡ j → (ltb k (suc j) && (passes (get_or t k 0) && g k)) ≡ (ltb k j && (passes (get_or t k 0) && g k))
      at_last e = rw (e, le-ltb j j (omega arith), lt-ltb j (suc j) (omega arith), n) (and-false (passes (get_or t j 0)))

spread_off : (s : Bool) (f : ℕ → Bool) (j : ℕ) → spread s f j ≡ false → spread s f (suc j) ≡ f (suc j)
unfolding spread
spread_off false f j n = refl
spread_off true f j n = rw n (or_no (f (suc j)))
  where
    or_no : (x : Bool) → (x || false) ≡ x
    or_no true = refl
    or_no false = refl

spread_first : (s : Bool) (f : ℕ → Bool) → spread s f 0 ≡ f 0
unfolding spread
spread_first false f = refl
spread_first true f = refl

tally_off : (g : ℕ → Bool) (j : ℕ) → g j ≡ false → tally g (suc j) ≡ tally g j
unfolding tally
tally_off g j n = rw n (omega arith)

tally_on : (g : ℕ → Bool) (j : ℕ) → g j ≡ true → tally g (suc j) ≡ tally g j + 1
unfolding tally
tally_on g j y = rw y

spread_on : (s : Bool) (f : ℕ → Bool) (j : ℕ) → s ≡ true → spread s f j ≡ true → spread s f (suc j) ≡ true
unfolding spread
spread_on true f j e y = or_right (f (suc j)) y
spread_on false f j e y = absurd (no e)

spread_plain : (s : Bool) (f : ℕ → Bool) (j : ℕ) → s ≡ false → spread s f j ≡ f j
unfolding spread
spread_plain true f j e = absurd (no (sym e))
spread_plain false f j e = refl

module _ (passes : ℕ → Bool) (t : Text) (g : ℕ → Bool) (j : ℕ) where
  led_row_lem : (s : Bool) → s ≡ true → g j ≡ true → led s passes t g (suc j) j ≡ true
  unfolding led
  led_row_lem true e y = and_both (lt-ltb j (suc j) (omega arith)) y
  led_row_lem false e y = absurd (no e)

  led_both : (s : Bool) → s ≡ false → g j ≡ true → led s passes t g (suc j) (suc j) ≡ passes (get_or t j 0)
  unfolding led
  led_both true e y = absurd (no (sym e))
  led_both false e y = rw (lt-ltb j (suc j) (omega arith), y) (and-true (passes (get_or t j 0)))

  led_yet : (s : Bool) → s ≡ false → led s passes t g j (suc j) ≡ false
  unfolding led
  led_yet true e = absurd (no (sym e))
  led_yet false e = rw (le-ltb j j (omega arith))

-- the pairs before the j-th of the row from `base` on were met
module _ (s : Bool) (passes : ℕ → Bool) (t : Text) (base : ℕ) where
  abbrev width : ℕ
  width = length t + 1

  -- the row in the end
  abbrev whole : Text → ℕ → Bool
  whole entry k = spread s (row entry base) k

  pub record Walked (entry area : Text) (j count : ℕ) : Type 0 where
    pub here : (k : ℕ) → k ≤ j → k ≤ length t → on area (base + k) ≡ spread s (row entry base) k
    pub ahead : (k : ℕ) → j < k → k ≤ length t → on area (base + k) ≡ row entry base k
    pub next : (k : ℕ) → k ≤ length t → on area (base + (length t + 1) + k) ≡ led s passes t (spread s (row entry base)) j k
    pub clear : Clear area (base + (length t + 1) + (length t + 1))
    pub counts : count ≡ tally (spread s (row entry base)) j
    pub below : (k : ℕ) → k < base → on area k ≡ on entry k
    pub flags : Flags entry → Flags area

  pub walked_start : (area : Text) → Clear area (base + (length t + 1)) → Walked area area 0 0
  unfolding tally
  walked_start area z = record {
    here = λ k l b. let e : k ≡ 0 = omega arith in rw e (sym (spread_first s (row area base)));
    ahead = λ k l b. refl;
    next = λ k b. z (base + (length t + 1) + k) (omega arith) ∙ sym (led_none passes t (spread s (row area base)) s k);
    clear = λ k l. z k (omega arith);
    counts = refl;
    below = λ k l. refl;
    flags = λ h. h;
  }

  -- the j-th is not marked
  module _ (entry area : Text) (j count : ℕ) (w : Walked entry area j count) (l : j ≤ length t) where
    met : on area (base + j) ≡ spread s (row entry base) j
    met = w.here j (omega arith) l

    pub walked_skip : on area (base + j) ≡ false → Walked entry area (suc j) count
    walked_skip n =
        let off = sym met ∙ n in
        record {
          here = λ k a b. either (leb k j) (λ y. w.here k (leb-true k j y) b) λ y. new k (leb-false k j y) a b;
          ahead = λ k a b. w.ahead k (omega arith) b;
          next = λ k b. w.next k b ∙ sym (led_off passes t (spread s (row entry base)) s j k off);
          clear = w.clear;
          counts = w.counts ∙ sym (tally_off (spread s (row entry base)) j off);
          below = w.below;
          flags = w.flags;
        }
      where
        new : (k : ℕ) → j < k → k ≤ suc j → k ≤ length t → on area (base + k) ≡ spread s (row entry base) k
        new k a c b =
            let e : k ≡ suc j = omega arith in w.ahead k a b ∙ rw e (sym (spread_off s (row entry base) j (sym met ∙ n)))

    -- the j-th is marked, and what it leads to becomes so
    module _ (exit : Text) (y : on area (base + j) ≡ true) (more taken : Bool) (em : more ≡ ltb (j + 1) (length t + 1))
        (et : taken ≡ (ltb j (length t) && passes (get_or t j 0)))
        (m : Led s more taken (base + j) (length t + 1) area exit) where
      marked : spread s (row entry base) j ≡ true
      marked = sym met ∙ y

      more_means : more ≡ true → j < length t
      more_means h = omega (arith, ltb-true (j + 1) (length t + 1) (sym em ∙ h))

      taken_means : taken ≡ true → j < length t
      taken_means h = ltb-true j (length t) (and_left (ltb j (length t)) (passes (get_or t j 0)) (sym et ∙ h))

      -- a place to which it does not lead
      stays : (k : ℕ) → (s ≡ true → k ≡ base + j + (length t + 1) → ⊥) → (s ≡ true → j < length t → k ≡ base + j + 1 → ⊥)
          → (s ≡ false → j < length t → k ≡ base + j + (length t + 1) + 1 → ⊥) → on exit k ≡ on area k
      stays k a b c =
          m.leads k ∙ ap (λ (x : Bool). x || on area k)
          (misses s more taken (base + j) (length t + 1) k a (λ e h q. b e (more_means h) q) λ e h q. c e (taken_means h) q)

      new_here : (k : ℕ) → k ≡ suc j → k ≤ length t → on exit (base + k) ≡ spread s (row entry base) k
      new_here k q b =
          either s
          (λ e. m.leads (base + k)
          ∙ or_left (on area (base + k))
          (hits_byte s more taken (base + j) (length t + 1) (base + k) e (em ∙ lt-ltb (j + 1) (length t + 1) (omega arith)) (omega arith))
          ∙ sym (rw q (spread_on s (row entry base) j e marked)))
          λ e.
          stays (base + k) (λ f h. clashes e f) (λ f d h. clashes e f) (λ f d h. omega arith) ∙ w.ahead k (omega arith) b
          ∙ sym (spread_plain s (row entry base) k e)
        where
          clashes : s ≡ false → s ≡ true → ⊥
          clashes e f = no (sym e ∙ f)

      row_next : (k : ℕ) → k ≤ length t → s ≡ true → k ≡ j → on exit (base + (length t + 1) + k) ≡ led s passes t (spread s (row entry base)) (suc j) k
      row_next k b e q =
          m.leads (base + (length t + 1) + k)
          ∙ or_left (on area (base + (length t + 1) + k)) (hits_row s more taken (base + j) (length t + 1) (base + (length t + 1) + k) e (omega arith))
          ∙ sym (rw q (led_row_lem passes t (spread s (row entry base)) j s e marked))

      both_next : (k : ℕ) → k ≤ length t → s ≡ false → k ≡ suc j → on exit (base + (length t + 1) + k) ≡ led s passes t (spread s (row entry base)) (suc j) k
      both_next k b e q =
          m.leads (base + (length t + 1) + k)
          ∙ ap (λ (x : Bool). x || on area (base + (length t + 1) + k))
          (hits_both s more taken (base + j) (length t + 1) (base + (length t + 1) + k) e (omega arith))
          ∙ ap (λ (x : Bool). taken || x) (w.next k b ∙ rw q (led_yet passes t (spread s (row entry base)) j s e))
          ∙ or-false taken ∙ et ∙ ap (λ (x : Bool). x && passes (get_or t j 0)) (lt-ltb j (length t) (omega arith))
          ∙ sym (rw q (led_both passes t (spread s (row entry base)) j s e marked))

      other_next : (k : ℕ) → k ≤ length t → (s ≡ true → k ≡ j → ⊥) → (s ≡ false → k ≡ suc j → ⊥)
          → on exit (base + (length t + 1) + k) ≡ led s passes t (spread s (row entry base)) (suc j) k
      other_next k b a c =
          stays (base + (length t + 1) + k) (λ e h. a e (omega arith)) (λ e d h. omega arith) (λ e d h. c e (omega arith))
          ∙ w.next k b ∙ sym (led_other passes t (spread s (row entry base)) s j k a c)

      pub walked_lead : Walked entry exit (suc j) (count + 1)
      walked_lead = record {
        here = λ k a b.
            either (leb k j) (λ h. still k (leb-true k j h) ∙ w.here k (leb-true k j h) b) λ h. new_here k (last k a (leb-false k j h)) b;
        ahead = λ k a b. stays (base + k) (λ e h. omega arith) (λ e d h. omega arith) (λ e d h. omega arith) ∙ w.ahead k (omega arith) b;
        next = λ k b.
            either s
            (λ e. either (eqb k j) (λ h. row_next k b e (eqb-true k j h)) λ h. other_next k b (λ f q. eqb-false k j h q) λ f q. no (sym f ∙ e))
            λ e.
            either (eqb k (suc j)) (λ h. both_next k b e (eqb-true k (suc j) h))
            λ h. other_next k b (λ f q. no (sym e ∙ f)) λ f q. eqb-false k (suc j) h q;
        clear = λ k a. stays k (λ e h. omega arith) (λ e d h. omega arith) (λ e d h. omega arith) ∙ w.clear k a;
        counts = ap (λ (n : ℕ). n + 1) w.counts ∙ sym (tally_on (spread s (row entry base)) j marked);
        below = λ k a. stays k (λ e h. omega arith) (λ e d h. omega arith) (λ e d h. omega arith) ∙ w.below k a;
        flags = λ h. m.flags (w.flags h);
      }
        where
          still : (k : ℕ) → k ≤ j → on exit (base + k) ≡ on area (base + k)
          still k a = stays (base + k) (λ e h. omega arith) (λ e d h. omega arith) (λ e d h. omega arith)

          last : (k : ℕ) → k ≤ suc j → j < k → k ≡ suc j
          last k a b = omega arith

  pub walked_end : (entry area : Text) (j count : ℕ) → Walked entry area j count → j ≡ length t + 1 → RowWalked s passes t base entry area count
  walked_end entry area j count w e = record {
    counts = w.counts ∙ ap (tally (spread s (row entry base))) e;
    next = λ k b. w.next k b ∙ led_all passes t (spread s (row entry base)) s j k (omega arith);
    clear = w.clear;
    here = λ k b. w.here k (omega arith) b;
    below = w.below;
    flags = w.flags;
  }
