-- The walk over the rows on plain lists: what was counted and what the row at hand leads to are together all that is reached.
use Prim.Native.Nat.{ℕ, zero, suc, ◌+◌, ◌*◌, ◌-◌, ◌≤◌, ◌<◌}
use native.Mathlib.Omega.{arith}
use native.Mathlib.Decide.{dec_lt}
use native.Mathlib.Nat.{suc-mul, add-mul, mul-le-mul_right}
use mathlib.Core.Path.{◌≡◌, refl, sym, ◌∙◌, ap}
use mathlib.Core.Bool.{Bool, false, ◌||◌}
use mathlib.Core.List.{List, [], ◌∷◌}
use lib.Dec.{ltb}
use lib.ListN.{length, get_or, set, length-set}
use borrow.Author.Tests.{ne_eqb, ltb-true, ltb-false}
use Rattle.stages.specs.Bytes.{Text}
use Rattle.stages.specs.Pattern.{Element}
use Rattle.stages.specs.Cost.{is_star, matches_byte, spread, onward, marks, at_start, reaches, tally, reachable}
use Rattle.stages.proofs.Bools.{either}
use Rattle.stages.proofs.Reaching.{tally_most}
use Rattle.pattern_unit.specs.declared.Width.TheVariants.{Plain}
use Rattle.pattern_element.specs.Pieces.{element_of}
use Rattle.pattern_element.specs.declared.Piece.{Piece}
use Rattle.pattern_element.specs.declared.Piece.TheVariants.{Star, One, Byte, Refusing, Set}
use Rattle.pattern_element.proofs.Reading.{elements_over}
use Rattle.pattern_element.proofs.Standing.{from, Standing, parted, piece_inside}
use Rattle.pattern_cost.specs.Areas.{on, Flags, row, Clear, RowWalked, Room, Marked}
use Rattle.pattern_cost.specs.Counts.{is_star_piece, elements_of}
use Rattle.pattern_cost.proofs.Marking.{on_set, flags_set, clear_flags}
use Rattle.pattern_cost.proofs.Rows.{
  onward_same,
  onward_none,
  marks_same,
  onwards,
  onwards_same,
  onwards_step,
  onwards_last,
  row_last,
}

star_of : (p : Text) (q : Piece) → is_star (element_of Plain p q) ≡ is_star_piece q
unfolding element_of
star_of p Star = refl
star_of p One = refl
star_of p (Byte b) = refl
star_of p Refusing = refl
star_of p (Set negative a e) = refl

-- the elements of a pattern from a place on
abbrev pub left : Text → ℕ → List Element
left p at = from Plain false p at

module _ (p t : Text) where
  -- how wide a row is
  abbrev wide : ℕ
  wide = length t + 1

  -- the elements before `at` have their rows below `base`
  pub record Counting (area : Text) (at base count : ℕ) : Type 0 where
    pub within : at ≤ length p
    pub room : base + length (left p at) * (length t + 1) + (length t + 1) + (length t + 1) < length area
    pub clear : Clear area (base + (length t + 1))
    pub fits : count ≤ base
    pub all : reachable (elements_of p) t ≡ count + onwards (left p at) t (row area base)
    pub passed : ℕ
    pub is_base : base ≡ passed * (length t + 1)
    pub long : length (elements_of p) ≡ passed + length (left p at)
    pub ahead : (i j : ℕ) → j ≤ length t → reaches (elements_of p) t (passed + i) j ≡ marks (left p at) t (row area base) i j
    pub behind : (i j : ℕ) → i < passed → j ≤ length t → on area (i * (length t + 1) + j) ≡ reaches (elements_of p) t i j
    pub flags : Flags area

  start_row : (area : Text) → Clear area 0 → 0 < length area → (k : ℕ) → at_start k ≡ on (set area 0 1) (0 + k)
  start_row area z l zero = sym (on_set area 0 0 l)
  start_row area z l (suc k) =
      let e : 0 + suc k ≡ suc k = omega arith in
      sym (rw e (on_set area 0 (suc k) l ∙ ap (λ (x : Bool). x || on area (suc k)) (ne_eqb (suc k) 0 (λ h. omega arith)) ∙ z (suc k) (omega arith)))

  pub counting_start : (area : Text) → Room (length (elements_of p)) (length t) area → Counting (set area 0 1) 0 0 0
  unfolding reachable reaches
  counting_start area r =
      let n = length-set area 0 1 in
      let m = add-mul (length (elements_of p)) 2 (length t + 1) in
      record {
        within = omega arith;
        room = omega (arith, n, m, r.room);
        clear = λ k l. on_set area 0 k (omega (arith, r.room)) ∙ ap (λ (x : Bool). x || on area k) (ne_eqb k 0 (λ h. omega arith)) ∙ r.clear k (omega arith);
        fits = omega arith;
        all =
            onwards_same (elements_of p) t at_start (row (set area 0 1) 0) (λ k b. start_row area r.clear (omega (arith, r.room)) k)
            ∙ zero_more (onwards (elements_of p) t (row (set area 0 1) 0));
        passed = 0;
        is_base = omega arith;
        long = omega arith;
        ahead = λ i j b.
            ap (λ (k : ℕ). marks (elements_of p) t at_start k j) (sym (zero_more i))
            ∙ marks_same (elements_of p) t at_start (row (set area 0 1) 0) (λ k l. start_row area r.clear (omega (arith, r.room)) k) i j b;
        behind = λ i j l b. absurd (omega arith);
        flags = flags_set area 0 (clear_flags area r.clear);
      }
    where
      zero_more : (k : ℕ) → k ≡ 0 + k
      zero_more k = omega arith

  module _ {area : Text} {at base count : ℕ} (c : Counting area at base count) where
    -- the rows before this one
    before_base : (i j : ℕ) → i < c.passed → j ≤ length t → i * (length t + 1) + j < base
    before_base i j l b = omega (arith, c.is_base, mul-le-mul_right (length t + 1) l, suc-mul i (length t + 1))

    still : (exit : Text) → ((k : ℕ) → k < base → on exit k ≡ on area k) → (i j : ℕ) → i < c.passed → j ≤ length t
        → on exit (i * (length t + 1) + j) ≡ reaches (elements_of p) t i j
    still exit h i j l b = h (i * (length t + 1) + j) (before_base i j l b) ∙ c.behind i j l b

    -- this one
    at_base : (exit : Text) (i j : ℕ) → i ≡ c.passed → row exit base j ≡ marks (left p at) t (row area base) 0 j → j ≤ length t
        → on exit (i * (length t + 1) + j) ≡ reaches (elements_of p) t i j
    at_base exit i j e h b =
        let z : c.passed + 0 ≡ c.passed = omega arith in
        rw e (ap (λ (k : ℕ). on exit (k + j)) (sym c.is_base) ∙ h ∙ sym (c.ahead 0 j b) ∙ ap (λ (k : ℕ). reaches (elements_of p) t k j) z)

    -- the row of an element
    module _ {q : Piece} {n : ℕ} (s : Standing Plain false p at q n) {star : Bool} (es : star ≡ is_star_piece q) (passes : ℕ → Bool)
        (et : (k : ℕ) → k < length t → passes (get_or t k 0) ≡ matches_byte (element_of Plain p q) (get_or t k 0)) where
      longer : length (left p at) * (length t + 1) ≡ length (left p n) * (length t + 1) + (length t + 1)
      longer = ap (λ (l : List Element). length l * (length t + 1)) (parted s) ∙ suc-mul (length (left p n)) (length t + 1)

      -- what it leads to
      abbrev led : ℕ → Bool
      led = onward star (matches_byte (element_of Plain p q)) t (spread star (row area base))

      stepped : reachable (elements_of p) t ≡ count + (tally (spread star (row area base)) (length t + 1) + onwards (left p n) t led)
      stepped =
          c.all ∙ ap (λ (l : List Element). count + onwards l t (row area base)) (parted s)
          ∙ ap (λ (k : ℕ). count + k) (onwards_step (element_of Plain p q) (left p n) t (row area base))
          ∙ rw (es ∙ sym (star_of p q))

      row_behind : (i j : ℕ) → marks (element_of Plain p q ∷ left p n) t (row area base) (suc i) j ≡ marks (left p n) t led i j
      unfolding marks
      row_behind i j = rw (es ∙ sym (star_of p q))

      row_here : (j : ℕ) → marks (element_of Plain p q ∷ left p n) t (row area base) 0 j ≡ spread star (row area base) j
      unfolding marks
      row_here j = rw (es ∙ sym (star_of p q))

      module _ {exit : Text} {more : ℕ} (w : RowWalked star passes t base area exit more) where
        led_is : (k : ℕ) → k ≤ length t → led k ≡ row exit (base + (length t + 1)) k
        led_is k b =
            onward_same star (matches_byte (element_of Plain p q)) passes t (spread star (row area base)) (spread star (row area base)) (λ j l. sym (et j l))
            (λ j l. refl) k b
            ∙ sym (w.next k b)

        here_is : (j : ℕ) → j ≤ length t → row exit base j ≡ marks (left p at) t (row area base) 0 j
        here_is j b = w.here j b ∙ sym (row_here j) ∙ sym (ap (λ (l : List Element). marks l t (row area base) 0 j) (parted s))

        pub counting_step : length exit ≡ length area → Counting exit n (base + (length t + 1)) (count + more)
        counting_step same = record {
          within = piece_inside s;
          room = omega (arith, same, longer, c.room);
          clear = w.clear;
          fits = omega (arith, c.fits, w.counts, tally_most (spread star (row area base)) (length t + 1));
          all =
              stepped
              ∙ ap (λ (k : ℕ). count + (tally (spread star (row area base)) (length t + 1) + k))
              (onwards_same (left p n) t led (row exit (base + (length t + 1))) led_is)
              ∙ regroup count (tally (spread star (row area base)) (length t + 1)) more (onwards (left p n) t (row exit (base + (length t + 1)))) w.counts;
          passed = suc c.passed;
          is_base = omega (arith, c.is_base, suc-mul c.passed (length t + 1));
          long = omega (arith, c.long, ap (λ (l : List Element). length l) (parted s));
          ahead = λ i j b.
              ap (λ (k : ℕ). reaches (elements_of p) t k j) (shifted c.passed i) ∙ c.ahead (suc i) j b
              ∙ ap (λ (l : List Element). marks l t (row area base) (suc i) j) (parted s) ∙ row_behind i j
              ∙ marks_same (left p n) t led (row exit (base + (length t + 1))) led_is i j b;
          behind = λ i j l b.
              either (ltb i c.passed) (λ y. still exit w.below i j (ltb-true i c.passed y) b)
              (λ y. at_base exit i j (same_place l (ltb-false i c.passed y)) (here_is j b) b);
          flags = w.flags c.flags;
        }
          where
            regroup : (a b m r : ℕ) → m ≡ b → a + (b + r) ≡ a + m + r
            regroup a b m r e = omega arith

            shifted : (a b : ℕ) → suc a + b ≡ a + suc b
            shifted a b = omega arith

            same_place : {a b : ℕ} → a < suc b → b ≤ a → a ≡ b
            same_place l m = omega arith

    pub count_fits : {more : ℕ} → more ≤ length t + 1 → count + more < length area
    count_fits l = omega (arith, c.room, c.fits)

    -- behind the last element: the row is counted, and leads nowhere
    module _ (l : length p ≤ at) {passes : ℕ → Bool} (et : (k : ℕ) → k < length t → passes (get_or t k 0) ≡ false) {exit : Text} {more : ℕ}
        (w : RowWalked false passes t base area exit more) where
      none : left p at ≡ []
      none = elements_over Plain false p at (omega arith)

      long_is : length (elements_of p) ≡ c.passed
      long_is = omega (arith, c.long, ap (λ (es : List Element). length es) none)

      last_here : (j : ℕ) → j ≤ length t → row exit base j ≡ marks (left p at) t (row area base) 0 j
      last_here j b =
          w.here j b ∙ row_last t (row area base) j ∙ sym (ap (λ (es : List Element). marks es t (row area base) 0 j) none)

      -- the row behind it has no mark
      last_clear : (k : ℕ) → base + (length t + 1) ≤ k → Dec (k < base + (length t + 1) + (length t + 1)) → on exit k ≡ false
      last_clear k h (no m) = w.clear k (omega arith)
      last_clear k h (yes m) = over (k - (base + (length t + 1))) (omega arith) (omega arith)
        where
          over : (j : ℕ) → k ≡ base + (length t + 1) + j → j ≤ length t → on exit k ≡ false
          over j e b = ap (on exit) e ∙ w.next j b ∙ onward_none passes t (spread false (row area base)) et j b

      pub counting_end : {entry : Text} → length exit ≡ length entry → Marked (elements_of p) t entry exit (count + more)
      counting_end same = record {
        counts =
            sym (c.all ∙ ap (λ (es : List Element). count + onwards es t (row area base)) none
            ∙ ap (λ (k : ℕ). count + k) (onwards_last t (row area base) ∙ sym w.counts));
        pairs = λ i j k b.
            either (ltb i c.passed) (λ y. still exit w.below i j (ltb-true i c.passed y) b)
            (λ y. at_base exit i j (omega (arith, long_is, k, ltb-false i c.passed y)) (last_here j b) b);
        clear = λ k h.
            last_clear k (omega (arith, h, c.is_base, ap (λ (n : ℕ). (n + 1) * (length t + 1)) long_is, add-mul c.passed 1 (length t + 1)))
            (dec_lt k (base + (length t + 1) + (length t + 1)));
        flags = w.flags c.flags;
        same = same;
      }

-- a row has no more pairs than places
pub row_most : {star : Bool} {passes : ℕ → Bool} {t : Text} {base : ℕ} {entry exit : Text} {count : ℕ} → RowWalked star passes t base entry exit count
    → count ≤ length t + 1
row_most {star} {t = t} {base = base} {entry = entry} w = omega (arith, w.counts, tally_most (spread star (row entry base)) (length t + 1))
