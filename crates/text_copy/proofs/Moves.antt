-- Moving bytes, on plain lists: a loop's area is at each step what was pasted so far, and the rest as it was.
use Prim.Native.Nat.{ℕ, suc, ◌+◌, ◌-◌, ◌≤◌, ◌<◌}
use native.Mathlib.Omega.{arith}
use native.Mathlib.Nat.{add-zero, add-suc, sub-zero, sub_self}
use native.Mathlib.Numerals.{add-one}
use mathlib.Core.Path.{◌≡◌, refl, sym, ap, ◌∙◌}
use mathlib.Core.List.{List, [], ◌∷◌, ◌++◌, append_assoc}
use lib.ListN.{length, take, drop, get_or, set, length-set, length-drop, take-append-drop, get_or-append}
use lib.Seq.{paste, paste-suc, length_paste_head, get_or-append-add, get_or-drop, get_or-take, length-take-le}
use lib.Seq.{set-append_left, take-suc-set, take-set-lt, drop-cons}

-- the bytes on the way up, j still to be moved
unfoldable pub up_of : List ℕ → ℕ → ℕ → ℕ → ℕ → List ℕ
up_of b from to count j = take (to + j) b ++ (take (count - j) (drop (from + j) b) ++ drop (to + count) b)

-- behind what has been written, what was there
later : (b : List ℕ) (to : ℕ) (s : List ℕ) (i k : ℕ) → to + i ≤ length b → i ≤ length s → to + i ≤ k → get_or (paste b to s i) k 0
    ≡ get_or b k 0
later b to s i k h j l =
    let n : length (take to b ++ take i s) ≡ to + i = length_paste_head b to s i (omega arith) j in
    let e : k ≡ length (take to b ++ take i s) + (k - (to + i)) = omega arith in
    let f : to + i + (k - (to + i)) ≡ k = omega arith in
    ap (λ (m : ℕ). get_or (paste b to s i) m 0) e ∙ get_or-append-add (take to b ++ take i s) (drop (to + i) b) (k - (to + i)) 0 ∙ get_or-drop
    (to + i) b (k - (to + i)) 0 ∙ ap (λ (m : ℕ). get_or b m 0) f

module _ (b : List ℕ) (from to count : ℕ) (hf : from + count ≤ length b) (ht : to + count ≤ length b) where
  -- down: from the front
  pub down_more : (i : ℕ) → to ≤ from → i < count → set (paste b to (drop from b) i) (to + i)
      (get_or (paste b to (drop from b) i) (from + i) 0) ≡ paste b to (drop from b) (i + 1)
  down_more i d l =
      let n : length (drop from b) ≡ length b - from = length-drop from b in
      ap (set (paste b to (drop from b) i) (to + i))
      (later b to (drop from b) i (from + i) (omega arith) (omega arith) (omega arith) ∙ sym (get_or-drop from b i 0))
      ∙ paste-suc b to (drop from b) i 0 (omega arith) (omega arith)
      ∙ rw (add-one i)

  pub up_start : b ≡ up_of b from to count count
  unfolding up_of
  up_start = sym (rw (sub_self count) (take-append-drop (to + count) b))

  pub up_end : up_of b from to count 0 ≡ paste b to (drop from b) count
  unfolding up_of
  up_end = rw (add-zero to, add-zero from, sub-zero count) (sym (append_assoc (take to b) (take count (drop from b)) (drop (to + count) b)))

  one_less_lem : (i : ℕ) → i < count → count - i ≡ suc (count - suc i)
  one_less_lem i l = omega arith

  up_more : (i : ℕ) → from ≤ to → i < count → set (up_of b from to count (suc i)) (to + i) (get_or (up_of b from to count (suc i)) (from + i) 0)
      ≡ up_of b from to count i
  unfolding up_of
  up_more i d l =
      let n : length (take (suc (to + i)) b) ≡ suc (to + i) = length-take-le (suc (to + i)) b (omega arith) in
      let x : get_or (take (suc (to + i)) b ++ (take (count - suc i) (drop (suc (from + i)) b) ++ drop (to + count) b)) (from + i) 0 ≡ get_or b (from + i) 0 =
      get_or-append (take (suc (to + i)) b) _ 0 (from + i) (omega arith) ∙ get_or-take (suc (to + i)) b (from + i) 0 (omega arith) in
      let h : from + i < length b = omega arith in
      let g : to + i < length (take (suc (to + i)) b) = omega arith in
      let k : to + i < suc (to + i) = omega arith in
      let y : set (take (suc (to + i)) b) (to + i) (get_or b (from + i) 0) ≡ take (to + i) b ++ (get_or b (from + i) 0 ∷ []) =
      sym (take-set-lt (suc (to + i)) b (to + i) (get_or b (from + i) 0) k) ∙ take-suc-set b (to + i) (get_or b (from + i) 0) (omega arith) in
      rw (add-suc to i, add-suc from i)
      (ap (set (take (suc (to + i)) b ++ (take (count - suc i) (drop (suc (from + i)) b) ++ drop (to + count) b)) (to + i)) x
      ∙ set-append_left (take (suc (to + i)) b) (take (count - suc i) (drop (suc (from + i)) b) ++ drop (to + count) b) (to + i) (get_or b (from + i) 0) g
      ∙ ap (λ (p : List ℕ). p ++ (take (count - suc i) (drop (suc (from + i)) b) ++ drop (to + count) b)) y
      ∙ append_assoc (take (to + i) b) (get_or b (from + i) 0 ∷ []) (take (count - suc i) (drop (suc (from + i)) b) ++ drop (to + count) b)
      ∙ sym (rw (one_less_lem i l, drop-cons b (from + i) 0 h)))

  pub up_step : (j : ℕ) → from ≤ to → 0 < j → j ≤ count → set (up_of b from to count j) (to + (j - 1))
      (get_or (up_of b from to count j) (from + (j - 1)) 0) ≡ up_of b from to count (j - 1)
  up_step j d p l =
      let e : j ≡ suc (j - 1) = omega arith in
      ap (λ (k : ℕ). set (up_of b from to count k) (to + (j - 1)) (get_or (up_of b from to count k) (from + (j - 1)) 0)) e ∙ up_more (j - 1) d (omega arith)

-- the loops' states
pub record Down (b : List ℕ) (from to count : ℕ) (buf : List ℕ) (i : ℕ) : Type 0 where
  pub within : i ≤ count
  pub is : buf ≡ paste b to (drop from b) i
  pub long : length buf ≡ length b

pub record Up (b : List ℕ) (from to count : ℕ) (buf : List ℕ) (j : ℕ) : Type 0 where
  pub within : j ≤ count
  pub is : buf ≡ up_of b from to count j
  pub long : length buf ≡ length b

module _ (b : List ℕ) (from to count : ℕ) (hf : from + count ≤ length b) (ht : to + count ≤ length b) where
  pub up_starts : Up b from to count b count
  up_starts = record { within = omega arith; is = up_start b from to count hf ht; long = refl }

  module _ (buf : List ℕ) (i : ℕ) where
    pub down_step : Down b from to count buf i → to ≤ from → i < count → Down b from to count (set buf (to + i) (get_or buf (from + i) 0)) (i + 1)
    down_step s d l = record {
      within = omega arith;
      is = ap (λ (x : List ℕ). set x (to + i) (get_or x (from + i) 0)) s.is ∙ down_more b from to count hf ht i d l;
      long = length-set buf (to + i) (get_or buf (from + i) 0) ∙ s.long;
    }

    pub ups : Up b from to count buf i → from ≤ to → 0 < i → Up b from to count (set buf (to + (i - 1)) (get_or buf (from + (i - 1)) 0)) (i - 1)
    ups s d l = record {
      within = omega arith;
      is = ap (λ (x : List ℕ). set x (to + (i - 1)) (get_or x (from + (i - 1)) 0)) s.is ∙ up_step b from to count hf ht i d l s.within;
      long = length-set buf (to + (i - 1)) (get_or buf (from + (i - 1)) 0) ∙ s.long;
    }

    pub up_ends : Up b from to count buf i → i ≤ 0 → buf ≡ paste b to (drop from b) count
    up_ends s l = let e : i ≡ 0 = omega arith in s.is ∙ ap (up_of b from to count) e ∙ up_end b from to count hf ht
