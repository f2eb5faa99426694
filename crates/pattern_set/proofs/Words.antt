-- The bits of a word: what `|`, `^`, `&` and the shifts do to `bit`. Each operation works on the digits of a word apart, so a law about one digit is enough.
use Prim.Native.Nat.{ℕ, zero, suc, ◌+◌, ◌-◌, ◌*◌, ◌/◌, ◌%◌, ◌^◌, ◌<◌}
use native.Mathlib.Nat.{one-mul, mul-mod_left, pow-suc, le_refl, div-eq_of_lt, div-one}
use native.Mathlib.Numerals.{one-add, add-one}
use native.Mathlib.Omega.{arith}
use native.Mathlib.Decide.{ℕ_discrete, dec_lt}
use mathlib.Core.Path.{◌≡◌, refl, sym, ◌∙◌, ap}
use mathlib.Core.Bool.{Bool, false, not, ◌||◌, or_comm}
use lib.Bits.{bit_and, bit_or, bit_xor, or_shr, or_mod, xor_shr, xor_mod, and_mask}
use lib.Dec.{eqb}
use lib.Pow.{pow_pos, pow-add, pow-lt, shl_exact, shl-shr, shr-shr, high, low, ones_lt, ones_split}
use borrow.Author.Tests.{eq-eqb, ne_eqb}
use Rattle.stages.proofs.Bools.{apart}
use Rattle.pattern_set.specs.Sets.{bit}

-- the word without bits
pub zero_bit : (j : ℕ) → bit 0 j ≡ false
unfolding bit
zero_bit j = ap (λ (n : ℕ). eqb (n % 2) 1) (div-eq_of_lt (pow_pos j))

-- the word of one bit
module _ (i j : ℕ) where
  above : (d : ℕ) → i ≡ suc d + j → 1 * 2 ^ i / 2 ^ j % 2 ≡ 0
  above d e =
      ap (λ (n : ℕ). 1 * 2 ^ n / 2 ^ j % 2) e
      ∙ ap (λ (n : ℕ). n / 2 ^ j % 2) (one-mul (2 ^ (suc d + j)) ∙ pow-add 2 (suc d) j)
      ∙ ap (λ (n : ℕ). n % 2) (shl-shr (2 ^ suc d) j ∙ pow-suc 2 d)
      ∙ mul-mod_left (2 ^ d) 2

  below : i < j → 1 * 2 ^ i / 2 ^ j % 2 ≡ 0
  below h = ap (λ (n : ℕ). n / 2 ^ j % 2) (one-mul (2 ^ i)) ∙ ap (λ (n : ℕ). n % 2) (div-eq_of_lt (pow-lt h))

  here : i ≡ j → 1 * 2 ^ i / 2 ^ j % 2 ≡ 1
  here e = ap (λ (n : ℕ). 1 * 2 ^ n / 2 ^ j % 2) e ∙ ap (λ (n : ℕ). n % 2) (shl-shr 1 j)

  pub power_bit : bit (1 * 2 ^ i) j ≡ eqb i j
  unfolding bit
  power_bit = go (ℕ_discrete i j) (dec_lt i j)
    where
      digit : (n : ℕ) → 1 * 2 ^ i / 2 ^ j % 2 ≡ n → eqb n 1 ≡ eqb i j → eqb (1 * 2 ^ i / 2 ^ j % 2) 1 ≡ eqb i j
      digit n e f = ap (λ (d : ℕ). eqb d 1) e ∙ f

      go : Dec (i ≡ j) → Dec (i < j) → eqb (1 * 2 ^ i / 2 ^ j % 2) 1 ≡ eqb i j
      go (yes e) d = digit 1 (here e) (sym (eq-eqb i j e))
      go (no f) (yes h) = digit 0 (below h) (sym (ne_eqb i j f))
      go (no f) (no g) = digit 0 (above (i - suc j) (omega arith)) (sym (ne_eqb i j f))

-- _|_
digit_or : (m n : ℕ) → m < 2 → n < 2 → eqb (bit_or m n) 1 ≡ (eqb m 1 || eqb n 1)
digit_or zero zero h k = refl
digit_or zero (suc zero) h k = refl
digit_or zero (suc (suc n)) h k = absurd (omega arith)
digit_or (suc zero) zero h k = refl
digit_or (suc zero) (suc zero) h k = refl
digit_or (suc zero) (suc (suc n)) h k = absurd (omega arith)
digit_or (suc (suc m)) n h k = absurd (omega arith)

bit_or_lem : (v w j : ℕ) → bit (bit_or v w) j ≡ (bit v j || bit w j)
unfolding bit
bit_or_lem v w j =
    let x = v / 2 ^ j in
    let y = w / 2 ^ j in
    ap (λ (n : ℕ). eqb (n % 2) 1) (or_shr v w j) ∙ ap (λ (n : ℕ). eqb n 1) (or_mod x y 1) ∙ digit_or (x % 2) (y % 2) (omega arith) (omega arith)

-- one bit more, in a word of 64
pub bit_more : (w i j : ℕ) → i < 64 → bit (bit_or w (1 * 2 ^ i % 2 ^ 64)) j ≡ (eqb i j || bit w j)
bit_more w i j h =
    bit_or_lem w (1 * 2 ^ i % 2 ^ 64) j
    ∙ ap (λ (n : ℕ). bit w j || bit n j) (shl_exact {a = 1} 1 i 64 (le_refl 2) (omega arith))
    ∙ ap (λ (b : Bool). bit w j || b) (power_bit i j)
    ∙ or_comm (bit w j) (eqb i j)

-- _^_ with the word of all bits
digit_turned : (m : ℕ) → m < 2 → eqb (bit_xor m 1) 1 ≡ not (eqb m 1)
digit_turned zero h = refl
digit_turned (suc zero) h = refl
digit_turned (suc (suc m)) h = absurd (omega arith)

full_odd : (j d : ℕ) → 64 ≡ suc d + j → (2 ^ 64 - 1) / 2 ^ j % 2 ≡ 1
full_odd j d e =
    ap (λ (n : ℕ). (2 ^ n - 1) / 2 ^ j % 2) e
    ∙ ap (λ (n : ℕ). n / 2 ^ j % 2) (ones_split (suc d) j)
    ∙ ap (λ (n : ℕ). n % 2) (high (2 ^ suc d - 1) j (ones_lt j))
    ∙ ap (λ (n : ℕ). (2 ^ n - 1) % 2) (sym (add-one d))
    ∙ ap (λ (n : ℕ). n % 2) (ones_split d 1)
    ∙ low (2 ^ d - 1) 1 (ones_lt 1)

pub bit_turned : (w j : ℕ) → j < 64 → bit (bit_xor w (2 ^ 64 - 1)) j ≡ not (bit w j)
unfolding bit
bit_turned w j h =
    let x = w / 2 ^ j in
    let y = (2 ^ 64 - 1) / 2 ^ j in
    ap (λ (n : ℕ). eqb (n % 2) 1) (xor_shr w (2 ^ 64 - 1) j)
    ∙ ap (λ (n : ℕ). eqb n 1) (xor_mod x y 1 ∙ ap (bit_xor (x % 2)) (full_odd j (63 - j) (omega arith)))
    ∙ digit_turned (x % 2) (omega arith)

-- the test of a bit
pub bit_tested : (w i : ℕ) → eqb (bit_and (w / 2 ^ i) 1) 1 ≡ bit w i
unfolding bit
bit_tested w i = ap (λ (n : ℕ). eqb n 1) (and_mask (w / 2 ^ i) 1)

-- words of the same bits are the same
digit_same : (m n : ℕ) → m < 2 → n < 2 → eqb m 1 ≡ eqb n 1 → m ≡ n
digit_same zero zero h k e = refl
digit_same zero (suc zero) h k e = absurd (apart refl e)
digit_same zero (suc (suc n)) h k e = absurd (omega arith)
digit_same (suc zero) zero h k e = absurd (apart refl (sym e))
digit_same (suc zero) (suc zero) h k e = refl
digit_same (suc zero) (suc (suc n)) h k e = absurd (omega arith)
digit_same (suc (suc m)) n h k e = absurd (omega arith)

lowest_bit : (w : ℕ) → bit w 0 ≡ eqb (w % 2) 1
unfolding bit
lowest_bit w = ap (λ (n : ℕ). eqb (n % 2) 1) (div-one w)

next_bit : (w j : ℕ) → bit w (suc j) ≡ bit (w / 2) j
unfolding bit
next_bit w j = ap (λ (n : ℕ). eqb (n % 2) 1) (sym (shr-shr w 1 j ∙ ap (λ (n : ℕ). w / 2 ^ n) (one-add j)))

half_fits : (w n : ℕ) → w < 2 ^ suc n → w / 2 < 2 ^ n
half_fits w n h = omega (arith, pow-suc 2 n)

by_digits : (v w : ℕ) → eqb (v % 2) 1 ≡ eqb (w % 2) 1 → v / 2 ≡ w / 2 → v ≡ w
by_digits v w e f = omega (arith, digit_same (v % 2) (w % 2) (omega arith) (omega arith) e)

pub bits_same : (n v w : ℕ) → v < 2 ^ n → w < 2 ^ n → ((j : ℕ) → j < n → bit v j ≡ bit w j) → v ≡ w
bits_same zero v w g h same = omega arith
bits_same (suc n) v w g h same =
    by_digits v w (sym (lowest_bit v) ∙ same 0 (omega arith) ∙ lowest_bit w)
    (bits_same n (v / 2) (w / 2) (half_fits v n g) (half_fits w n h) (λ j k. sym (next_bit v j) ∙ same (suc j) (omega arith) ∙ next_bit w j))
