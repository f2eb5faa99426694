-- Document 02, E6, laws of bits: a 64-bit number has exactly the bits that it is made of, and is the only one that has them.
use Prim.Native.Nat.{ℕ, zero, suc, ◌+◌, ◌*◌, ◌/◌, ◌%◌, ◌^◌, ◌≤◌, ◌<◌}
use native.Mathlib.Omega.{arith}
use native.Mathlib.Nat.{pow-suc, div-one, div-add-mod', mod-lt}
use mathlib.Core.Path.{◌≡◌, refl, sym, ap, ◌∙◌}
use mathlib.Core.Bool.{Bool, true, false, not}
use lib.Dec.{eqb, ltb}
use lib.Arith.{digits_lt, digits_div, digits_mod, lt-one}
use lib.Pow.{shr-shr, shr_lt}
use lib.IntN.{ℤ, pos, negsuc}
use lib.Signed.{mag}
use borrow.Author.Tests.{lt-ltb, ltb-true, ltb-false}
use Rattle.stages.specs.Outcome.{pick}
use Rattle.stages.specs.Constants.{fits}
use Rattle.stages.specs.Arith.{bit, digit_of, low_bits, of_bits, bitwise, flipped}
use Rattle.stages.proofs.Bools.{either}

digit_lt : (b : Bool) → digit_of b < 2
digit_lt true = omega arith
digit_lt false = omega arith

digit_is : (b : Bool) → eqb (digit_of b) 1 ≡ b
digit_is true = refl
digit_is false = refl

pub not_not : (b : Bool) → not (not b) ≡ b
not_not true = refl
not_not false = refl

pub low_lt : (f : ℕ → Bool) (k : ℕ) → low_bits f k < 2 ^ k
unfolding low_bits
low_lt f zero = omega arith
low_lt f (suc k) = rw (pow-suc 2 k) (digits_lt (low_lt (λ i. f (suc i)) k) (digit_lt (f 0)))

-- behind the lowest bit
pub half : (n i : ℕ) → n / 2 ^ suc i ≡ n / 2 / 2 ^ i
half n i = let e : suc i ≡ 1 + i = omega arith in ap (λ (j : ℕ). n / 2 ^ j) e ∙ sym (shr-shr n 1 i)

pub low_bit : (f : ℕ → Bool) (k i : ℕ) → i < k → low_bits f k / 2 ^ i % 2 ≡ digit_of (f i)
unfolding low_bits
low_bit f zero i h = absurd (omega arith)
low_bit f (suc k) zero h =
    ap (λ (n : ℕ). n % 2) (div-one (low_bits f (suc k))) ∙ digits_mod (low_bits (λ j. f (suc j)) k) (digit_lt (f 0))
low_bit f (suc k) (suc i) h =
    ap (λ (n : ℕ). n % 2) (half (low_bits f (suc k)) i)
    ∙ ap (λ (n : ℕ). n / 2 ^ i % 2) (digits_div (low_bits (λ j. f (suc j)) k) (digit_lt (f 0)))
    ∙ low_bit (λ j. f (suc j)) k i (omega arith)

-- -(n + 1) has the other bits
bit_other : (n i : ℕ) → bit i (negsuc n) ≡ not (bit i (pos n))
unfolding bit
bit_other n i = refl

pub bit_of_flipped : (a : ℤ) (i : ℕ) → bit i (flipped a) ≡ not (bit i a)
unfolding bit
bit_of_flipped (pos n) i = refl
bit_of_flipped (negsuc n) i = sym (not_not (bit i (pos n)))

-- no bit beyond a number's power
beyond : (n : ℕ) → n < 2 ^ 63 → eqb (n / 2 ^ 63 % 2) 1 ≡ false
beyond n h = let z : n / 2 ^ 63 ≡ 0 = lt-one (shr_lt 0 63 h) in rw z

bit_pos : (f : ℕ → Bool) (i : ℕ) → i ≤ 63 → f 63 ≡ false → bit i (pos (low_bits f 63)) ≡ f i
unfolding bit
bit_pos f i h e = either (ltb i 63) (λ l. low (ltb-true i 63 l)) (λ l. high (omega (arith, ltb-false i 63 l)))
  where
    low : i < 63 → eqb (low_bits f 63 / 2 ^ i % 2) 1 ≡ f i
    low l = ap (λ (n : ℕ). eqb n 1) (low_bit f 63 i l) ∙ digit_is (f i)

    high : i ≡ 63 → eqb (low_bits f 63 / 2 ^ i % 2) 1 ≡ f i
    high l = rw l (beyond (low_bits f 63) (low_lt f 63) ∙ sym e)

-- THE LAW: the number that is made of 64 bits has these bits
pub bit_of_bits : (f : ℕ → Bool) (i : ℕ) → i ≤ 63 → bit i (of_bits f) ≡ f i
unfolding of_bits
bit_of_bits f i h = go (f 63) refl
  where
    go : (x : Bool) → f 63 ≡ x → bit i (pick x (negsuc (low_bits (λ j. not (f j)) 63)) (pos (low_bits f 63))) ≡ f i
    go true e = bit_other (low_bits (λ j. not (f j)) 63) i ∙ ap not (bit_pos (λ j. not (f j)) i h (ap not e)) ∙ not_not (f i)
    go false e = bit_pos f i h e

pub bit_of_bitwise : (g : Bool → Bool → Bool) (a b : ℤ) (i : ℕ) → i ≤ 63 → bit i (bitwise g a b) ≡ g (bit i a) (bit i b)
unfolding bitwise
bit_of_bitwise g a b i h = bit_of_bits (λ j. g (bit j a) (bit j b)) i h

-- and it is in range
pub of_bits_fits : (f : ℕ → Bool) → fits (of_bits f) ≡ true
unfolding of_bits fits
of_bits_fits f = go (f 63) refl
  where
    go : (x : Bool) → f 63 ≡ x → ltb (mag (pick x (negsuc (low_bits (λ i. not (f i)) 63)) (pos (low_bits f 63)))) (2 ^ 63) ≡ true
    go true e = lt-ltb (low_bits (λ i. not (f i)) 63) (2 ^ 63) (low_lt (λ i. not (f i)) 63)
    go false e = lt-ltb (low_bits f 63) (2 ^ 63) (low_lt f 63)

pub bitwise_fits : (g : Bool → Bool → Bool) (a b : ℤ) → fits (bitwise g a b) ≡ true
unfolding bitwise
bitwise_fits g a b = of_bits_fits (λ i. g (bit i a) (bit i b))

-- no other number in range has them
low_same : (f g : ℕ → Bool) (k : ℕ) → ((i : ℕ) → i < k → f i ≡ g i) → low_bits f k ≡ low_bits g k
unfolding low_bits
low_same f g zero h = refl
low_same f g (suc k) h =
    ap (λ (n : ℕ). n * 2 + digit_of (f 0)) (low_same (λ i. f (suc i)) (λ i. g (suc i)) k (λ i l. h (suc i) (omega arith)))
    ∙ ap (λ (b : Bool). low_bits (λ i. g (suc i)) k * 2 + digit_of b) (h 0 (omega arith))

of_bits_same : (f g : ℕ → Bool) → ((i : ℕ) → i ≤ 63 → f i ≡ g i) → of_bits f ≡ of_bits g
unfolding of_bits
of_bits_same f g h =
    ap (λ (x : Bool). pick x (negsuc (low_bits (λ i. not (f i)) 63)) (pos (low_bits f 63))) (h 63 (omega arith))
    ∙ ap (λ (n : ℕ). pick (g 63) (negsuc n) (pos (low_bits f 63)))
    (low_same (λ i. not (f i)) (λ i. not (g i)) 63 (λ i l. ap not (h i (omega arith))))
    ∙ ap (λ (n : ℕ). pick (g 63) (negsuc (low_bits (λ i. not (g i)) 63)) (pos n)) (low_same f g 63 (λ i l. h i (omega arith)))

odd_digit : (n : ℕ) → n < 2 → digit_of (eqb n 1) ≡ n
odd_digit zero h = refl
odd_digit (suc zero) h = refl
odd_digit (suc (suc n)) h = absurd (omega arith)

pub half_lt_pow : {n : ℕ} (k : ℕ) → n < 2 ^ suc k → n / 2 < 2 ^ k
half_lt_pow {n} k h = let e : suc k ≡ k + 1 = omega arith in shr_lt k 1 (rw (← e) h)

low_of : (k n : ℕ) → n < 2 ^ k → low_bits (λ i. eqb (n / 2 ^ i % 2) 1) k ≡ n
unfolding low_bits
low_of zero n h = sym (lt-one h)
low_of (suc k) n h =
    ap (λ (m : ℕ). m * 2 + digit_of (eqb (n / 2 ^ 0 % 2) 1))
    (low_same (λ i. eqb (n / 2 ^ suc i % 2) 1) (λ i. eqb (n / 2 / 2 ^ i % 2) 1) k (λ i _. ap (λ (m : ℕ). eqb (m % 2) 1) (half n i))
    ∙ low_of k (n / 2) (half_lt_pow k h))
    ∙ ap (λ (m : ℕ). n / 2 * 2 + digit_of (eqb (m % 2) 1)) (div-one n)
    ∙ ap (λ (m : ℕ). n / 2 * 2 + m) (odd_digit (n % 2) (mod-lt n (omega arith)))
    ∙ div-add-mod' n 2

pub bits_tell : (a : ℤ) → fits a ≡ true → of_bits (λ i. bit i a) ≡ a
unfolding of_bits bit fits
bits_tell (pos n) h =
    rw (beyond n (ltb-true n (2 ^ 63) h)) (ap pos (low_of 63 n (ltb-true n (2 ^ 63) h)))
bits_tell (negsuc n) h =
    rw (beyond n (ltb-true n (2 ^ 63) h))
    (ap negsuc
    (low_same (λ i. not (not (eqb (n / 2 ^ i % 2) 1))) (λ i. eqb (n / 2 ^ i % 2) 1) 63 (λ i _. not_not (eqb (n / 2 ^ i % 2) 1))
    ∙ low_of 63 n (ltb-true n (2 ^ 63) h)))

pub bits_same : (a b : ℤ) → fits a ≡ true → fits b ≡ true → ((i : ℕ) → i ≤ 63 → bit i a ≡ bit i b) → a ≡ b
bits_same a b h k e = sym (bits_tell a h) ∙ of_bits_same (λ i. bit i a) (λ i. bit i b) e ∙ bits_tell b k
