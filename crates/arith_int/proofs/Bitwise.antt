-- Document 02, E6: `&`, `^` and `|` of two's complement bits are the bit operations of the numbers. One law for the three: an operation that makes each
-- binary digit of the two digits at its place is the stage's `bitwise`.
use mathlib.Core.Path.{◌≡◌, refl, sym, ap, ap₂, ◌∙◌}
use mathlib.Core.Bool.{Bool, true, false, not, ◌&&◌, ◌||◌}
use Prim.Native.Nat.{ℕ, zero, suc, ◌+◌, ◌-◌, ◌*◌, ◌/◌, ◌%◌, ◌^◌, ◌≤◌, ◌<◌, min, max}
use native.Mathlib.Omega.{arith}
use native.Mathlib.Nat.{pow-suc, div-one, div-add-mod', mod-lt}
use lib.Dec.{eqb, ltb}
use lib.Arith.{digits_div, digits_mod}
use lib.Bits.{bit_and, bit_or, bit_xor, and_shr, or_shr, xor_shr, and_step, or_step, xor_step, and_lt, or_lt, xor_lt}
use lib.Bits as bits
use lib.IntN.{ℤ, pos, negsuc, ◌-ℤ◌}
use lib.Signed.{mag}
use mir.Syntax.{w64}
use mir.Val.{SFits, sel, of_z, to_z}
use mir.ValLaws.{of_z_fits, to_z-Fits, to_z-of_z}
use borrow.Author.Tests.{lt-ltb}
use Rattle.stages.specs.Constants.{fits}
use Rattle.stages.specs.Arith.{bit, bitwise, xor, flipped}
use Rattle.stages.proofs.Bits.{not_not, half, half_lt_pow, bit_of_bitwise, bitwise_fits, bits_same}
use Rattle.arith_int.proofs.Ranges.{mirrored, mirror}

abbrev digit : ℕ → ℕ → Bool
digit i n = eqb (n / 2 ^ i % 2) 1

-- 2^k - 1 - n has every digit the other way

other_half : (p n : ℕ) → n / 2 < p → p * 2 - suc n ≡ (p - suc (n / 2)) * 2 + (1 - n % 2)
other_half p n h = let l : n % 2 < 2 = mod-lt n (omega arith) in omega (arith, div-add-mod' n 2)

other_by_digits : (k n : ℕ) → n < 2 ^ suc k → 2 ^ suc k - suc n ≡ (2 ^ k - suc (n / 2)) * 2 + (1 - n % 2)
other_by_digits k n h = ap (λ (m : ℕ). m - suc n) (pow-suc 2 k) ∙ other_half (2 ^ k) n (half_lt_pow k h)

by_digit : (P : ℕ → Type 0) → P 0 → P 1 → (n : ℕ) → n < 2 → P n
by_digit P z o zero h = z
by_digit P z o (suc zero) h = o
by_digit P z o (suc (suc n)) h = absurd (omega arith)

other_odd : (n : ℕ) → n < 2 → eqb (1 - n) 1 ≡ not (eqb n 1)
other_odd = by_digit (λ n. eqb (1 - n) 1 ≡ not (eqb n 1)) refl refl

other_digit : (k n i : ℕ) → n < 2 ^ k → i < k → digit i (2 ^ k - suc n) ≡ not (digit i n)
other_digit zero n i h l = absurd (omega arith)
other_digit (suc k) n zero h l =
    ap (λ (m : ℕ). eqb (m % 2) 1) (div-one (2 ^ suc k - suc n) ∙ other_by_digits k n h)
    ∙ ap (λ (m : ℕ). eqb m 1) (digits_mod (2 ^ k - suc (n / 2)) (omega arith))
    ∙ other_odd (n % 2) (mod-lt n (omega arith))
    ∙ ap (λ (m : ℕ). not (eqb (m % 2) 1)) (sym (div-one n))
other_digit (suc k) n (suc i) h l =
    ap (λ (m : ℕ). eqb (m % 2) 1) (half (2 ^ suc k - suc n) i)
    ∙ ap (λ (m : ℕ). eqb (m / 2 ^ i % 2) 1)
    (ap (λ (m : ℕ). m / 2) (other_by_digits k n h) ∙ digits_div (2 ^ k - suc (n / 2)) (omega arith))
    ∙ other_digit k (n / 2) i (half_lt_pow k h) (omega arith)
    ∙ ap (λ (m : ℕ). not (eqb (m % 2) 1)) (sym (half n i))

-- the bits of the number that the code's bits mean are their digits
bit_of_held : (n i : ℕ) → n < 2 ^ 64 → i ≤ 63 → bit i (to_z w64 n) ≡ digit i n
unfolding bit
bit_of_held n i h l = go (ltb n (2 ^ 63))
  where
    go : (t : Bool) → bit i (sel t (pos n) (negsuc (2 ^ 64 - suc n))) ≡ digit i n
    go true = refl
    go false = ap not (other_digit 64 n i h (omega arith)) ∙ not_not (digit i n)

bit_is_digit : (z : ℤ) (i : ℕ) → SFits w64 z → i ≤ 63 → bit i z ≡ digit i (of_z w64 z)
bit_is_digit z i h l = ap (bit i) (sym (to_z-of_z w64 z h)) ∙ bit_of_held (of_z w64 z) i (of_z_fits w64 z h).fits l

in_range : (z : ℤ) → SFits w64 z → fits z ≡ true
unfolding fits
in_range z h = lt-ltb (mag z) (2 ^ 63) h.sfits

-- what an operation on digits makes of two of them is a digit, and the one that g says
abbrev Agrees : (ℕ → ℕ → ℕ) → (Bool → Bool → Bool) → ℕ → ℕ → Type 0
Agrees f g x y = (f x y < 2) × (eqb (f x y) 1 ≡ g (eqb x 1) (eqb y 1))

module _ (op f : ℕ → ℕ → ℕ) (g : Bool → Bool → Bool)
    (shr : (a b k : ℕ) → op a b / 2 ^ k ≡ op (a / 2 ^ k) (b / 2 ^ k))
    (step : (a b : ℕ) → op a b ≡ op (a / 2) (b / 2) * 2 + f (a % 2) (b % 2))
    (lt : (k a b : ℕ) → a < 2 ^ k → b < 2 ^ k → op a b < 2 ^ k)
    (zero-zero : Agrees f g 0 0) (zero_one : Agrees f g 0 1) (one-zero : Agrees f g 1 0) (one-one : Agrees f g 1 1) where
  agrees : (x y : ℕ) → x < 2 → y < 2 → Agrees f g x y
  agrees x y h k =
      by_digit (λ x. Agrees f g x y) (by_digit (λ y. Agrees f g 0 y) zero-zero zero_one y k) (by_digit (λ y. Agrees f g 1 y) one-zero one-one y k) x h

  digit_of_lem : (a b i : ℕ) → digit i (op a b) ≡ g (digit i a) (digit i b)
  digit_of_lem a b i =
      let e = agrees (a / 2 ^ i % 2) (b / 2 ^ i % 2) (mod-lt (a / 2 ^ i) (omega arith)) (mod-lt (b / 2 ^ i) (omega arith)) in
      ap (λ (m : ℕ). eqb (m % 2) 1) (shr a b i ∙ step (a / 2 ^ i) (b / 2 ^ i))
      ∙ ap (λ (m : ℕ). eqb m 1) (digits_mod (op (a / 2 ^ i / 2) (b / 2 ^ i / 2)) e.0)
      ∙ e.1

  -- THE LAW
  bits_of : (a b : ℤ) → SFits w64 a → SFits w64 b → to_z w64 (op (of_z w64 a) (of_z w64 b)) ≡ bitwise g a b
  bits_of a b h k =
      bits_same (to_z w64 (op (of_z w64 a) (of_z w64 b))) (bitwise g a b) inside (bitwise_fits g a b)
      (λ i l. bit_of_held (op (of_z w64 a) (of_z w64 b)) i small l
      ∙ digit_of_lem (of_z w64 a) (of_z w64 b) i
      ∙ ap₂ g (sym (bit_is_digit a i h l)) (sym (bit_is_digit b i k l))
      ∙ sym (bit_of_bitwise g a b i l))
    where
      small : op (of_z w64 a) (of_z w64 b) < 2 ^ 64
      small = lt 64 (of_z w64 a) (of_z w64 b) (of_z_fits w64 a h).fits (of_z_fits w64 b k).fits

      inside : fits (to_z w64 (op (of_z w64 a) (of_z w64 b))) ≡ true
      inside = in_range (to_z w64 (op (of_z w64 a) (of_z w64 b))) (to_z-Fits w64 (op (of_z w64 a) (of_z w64 b)) (record { fits = small }))

pub and_is : (a b : ℤ) → SFits w64 a → SFits w64 b → to_z w64 (bit_and (of_z w64 a) (of_z w64 b)) ≡ bitwise (λ x y. x && y) a b
and_is = bits_of bit_and min (λ x y. x && y) and_shr and_step and_lt (omega arith, refl) (omega arith, refl) (omega arith, refl) (omega arith, refl)

pub xor_is : (a b : ℤ) → SFits w64 a → SFits w64 b → to_z w64 (bit_xor (of_z w64 a) (of_z w64 b)) ≡ bitwise xor a b
xor_is = bits_of bit_xor bits.differ xor xor_shr xor_step xor_lt (omega arith, refl) (omega arith, refl) (omega arith, refl) (omega arith, refl)

pub or_is : (a b : ℤ) → SFits w64 a → SFits w64 b → to_z w64 (bit_or (of_z w64 a) (of_z w64 b)) ≡ bitwise (λ x y. x || y) a b
or_is = bits_of bit_or max (λ x y. x || y) or_shr or_step or_lt (omega arith, refl) (omega arith, refl) (omega arith, refl) (omega arith, refl)

-- `~` is -1 - a
pub other_bits : (a : ℤ) → negsuc 0 -ℤ a ≡ flipped a
other_bits (pos n) = mirrored n
other_bits (negsuc n) = mirror (negsuc n) refl

pub flipped_fits : (a : ℤ) → SFits w64 a → SFits w64 (flipped a)
flipped_fits (pos n) h = record { sfits = h.sfits }
flipped_fits (negsuc n) h = record { sfits = h.sfits }
