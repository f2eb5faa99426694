-- Document 02, E6: a shift by a count that is served is a product or a quotient rounded down by a power of 2.
use mathlib.Core.Path.{◌≡◌, refl, sym, ap, ◌∙◌}
use mathlib.Core.Bool.{Bool, true, false}
use Prim.Native.Nat.{ℕ, ◌*◌, ◌%◌, ◌^◌, ◌<◌}
use native.Mathlib.Omega.{arith}
use native.Mathlib.Nat.{one-mul}
use lib.Pow.{shl_exact}
use lib.IntN.{ℤ, pos, negsuc, nat_abs, ◌*ℤ◌}
use lib.Signed.{lt_z, shr_z, mag_shr}
use mir.Syntax.{w64}
use mir.Val.{SFits, of_z}
use mir.ValLaws.{sfits_le}
use borrow.Author.Tests.{le-ltb, ltb-true}
use Rattle.stages.specs.Numbers.{overflow}
use Rattle.stages.specs.Outcome.{Outcome, refused}
use Rattle.stages.specs.Arith.{shifted, xor}
use Rattle.stages.proofs.Bools.{no}
use Rattle.arith_int.specs.Answers.{is_count, of_sign}
use Rattle.arith_int.proofs.Ranges.{signs}

-- a count that is served is below 64 and is its own bits
pub count_lt : (b : ℤ) → is_count b ≡ true → nat_abs b < 64
count_lt (pos n) e = ltb-true n 64 e
count_lt (negsuc n) e = absurd (no e)

pub count_bits : (b : ℤ) → is_count b ≡ true → of_z w64 b ≡ nat_abs b
count_bits (pos n) e = refl
count_bits (negsuc n) e = absurd (no e)

pub shift_served : (f : ℤ → ℕ → Outcome ℤ) (a b : ℤ) → is_count b ≡ true → f a (nat_abs b) ≡ shifted f a b
unfolding shifted
shift_served f a (pos n) e = rw (e, shifted)
shift_served f a (negsuc n) e = absurd (no e)

pub shift_refused : (f : ℤ → ℕ → Outcome ℤ) (a b : ℤ) → is_count b ≡ false → refused overflow ≡ shifted f a b
unfolding shifted
shift_refused f a (pos n) e = rw (e, shifted)
shift_refused f a (negsuc n) e = refl

-- 1 << n
pub power : (n : ℕ) → n < 64 → (1 * 2 ^ n) % 2 ^ 64 ≡ 2 ^ n
power n h = shl_exact 1 n 64 (omega arith) (omega arith) ∙ one-mul (2 ^ n)

xor_false : (s : Bool) → xor s false ≡ s
xor_false true = refl
xor_false false = refl

-- a times a power of 2, by its side and its magnitude
pub times_power : (a : ℤ) (n : ℕ) → of_sign (lt_z a (pos 0)) (nat_abs a * 2 ^ n) ≡ a *ℤ pos (2 ^ n)
times_power a n =
    ap (λ (s : Bool). of_sign s (nat_abs a * 2 ^ n)) (sym (xor_false (lt_z a (pos 0))))
    ∙ signs a (pos (2 ^ n)) (lt_z a (pos 0)) false refl (le-ltb (2 ^ n) 0 (omega arith))

pub shr_fits : (a : ℤ) (m : ℕ) → SFits w64 a → SFits w64 (shr_z a m)
shr_fits a m h = sfits_le (mag_shr a m) h
