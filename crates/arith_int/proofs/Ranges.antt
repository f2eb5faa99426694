-- The operations' laws: a result that fits is given, one that does not is refused, and each guard tells the two apart.
use mathlib.Core.Path.{◌≡◌, refl, sym, ◌∙◌, ap, subst}
use mathlib.Core.Bool.{Bool, true, false}
use Prim.Native.Nat.{ℕ, zero, suc, ◌-◌, ◌*◌, ◌≤◌, ◌<◌, ◌^◌}
use native.Mathlib.Omega.{arith}
use native.Mathlib.Nat.{zero-add}
use lib.Dec.{eqb, leb, ltb}
use lib.IntN.{ℤ, pos, negsuc, nat_abs, ◌-ℤ◌, ◌*ℤ◌}
use lib.Signed.{mag, lt_z, le_z, quot_z, rem_z, mag_rem}
use mir.Syntax.{w64}
use mir.Val.{SFits, of_z, to_z}
use mir.ValLaws.{to_z-of_z, to_z_pos}
use borrow.Author.Tests.{lt-ltb, le-ltb, ltb-true, le-leb, leb-true, eqb-true, eq-eqb, ne_eqb}
use Rattle.stages.proofs.Bools.{no, same_tests, and_left, and_right, and_both}
use Rattle.stages.specs.Numbers.{zero_divisor}
use Rattle.stages.specs.Numbers as numbers
use Rattle.stages.specs.Outcome.{refused, done}
use Rattle.stages.specs.Constants.{fits, ranged}
use Rattle.stages.specs.Arith.{divided, is_zero, eq_z, xor, truth}
use Rattle.std.specs.Prelude.{Option, Some, None, SomeIff, Result, ok_or}
use Rattle.text.specs.declared.refusal.Refusal.{Refusal}
use Rattle.text.specs.declared.refusal.Refusal.TheVariants.{Overflow}
use Rattle.arith_int.specs.Answers.{numbered, of_sign, Divides}

antisym : {a b : ℕ} → a ≤ b → b ≤ a → a ≡ b
antisym h k = omega arith

abbrev pub least : ℤ
least = negsuc 9223372036854775807

-- the number that the code holds is z
pub held : (z : ℤ) → SFits w64 z → to_z w64 (of_z w64 z) ≡ z
held z h = to_z-of_z w64 z h

-- a number that an answer holds
pub kept : (z : ℤ) → mag z < 2 ^ 63 → to_z w64 (of_z w64 z) ≡ z
kept z h = held z (record { sfits = h })

-- an answer
pub value : (z : ℤ) → SFits w64 z → done z ≡ ranged z
unfolding ranged fits
value z h = rw (lt-ltb (mag z) (2 ^ 63) h.sfits, ranged)

pub overflow : (z : ℤ) → 2 ^ 63 ≤ mag z → refused numbers.overflow ≡ ranged z
unfolding ranged fits
overflow z h = rw (le-ltb (mag z) (2 ^ 63) h, ranged)

-- what std's checked operations answer
pub checked : (r : Option ℤ) (z : ℤ) → SomeIff r (SFits w64 z) z → numbered (ok_or r Overflow) ≡ ranged z
checked (Some x) z h = rw h.1 (value z h.0)
checked None z h = overflow z (omega (arith, λ (l : mag z < 2 ^ 63). h (record { sfits = l })))

-- .. and what they are asked for are numbers that the code holds
pub checked_held : (a b : ℤ) (r : Option ℤ) → SFits w64 a → SFits w64 b
    → SomeIff r (SFits w64 (to_z w64 (of_z w64 a) *ℤ to_z w64 (of_z w64 b))) (to_z w64 (of_z w64 a) *ℤ to_z w64 (of_z w64 b))
    → numbered (ok_or r Overflow) ≡ ranged (a *ℤ b)
checked_held a b r h k e = checked r (a *ℤ b) (rw (held a h, held b k) at e)

-- an answer of a test
pub told : (t : ℤ) (b : Bool) → t ≡ truth b → done (to_z w64 (of_z w64 t)) ≡ done (truth b)
told t true e = rw e
told t false e = rw e

-- a test for equality speaks of bits
pub bits_eq : (z y : ℤ) → SFits w64 z → SFits w64 y → of_z w64 z ≡ of_z w64 y → z ≡ y
bits_eq z y h k e = sym (held z h) ∙ ap (to_z w64) e ∙ held y k

pub bits_ne : (z y : ℤ) → (of_z w64 z ≡ of_z w64 y → ⊥) → z ≡ y → ⊥
bits_ne z y n e = n (ap (of_z w64) e)

pub rem_fits : (a b : ℤ) → SFits w64 a → SFits w64 (rem_z a b)
rem_fits a b h = record { sfits = let f = h.sfits in omega (arith, mag_rem a b) }

pub not_zero_lem : (b : ℤ) → (b ≡ pos 0 → ⊥) → is_zero b ≡ false
not_zero_lem (pos zero) z = absurd (z refl)
not_zero_lem (pos (suc n)) z = ne_eqb (suc n) 0 (λ e. omega arith)
not_zero_lem (negsuc n) z = refl

-- a division that is not by zero, whose quotient fits
pub divided_is : (f : ℤ → ℤ → ℤ) (a b : ℤ) → (b ≡ pos 0 → ⊥) → SFits w64 (quot_z a b) → done (f a b) ≡ divided f a b
unfolding divided fits
divided_is f a b z h = rw (not_zero_lem b z, divided, lt-ltb (mag (quot_z a b)) (2 ^ 63) h.sfits)

pub by_zero : (f : ℤ → ℤ → ℤ) (a b : ℤ) → b ≡ pos 0 → refused zero_divisor ≡ divided f a b
unfolding divided
by_zero f a b e = rw e

-- the smallest number by -1
pub least_divided : (f : ℤ → ℤ → ℤ) (a b : ℤ) → b ≡ negsuc 0 → a ≡ least → refused numbers.overflow ≡ divided f a b
unfolding divided fits
least_divided f a b e h = rw (e, h)

-- what was said of the numbers that the code holds, by a case of the answer
pub divides_shown : {a b : ℤ} {r s : Result Unit Refusal} → SFits w64 a → SFits w64 b → Divides (to_z w64 (of_z w64 a)) (to_z w64 (of_z w64 b)) r → r ≡ s
    → Divides a b s
divides_shown {a} {b} h k d e = subst (Divides a b) e (rw (held a h, held b k) at d)

-- below zero, or not
pub below_zero : (n : ℕ) → ltb n 0 ≡ true → ⊥
below_zero n e = let l = ltb-true n 0 e in omega arith

-- -1 - a, the magnitude less one of a number below zero
pub mirror : (a : ℤ) → lt_z a (pos 0) ≡ true → negsuc 0 -ℤ a ≡ pos (mag a)
mirror (pos n) e = absurd (below_zero n e)
mirror (negsuc n) e =
    let z : suc n - 1 ≡ n = omega arith in
    rw (le-ltb (suc n) 1 (omega arith), z)

-- -1 - m, the number below zero of magnitude m + 1
pub mirrored : (m : ℕ) → negsuc 0 -ℤ pos m ≡ negsuc m
mirrored zero = refl
mirrored (suc m) = rw zero-add

pub sign_suc : (m : ℕ) → (m ≡ 0 → ⊥) → of_sign true m ≡ negsuc (m - 1)
sign_suc zero n = absurd (n refl)
sign_suc (suc m) n = let z : suc m - 1 ≡ m = omega arith in rw z

-- a product by its sign and its magnitude
pub signs : (a b : ℤ) (s t : Bool) → lt_z a (pos 0) ≡ s → lt_z b (pos 0) ≡ t → of_sign (xor s t) (nat_abs a * nat_abs b) ≡ a *ℤ b
signs (pos a) b true t e f = absurd (below_zero a e)
signs (negsuc a) b false t e f = absurd (no (sym e))
signs (pos a) (pos b) false true e f = absurd (below_zero b f)
signs (pos a) (pos b) false false e f = refl
signs (pos a) (negsuc b) false true e f = refl
signs (pos a) (negsuc b) false false e f = absurd (no (sym f))
signs (negsuc a) (pos b) true true e f = absurd (below_zero b f)
signs (negsuc a) (pos b) true false e f = refl
signs (negsuc a) (negsuc b) true true e f = refl
signs (negsuc a) (negsuc b) true false e f = absurd (no (sym f))

pub sign_mag : (s : Bool) (m : ℕ) → 2 ^ 63 < m → 2 ^ 63 ≤ mag (of_sign s m)
sign_mag true zero h = omega arith
sign_mag true (suc m) h = omega arith
sign_mag false m h = omega arith

zero_signed : (s : Bool) → done (pos 0) ≡ ranged (of_sign s 0)
unfolding ranged fits
zero_signed true = refl
zero_signed false = refl

pub of_zero : (s : Bool) (m : ℕ) → m ≡ 0 → done (pos 0) ≡ ranged (of_sign s m)
of_zero s m e = rw e (zero_signed s)

pub held_pos : (n : ℕ) → n ≤ 9223372036854775807 → to_z w64 n ≡ pos n
held_pos n h = to_z_pos w64 n (omega arith)

-- two numbers are the same where their bits are
le_z_refl : (z : ℤ) → le_z z z ≡ true
le_z_refl (pos n) = le-leb n n (omega arith)
le_z_refl (negsuc n) = le-leb n n (omega arith)

eq_z_same : (a b : ℤ) → eq_z a b ≡ true → a ≡ b
eq_z_same (pos a) (pos b) e = ap pos (antisym (leb-true a b (and_left (leb a b) (leb b a) e)) (leb-true b a (and_right (leb a b) (leb b a) e)))
eq_z_same (pos a) (negsuc b) e = absurd (no e)
eq_z_same (negsuc a) (pos b) e = absurd (no e)
eq_z_same (negsuc a) (negsuc b) e = ap negsuc (antisym (leb-true a b (and_right (leb b a) (leb a b) e)) (leb-true b a (and_left (leb b a) (leb a b) e)))

pub same_bits : (a b : ℤ) → SFits w64 a → SFits w64 b → eqb (of_z w64 a) (of_z w64 b) ≡ eq_z a b
same_bits a b h k =
    same_tests (eqb (of_z w64 a) (of_z w64 b)) (eq_z a b)
    (λ e. rw (bits_eq a b h k (eqb-true (of_z w64 a) (of_z w64 b) e)) (and_both (le_z_refl b) (le_z_refl b)))
    (λ e. eq-eqb (of_z w64 a) (of_z w64 b) (ap (of_z w64) (eq_z_same a b e)))

pub zero_bits : (z : ℤ) → SFits w64 z → eqb (of_z w64 z) 0 ≡ is_zero z
zero_bits (pos n) h = refl
zero_bits (negsuc n) h = let f = h.sfits in ne_eqb (2 ^ 64 - suc n) 0 (λ e. omega arith)

-- a product beyond 64 bits, by its magnitude
pub far : (s : Bool) (m : ℕ) → (m < 2 ^ 64 → ⊥) → refused numbers.overflow ≡ ranged (of_sign s m)
far s m h = overflow (of_sign s m) (sign_mag s m (omega (arith, h)))
