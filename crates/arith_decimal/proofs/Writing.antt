-- Laws of what is written of a number: its digits stand at the front of a buffer, behind a `-` where it is below zero.
use mathlib.Core.Path.{◌≡◌, refl, sym, ap}
use mathlib.Core.Bool.{true, false}
use mathlib.Core.List.{List, [], ◌∷◌, ◌++◌, append-nil}
use Prim.Native.Nat.{ℕ, zero, suc, ◌+◌, ◌-◌, ◌/◌, ◌%◌, ◌≤◌, ◌<◌, ◌^◌}
use native.Mathlib.Omega.{arith}
use lib.IntN.{ℤ, pos, negsuc, nat_abs}
use lib.Signed.{lt_z, mag}
use lib.ListN.{length, get_or, take, drop, set, length-append}
use lib.Seq.{drop-cons, set_at, append_snoc, take-length, drop-length}
use borrow.Rule.Slice.PartMut.{put_mid}
use borrow.Author.Tests.{ltb-true}
use Rattle.stages.proofs.Bools.{no}
use Rattle.stages.proofs.Digits as laws
use Rattle.stages.specs.Units.{digits, decimal}
use Rattle.stages.specs.Constants.{signed}
use Rattle.stages.specs.Bytes.{Text}
use Rattle.stages.specs.Call.{over}
use Rattle.text.specs.Putting.{Puts}

pub digits_none : (f n : ℕ) → f ≡ 0 → digits f n ≡ []
unfolding digits
digits_none f n e = rw e

pub digits_one : (k n : ℕ) → (k ≡ 0 → ⊥) → n < 10 → digits k n ≡ (48 + n) ∷ []
digits_one zero n h l = absurd (h refl)
digits_one (suc k) n h l = laws.digits_one k n l

pub digits_more : (k n : ℕ) → (k ≡ 0 → ⊥) → 10 ≤ n → digits k n ≡ digits (k - 1) (n / 10) ++ ((48 + n % 10) ∷ [])
digits_more zero n h l = absurd (h refl)
digits_more (suc k) n h l = let e : suc k - 1 ≡ k = omega arith in rw e (laws.digits_more k n l)

-- the room of a number of one digit, and of more
pub short_room : (k n : ℕ) (out : List ℕ) → (k ≡ 0 → ⊥) → n < 10 → length (digits k n) ≤ length out → 0 < length out
short_room k n out h l r = let p = rw (digits_one k n h l) at r in omega arith

pub long_room : (k n : ℕ) (out : List ℕ) → (k ≡ 0 → ⊥) → 10 ≤ n → length (digits k n) ≤ length out
    → length (digits (k - 1) (n / 10)) < length out
long_room k n out h l r = let p = simp (digits_more k n h l, length-append) at r in omega arith

pub put_last : (D out : List ℕ) (x k : ℕ) → length D ≡ k → k < length out → set (over D out) k x ≡ over (D ++ (x ∷ [])) out
unfolding over
put_last D out x k e h =
    let l : length D + 1 ≡ suc k = omega arith in
    rw (e, drop-cons out k 0 h, set_at D (get_or out k 0) (drop (suc k) out) x k e, length-append, l) (sym (append_snoc D x (drop (suc k) out)))

-- a part with a start, lent, written and put back behind a sign
pub put_signed : (out D last : List ℕ) → 0 < length out
    → last ≡ over D (take (length (set out 0 45) - 1) (drop 1 (set out 0 45)))
    → put_mid 1 (length (set out 0 45) - 1) (set out 0 45) last ≡ over (45 ∷ D) out
unfolding over
put_signed [] D last h e = absurd (omega arith)
put_signed (x ∷ o) D last h e =
    let z : suc (length o) - 1 ≡ length o = omega arith in
    rw (e, z, take-length o, drop-length o) (ap (λ (l : List ℕ). 45 ∷ l) (append-nil (over D o)))

pub text_below : (z : ℤ) → lt_z z (pos 0) ≡ true → signed z ≡ 45 ∷ decimal (nat_abs z)
unfolding signed
text_below (pos n) e = absurd (let l = ltb-true n 0 e in omega arith)
text_below (negsuc n) e = refl

pub text_not_below : (z : ℤ) → lt_z z (pos 0) ≡ false → signed z ≡ decimal (nat_abs z)
unfolding signed
text_not_below (pos n) e = refl
text_not_below (negsuc n) e = absurd (no (sym e))

-- what put_signed lends: a number below zero has at most 19 digits
pub abs_room : (z : ℤ) → mag z < 2 ^ 63 → length (digits 20 (nat_abs z)) ≤ 19
abs_room (pos n) h = laws.digits_length 20 18 n (omega arith)
abs_room (negsuc n) h = laws.digits_length 20 18 (suc n) (omega arith)

-- a text that was written at the front ends within the buffer
pub puts_inside : {text entry exit : Text} {n : ℕ} → Puts text entry exit n → n ≤ length exit
unfolding over
puts_inside {text} {entry} {exit} {n} p = omega (arith, p.counts, ap length p.leaves, length-append text (drop (length text) entry))
