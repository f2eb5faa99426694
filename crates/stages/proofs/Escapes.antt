-- Document 02, E12: laws of escapes. What an escape says is a byte from 1 to 255, and its faults are 7 and 11; three octal digits say the byte that they are
-- written for, whatever follows. The byte 48 is `0`, 120 is `x`.
use Prim.Native.Nat.{ℕ, ◌+◌, ◌*◌, ◌/◌, ◌%◌, ◌≤◌, ◌<◌}
use Prim.Native.Char.{code}
use native.Mathlib.Omega.{arith}
use mathlib.Core.Path.{◌≡◌, refl, ap, ◌∙◌}
use mathlib.Core.Bool.{Bool, true, false}
use mathlib.Core.List.{[], ◌∷◌, ◌++◌}
use mathlib.Core.Option.{Option, none, some}
use lib.Dec.{eqb}
use lib.ListN.{length}
use borrow.Author.Tests.{ne_eqb, lt-ltb}
use Rattle.stages.specs.Numbers.{unended, too_deep}
use Rattle.stages.specs.Bytes.{Text, between, span}
use Rattle.stages.specs.Outcome.{pick}
use Rattle.stages.specs.Constants.{is_digit_in, in_base}
use Rattle.stages.specs.Escapes.{Said, says, unsaid, letters, letter_of, says_byte, says_number, digit_run, says_digits, behind_x, escape_at}
use Rattle.stages.specs.Quote.{octal}
use Rattle.stages.proofs.Bools.{between_true}
use Rattle.stages.proofs.Texts.{span_more}
use Rattle.stages.proofs.Digits.{digit_back, digit_first}

-- WHAT IS SAID

pub data Sayable : Said → Type 0 where
  a_byte : {b k : ℕ} → between 1 b 255 ≡ true → Sayable (says b k)
  a_fault : {n : ℕ} → between unended n too_deep ≡ true → Sayable (unsaid n)

pick_says : (x : Bool) {s u : Said} → Sayable s → Sayable u → Sayable (pick x s u)
pick_says true h k = h
pick_says false h k = k

byte_says : (n k : ℕ) → Sayable (says_byte n k)
unfolding says_byte
byte_says n k = go (between 1 n 255) refl
  where
    go : (x : Bool) → between 1 n 255 ≡ x → Sayable (says_byte n k)
    go true e = unfold says_byte in rw e (a_byte e)
    go false e = unfold says_byte in rw e (a_fault refl)

number_says : (o : Option ℕ) (k : ℕ) → Sayable (says_number o k)
unfolding says_number
number_says none k = a_fault refl
number_says (some n) k = byte_says n k

digits_say : (base k : ℕ) (t : Text) → Sayable (says_digits base k t)
unfolding says_digits
digits_say base k t = number_says (in_base base 0 t) (k + length t)

x_says : (t : Text) → Sayable (behind_x t)
unfolding behind_x
x_says [] = a_fault refl
x_says (b ∷ t) = pick_says (is_digit_in 16 b) (digits_say 16 1 (digit_run 16 2 (b ∷ t))) (a_fault refl)

pub escape_says : (t : Text) → Sayable (escape_at t)
unfolding escape_at
escape_says [] = a_fault refl
escape_says (b ∷ t) =
    pick_says (eqb b (code "x")) (x_says t)
    (pick_says (is_digit_in 8 b) (digits_say 8 0 (digit_run 8 3 (b ∷ t))) (byte_says (letter_of b letters) 1))

-- THREE OCTAL DIGITS

-- three bytes that pass a test are a run
run_three : (f : ℕ → Bool) (x y z : ℕ) → f x ≡ true → f y ≡ true → f z ≡ true → (span f (x ∷ y ∷ z ∷ [])).0 ≡ x ∷ y ∷ z ∷ []
unfolding span
run_three f x y z e g h = rw (span_more f x (y ∷ z ∷ []) e, span_more f y (z ∷ []) g, span_more f z [] h)

octal_digit : (d : ℕ) → d < 8 → is_digit_in 8 (48 + d) ≡ true
unfolding is_digit_in
octal_digit d h = rw (digit_back d (omega arith)) (lt-ltb d 8 h)

octal_value : (b : ℕ) → b < 256 → in_base 8 0 (octal b) ≡ some b
unfolding in_base
octal_value b h =
    let whole : ((0 * 8 + b / 64) * 8 + b / 8 % 8) * 8 + b % 8 ≡ b = omega arith in
    digit_first 8 0 (b / 64) ((48 + b / 8 % 8) ∷ (48 + b % 8) ∷ []) (omega arith) (omega arith)
    ∙ digit_first 8 (0 * 8 + b / 64) (b / 8 % 8) ((48 + b % 8) ∷ []) (omega arith) (omega arith)
    ∙ digit_first 8 ((0 * 8 + b / 64) * 8 + b / 8 % 8) (b % 8) [] (omega arith) (omega arith) ∙ ap some whole

-- no digit that follows is taken in
octal_run : (b : ℕ) (rest : Text) → b < 256 → digit_run 8 3 (octal b ++ rest) ≡ octal b
unfolding digit_run
octal_run b rest h =
    run_three (is_digit_in 8) (48 + b / 64) (48 + b / 8 % 8) (48 + b % 8) (octal_digit (b / 64) (omega arith)) (octal_digit (b / 8 % 8) (omega arith))
    (octal_digit (b % 8) (omega arith))

pub octal_says : (b : ℕ) (rest : Text) → 1 ≤ b → b < 256 → escape_at (octal b ++ rest) ≡ says b 3
unfolding escape_at says_digits says_number says_byte
octal_says b rest l h =
    rw (
      ne_eqb (48 + b / 64) 120 (λ z. omega arith),
      octal_digit (b / 64) (omega arith),
      octal_run b rest h,
      octal_value b h,
      between_true 1 b 255 l (omega arith),
    )
