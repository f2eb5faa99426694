-- The numbers that hold a class's bytes as bits: each byte is in the class just if its bit is set, by one computed test over all bytes and classes.
use Prim.Native.Nat.{ℕ, zero, suc, ◌-◌, ◌/◌, ◌%◌, ◌<◌, ◌≤◌}
use native.Mathlib.Omega.{arith}
use mathlib.Core.Path.{◌≡◌, refl, sym, ap, ◌∙◌}
use mathlib.Core.Bool.{Bool, true, false, not}
use mathlib.Core.List.{List, [], ◌∷◌}
use lib.Bits.{bit_and}
use lib.Dec.{eqb}
use lib.ListN.{get_or}
use Rattle.stages.specs.Bytes.{is_digit, is_name_start, is_name_byte, is_login_byte, is_bare_byte, is_blank, is_operator, is_control}
use Rattle.stages.specs.Constants.{digit, is_digit_in}
use Rattle.stages.specs.Quote.{is_sign}
use Rattle.stages.specs.Outcome.{choose}
use Rattle.stages.proofs.Bools.{no}
use Rattle.text.proofs.Every.{every, every_at}
use Rattle.text.specs.Bits.{bit_at, has_bit}
use Rattle.text.specs.Classes.{in_class, low_bytes, high_bytes, upper_bytes, upper_word, words_of}
use Rattle.text.specs.declared.Class.{Class}
use Rattle.text.specs.declared.Class.TheVariants.{NotZero, Digit, NameStart, NameByte, LoginByte, BareByte, Blank, Operator, NotControl}
use Rattle.text.specs.declared.Class.TheVariants.{SameByte, OctalDigit, HexDigit}

-- two tests agree
unfoldable pub same_bool : Bool → Bool → Bool
same_bool true b = b
same_bool false b = not b

pub same_bools : (a b : Bool) → same_bool a b ≡ true → a ≡ b
unfolding same_bool
same_bools true true e = refl
same_bools true false e = absurd (no e)
same_bools false true e = absurd (no e)
same_bools false false e = refl

right : Class → ℕ → Bool
unfolding same_bool is_digit is_name_start is_name_byte is_login_byte is_bare_byte is_blank is_operator is_control is_sign is_digit_in digit choose
right class b = same_bool (has_bit (words_of class) b) (in_class class b)

tested : (class : Class) → every (right class) 0 256 ≡ true
unfolding right
tested NotZero = refl
tested Digit = refl
tested NameStart = refl
tested NameByte = refl
tested LoginByte = refl
tested BareByte = refl
tested Blank = refl
tested Operator = refl
tested NotControl = refl
tested SameByte = refl
tested OctalDigit = refl
tested HexDigit = refl

pub bit_is : (class : Class) (b : ℕ) → b < 256 → has_bit (words_of class) b ≡ in_class class b
unfolding right
bit_is class b h = same_bools (has_bit (words_of class) b) (in_class class b) (every_at (right class) 256 (tested class) b h)

-- what the code is answered of a byte's bit, where the words are known that stand for a test
pub bit_told : (f : ℕ → Bool) {known words : List ℕ} {b : ℕ} → ((c : ℕ) → c < 256 → has_bit known c ≡ f c) → words ≡ known → {r x : Bool}
    → (r ≡ has_bit words b) × (b < 256) → r ≡ x → f b ≡ x
bit_told f {b = b} h e s g = sym (h b s.1) ∙ ap (λ (w : List ℕ). has_bit w b) (sym e) ∙ sym s.0 ∙ g

-- the words of the upper bytes
last_words : (x y z i : ℕ) → 2 ≤ i → i < 4 → get_or (x ∷ y ∷ z ∷ z ∷ []) i 0 ≡ z
last_words x y z zero l h = absurd (omega arith)
last_words x y z (suc zero) l h = absurd (omega arith)
last_words x y z (suc (suc zero)) l h = refl
last_words x y z (suc (suc (suc zero))) l h = refl
last_words x y z (suc (suc (suc (suc i)))) l h = absurd (omega arith)

word_right : Bool → ℕ → Bool
unfolding same_bool
word_right u k = same_bool (bit_at (upper_word u) k) u

word_tested : (u : Bool) → every (word_right u) 0 64 ≡ true
unfolding word_right
word_tested true = refl
word_tested false = refl

word_bit : (u : Bool) (k : ℕ) → k < 64 → bit_at (upper_word u) k ≡ u
unfolding word_right
word_bit u k h = same_bools (bit_at (upper_word u) k) u (every_at (word_right u) 64 (word_tested u) k h)

lowest_bit : (u : Bool) → eqb (bit_and (upper_word u) 1) 1 ≡ u
lowest_bit true = refl
lowest_bit false = refl

-- the same by the three numbers

module _ (class : Class) (b : ℕ) where
  pub low_bit : b < 64 → bit_at (low_bytes class) b ≡ in_class class b
  low_bit h =
      let w : b / 64 ≡ 0 = omega arith in
      let k : b % 64 ≡ b = omega arith in
      rw (w, k) at (bit_is class b (omega arith))

  pub high_bit : 64 ≤ b → b < 128 → bit_at (high_bytes class) (b - 64) ≡ in_class class b
  high_bit l h =
      let w : b / 64 ≡ 1 = omega arith in
      let k : b % 64 ≡ b - 64 = omega arith in
      rw (w, k) at (bit_is class b (omega arith))

  pub upper_bit : 128 ≤ b → b < 256 → eqb (bit_and (upper_word (upper_bytes class)) 1) 1 ≡ in_class class b
  upper_bit l h =
      lowest_bit (upper_bytes class)
      ∙ sym (word_bit (upper_bytes class) (b % 64) (omega arith))
      ∙ ap (λ (w : ℕ). bit_at w (b % 64))
      (sym (last_words (low_bytes class) (high_bytes class) (upper_word (upper_bytes class)) (b / 64) (omega arith) (omega arith)))
      ∙ bit_is class b h
