-- What is shown is read again: the escapes of a text stand for the text.
use Rattle.std.specs.Prelude.{Some}
use Prim.Native.Nat.{ℕ, suc, ◌+◌, ◌-◌, ◌*◌, ◌/◌, ◌%◌, ◌≤◌, ◌<◌}
use native.Mathlib.Omega.{arith}
use mathlib.Core.Path.{◌≡◌, refl, sym, ap, ◌∙◌}
use mathlib.Core.Bool.{true, false, not}
use mathlib.Core.List.{[], ◌∷◌, ◌++◌}
use lib.Dec.{eqb, ltb}
use borrow.Author.Tests.{le-leb, lt-leb, ne_eqb, leb-true, eqb-true, eqb-false, ltb-true, ltb-false, not-true}
use Rattle.stages.specs.Bytes.{Text, all, not_zero, between}
use Rattle.stages.proofs.Bools.{either, and_left, and_right}
use Rattle.stages.proofs.Images.{Bytes}
use Rattle.tab_show.specs.Lines.{hex_digit, is_plain, shown_byte, shown_text}
use Rattle.tab_escape.specs.Escapes.{taking, hex_value, hex_byte, byte_at, good, before, read_on, read_from, read_text}
use Rattle.tab_escape.proofs.Escaping.{Escape, at_plain, at_newline, at_backslash, at_hex}

-- a digit stands for its number
digit_value : (n : ℕ) → n < 16 → hex_value (hex_digit n) ≡ Some n
digit_value n h =
    either (ltb n 10)
    (λ e.
    let k : n < 10 = ltb-true n 10 e in
    let v : 48 + n - 48 ≡ n = omega arith in
    rw (e, le-leb 48 (48 + n) (omega arith), le-leb (48 + n) 57 (omega arith), v))
    (λ e.
    let k : 10 ≤ n = ltb-false n 10 e in
    let v : 55 + n - 55 ≡ n = omega arith in
    rw (
      e,
      le-leb 48 (55 + n) (omega arith),
      lt-leb (55 + n) 57 (omega arith),
      le-leb 65 (55 + n) (omega arith),
      le-leb (55 + n) 70 (omega arith),
      v,
    ))

from_first : (b : ℕ) (t : Text) (c k : ℕ) → taking c k ≡ byte_at (b ∷ t) 0 → read_from 0 (b ∷ t) ≡ before c (read_from k t)
unfolding read_from
from_first b t c k e = ap (λ y. read_on y (λ k. read_from k t)) (sym e)

-- each way of showing a byte
module _ (b : ℕ) (u : Text) where
  plain_again : 1 ≤ b → (b ≡ 92 → ⊥) → read_from 0 (b ∷ u) ≡ before b (read_from 0 u)
  plain_again h n = from_first b u b 0 (at_plain (b ∷ u) 0 (λ e. omega (arith, h, e)) n)

  newline_again : b ≡ 10 → read_from 0 (92 ∷ 110 ∷ u) ≡ before b (read_from 0 u)
  unfolding read_from
  newline_again e = rw e (from_first 92 (110 ∷ u) 10 1 (at_newline {t = 92 ∷ 110 ∷ u} {i = 0} (record { backslash = refl; long = omega arith }) refl))

  backslash_again : b ≡ 92 → read_from 0 (92 ∷ 92 ∷ u) ≡ before b (read_from 0 u)
  unfolding read_from
  backslash_again e =
      rw e (from_first 92 (92 ∷ u) 92 1
      (at_backslash {t = 92 ∷ 92 ∷ u} {i = 0} (record { backslash = refl; long = omega arith }) refl))

  module _ (h : 1 ≤ b) (k : b < 256) where
    hex_again : read_from 0 (92 ∷ 120 ∷ hex_digit (b / 16) ∷ hex_digit (b % 16) ∷ u) ≡ before b (read_from 0 u)
    unfolding read_from
    hex_again = from_first 92 (120 ∷ hex_digit (b / 16) ∷ hex_digit (b % 16) ∷ u) b 3 (is ∙ at_hex {t = whole} {i = 0} escape refl (omega arith))
      where
        whole : Text
        whole = 92 ∷ 120 ∷ hex_digit (b / 16) ∷ hex_digit (b % 16) ∷ u

        escape : Escape whole 0
        escape = record { backslash = refl; long = omega arith }

        sum : b / 16 * 16 + b % 16 ≡ b
        sum = omega arith

        is : taking b 3 ≡ hex_byte (hex_value (hex_digit (b / 16))) (hex_value (hex_digit (b % 16)))
        is = rw (digit_value (b / 16) (omega arith), digit_value (b % 16) (omega arith), sum, ne_eqb b 0 (λ e. omega (arith, e, h)))

    byte_again : read_from 0 (shown_byte b ++ u) ≡ before b (read_from 0 u)
    unfolding shown_byte
    byte_again = either (is_plain b) plain escape
      where
        plain : is_plain b ≡ true → read_from 0 (shown_byte b ++ u) ≡ before b (read_from 0 u)
        plain e = rw e (plain_again h (eqb-false b 92 (not-true (eqb b 92) (and_right (between 32 b 126) (not (eqb b 92)) e))))

        escape : is_plain b ≡ false → read_from 0 (shown_byte b ++ u) ≡ before b (read_from 0 u)
        escape e =
            rw e (either (eqb b 10) (λ d. rw d (newline_again (eqb-true b 10 d)))
            λ d. rw d (either (eqb b 92) (λ f. rw f (backslash_again (eqb-true b 92 f))) λ f. rw f hex_again))

-- what is shown of a text is read as the text
from_shown : (t : Text) → Bytes t → all not_zero t ≡ true → read_from 0 (shown_text t) ≡ good t
unfolding shown_text read_from
from_shown [] h f = refl
from_shown (b ∷ t) h f =
    byte_again b (shown_text t) (leb-true 1 b (and_left (not_zero b) (all not_zero t) f)) (h 0)
    ∙ ap (before b) (from_shown t (λ i. h (suc i)) (and_right (not_zero b) (all not_zero t) f))

pub read_shown : (t : Text) → Bytes t → all not_zero t ≡ true → read_text (shown_text t) ≡ good t
unfolding read_text
read_shown t h f = from_shown t h f
