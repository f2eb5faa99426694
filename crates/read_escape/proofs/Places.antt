-- What an escape says by its first byte, and `\\x` by the byte behind it. The byte 120 is `x`.
use Rattle.std.specs.Prelude.{Result, Ok, Err, Some, None}
use Prim.Native.Nat.{ℕ, suc, ◌+◌, ◌-◌, ◌≤◌, ◌<◌}
use native.Mathlib.Omega.{arith}
use mathlib.Core.Path.{◌≡◌, sym, ap, ◌∙◌, subst}
use mathlib.Core.Bool.{true, false}
use mathlib.Core.List.{◌∷◌}
use lib.ListN.{length, drop, get_or, drop_of_length-le}
use lib.Seq.{drop-cons}
use borrow.Author.Tests.{ne_eqb, eq-eqb}
use Rattle.stages.specs.Bytes.{Text}
use Rattle.stages.specs.Constants.{is_digit_in}
use Rattle.stages.specs.Escapes.{says, unsaid, letters, letter_of, says_byte, digit_run, says_digits, behind_x, escape_at}
use Rattle.stages.specs.Escapes as escapes
use Rattle.stages.proofs.Bools.{between_true}
use Rattle.text.specs.declared.refusal.Refusal.{Refusal}
use Rattle.text.specs.declared.refusal.Refusal.TheVariants.{Unended, BadSyntax}
use Rattle.read_escape.specs.Says.{SaidAt, LetterAt}
use Rattle.read_escape.specs.declared.Escaped.{Escaped}

-- a byte stands at a place
first : (text : Text) (k : ℕ) → k < length text → drop k text ≡ get_or text k 0 ∷ drop (suc k) text
first text k h = drop-cons text k 0 h

module _ (text : Text) (at : ℕ) where
  abbrev Escaping : Result Escaped Refusal → Type 0
  Escaping r = SaidAt text at r (escape_at (drop (at + 1) text))

  abbrev Hexed : Result Escaped Refusal → Type 0
  Hexed r = SaidAt text at r (behind_x (drop (at + 2) text))

  -- the same said of another text
  told : (r : Result Escaped Refusal) {s u : escapes.Said} → s ≡ u → SaidAt text at r s → SaidAt text at r u
  told r e h = subst (SaidAt text at r) e h

  -- `behind_x`

  pub x_ends : length text ≤ at + 2 → Hexed (Err Unended)
  unfolding behind_x
  x_ends l = rw (drop_of_length-le text l)

  module _ (h : at + 2 < length text) where
    pub x_bad : is_digit_in 16 (get_or text (at + 2) 0) ≡ false → Hexed (Err BadSyntax)
    unfolding behind_x
    x_bad e = ap behind_x (first text (at + 2) h) ∙ rw e

    pub x_digits : is_digit_in 16 (get_or text (at + 2) 0) ≡ true → (r : Result Escaped Refusal)
        → SaidAt text at r (says_digits 16 (at + 2 - suc at) (digit_run 16 2 (drop (at + 2) text))) → Hexed r
    unfolding behind_x
    x_digits e r s =
        let k : at + 2 - suc at ≡ 1 = omega arith in
        told r (ap (λ (n : ℕ). says_digits 16 n (digit_run 16 2 (drop (at + 2) text))) k
        ∙ ap (λ (t : Text). says_digits 16 1 (digit_run 16 2 t)) (first text (at + 2) h) ∙ sym (ap behind_x (first text (at + 2) h) ∙ rw e)) s

  -- `escape_at`

  pub escape_ends : length text ≤ at + 1 → Escaping (Err Unended)
  unfolding escape_at
  escape_ends l = rw (drop_of_length-le text l)

  module _ (h : at + 1 < length text) where
    pub escape_x : get_or text (at + 1) 0 ≡ 120 → (r : Result Escaped Refusal) → Hexed r → Escaping r
    unfolding escape_at
    escape_x e r s =
        let k : suc (at + 1) ≡ at + 2 = omega arith in
        told r (ap (λ (n : ℕ). behind_x (drop n text)) (sym k) ∙ sym (ap escape_at (first text (at + 1) h) ∙ rw (eq-eqb (get_or text (at + 1) 0) 120 e))) s

    module _ (x : get_or text (at + 1) 0 ≡ 120 → ⊥) where
      pub escape_digits : is_digit_in 8 (get_or text (at + 1) 0) ≡ true → (r : Result Escaped Refusal)
          → SaidAt text at r (says_digits 8 (at + 1 - suc at) (digit_run 8 3 (drop (at + 1) text))) → Escaping r
      unfolding escape_at
      escape_digits e r s =
          let k : at + 1 - suc at ≡ 0 = omega arith in
          told r (ap (λ (n : ℕ). says_digits 8 n (digit_run 8 3 (drop (at + 1) text))) k
          ∙ ap (λ (t : Text). says_digits 8 0 (digit_run 8 3 t)) (first text (at + 1) h)
          ∙ sym (ap escape_at (first text (at + 1) h) ∙ rw (ne_eqb (get_or text (at + 1) 0) 120 x, e))) s

      module _ (e : is_digit_in 8 (get_or text (at + 1) 0) ≡ false) where
        by_letter : (b : ℕ) → b ≡ letter_of (get_or text (at + 1) 0) letters → escape_at (drop (at + 1) text) ≡ says_byte b 1
        unfolding escape_at
        by_letter b w =
            ap escape_at (first text (at + 1) h) ∙ rw (ne_eqb (get_or text (at + 1) 0) 120 x, e) (ap (λ (n : ℕ). says_byte n 1) (sym w))

        pub escape_none : LetterAt (get_or text (at + 1) 0) None → Escaping (Err BadSyntax)
        unfolding says_byte
        escape_none w = by_letter 0 w

        pub escape_letter : (b : ℕ) → LetterAt (get_or text (at + 1) 0) (Some b) → b < 256 → Escaping (Ok (record { byte = b; next = at + 1 + 1 }))
        unfolding says_byte
        escape_letter b w l =
            let k : at + 1 + 1 - suc at ≡ 1 = omega arith in
            let p : 1 ≤ b = omega (arith, w.1) in (
              by_letter b w.0 ∙ rw (between_true 1 b 255 p (omega arith)) (ap (says b) (sym k)),
              record { onward = omega arith; within = omega arith },
            )
