-- The four words of a set: what their making and a store of one do to `has`.
use Prim.Native.Nat.{ℕ, zero, suc, ◌-◌, ◌*◌, ◌/◌, ◌%◌, ◌^◌, ◌<◌}
use native.Mathlib.Omega.{arith}
use native.Mathlib.Decide.{ℕ_discrete}
use mathlib.Core.Path.{◌≡◌, refl, sym, ◌∙◌, ap}
use mathlib.Core.Bool.{Bool, false, not, ◌||◌}
use mathlib.Core.List.{List, [], ◌∷◌}
use lib.Bits.{bit_or, bit_xor}
use lib.Dec.{eqb}
use lib.ListN.{length, get_or, set}
use lib.Seq.{get_or-set_same, get_or-set_other}
use borrow.Author.Tests.{eq-eqb, ne_eqb}
use Rattle.pattern_set.specs.Sets.{bit, has}
use Rattle.pattern_set.proofs.Words.{zero_bit, bit_more, bit_turned}

-- four words, each by its place
four_words : (f : ℕ → ℕ) (i : ℕ) → i < 4 → get_or (f 0 ∷ f 1 ∷ f 2 ∷ f 3 ∷ []) i 0 ≡ f i
four_words f zero h = refl
four_words f (suc zero) h = refl
four_words f (suc (suc zero)) h = refl
four_words f (suc (suc (suc zero))) h = refl
four_words f (suc (suc (suc (suc i)))) h = absurd (omega arith)

pub none_has : (k : ℕ) → k < 256 → has (0 ∷ 0 ∷ 0 ∷ 0 ∷ []) k ≡ false
none_has k h = ap (λ (w : ℕ). bit w (k % 64)) (four_words (λ i. 0) (k / 64) (omega arith)) ∙ zero_bit (k % 64)

-- the word of all bits
abbrev pub full : ℕ
full = 2 ^ 64 - 1

module _ (words : List ℕ) where
  pub others_have : (k : ℕ) → k < 256
      → has (bit_xor (get_or words 0 0) full ∷ bit_xor (get_or words 1 0) full ∷ bit_xor (get_or words 2 0) full ∷ bit_xor (get_or words 3 0) full ∷ []) k
      ≡ not (has words k)
  others_have k h =
      ap (λ (w : ℕ). bit w (k % 64)) (four_words (λ i. bit_xor (get_or words i 0) full) (k / 64) (omega arith))
      ∙ bit_turned (get_or words (k / 64) 0) (k % 64) (omega arith)

-- two bytes in one word
same_word : (b k : ℕ) → k / 64 ≡ b / 64 → eqb (b % 64) (k % 64) ≡ eqb b k
same_word b k e = go (ℕ_discrete b k)
  where
    go : Dec (b ≡ k) → eqb (b % 64) (k % 64) ≡ eqb b k
    go (yes f) = eq-eqb (b % 64) (k % 64) (ap (λ (n : ℕ). n % 64) f) ∙ sym (eq-eqb b k f)
    go (no f) = ne_eqb (b % 64) (k % 64) (λ g. f (omega arith)) ∙ sym (ne_eqb b k f)

-- a byte more
pub byte_more : (words : List ℕ) (b k : ℕ) → length words ≡ 4 → b < 256
    → has (set words (b / 64) (bit_or (get_or words (b / 64) 0) (1 * 2 ^ (b % 64) % 2 ^ 64))) k ≡ (eqb b k || has words k)
byte_more words b k four h = go (ℕ_discrete (k / 64) (b / 64))
  where
    go : Dec (k / 64 ≡ b / 64) → has (set words (b / 64) (bit_or (get_or words (b / 64) 0) (1 * 2 ^ (b % 64) % 2 ^ 64))) k ≡ (eqb b k || has words k)
    go (yes e) =
        let more = bit_or (get_or words (b / 64) 0) (1 * 2 ^ (b % 64) % 2 ^ 64) in
        ap (λ (i : ℕ). bit (get_or (set words (b / 64) more) i 0) (k % 64)) e
        ∙ ap (λ (w : ℕ). bit w (k % 64)) (get_or-set_same words (b / 64) more 0 (omega arith))
        ∙ bit_more (get_or words (b / 64) 0) (b % 64) (k % 64) (omega arith)
        ∙ ap (λ (x : Bool). x || bit (get_or words (b / 64) 0) (k % 64)) (same_word b k e)
        ∙ ap (λ (i : ℕ). eqb b k || bit (get_or words i 0) (k % 64)) (sym e)
    go (no f) =
        let more = bit_or (get_or words (b / 64) 0) (1 * 2 ^ (b % 64) % 2 ^ 64) in
        ap (λ (w : ℕ). bit w (k % 64)) (get_or-set_other words (b / 64) (k / 64) more 0 f)
        ∙ sym (ap (λ (x : Bool). x || has words k) (ne_eqb b k (λ e. f (ap (λ (n : ℕ). n / 64) (sym e)))))
