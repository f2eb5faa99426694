-- Laws of constants and of the values of names, by what stands first in a text: one for each way through the code.
use Prim.Native.Nat.{ℕ, ◌-◌, ◌≤◌, ◌<◌, ◌^◌}
use native.Mathlib.Omega.{arith}
use mathlib.Core.Path.{◌≡◌, refl}
use mathlib.Core.Bool.{Bool, true, false}
use mathlib.Core.List.{[], ◌∷◌}
use mathlib.Core.Logic.{◌⊎◌, inl, inr}
use mathlib.Core.Option.{Option, none, some}
use lib.Dec.{leb}
use lib.IntN.{pos}
use lib.ListN.{length, get_or, take, drop, length-drop}
use lib.Seq.{take_all}
use borrow.Author.Tests.{le-leb, leb-false, ne_eqb}
use Rattle.stages.specs.Numbers as numbers
use Rattle.stages.specs.Bytes.{Text, text, is_in}
use Rattle.stages.specs.Outcome.{Outcome, refused, done, choose}
use Rattle.stages.specs.Constants.{in_base, behind_zero, constant, number, ranged, valued, minus_of}
use Rattle.stages.proofs.Bools.{between_true}
use Rattle.arith_int.specs.Answers.{of_sign}
use Rattle.arith_int.proofs.Ranges.{overflow, sign_mag}
use Rattle.arith_constant.specs.Answers.{within}
use Rattle.arith_constant.proofs.Digits.{under, over_it}

-- the part behind a place, as it is lent
pub lent : (k : ℕ) (t : Text) → take (length t - k) (drop k t) ≡ drop k t
lent k t = take_all (length t - k) (drop k t) (omega (arith, length-drop k t))

-- behind a first `0`

pub zero_alone : (limit : ℕ) (t : Text) → length t ≡ 0 → done 0 ≡ within limit (behind_zero t)
unfolding behind_zero within
zero_alone limit [] e = rw (le-leb 0 limit (omega arith), within)
zero_alone limit (b ∷ t) e = absurd (omega arith)

abbrev HexMark : ℕ → Type 0
HexMark b = (b ≡ 120) ⊎ (b ≡ 88)

is_mark_lem : (b : ℕ) → HexMark b → is_in b (text "xX") ≡ true
is_mark_lem b (inl e) = rw e
is_mark_lem b (inr e) = rw e

no_mark : (b : ℕ) → (b ≡ 120 → ⊥) → (b ≡ 88 → ⊥) → is_in b (text "xX") ≡ false
no_mark b h k = rw (ne_eqb b 120 h, ne_eqb b 88 k)

pub mark_alone : (limit : ℕ) (t : Text) → HexMark (get_or t 0 0) → length t ≡ 1 → refused numbers.not_number ≡ within limit (behind_zero t)
unfolding behind_zero within
mark_alone limit [] m e = absurd (omega arith)
mark_alone limit (b ∷ []) m e = rw (is_mark_lem b m, behind_zero)
mark_alone limit (b ∷ c ∷ t) m e = absurd (omega arith)

pub hexadecimal : (t : Text) → HexMark (get_or t 0 0) → (length t ≡ 0 → ⊥) → (length t ≡ 1 → ⊥) → in_base 16 0 (drop 1 t) ≡ behind_zero t
unfolding behind_zero
hexadecimal [] m h k = absurd (h refl)
hexadecimal (b ∷ []) m h k = absurd (k refl)
hexadecimal (b ∷ c ∷ t) m h k = rw (is_mark_lem b m, behind_zero)

pub octal : (t : Text) → (length t ≡ 0 → ⊥) → (get_or t 0 0 ≡ 120 → ⊥) → (get_or t 0 0 ≡ 88 → ⊥) → in_base 8 0 t ≡ behind_zero t
unfolding behind_zero
octal [] n h k = absurd (n refl)
octal (b ∷ []) n h k = rw (no_mark b h k, behind_zero)
octal (b ∷ c ∷ t) n h k = rw (no_mark b h k, behind_zero)

-- a constant

pub empty_constant : (limit : ℕ) (t : Text) → length t ≡ 0 → refused numbers.not_number ≡ within limit (constant t)
unfolding constant within
empty_constant limit [] e = refl
empty_constant limit (b ∷ t) e = absurd (omega arith)

pub zero_first : (t : Text) → (length t ≡ 0 → ⊥) → get_or t 0 0 ≡ 48 → behind_zero (drop 1 t) ≡ constant t
unfolding constant choose
zero_first [] n e = absurd (n refl)
zero_first (b ∷ t) n e = rw e

pub digit_first : (t : Text) → (length t ≡ 0 → ⊥) → (get_or t 0 0 ≡ 48 → ⊥) → 49 ≤ get_or t 0 0 → get_or t 0 0 ≤ 57 → in_base 10 0
    t ≡ constant t
unfolding constant choose
digit_first [] n z h k = absurd (n refl)
digit_first (b ∷ t) n z h k = rw (ne_eqb b 48 z, between_true 49 b 57 h k)

pub other_first : (limit : ℕ) (t : Text) → (length t ≡ 0 → ⊥) → (get_or t 0 0 ≡ 48 → ⊥) → (get_or t 0 0 < 49) ⊎ (57 < get_or t 0 0)
    → refused numbers.not_number ≡ within limit (constant t)
unfolding constant choose within
other_first limit [] n z o = absurd (n refl)
other_first limit (b ∷ t) n z (inl h) = rw (ne_eqb b 48 z, under 49 b 57 h)
other_first limit (b ∷ t) n z (inr h) = rw (ne_eqb b 48 z, over_it 49 b 57 h)

-- a constant with its sign: one that passed 2^63 is out of range with either

module _ (below : Bool) where
  pub sign_refused : (o : Option ℕ) (e : ℕ) → refused e ≡ within (2 ^ 63) o → refused e ≡ number (of_sign below) o
  unfolding number within
  sign_refused none e h = cc
  sign_refused (some n) e h = go (leb n (2 ^ 63)) refl
    where
      go : (x : Bool) → leb n (2 ^ 63) ≡ x → refused e ≡ ranged (of_sign below n)
      go true q = absurd (let w : refused e ≡ done n = rw (q, within) at h in let z : ◌≡◌ {A = ℕ} 0 1 = cc in omega arith)
      go false q =
          let w : ◌≡◌ {A = Outcome ℕ} (refused e) (refused numbers.overflow) = rw (q, within) at h in
          let s : e ≡ numbers.overflow = cc in
          rw s (overflow (of_sign below n) (sign_mag below n (leb-false n (2 ^ 63) q)))

  pub sign_given : (o : Option ℕ) (n : ℕ) → done n ≡ within (2 ^ 63) o → ranged (of_sign below n) ≡ number (of_sign below) o
  unfolding number within
  sign_given none n h = absurd (let z : ◌≡◌ {A = ℕ} 0 1 = cc in omega arith)
  sign_given (some m) n h = go (leb m (2 ^ 63)) refl
    where
      go : (x : Bool) → leb m (2 ^ 63) ≡ x → ranged (of_sign below n) ≡ ranged (of_sign below m)
      go true q = let w : done n ≡ done m = rw (q, within) at h in let s : n ≡ m = cc in rw s
      go false q = absurd (let w : done n ≡ refused numbers.overflow = rw (q, within) at h in let z : ◌≡◌ {A = ℕ} 0 1 = cc in omega arith)

-- the value of a name

pub empty_value : (t : Text) → length t ≡ 0 → done (pos 0) ≡ valued t
unfolding valued
empty_value [] e = refl
empty_value (b ∷ t) e = absurd (omega arith)

pub minus_first : (t : Text) → (length t ≡ 0 → ⊥) → get_or t 0 0 ≡ 45 → number minus_of (constant (drop 1 t)) ≡ valued t
unfolding valued choose
minus_first [] n e = absurd (n refl)
minus_first (b ∷ t) n e = rw e

pub plus_first : (t : Text) → (length t ≡ 0 → ⊥) → get_or t 0 0 ≡ 43 → number pos (constant (drop 1 t)) ≡ valued t
unfolding valued choose
plus_first [] n e = absurd (n refl)
plus_first (b ∷ t) n e = rw e

pub no_sign_first : (t : Text) → (length t ≡ 0 → ⊥) → (get_or t 0 0 ≡ 45 → ⊥) → (get_or t 0 0 ≡ 43 → ⊥) → number pos
    (constant t) ≡ valued t
unfolding valued choose
no_sign_first [] n h k = absurd (n refl)
no_sign_first (b ∷ t) n h k = rw (ne_eqb b 45 h, ne_eqb b 43 k)
