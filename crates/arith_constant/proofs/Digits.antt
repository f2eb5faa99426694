-- Laws of digits: what is read of a text at any base, by one record of the reader's state.
use mathlib.Core.Path.{◌≡◌, refl, sym, ◌∙◌, ap}
use mathlib.Core.Bool.{Bool, true, false, ◌&&◌}
use mathlib.Core.List.{◌∷◌}
use Prim.Native.Nat.{ℕ, suc, ◌+◌, ◌-◌, ◌*◌, ◌/◌, ◌≤◌, ◌<◌}
use native.Mathlib.Omega.{arith}
use native.Mathlib.Numerals.{add-one}
use native.Mathlib.Nat.{mul-le-mul_left, mul-one, le-div_iff_mul-le, div-lt_iff_lt-mul}
use lib.Dec.{leb}
use lib.ListN.{length, get_or, drop, drop_of_length-le}
use lib.Seq.{drop-cons}
use borrow.Author.Tests.{le-leb, lt-leb, lt-ltb, le-ltb}
use mathlib.Core.Option.{none, some}
use mathlib.Core.Option as maybe
use Rattle.stages.proofs.Bools.{between_true}
use Rattle.stages.specs.Numbers as numbers
use Rattle.stages.specs.Bytes.{Text, between}
use Rattle.stages.specs.Outcome.{refused, done, choose}
use Rattle.stages.specs.Constants.{digit, in_base}
use Rattle.std.specs.Prelude.{Option, Some, None, ok_or}
use Rattle.text.specs.declared.refusal.Refusal.TheVariants.{Overflow}
use Rattle.arith_constant.specs.Answers.{counted, within}

-- a byte in a range, below it, above it
module _ (lo b hi : ℕ) where
  pub under : b < lo → between lo b hi ≡ false
  under h = rw (lt-leb lo b h)

  pub over_it : hi < b → between lo b hi ≡ false
  over_it h = rw (lt-leb b hi h) (and_no (leb lo b))
    where
      and_no : (x : Bool) → (x && false) ≡ false
      and_no true = refl
      and_no false = refl

module _ (b : ℕ) where
  pub dec : 48 ≤ b → b ≤ 57 → b - 48 ≡ digit b
  unfolding digit choose
  dec h k = rw (between_true 48 b 57 h k)

  pub lower : 97 ≤ b → b ≤ 102 → b - 97 + 10 ≡ digit b
  unfolding digit choose
  lower h k = rw (over_it 48 b 57 (omega arith), between_true 97 b 102 h k)

  pub upper : 65 ≤ b → b ≤ 70 → b - 65 + 10 ≡ digit b
  unfolding digit choose
  upper h k = rw (over_it 48 b 57 (omega arith), under 97 b 102 (omega arith), between_true 65 b 70 h k)

  pub gap1 : b < 48 → 99 ≡ digit b
  unfolding digit choose
  gap1 h = rw (under 48 b 57 h, under 97 b 102 (omega arith), under 65 b 70 (omega arith))

  pub gap2 : 57 < b → b < 65 → 99 ≡ digit b
  unfolding digit choose
  gap2 h k = rw (over_it 48 b 57 h, under 97 b 102 (omega arith), under 65 b 70 k)

  pub gap3 : 70 < b → b < 97 → 99 ≡ digit b
  unfolding digit choose
  gap3 h k = rw (over_it 48 b 57 (omega arith), under 97 b 102 k, over_it 65 b 70 h)

  pub gap4 : 102 < b → 99 ≡ digit b
  unfolding digit choose
  gap4 h = rw (over_it 48 b 57 (omega arith), over_it 97 b 102 h, over_it 65 b 70 (omega arith))

pub ruleset digits = (dec, lower, upper, gap1, gap2, gap3, gap4)

-- a text's first byte is a digit of the base, or not
module _ (base n b : ℕ) (t : Text) where
  base_more : digit b < base → in_base base n (b ∷ t) ≡ in_base base (n * base + digit b) t
  unfolding in_base
  base_more h = rw (lt-ltb (digit b) base h, in_base)

  base_none : base ≤ digit b → in_base base n (b ∷ t) ≡ none
  unfolding in_base
  base_none h = rw (le-ltb (digit b) base h, in_base)

positive : {d base : ℕ} → d < base → 1 ≤ base
positive h = omega arith

-- the number that digits come to, unless it passed the limit
abbrev pub Counts : ℕ → ℕ → Option ℕ → Type 0
Counts limit sum (Some n) = (sum ≡ n) × (n ≤ limit)
Counts limit sum None = limit < sum

-- the state of a reader at place i: what its digits so far come to
pub record Read (base limit : ℕ) (t : Text) (n : Option ℕ) (i : ℕ) : Type 0 where
  pub sum : ℕ
  pub is : in_base base 0 t ≡ in_base base sum (drop i t)
  pub counts : Counts limit sum n

within_none : (limit : ℕ) {o : maybe.Option ℕ} → o ≡ none → refused numbers.not_number ≡ within limit o
unfolding within
within_none limit e = rw e

within_fits : (limit n : ℕ) {o : maybe.Option ℕ} → o ≡ some n → n ≤ limit → done n ≡ within limit o
unfolding within
within_fits limit n e h = rw e (rw (le-leb n limit h, within))

within_over : (limit n : ℕ) {o : maybe.Option ℕ} → o ≡ some n → limit < n → refused numbers.overflow ≡ within limit o
unfolding within
within_over limit n e h = rw e (rw (lt-leb n limit h, within))

-- the test before a digit is taken in
pub too_much : (limit d base acc : ℕ) → d ≤ limit → 0 < base → (limit - d) / base < acc → limit < acc * base + d
too_much limit d base acc h p l = omega (arith, (div-lt_iff_lt-mul p).0 l)

pub room : (limit d base acc : ℕ) → d ≤ limit → 0 < base → acc ≤ (limit - d) / base → acc * base + d ≤ limit
room limit d base acc h p l = omega (arith, (le-div_iff_mul-le p).0 l)

-- what is known of the number behind a further digit, which is within the limit itself
pub counts_more : (base limit sum n d : ℕ) → 0 < base → d ≤ limit → Counts limit sum (Some n) → n ≤ (limit - d) / base
    → Counts limit (sum * base + d) (Some (n * base + d))
counts_more base limit sum n d p h c l = (ap (λ (m : ℕ). m * base + d) c.0, room limit d base n h p l)

pub counts_over : (base limit sum n d : ℕ) → 0 < base → d ≤ limit → Counts limit sum (Some n) → (limit - d) / base < n
    → Counts limit (sum * base + d) None
counts_over base limit sum n d p h c l = rw c.0 (too_much limit d base n h p l)

pub counts_past : (base limit sum d : ℕ) → 0 < base → Counts limit sum None → Counts limit (sum * base + d) None
counts_past base limit sum d p c = omega (arith, mul-one sum, mul-le-mul_left sum p)

module _ {base limit : ℕ} {t : Text} {n : Option ℕ} {i : ℕ} (r : Read base limit t n i) where
  pub read_bad : i < length t → base ≤ digit (get_or t i 0) → refused numbers.not_number ≡ within limit (in_base base 0 t)
  read_bad h k = within_none limit (r.is ∙ ap (in_base base r.sum) (drop-cons t i 0 h) ∙ base_none base r.sum (get_or t i 0) (drop (suc i) t) k)

  pub read_more : {m : Option ℕ} → i < length t → digit (get_or t i 0) < base → Counts limit (r.sum * base + digit (get_or t i 0)) m
      → Read base limit t m (i + 1)
  read_more h k c = record {
    sum = r.sum * base + digit (get_or t i 0);
    is =
        r.is ∙ ap (in_base base r.sum) (drop-cons t i 0 h) ∙ base_more base r.sum (get_or t i 0) (drop (suc i) t) k
        ∙ ap (λ (j : ℕ). in_base base (r.sum * base + digit (get_or t i 0)) (drop j t)) (sym (add-one i));
    counts = c;
  }

read_all : (base limit : ℕ) (t : Text) (n : Option ℕ) (sum : ℕ) → in_base base 0 t ≡ some sum → Counts limit sum n → counted
    (ok_or n Overflow) ≡ within limit (in_base base 0 t)
read_all base limit t (Some n) sum e c = within_fits limit n (e ∙ ap some c.0) c.1
read_all base limit t None sum e c = within_over limit sum e c

pub read_end : {base limit : ℕ} {t : Text} {n : Option ℕ} {i : ℕ} → Read base limit t n i → length t ≤ i → counted
    (ok_or n Overflow) ≡ within limit (in_base base 0 t)
unfolding in_base
read_end {base} {limit} {t} {n} r h = read_all base limit t n r.sum (r.is ∙ ap (in_base base r.sum) (drop_of_length-le t h)) r.counts
