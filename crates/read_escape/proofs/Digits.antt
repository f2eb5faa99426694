-- A run of digits in its place, and what it says: a byte from 1 to 255, or 11.
use Rattle.std.specs.Prelude.{Result, Ok, Err}
use Prim.Native.Nat.{ℕ, suc, ◌+◌, ◌-◌, ◌≤◌, ◌<◌}
use native.Mathlib.Omega.{arith}
use mathlib.Core.Path.{◌≡◌, refl, sym, ap, ◌∙◌, fun_ext}
use mathlib.Core.Bool.{Bool, true, false, ◌&&◌}
use mathlib.Core.Option.{Option, none, some}
use lib.Dec.{leb}
use lib.ListN.{length, take, drop}
use lib.Seq.{take-take}
use borrow.Author.Tests.{leb-true}
use Rattle.stages.specs.Numbers.{bad_syntax}
use Rattle.stages.specs.Bytes.{Text, part, span}
use Rattle.stages.specs.Outcome.{refused, done}
use Rattle.stages.specs.Constants.{is_digit_in, in_base}
use Rattle.stages.specs.Escapes.{unsaid, says_byte, says_number, digit_run, says_digits}
use Rattle.stages.proofs.Bools.{either, between_true}
use Rattle.stages.proofs.Outcomes.{done_same}
use Rattle.text.specs.Classes.{in_class, Runs}
use Rattle.text.specs.declared.Class.{Class}
use Rattle.text.proofs.Parts.{part_length}
use Rattle.text.specs.declared.refusal.Refusal.{Refusal}
use Rattle.text.specs.declared.refusal.Refusal.TheVariants.{BadSyntax}
use Rattle.arith_constant.specs.Answers.{within}
use Rattle.read_escape.specs.Says.{SaidAt, DigitsOf, AtMost}
use Rattle.read_escape.specs.declared.Escaped.{Escaped}

-- what is counted up to 255 says a byte, or is refused

and_none : (x : Bool) → (x && false) ≡ false
and_none true = refl
and_none false = refl

positive : (v : ℕ) → (v ≡ 0 → ⊥) → 1 ≤ v
positive v z = omega arith

apart : {e v : ℕ} → refused e ≡ done v → ⊥
apart h = let z : ◌≡◌ {A = ℕ} 0 1 = cc in omega arith

refused_says : (o : Option ℕ) (k : ℕ) {e : ℕ} → refused e ≡ within 255 o → says_number o k ≡ unsaid bad_syntax
unfolding says_number within
refused_says none k h = refl
refused_says (some v) k h =
    either (leb v 255) (λ l. absurd (apart (rw (l, within) at h))) (λ l. unfold says_byte in rw (l, and_none (leb 1 v)))

record Numbered (o : Option ℕ) (k v : ℕ) : Type 0 where
  is : says_number o k ≡ says_byte v k
  small : v ≤ 255

done_says : (o : Option ℕ) (k : ℕ) {v : ℕ} → done v ≡ within 255 o → Numbered o k v
unfolding says_number within
done_says none k h = absurd (apart (sym h))
done_says (some w) k {v} h = either (leb w 255) small (λ l. absurd (apart (sym (rw (l, within) at h))))
  where
    small : leb w 255 ≡ true → Numbered (some w) k v
    small l =
        let e : v ≡ w = done_same (rw (l, within) at h) in
        let m : w ≤ 255 = leb-true w 255 l in
        record { is = unfold says_number in ap (λ (x : ℕ). says_byte x k) (sym e); small = omega arith }

-- `digits_at`: the run, and the number that it stands for

module _ (text : Text) (at from : ℕ) (class : Class) (base most : ℕ) (end n : ℕ) (l : at < from) (d : DigitsOf class base) (m : AtMost text from most end)
    (r : Runs (part text from end) 0 class n) where
  same_test : (λ (b : ℕ). in_class class b) ≡ is_digit_in base
  same_test = fun_ext d

  part_long : length (part text from end) ≡ end - from
  part_long = part_length text from end m.onward m.within

  pub run_within : from + n ≤ length text
  run_within = omega (arith, part_long, r.within, m.onward, m.within)

  pub run_is : digit_run base most (drop from text) ≡ part text from (from + n)
  unfolding digit_run
  run_is =
      let k : from + n - from ≡ n - 0 = omega arith in
      let e : span (is_digit_in base) (part text from end) ≡ (part (part text from end) 0 n, drop n (part text from end)) =
      ap (λ (f : ℕ → Bool). span f (part text from end)) (sym same_test) ∙ r.is in
      ap (λ (t : Text). (span (is_digit_in base) t).0) (sym m.is) ∙ ap (λ (p : Text × Text). p.0) e
      ∙ take-take (n - 0) (end - from) (drop from text) (omega (arith, part_long, r.within)) ∙ ap (λ (j : ℕ). take j (drop from text)) (sym k)

  run_length : length (part text from (from + n)) ≡ n
  run_length = let e : from + n - from ≡ n = omega arith in part_length text from (from + n) (omega arith) run_within ∙ e

  -- what it says, by its number
  says_number_lem : says_digits base (from - suc at) (digit_run base most (drop from text)) ≡ says_number (in_base base 0 (part text from (from + n)))
      (from + n - suc at)
  unfolding says_digits
  says_number_lem =
      let e : from - suc at + n ≡ from + n - suc at = omega arith in
      ap (says_digits base (from - suc at)) run_is
      ∙ ap (λ (k : ℕ). says_number (in_base base 0 (part text from (from + n))) (from - suc at + k)) run_length
      ∙ ap (says_number (in_base base 0 (part text from (from + n)))) e

  abbrev Ends : Result Escaped Refusal → Type 0
  Ends r = SaidAt text at r (says_digits base (from - suc at) (digit_run base most (drop from text)))

  pub digits_refused : {e : ℕ} → refused e ≡ within 255 (in_base base 0 (part text from (from + n))) → Ends (Err BadSyntax)
  digits_refused c = says_number_lem ∙ refused_says (in_base base 0 (part text from (from + n))) (from + n - suc at) c

  module _ {v : ℕ} (c : done v ≡ within 255 (in_base base 0 (part text from (from + n)))) where
    number : Numbered (in_base base 0 (part text from (from + n))) (from + n - suc at) v
    number = done_says (in_base base 0 (part text from (from + n))) (from + n - suc at) c

    pub digits_small : v ≤ 255
    digits_small = number.small

    pub digits_zero : v ≡ 0 → Ends (Err BadSyntax)
    unfolding says_byte
    digits_zero z = says_number_lem ∙ number.is ∙ ap (λ (x : ℕ). says_byte x (from + n - suc at)) z

    pub digits_byte : (v ≡ 0 → ⊥) → Ends (Ok (record { byte = v; next = from + n }))
    unfolding says_byte
    digits_byte z = (
      says_number_lem ∙ number.is ∙ rw (between_true 1 v 255 (positive v z) number.small),
      record { onward = omega arith; within = run_within },
    )
