-- The contract determines the answer and every byte: two outcomes that it allows for one input are equal.
use native.Mathlib.Omega.{arith}
use mathlib.Core.Path.{◌≡◌, refl, sym, ap, ◌∙◌}
use Rattle.stages.specs.Bytes.{Text}
use Rattle.stages.specs.Call.{Quoting, quoter}
use Rattle.text.proofs.Determined.{one_answer}
use Rattle.quote.specs.Answers.{quoting_of}
use Prim.Native.Nat.{ℕ}
use Rattle.std.specs.Prelude.{Result, Ok, Err}
use Rattle.quote.specs.declared.QuoteError.{QuoteError}
use Rattle.quote.specs.declared.QuoteError.TheVariants.{Malformed, NoRoom}

-- the numbers 0, 22 and 21 tell the answers apart, the length those of acceptance
one_case : (r s : Result ℕ QuoteError) (x y : Text) → quoting_of r x ≡ quoting_of s y → r ≡ s
one_case (Ok n) (Ok m) x y e = ap Ok (ap (λ (q : Quoting). q.out_length) e)
one_case (Err Malformed) (Err Malformed) x y e = refl
one_case (Err NoRoom) (Err NoRoom) x y e = refl
one_case (Ok n) (Err Malformed) x y e = absurd (omega (arith, ap (λ (q : Quoting). q.number) e))
one_case (Ok n) (Err NoRoom) x y e = absurd (omega (arith, ap (λ (q : Quoting). q.number) e))
one_case (Err Malformed) (Ok m) x y e = absurd (omega (arith, ap (λ (q : Quoting). q.number) e))
one_case (Err NoRoom) (Ok m) x y e = absurd (omega (arith, ap (λ (q : Quoting). q.number) e))
one_case (Err Malformed) (Err NoRoom) x y e = absurd (omega (arith, ap (λ (q : Quoting). q.number) e))
one_case (Err NoRoom) (Err Malformed) x y e = absurd (omega (arith, ap (λ (q : Quoting). q.number) e))

left_by : (r : Result ℕ QuoteError) (x : Text) → (quoting_of r x).out ≡ x
left_by (Ok n) x = refl
left_by (Err Malformed) x = refl
left_by (Err NoRoom) x = refl

pub quoted_determined : (q : Quoting) (left left' : Text) (r s : Result ℕ QuoteError) → quoting_of r left ≡ q → quoting_of s left' ≡ q → (r ≡ s) ×
    (left ≡ left')
quoted_determined q left left' r s p t =
    (one_case r s left left' (one_answer p t), sym (left_by r left) ∙ ap (λ (x : Quoting). x.out) (one_answer p t) ∙ left_by s left')

pub quote_fields_determined : (fields out left left' : Text) (r s : Result ℕ QuoteError) → quoting_of r left ≡ quoter fields out → quoting_of s left' ≡
    quoter fields out
    → (r ≡ s) × (left ≡ left')
quote_fields_determined fields out = quoted_determined (quoter fields out)

pub quote_known_determined : (fields out left left' : Text) (r s : Result ℕ QuoteError) → quoting_of r left ≡ quoter fields out → quoting_of s left' ≡
    quoter fields out
    → (r ≡ s) × (left ≡ left')
quote_known_determined = quote_fields_determined
