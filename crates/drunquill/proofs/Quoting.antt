-- The quoter's answer has the values of what quoting says.
use Prim.Native.Nat.{ℕ}
use mathlib.Core.Path.{◌≡◌, refl, subst}
use Rattle.std.specs.Prelude.{Ok, Err}
use Rattle.stages.specs.Numbers.{accepted}
use Rattle.stages.specs.Bytes.{Text}
use Rattle.stages.specs.Call.{Quoting}
use Rattle.text.specs.Refusals.{refusal_number}
use Rattle.quote.specs.Answers.{refusal_of, quoting_of}
use Rattle.quote.specs.declared.QuoteError.{QuoteError}
use Rattle.quote.specs.declared.QuoteError.TheVariants.{Malformed, NoRoom}
use Rattle.drunquill.specs.Hands.{Quotes}
use Rattle.drunquill.specs.declared.QuoteAnswer.{QuoteAnswer}

pub quotes_line : (q : Quoting) (n : ℕ) (left : Text) → quoting_of (Ok n) left ≡ q
    → Quotes q (record { number = accepted; place = 0; out_len = n }) left
quotes_line q n left e =
    subst (λ (x : Quoting). Quotes x (record { number = accepted; place = 0; out_len = n }) left) e
    (record { number = refl; place = refl; out_length = refl; output = refl })

pub quotes_none : (q : Quoting) (e : QuoteError) (left : Text) → quoting_of (Err e) left ≡ q
    → Quotes q (record { number = refusal_number (refusal_of e); place = 0; out_len = 0 }) left
quotes_none q e left h = subst (λ (x : Quoting). Quotes x (record { number = refusal_number (refusal_of e); place = 0; out_len = 0 }) left) h (same e)
  where
    same : (e : QuoteError) → Quotes (quoting_of (Err e) left) (record { number = refusal_number (refusal_of e); place = 0; out_len = 0 }) left
    same Malformed = record { number = refl; place = refl; out_length = refl; output = refl }
    same NoRoom = record { number = refl; place = refl; out_length = refl; output = refl }
