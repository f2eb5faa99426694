-- What the public contracts allow is determined: two answers that say the same outcome are the same.
use Prim.Native.Nat.{ℕ}
use mathlib.Core.Path.{◌≡◌, ap}
use Rattle.std.specs.Prelude.{Result, Ok, Err}
use Rattle.text.specs.Refusals.{refusal_number}
use Rattle.text.specs.declared.refusal.Refusal.{Refusal}
use Rattle.text.proofs.Refusals.{refusal_same}
use lib.IntN.{ℤ}
use Rattle.stages.specs.Bytes.{Text}
use Rattle.stages.specs.Constants.{in_base, constant, number, valued}
use Rattle.text.proofs.Determined.{one_answer}
use Rattle.arith_int.specs.Answers.{numbered}
use Rattle.arith_int.proofs.Determined.{determined_number}
use Rattle.arith_constant.specs.Answers.{counted, within}

pub number_of_determined : (sign : ℕ → ℤ) (t : Text) (r s : Result ℤ Refusal) → numbered r ≡ number sign (constant t) → numbered s ≡ number sign
    (constant t) → r ≡ s
number_of_determined sign t r s e f = determined_number r s e f

pub value_of_determined : (t : Text) (r s : Result ℤ Refusal) → numbered r ≡ valued t → numbered s ≡ valued t → r ≡ s
value_of_determined t r s e f = determined_number r s e f

same_count : (r s : Result ℕ Refusal) → counted r ≡ counted s → r ≡ s
same_count (Ok n) (Ok m) e = cc
same_count (Ok n) (Err m) e = cc
same_count (Err n) (Ok m) e = cc
same_count (Err n) (Err m) e = ap Err (refusal_same n m (let k : refusal_number n ≡ refusal_number m = cc in k))

pub in_base_determined : (base limit : ℕ) (t : Text) (r s : Result ℕ Refusal) → counted r ≡ within limit (in_base base 0 t) → counted s ≡ within limit
    (in_base base 0 t)
    → r ≡ s
in_base_determined base limit t r s e f = same_count r s (one_answer e f)
