-- What the public contracts allow is determined: two answers that say the same outcome are the same.
use Prim.Native.Nat.{ℕ}
use mathlib.Core.Path.{◌≡◌, sym, ap, ◌∙◌}
use Rattle.std.specs.Prelude.{Option, Some, None, Result, Ok, Err}
use mathlib.Core.Bool.{Bool}
use lib.IntN.{ℤ, neg_ℤ, nat_abs}
use Rattle.stages.specs.Outcome.{Outcome}
use Rattle.stages.specs.Constants.{ranged}
use Rattle.stages.specs.Arith.{Op, apply, is_sign, apply_alone, early}
use Rattle.arith_int.specs.Answers.{numbered, of_sign, known}
use Rattle.text.specs.Refusals.{refusal_number}
use Rattle.text.specs.declared.refusal.Refusal.{Refusal}
use Rattle.text.proofs.Refusals.{refusal_same}

same_number : (r s : Result ℤ Refusal) → numbered r ≡ numbered s → r ≡ s
same_number (Ok y) (Ok z) e = cc
same_number (Ok y) (Err n) e = cc
same_number (Err m) (Ok z) e = cc
same_number (Err m) (Err n) e = ap Err (refusal_same m n (let k : refusal_number m ≡ refusal_number n = cc in k))

pub determined_number : {o : Outcome ℤ} (r s : Result ℤ Refusal) → numbered r ≡ o → numbered s ≡ o → r ≡ s
determined_number r s e f = same_number r s (e ∙ sym f)

same_early : (r s : Option ℤ) → known r ≡ known s → r ≡ s
same_early (Some y) (Some z) e = cc
same_early (Some y) None e = cc
same_early None (Some z) e = cc
same_early None None e = cc

-- each public function

pub negate_determined : (a : ℤ) (r s : Result ℤ Refusal) → numbered r ≡ ranged (neg_ℤ a) → numbered s ≡ ranged (neg_ℤ a) → r ≡ s
negate_determined a r s e f = determined_number r s e f

pub magnitude_determined : (a : ℤ) (r s : ℕ) → r ≡ nat_abs a → s ≡ nat_abs a → r ≡ s
magnitude_determined a r s e f = e ∙ sym f

pub of_magnitude_determined : (below : Bool) (m : ℕ) (r s : Result ℤ Refusal) → numbered r ≡ ranged (of_sign below m) → numbered s ≡ ranged
    (of_sign below m) → r ≡ s
of_magnitude_determined below m r s e f = determined_number r s e f

pub operate_determined : (o : Op) (a b : ℤ) (r s : Result ℤ Refusal) → numbered r ≡ apply o a b → numbered s ≡ apply o a b → r ≡ s
operate_determined o a b r s e f = determined_number r s e f

pub is_sign_determined : (o : Op) (r s : Bool) → r ≡ is_sign o → s ≡ is_sign o → r ≡ s
is_sign_determined o r s e f = e ∙ sym f

pub operate_alone_determined : (o : Op) (a : ℤ) (r s : Result ℤ Refusal) → numbered r ≡ apply_alone o a → numbered s ≡ apply_alone o a → r ≡ s
operate_alone_determined o a r s e f = determined_number r s e f

pub decided_determined : (o : Op) (a : ℤ) (r s : Option ℤ) → known r ≡ early o a → known s ≡ early o a → r ≡ s
decided_determined o a r s e f = same_early r s (e ∙ sym f)
