-- What the contract of `put_word_fields` allows for one input is one answer, and where it accepts, one output. Its exceptions: after a refusal the
-- bytes of the output from `used` on, and the spent row in every case.
use Prim.Native.Nat.{ℕ}
use mathlib.Core.Path.{◌≡◌}
use mathlib.Core.List.{List}
use Rattle.stages.specs.Bytes.{Text}
use Rattle.stages.specs.Outcome.{Outcome}
use Rattle.split_field.specs.Answers.{Puts}
use Rattle.std.specs.Prelude.{Result, Ok}
use Rattle.split_field.specs.declared.WriteError.{WriteError}
use Rattle.split_field.proofs.Determined.{says_determined, says_output}

module _ (o : Outcome (List Text)) (used : ℕ) (old left left' : Text) (r s : Result ℕ WriteError) (p : Puts o used old left r)
    (q : Puts o used old left' s) where
  pub put_word_fields_determined : r ≡ s
  put_word_fields_determined = says_determined p.says q.says

  -- every byte of the output where it is accepted
  pub put_word_fields_output : {n : ℕ} → r ≡ Ok n → left ≡ left'
  put_word_fields_output = says_output p.says q.says
