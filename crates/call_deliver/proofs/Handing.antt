-- What is written, case by case.
use Prim.Native.Nat.{ℕ, min}
use mathlib.Core.Path.{◌≡◌, sym, ap, ◌∙◌}
use mathlib.Core.List.{◌++◌}
use lib.ListN.{length, take, drop}
use Rattle.std.proofs.lemmas.List.{length-take, take_min}
use Rattle.stages.specs.Bytes.{Text}
use Rattle.stages.specs.Outcome.{done_at}
use Rattle.stages.specs.Call.{over, quoting}
use Rattle.quote.specs.Answers.{quoting_of}
use Rattle.std.specs.Prelude.{Ok}

-- an image copied to the front of the output
pub copied_over : (t old left : Text) → left ≡ t ++ drop (length t) old → quoting_of (Ok (length t)) left ≡ quoting old (done_at t)
unfolding quoting over
copied_over t old left e = rw e

-- a message, cut to its buffer
module _ (text old left : Text) {n : ℕ} (e : n ≡ min (length old) (length text)) where
  pub told : left ≡ take n text ++ drop (length (take n text)) old
      → (n ≡ length (take (length old) text)) × (left ≡ over (take (length old) text) old)
  unfolding over
  told c =
      let k : take n text ≡ take (length old) text = ap (λ i. take i text) e ∙ take_min (length old) text in
      (e ∙ sym (length-take (length old) text), c ∙ ap (λ t. t ++ drop (length t) old) k)
