-- The contracts determine the answer and every byte of the buffer.
use Rattle.std.specs.Prelude.{Result, Ok, Err}
use Prim.Native.Nat.{ℕ}
use mathlib.Core.Path.{◌≡◌, sym, ap, ◌∙◌}
use lib.ListN.{length}
use Rattle.stages.specs.Bytes.{Text}
use Rattle.stages.specs.Call.{over}
use Rattle.tab_escape.specs.declared.Fault.{Fault}
use Rattle.tab_escape.specs.Escapes.{up_to, Reading, bad, good, Reads, reads, fails}

pub find_determined : (b : ℕ) (text : Text) (r s : ℕ) → r ≡ up_to b text → s ≡ up_to b text → r ≡ s
find_determined b text r s p q = p ∙ sym q

abbrev answer_of : Reading → Result ℕ Fault
answer_of (bad f t) = Err f
answer_of (good t) = Ok (length t)

abbrev text_of : Reading → Text
text_of (bad f t) = t
text_of (good t) = t

module _ {o : Reading} {old : Text} where
  answers : {left : Text} {r : Result ℕ Fault} → Reads o old left r → (r ≡ answer_of o) × (left ≡ over (text_of o) old)
  answers (reads e z p) = (ap Ok p.counts ∙ ap answer_of (sym e), p.leaves ∙ ap (λ (x : Reading). over (text_of x) old) (sym e))
  answers (fails e k) = (ap answer_of (sym e), k ∙ ap (λ (x : Reading). over (text_of x) old) (sym e))

  pub read_text_determined : {left left' : Text} {r s : Result ℕ Fault} → Reads o old left r → Reads o old left' s → (r ≡ s) × (left ≡ left')
  read_text_determined p q = ((answers p).0 ∙ sym (answers q).0, (answers p).1 ∙ sym (answers q).1)
