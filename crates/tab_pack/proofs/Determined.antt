-- The contract of packing determines the answer and every byte of the image's buffer. The work area is scratch: its bytes are left open.
use Rattle.std.specs.Prelude.{ℕ, Result, Ok, Err}
use mathlib.Core.Bool.{Bool}
use mathlib.Core.Path.{◌≡◌, sym, ap, ◌∙◌}
use lib.ListN.{length}
use Rattle.stages.specs.Bytes.{Text}
use Rattle.stages.specs.Images.{Pairs, image}
use Rattle.stages.specs.Call.{over}
use Rattle.tab_enter.specs.Records.{texts_by}
use Rattle.tab_pack.specs.declared.BadLine.{BadLine}
use Rattle.tab_pack.specs.Packings.{bad_line, Packing, whole, fault, Packs, packs, fails}

abbrev records_of : Packing → Pairs
records_of (whole v) = v
records_of (fault n f v) = v

abbrev answer_of : Bool → Packing → Result ℕ BadLine
answer_of two (whole v) = Ok (length (image (texts_by two v)))
answer_of two (fault n f v) = Err (bad_line n f)

module _ {two : Bool} {o : Packing} {old : Text} where
  answers : {left : Text} {r : Result ℕ BadLine} → Packs two o old left r → (r ≡ answer_of two o) × (left ≡ over (image (texts_by two (records_of o))) old)
  answers (packs {v} e n k) = (ap Ok n ∙ ap (answer_of two) (sym e), k ∙ ap (λ (p : Packing). over (image (texts_by two (records_of p))) old) (sym e))
  answers (fails {v} e k) = (ap (answer_of two) (sym e), k ∙ ap (λ (p : Packing). over (image (texts_by two (records_of p))) old) (sym e))

  pub pack_determined : {left left' : Text} {r s : Result ℕ BadLine} → Packs two o old left r → Packs two o old left' s → (r ≡ s) × (left ≡ left')
  pack_determined p q = ((answers p).0 ∙ sym (answers q).0, (answers p).1 ∙ sym (answers q).1)
