-- The contract of packing fields determines the answer and every byte of the buffer. The work area is scratch: its bytes are left open.
use Rattle.std.specs.Prelude.{ℕ, Result, Ok, Err}
use Rattle.tab_pack.specs.declared.BadLine.{BadLine}
use Rattle.tab_pack.specs.Packings.{bad_line}
use mathlib.Core.Path.{◌≡◌, sym, ap, ◌∙◌}
use mathlib.Core.List.{List}
use Rattle.stages.specs.Bytes.{Text}
use Rattle.stages.specs.Images.{image, image_length}
use Rattle.stages.specs.Call.{over}
use Rattle.tab_list.specs.Listings.{Listing, whole, fault, Lists, packs, fails}

abbrev fields_of : Listing → List Text
fields_of (whole l) = l
fields_of (fault n f l) = l

abbrev answer_of : Listing → Result ℕ BadLine
answer_of (whole l) = Ok (image_length l)
answer_of (fault n f l) = Err (bad_line n f)

module _ {o : Listing} {old : Text} where
  answers : {left : Text} {r : Result ℕ BadLine} → Lists o old left r → (r ≡ answer_of o) × (left ≡ over (image (fields_of o)) old)
  answers (packs {l} e n k) = (ap Ok n ∙ ap answer_of (sym e), k ∙ ap (λ (p : Listing). over (image (fields_of p)) old) (sym e))
  answers (fails {l} e k) = (ap answer_of (sym e), k ∙ ap (λ (p : Listing). over (image (fields_of p)) old) (sym e))

  pub pack_fields_determined : {left left' : Text} {r s : Result ℕ BadLine} → Lists o old left r → Lists o old left' s → (r ≡ s) × (left ≡ left')
  pack_fields_determined p q = ((answers p).0 ∙ sym (answers q).0, (answers p).1 ∙ sym (answers q).1)
