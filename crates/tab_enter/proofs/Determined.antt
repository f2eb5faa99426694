-- The contract of entering determines the answer and every byte of the image's buffer. The work area is scratch: its bytes are left open.
use mathlib.Core.Path.{◌≡◌, sym, ap, ◌∙◌}
use mathlib.Core.Bool.{Bool}
use Rattle.stages.specs.Bytes.{Text}
use Rattle.stages.specs.Images.{image, image_length}
use Rattle.stages.specs.Call.{over}
use Rattle.tab_enter.specs.Records.{texts_by}
use Rattle.tab_enter.specs.Entries.{Step, stop, go, Enters, takes, stops}
use Rattle.std.specs.Prelude.{ℕ, Result, Ok, Err}
use Rattle.tab_escape.specs.declared.Fault.{Fault}

module _ (two : Bool) where
  abbrev answer_of : Step → Result ℕ Fault
  answer_of (stop f) = Err f
  answer_of (go w) = Ok (image_length (texts_by two w))

  abbrev left_of : Step → Text → Text
  left_of (stop f) old = old
  left_of (go w) old = over (image (texts_by two w)) old

module _ {two : Bool} {o : Step} {old : Text} where
  answers : {left : Text} {r : Result ℕ Fault} → Enters two o old left r → (r ≡ answer_of two o) × (left ≡ left_of two o old)
  answers (takes e n k) = (ap Ok n ∙ ap (answer_of two) (sym e), k ∙ ap (λ (x : Step). left_of two x old) (sym e))
  answers (stops e k) = (ap (answer_of two) (sym e), k ∙ ap (λ (x : Step). left_of two x old) (sym e))

  pub enter_line_determined : {left left' : Text} {r s : Result ℕ Fault} → Enters two o old left r → Enters two o old left' s → (r ≡ s) ×
      (left ≡ left')
  enter_line_determined p q = ((answers p).0 ∙ sym (answers q).0, (answers p).1 ∙ sym (answers q).1)
