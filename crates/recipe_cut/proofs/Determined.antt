-- The contracts determine every answer and every byte: two outcomes that a contract allows for one input are equal.
use Prim.Native.Nat.{ℕ}
use mathlib.Core.Path.{◌≡◌, sym, ap}
use mathlib.Core.Bool.{Bool}
use Rattle.stages.specs.Bytes.{Text}
use Rattle.stages.specs.Program.{next_number}
use Rattle.stages.proofs.Bools.{clash, some_same}
use Rattle.text.proofs.Determined.{one_answer}
use Rattle.text.specs.Putting.{Puts}
use Rattle.text.proofs.Filling.{puts_once}
use Rattle.recipe_cut.specs.Lines.{kept_in, next_in, Takes, has_line}
use Rattle.recipe_cut.specs.Said.{said_by, line_in, told_by}
use Rattle.recipe_cut.specs.declared.Taken.{Taken}
use Rattle.recipe_cut.specs.declared.Taken.TheVariants.{Ended, Open}

one_taken : (r s : Taken) → kept_in r ≡ kept_in s → next_in r ≡ next_in s → r ≡ s
one_taken (Ended k n) (Ended k' n') e f = let g : n ≡ n' = some_same f in rw (e, g)
one_taken (Ended k n) (Open k') e f = absurd (clash (sym f))
one_taken (Open k) (Ended k' n') e f = absurd (clash f)
one_taken (Open k) (Open k') e f = ap Open e

pub take_in_determined : (line block left left' : Text) (kept from : ℕ) (r s : Taken) → Takes line kept block from left r → Takes line kept
    block from left' s
    → (r ≡ s) × (left ≡ left')
take_in_determined line block left left' kept from r s w w' =
    let p : (kept_in r ≡ kept_in s) × (left ≡ left') = puts_once w.puts w'.puts in
    (one_taken r s p.0 (one_answer w.goes w'.goes), p.1)

pub is_last_line_determined : (line : Text) (r s : Bool) → r ≡ has_line line → s ≡ has_line line → r ≡ s
is_last_line_determined line r s = one_answer

pub put_answer_determined : (number place len : ℕ) (out left left' : Text) (r s : ℕ) → Puts (said_by number place (line_in len out)) out left r
    → Puts (said_by number place (line_in len out)) out left' s → (r ≡ s) × (left ≡ left')
put_answer_determined number place len out left left' r s = puts_once

pub next_number_determined : (n r s : ℕ) → r ≡ next_number n → s ≡ next_number n → r ≡ s
next_number_determined n r s = one_answer

pub put_told_determined : (number line : ℕ) (message out left left' : Text) (r s : ℕ) → Puts (told_by number line message) out left r
    → Puts (told_by number line message) out left' s → (r ≡ s) × (left ≡ left')
put_told_determined number line message out left left' r s = puts_once
