-- The contracts determine every answer: two outcomes that a contract allows for one input are equal. No function writes.
use Prim.Native.Nat.{ℕ}
use mathlib.Core.Path.{◌≡◌}
use lib.ListN.{length}
use Rattle.stages.specs.Bytes.{Text, text}
use Rattle.stages.specs.Images.{held, held_texts, lookup, or_empty}
use Rattle.stages.specs.Params.{numbered}
use Rattle.text.proofs.Determined.{one_answer}
use Rattle.table.specs.Places.{Placed, Looked}
use Rattle.std.specs.Prelude.{Option, Result}
use Rattle.table.specs.declared.Record.{Record}
use Rattle.table.specs.declared.Part.{Part}
use Rattle.table_find.specs.Numbered.{Numbers}

pub place_of_determined : (image key : Text) (r s : Result Record ℕ) → Placed image key r → Placed image key s → r ≡ s
place_of_determined image key r s p q = one_answer p.is q.is

pub look_up_determined : (image key : Text) (r s : Option Part) → Looked image key r → Looked image key s → r ≡ s
look_up_determined image key r s p q = one_answer p.is q.is

pub look_up_ifs_determined : (vars : Text) (r s : Option Part) → Looked vars (text "IFS") r → Looked vars (text "IFS") s → r ≡ s
look_up_ifs_determined vars = look_up_determined vars (text "IFS")

pub look_up_home_determined : (vars : Text) (r s : Option Part) → Looked vars (text "HOME") r → Looked vars (text "HOME") s → r ≡ s
look_up_home_determined vars = look_up_determined vars (text "HOME")

pub value_of_determined : (image key r s : Text) → r ≡ or_empty (lookup key (held image)) → s ≡ or_empty (lookup key (held image)) → r ≡ s
value_of_determined image key r s = one_answer

pub find_text_determined : (image : Text) (k : ℕ) (r s : Option Part) → Numbers image k r → Numbers image k s → r ≡ s
find_text_determined image k r s p q = one_answer p.is q.is

pub text_of_determined : (image : Text) (k : ℕ) (r s : Text) → r ≡ or_empty (numbered k (held_texts image)) → s ≡ or_empty (numbered k (held_texts image)) →
    r ≡ s
text_of_determined image k r s = one_answer

pub count_texts_determined : (image : Text) (r s : ℕ) → r ≡ length (held_texts image) → s ≡ length (held_texts image) → r ≡ s
count_texts_determined image r s = one_answer
