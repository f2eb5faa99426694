-- The contracts determine every answer: two outcomes that a contract allows for one input are equal. No function writes.
use Prim.Native.Nat.{ℕ}
use mathlib.Core.Path.{◌≡◌}
use mathlib.Core.Bool.{Bool}
use Rattle.stages.specs.Bytes.{Text}
use Rattle.stages.specs.Images.{held, held_texts, or_empty}
use Rattle.stages.specs.Items.{number_of}
use Rattle.stages.specs.Syntax.{Param}
use Rattle.text.proofs.Determined.{one_answer}
use Rattle.table.specs.declared.Part.{Part}
use Rattle.std.specs.Prelude.{Option as Perhaps}
use Rattle.expand_param.specs.Holding.{capped, holding_in, is_shout, Finds}

pub number_of_determined : (digits : Text) (r s : ℕ) → r ≡ capped (number_of 0 digits) → s ≡ capped (number_of 0 digits) → r ≡ s
number_of_determined digits r s = one_answer

pub look_up_determined : (vars params : Text) (x : Param) (r s : Perhaps Part) → Finds vars params x r → Finds vars params x s → r ≡ s
look_up_determined vars params x r s p q = one_answer p.is q.is

pub must_shout_determined : (vars params : Text) (x : Param) (shouts r s : Bool) → r ≡ is_shout shouts (holding_in (held_texts params) (held vars) x)
    → s ≡ is_shout shouts (holding_in (held_texts params) (held vars) x) → r ≡ s
must_shout_determined vars params x shouts r s = one_answer

pub value_of_determined : (vars params : Text) (x : Param) (r s : Text) → r ≡ or_empty (holding_in (held_texts params) (held vars) x)
    → s ≡ or_empty (holding_in (held_texts params) (held vars) x) → r ≡ s
value_of_determined vars params x r s = one_answer
