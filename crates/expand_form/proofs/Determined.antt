-- The contracts determine every answer: two outcomes that a contract allows for one input are equal.
use mathlib.Core.Path.{◌≡◌, refl, sym, ◌∙◌}
use mathlib.Core.Bool.{Bool}
use Rattle.stages.specs.Syntax.{Form, unescaped}
use Rattle.text.proofs.Determined.{one_answer}
use Rattle.row.specs.Marks.{mark_of}
use Rattle.row.specs.declared.Mark.{Mark}
use Rattle.row.proofs.Determined.{literal_mark_determined}
use Rattle.std.specs.Prelude.{Option, Result}
use Rattle.text.specs.declared.refusal.Refusal.{Refusal}
use Rattle.table.specs.declared.Part.{Part}
use Rattle.expand_param.specs.Holding.{missing_in}
use Rattle.expand_form.specs.Plans.{plan_of, operand_mark}
use Rattle.expand_form.specs.declared.Plan.{Plan}
use Rattle.expand_form.specs.declared.Used.{Used}

pub plan_of_determined : (f : Form) (found : Option Part) (shouts : Bool) (r s : Result Plan Refusal) → r ≡ plan_of f (missing_in found) shouts →
    s ≡ plan_of f (missing_in found) shouts
    → r ≡ s
plan_of_determined f found shouts r s = one_answer

pub operand_mark_determined : (u : Used) (m r s : Mark) → mark_of r ≡ operand_mark u (mark_of m) → mark_of s ≡ operand_mark u (mark_of m) → r ≡ s
operand_mark_determined u m r s e f = literal_mark_determined unescaped r r s refl (f ∙ sym e)
