-- A removal's plan is the same whether its value is missing or not, the switch being off.
use mathlib.Core.Path.{◌≡◌, sym, ◌∙◌}
use mathlib.Core.Bool.{Bool, true, false}
use Rattle.stages.specs.Syntax.{Colon, suffix, prefix}
use Rattle.stages.proofs.Bools.{no}
use Rattle.text.specs.Cases.{reach_of}
use Rattle.read_mode.specs.Modes.{form_of}
use Rattle.read_mode.specs.declared.Form.{Form}
use Rattle.read_mode.specs.declared.Form.TheVariants as form
use Rattle.expand_form.specs.Plans.{plan_of}
use Rattle.std.specs.Prelude.{Result}
use Rattle.text.specs.declared.refusal.Refusal.{Refusal}
use Rattle.expand_form.specs.declared.Plan.{Plan}
use Rattle.expand_form.proofs.Forms.{removal_plans}
use Rattle.expand_text.specs.Items.{is_removal}

alike : (f : Form) (s : Bool) (g h : Colon → Bool) → is_removal f ≡ true → s ≡ false → plan_of (form_of f) g s ≡ plan_of (form_of f) h s
alike f true g h r e = absurd (no (sym e))
alike (form.Minus c) false g h r e = absurd (no r)
alike (form.Equals c) false g h r e = absurd (no r)
alike (form.Query c) false g h r e = absurd (no r)
alike (form.Plus c) false g h r e = absurd (no r)
alike (form.Suffix long) false g h r e = removal_plans suffix (reach_of long) g h
alike (form.Prefix long) false g h r e = removal_plans prefix (reach_of long) g h

pub unasked_plan : (f : Form) (s : Bool) (g h : Colon → Bool) {own : Result Plan Refusal} → is_removal f ≡ true → s ≡ false → own ≡ plan_of (form_of f) g s
    → own ≡ plan_of (form_of f) h s
unasked_plan f s g h r e q = q ∙ alike f s g h r e
