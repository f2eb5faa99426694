-- By where the value was found; a removal's plan goes by nothing, the switch being off.
use Rattle.read_mode.specs.Modes.{form_of}
use Rattle.read_brace.specs.Shows.{param_of}
use Rattle.expand_form.proofs.Forms.{found_plan}
use Rattle.expand_text.proofs.plan_at.Goals as goal

pub returns : goal.returns
returns c =
    let a = c.args in
    found_plan (form_of a.named.form) (param_of a.text.now a.named.param) a.vars.now a.params.now a.shouts c.look_up-found.ensures.shows
    c.plan_of-2.ensures
