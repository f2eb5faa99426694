-- The image is copied to the front of the output, or quoted there.
use mathlib.Core.Path.{sym, ap, ◌∙◌}
use Rattle.call_deliver.specs.Hands.{writing_of}
use Rattle.call_check.specs.declared.Job.{Job}
use Rattle.call_deliver.proofs.Handing.{copied_over}
use Rattle.call_deliver.proofs.deliver.Goals as goal

pub returns-in-Expander : goal.returns-in-Expander
returns-in-Expander c =
    copied_over _ _ _ c.copy_in.ensures ∙ ap (λ (j : Job). writing_of j c.args.image.now c.args.out.now)
    (sym c.in-Expander.is)
