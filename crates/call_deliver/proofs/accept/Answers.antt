-- The image is copied to the front of the variables' buffer, and zeros come behind it where it is shorter than the one before.
use mathlib.Core.Path.{refl}
use Rattle.stages.specs.Call.{over}
use Rattle.text_copy.proofs.Settling.{settled_long, settled_short}
use Rattle.call_deliver.proofs.accept.Goals as goal

pub returns-then-len-vars_used : goal.returns-then-len-vars_used
unfolding over
returns-then-len-vars_used c =
    record {
      is = refl;
      variables =
          settled_short c.args.vars_used c.args.image.now c.args.vars.now _ c.copy_in.ensures c.requires.0 c.requires.1
          _ c.fill_zero.ensures;
    }

pub returns-else-len-vars_used : goal.returns-else-len-vars_used
unfolding over
returns-else-len-vars_used c =
    record {
      is = refl;
      variables = settled_long c.args.vars_used c.args.image.now c.args.vars.now _ c.copy_in.ensures c.if-len-vars_used.false;
    }
