-- What reading refuses, else what working out did.
use mathlib.Core.Bool.{false}
use lib.ListN.{set}
use Rattle.arith_eval.specs.Climbs.{alone}
use Rattle.arith_eval.proofs.Texts.{read_refused, read_done, none_held}
use Rattle.arith_eval.proofs.refusal.Goals as goal

pub once-read-requires : goal.once-read-requires
once-read-requires c = (c.requires.0, none_held c.args.vars.now c.requires.1, c.requires.2)

pub returns-in-Err : goal.returns-in-Err
returns-in-Err c = read_refused (alone 1 false) c.args.text.now (set c.args.vars.now 0 1) 1 c.once-read.new.vars c.args.worked c.in-Err.e c.in-Err.ensures

pub returns-in-Ok : goal.returns-in-Ok
returns-in-Ok c = read_done (alone 1 false) c.args.text.now (set c.args.vars.now 0 1) 1 c.once-read.new.vars c.args.worked c.in-Ok.field-0 c.in-Ok.ensures
