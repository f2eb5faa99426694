-- The cells stand for the elements of the field, so what is written for them is what the field becomes.
use mathlib.Core.Path.{refl}
use Rattle.stages.specs.Images.{held_texts}
use Rattle.split_field.proofs.Placing.{spares_done}
use Rattle.split_field.proofs.Choosing.{settled_class, settled_texts}
use Rattle.split_field.proofs.put_settled.Goals as goal

pub returns-in-Ok : goal.returns-in-Ok
returns-in-Ok c =
    let g : _ = c.in-Ok.ensures in
    let w = c.put_paths_or_own.ensures _ g.shows g.active in
    (settled_texts (held_texts c.args.paths.now) c.requires.listed.1 g.served w, spares_done w)

pub returns-in-Err-BadClass : goal.returns-in-Err-BadClass
returns-in-Err-BadClass c =
    (settled_class (held_texts c.args.paths.now) c.requires.listed.1 (rw c.in-Err-BadClass.field-0-is at c.in-Err-BadClass.ensures), refl)
