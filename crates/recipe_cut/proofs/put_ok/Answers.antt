-- `ok ` before the line and a newline behind it; the line stands there.
use Rattle.std.proofs.Common.{refl}
use Rattle.text.proofs.Filling.{fill_ends}
use Rattle.recipe_cut.proofs.Saying.{ok_ended}
use Rattle.recipe_cut.proofs.put_ok.Goals as goal

pub returns : goal.returns
returns c =
    let p = c.copy_in in
    fill_ends (ok_ended c.args.len c.args.out.now p.new.to c.requires p.ensures) refl
