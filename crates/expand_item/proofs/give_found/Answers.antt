-- What was found is the directory.
use Rattle.std.proofs.Common.{ap}
use Rattle.stages.specs.Expand.{tilde_row}
use Rattle.row.specs.Marks.{mark_of}
use Rattle.expand_item.specs.Homes.{text_at}
use Rattle.expand_item.proofs.Homes.{adds_home}
use Rattle.expand_item.proofs.give_found.Goals as goal

pub returns-in-Some : goal.returns-in-Some
unfolding tilde_row
returns-in-Some c =
    let a = c.args in
    adds_home a.row.units a.on a.login.now (mark_of a.row.mark) c.give_directory.new.area c.give_directory.result
    (ap (text_at a.image.now) c.in-Some.is) c.give_directory.ensures
