-- The bytes copied are those that a line so far is cut to.
use Rattle.recipe_cut.proofs.Taking.{keep_puts}
use Rattle.recipe_cut.proofs.keep.Goals as goal

pub returns : goal.returns
returns c =
    let n = c.min-n in
    let p = c.copy_in in
    keep_puts c.args.line.now c.args.bytes.now c.args.kept n.result c.requires.0 c.requires.1 n.ensures p.new.to p.ensures
