-- By whether the word is bare, and whether something may be expanded in it.
use Rattle.expand_line.proofs.Bare.{bare_word, still_word}
use Rattle.expand_line.proofs.put_word.Goals as goal

pub returns-in-Some : goal.returns-in-Some
returns-in-Some c =
    bare_word c.args.extent.shouts c.requires c.in-Some.ensures c.put_bare.result c.put_bare.ensures

pub returns-in-Some-copy_still : goal.returns-in-Some-copy_still
returns-in-Some-copy_still c =
    let k = c.in-Some-copy_still.ensures in
    let b = c.put_bare-in-Some-copy_still in
    still_word c.args.extent.shouts c.requires k.is k.some k.few b.result b.ensures
