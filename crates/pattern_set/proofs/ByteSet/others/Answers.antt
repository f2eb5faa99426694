-- Each word is turned by itself, so each of its bits is.
use Rattle.pattern_set.proofs.Sets.{others_have}
use Rattle.pattern_set.proofs.ByteSet.others.Goals as goal

pub returns : goal.returns
returns c = others_have c.args.self.words
