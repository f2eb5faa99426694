-- Four words without a bit have no byte.
use Rattle.pattern_set.proofs.Sets.{none_has}
use Rattle.pattern_set.proofs.none.Goals as goal

pub returns : goal.returns
returns c = none_has
