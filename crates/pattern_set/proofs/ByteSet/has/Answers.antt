-- The byte's bit, shifted to the lowest place, is all that is left of its word.
use Rattle.std.proofs.Common.{get_or, ◌/◌, ◌%◌}
use Rattle.pattern_set.proofs.Words.{bit_tested}
use Rattle.pattern_set.proofs.ByteSet.has.Goals as goal

pub returns : goal.returns
returns c = bit_tested (get_or c.args.self.words (c.args.b / 64) 0) (c.args.b % 64)
