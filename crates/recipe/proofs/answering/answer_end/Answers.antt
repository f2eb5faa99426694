-- What is said of the last line is written where there is one.
use Rattle.std.proofs.Common.{take}
use Rattle.recipe.proofs.Running.{last_spoken}
use Rattle.recipe.proofs.answering.answer_end.Goals as goal

pub write_answer-requires : goal.write_answer-requires
write_answer-requires c = last_spoken (take c.args.run.carried.kept c.args.line.now) c.answer_last-spoken.ensures.0 c.if-len-gt0.true
