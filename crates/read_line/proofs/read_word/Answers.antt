-- A word in which nothing is expanded is read at once.
use Rattle.stages.specs.Numbers.{depth_limit}
use Rattle.read_still.proofs.Reading.{end_reads}
use Rattle.read_line.proofs.read_word.Goals as goal

pub returns-in-Some : goal.returns-in-Some
returns-in-Some c =
    let r = end_reads depth_limit c.args.line.now c.args.place c.in-Some.end c.in-Some.ensures in
    let o = c.in-Some.ensures in
    record { tree = r.reads.tree; is = r.reads.is; onward = o.onward; within = r.within }
