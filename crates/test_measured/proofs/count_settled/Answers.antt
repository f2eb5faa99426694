-- The cells stand for the elements of the pattern, whose sets have room in the table.
use Rattle.std.proofs.Common.{◌∙◌, arith}
use Rattle.stages.specs.Images.{held_texts}
use Rattle.test_measured.proofs.Counting.{settled_shows, settled_some, settled_none}
use Rattle.test_measured.proofs.count_settled.Goals as goal

pub returns-in-Ok : goal.returns-in-Ok
returns-in-Ok c =
    let s = c.settle in
    c.count_paths.ensures _ (settled_shows c.args.pattern.now s.new.cells s.new.sets s.ensures c.in-Ok.is)
    ∙ settled_some c.args.pattern.now s.new.cells s.new.sets s.ensures c.in-Ok.is (held_texts c.args.paths.now)

pub returns-in-Err : goal.returns-in-Err
returns-in-Err c =
    let s = c.settle in
    settled_none c.args.pattern.now s.new.cells s.new.sets s.ensures c.in-Err.is (held_texts c.args.paths.now)
    (omega (arith, s.auto.sets, c.requires.paths_value.1, c.requires.cells_len.1))
