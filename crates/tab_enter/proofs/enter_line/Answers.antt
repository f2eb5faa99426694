-- Each kind's line is entered by its own function.
use Rattle.std.proofs.Common.{◌≡◌, true, rules}
use Rattle.table.specs.Kinds.{in_twos}
use Rattle.tab_enter.proofs.Entering.{line_pair, line_path, line_field}
use Rattle.tab_enter.proofs.enter_line.Goals as goal

pub returns-in-Variables : goal.returns-in-Variables
returns-in-Variables c =
    let k : in_twos c.args.kind ≡ true = search rules in
    line_pair c.args.kind c.args.line.now _ k c.enter_pair.ensures

pub returns-in-Paths : goal.returns-in-Paths
returns-in-Paths c = line_path c.args.kind c.args.line.now _ c.in-Paths.is c.enter_path.ensures

pub returns-in-Fields : goal.returns-in-Fields
returns-in-Fields c = line_field c.args.kind c.args.line.now _ c.args.image.now c.in-Fields.is
