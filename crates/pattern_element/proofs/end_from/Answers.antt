-- Each entry of the table is one answer.
use Rattle.std.proofs.Common.{◌<◌, length, drop, true, arith}
use Rattle.stages.specs.Pattern.{find}
use Rattle.pattern_unit.specs.Widths.{signs_by}
use Rattle.pattern_element.proofs.Searches.{met_refusing, met_none}
use Rattle.pattern_element.proofs.Filling.{served_small}
use Rattle.pattern_element.proofs.end_from.Goals as goal

pub returns-then-end : goal.returns-then-end
returns-then-end c =
    let a = c.args in
    let some : 0 < length a.ends.now = grind arith in
    met_refusing a.width a.from (find a.path true 0 (signs_by a.width (drop a.from a.pattern.now)))
    (served_small c.requires.served some c.requires.from_in_bounds) c.end_at-end.ensures c.if-end.true

pub returns-then-end-2 : goal.returns-then-end-2
returns-then-end-2 c =
    let a = c.args in
    let some : 0 < length a.ends.now = grind arith in
    met_none a.width a.from (find a.path true 0 (signs_by a.width (drop a.from a.pattern.now)))
    (served_small c.requires.served some c.requires.from_in_bounds) c.end_at-end.ensures c.if-end-2.true
