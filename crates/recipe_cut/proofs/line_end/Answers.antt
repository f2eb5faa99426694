-- No byte before the first newline is one.
use Rattle.std.proofs.Common.{arith, rules, tests}
use Rattle.std.proofs.lemmas.Grind.{common_steps}
use Rattle.std.proofs.lemmas.Iterator.{YieldsList-from_slice}
use Rattle.std.proofs.lemmas.Iterator.Search.{position_from_yields_List}
use Rattle.recipe_cut.proofs.Taking.{newline, ends_first}
use Rattle.recipe_cut.proofs.line_end.Goals as goal

pub returns : goal.returns
returns c =
    ends_first c.args.block.now c.args.from c.unwrap_or.result c.position.result _ c.requires (grind (arith, common_steps))
    (position_from_yields_List newline _ _ c.position.result c.position.ensures.ran (YieldsList-from_slice _ c.iter.ensures.rest)
    (λ x b q k. search (rules, tests)))
    c.unwrap_or.ensures
