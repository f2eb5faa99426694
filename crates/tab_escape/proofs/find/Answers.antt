-- The place of the first such byte, or the length where there is none.
use Rattle.std.proofs.Common.{rules, tests}
use Rattle.std.proofs.lemmas.Iterator.{YieldsList-from_slice}
use Rattle.std.proofs.lemmas.Iterator.Search.{position_from_yields_List}
use lib.Dec.{eqb}
use Rattle.tab_escape.proofs.Finding.{up_to_first}
use Rattle.tab_escape.proofs.find.Goals as goal

pub returns : goal.returns
returns c =
    up_to_first c.args.b c.args.text.now
    (position_from_yields_List (λ x. eqb x c.args.b) _ _ c.position.result c.position.ensures.ran (YieldsList-from_slice _ c.iter.ensures.rest)
    (λ x b q k. search (rules, tests)))
    c.unwrap_or.ensures
