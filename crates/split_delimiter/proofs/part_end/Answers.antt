-- The units before the first break mark, or all whole units, are the part.
use Rattle.std.proofs.Common.{rules, ◌≡◌, ◌∙◌, ap, length}
use Rattle.std.specs.List.{position}
use Rattle.std.proofs.Common.{drop, length-drop, refl, arith}
use Rattle.std.proofs.lemmas.List.{take_all}
use Rattle.std.specs.Option.{unwrap_or}
use Rattle.std.proofs.lemmas.Iterator.{YieldsList-from_slice}
use Rattle.std.proofs.lemmas.Iterator.Search.{position_from_yields_List}
use borrow.Author.Tests.{tests}
use Rattle.split_delimiter.proofs.Parts.{is_break, part_here}
use Rattle.split_delimiter.proofs.part_end.Goals as goal

pub returns : goal.returns
returns c =
    let e : c.position-passed.result ≡ position is_break c.as_chunks.result.0.now =
    position_from_yields_List is_break _ _ c.position-passed.result c.position-passed.ensures.ran
    (YieldsList-from_slice c.as_chunks.result.0.now cc) (λ x b q k. search (rules, tests)) in
    part_here _ _ c.requires c.as_chunks.ensures.front refl (take_all _ (drop c.args.at c.args.row.now) (omega (arith, length-drop c.args.at c.args.row.now)))
    (c.unwrap_or.ensures ∙ ap (λ o. unwrap_or o (length c.as_chunks.result.0.now)) e)
