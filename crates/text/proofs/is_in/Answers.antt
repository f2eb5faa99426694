use Rattle.std.proofs.Common.{rules, ◌≡◌, ◌∙◌, nat_eq}
use Rattle.std.specs.List.{list_any}
use Rattle.std.proofs.lemmas.Iterator.{YieldsList-from_slice}
use Rattle.std.proofs.lemmas.Iterator.Search.{any_from_yields_List}
use borrow.Author.Tests.{tests}
use Rattle.text.proofs.Library.{any_is_in}
use Rattle.text.proofs.is_in.Goals as goal

pub returns : goal.returns
returns c =
    let e : c.any.result ≡ list_any (λ y. nat_eq y c.args.b) c.args.set.now =
    any_from_yields_List (λ y. nat_eq y c.args.b) _ _ c.any.result c.any.ensures.ran (YieldsList-from_slice c.args.set.now cc)
    (λ x b q k. search (rules, tests)) in
    e ∙ any_is_in c.args.b c.args.set.now
