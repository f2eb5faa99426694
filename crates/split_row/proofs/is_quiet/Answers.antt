-- The whole units of a row, two bytes each, are quiet one by one.
use Rattle.std.proofs.Common.{rules, ◌≡◌, refl}
use Rattle.std.specs.List.{list_all}
use Rattle.std.proofs.lemmas.Iterator.{YieldsList-from_slice}
use Rattle.std.proofs.lemmas.Iterator.Search.{all_from_yields_List}
use borrow.Author.Tests.{tests}
use Rattle.split_row.proofs.Quiet.{is_quiet_chunk, quiet_all}
use Rattle.split_row.proofs.is_quiet.Goals as goal

pub returns : goal.returns
returns c =
    let e : c.all.result ≡ list_all is_quiet_chunk c.as_chunks.result.0.now =
    all_from_yields_List is_quiet_chunk _ _ c.all.result c.all.ensures.ran (YieldsList-from_slice c.as_chunks.result.0.now cc)
    (λ x b q k. search (rules, tests)) in
    quiet_all c.args.row.now c.as_chunks.ensures.front refl e
