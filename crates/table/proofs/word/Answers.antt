-- `table::word` meets its contract: the bytes weigh as the library reads them, the first most.
use Rattle.std.proofs.Common.{◌∙◌}
use Rattle.table.proofs.Words.{eight}
use Rattle.table.proofs.word.Goals as goal

pub returns : goal.returns
returns c = record { is = c.from_be_bytes.ensures ∙ eight c.args.text.now c.requires; bytes = λ k. (c.type_inv.text k).fits }
