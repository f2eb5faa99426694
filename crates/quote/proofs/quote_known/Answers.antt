-- `quote::quote_known` meets its contract: the room is the stage's test, and `put_line` writes the line.
use Rattle.std.proofs.Common.{sym, ◌∙◌}
use borrow.Author.Tests.{not-false}
use Rattle.quote.proofs.Answers.{wrote}
use Rattle.quote.proofs.quote_known.Goals as goal

pub returns : goal.returns
returns c =
    wrote c.args.fields.now c.args.out.now c.requires c.put_line.new.out c.put_line.result (sym c.has_room.ensures ∙ not-false _ c.if-not-has_room.false-raw)
    c.put_line.ensures
