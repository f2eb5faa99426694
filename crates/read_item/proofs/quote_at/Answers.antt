-- Whether the text is bare decides.
use mathlib.Core.Path.{sym, ◌∙◌}
use Rattle.read_item.proofs.Dollars.{quote_opens, quote_literal}
use Rattle.read_item.proofs.quote_at.Goals as goal

pub returns-then-is_bare_text : goal.returns-then-is_bare_text
returns-then-is_bare_text c =
    quote_opens c.args.text.now c.args.from c.requires (sym c.is_bare_text.ensures ∙ c.if-is_bare_text.true)

pub returns : goal.returns
returns c =
    quote_literal c.args.text.now c.args.from c.requires (sym c.is_bare_text.ensures ∙ c.if-is_bare_text.false)
