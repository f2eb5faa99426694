-- The sort of the byte decides.
use mathlib.Core.Path.{ap, ◌∙◌}
use native.Mathlib.Omega.{arith}
use Rattle.read_mode.specs.Modes.{ends_line}
use Rattle.read_brace.proofs.Showing.{shows_stop}
use Rattle.read_item.proofs.Class.{seen, item_end, item_backquote, closes_few, item_closes, item_operator, item_quotes, item_quotes2}
use Rattle.read_item.proofs.Class.{item_backslash, item_escape, item_dollar, item_tilde, item_bad, item_literal, opening_few, item_opening}
use Rattle.read_item.proofs.Class.{closing_few, item_closing}
use Rattle.read_item.proofs.item_at.Goals as goal

pub returns-then-may_end : goal.returns-then-may_end
returns-then-may_end c =
    let a = c.args in
    shows_stop a.text.now a.from.at a.from.depth a.from.at 0 (omega arith) c.requires.0
    (item_end a.text.now a.from c.if-at-text.true (c.may_end.ensures ∙ ap ends_line c.if-may_end.true))

pub returns-then-at-text : goal.returns-then-at-text
returns-then-at-text c =
    let a = c.args in
    item_end a.text.now a.from c.if-at-text.true (c.may_end.ensures ∙ ap ends_line c.if-may_end.false)

pub overflow_add-result : goal.overflow_add-result
overflow_add-result c =
    let a = c.args in
    omega (arith, closes_few (seen a.text.now a.from _ c.if-at-text.false c.sort_at-sort.ensures) c.in-Closes.is, c.if-at-text.false)

pub overflow_add-result-in-Opening : goal.overflow_add-result-in-Opening
overflow_add-result-in-Opening c =
    let a = c.args in
    omega (arith, opening_few (seen a.text.now a.from _ c.if-at-text.false c.sort_at-sort.ensures) c.requires.1 c.in-Opening.is, c.if-at-text.false)

pub closed_at-requires : goal.closed_at-requires
closed_at-requires c =
    let a = c.args in
    (omega (arith, c.if-at-text.false), closing_few (seen a.text.now a.from _ c.if-at-text.false c.sort_at-sort.ensures) c.requires.1 c.in-Closing.is)

pub returns-in-Backquote : goal.returns-in-Backquote
returns-in-Backquote c =
    let a = c.args in
    item_backquote (seen a.text.now a.from _ c.if-at-text.false c.sort_at-sort.ensures) c.in-Backquote.is

pub returns-in-Closes : goal.returns-in-Closes
returns-in-Closes c =
    let a = c.args in
    item_closes (seen a.text.now a.from _ c.if-at-text.false c.sort_at-sort.ensures) c.in-Closes.is

pub returns-in-Operator : goal.returns-in-Operator
returns-in-Operator c =
    let a = c.args in
    item_operator (seen a.text.now a.from _ c.if-at-text.false c.sort_at-sort.ensures) c.in-Operator.is

pub returns-in-Quotes : goal.returns-in-Quotes
returns-in-Quotes c =
    let a = c.args in
    item_quotes (seen a.text.now a.from _ c.if-at-text.false c.sort_at-sort.ensures) c.in-Quotes.is

pub returns-in-Quotes2 : goal.returns-in-Quotes2
returns-in-Quotes2 c =
    let a = c.args in
    item_quotes2 (seen a.text.now a.from _ c.if-at-text.false c.sort_at-sort.ensures) c.in-Quotes2.is c.lists_in.result c.lists_in.ensures

pub returns-in-Backslash : goal.returns-in-Backslash
returns-in-Backslash c =
    let a = c.args in
    item_backslash (seen a.text.now a.from _ c.if-at-text.false c.sort_at-sort.ensures) c.in-Backslash.is c.escaped_at.result c.escaped_at.ensures

pub returns-in-Escape : goal.returns-in-Escape
returns-in-Escape c =
    let a = c.args in
    item_escape (seen a.text.now a.from _ c.if-at-text.false c.sort_at-sort.ensures) c.in-Escape.is c.said_at.result c.said_at.ensures

pub returns-in-Dollar : goal.returns-in-Dollar
returns-in-Dollar c =
    let a = c.args in
    item_dollar (seen a.text.now a.from _ c.if-at-text.false c.sort_at-sort.ensures) c.in-Dollar.is c.expansion_at.result c.expansion_at.ensures

pub returns-in-Bad : goal.returns-in-Bad
returns-in-Bad c =
    let a = c.args in
    item_bad (seen a.text.now a.from _ c.if-at-text.false c.sort_at-sort.ensures) c.in-Bad.is

pub returns-in-Opening : goal.returns-in-Opening
returns-in-Opening c =
    let a = c.args in
    item_opening (seen a.text.now a.from _ c.if-at-text.false c.sort_at-sort.ensures) c.requires.1 c.in-Opening.is

pub returns-in-Closing : goal.returns-in-Closing
returns-in-Closing c =
    let a = c.args in
    item_closing (seen a.text.now a.from _ c.if-at-text.false c.sort_at-sort.ensures) c.in-Closing.is c.closed_at.result c.closed_at.ensures

pub returns-in-Tilde : goal.returns-in-Tilde
returns-in-Tilde c =
    let a = c.args in
    item_tilde (seen a.text.now a.from _ c.if-at-text.false c.sort_at-sort.ensures) c.in-Tilde.is c.tilde_at.result c.tilde_at.ensures

pub returns-in-Literal : goal.returns-in-Literal
returns-in-Literal c =
    let a = c.args in
    item_literal (seen a.text.now a.from _ c.if-at-text.false c.sort_at-sort.ensures) c.in-Literal.is
