-- The byte after the `$` decides.
use mathlib.Core.Path.{sym, ◌∙◌}
use Rattle.read_item.proofs.Class.{second}
use Rattle.read_item.proofs.Dollars.{special_digit, special_total, special_spread, special_unserved, special_quote, special_plain}
use Rattle.read_item.proofs.special_at.Goals as goal

pub returns-then-is_first_digit : goal.returns-then-is_first_digit
returns-then-is_first_digit c =
    let a = c.args in
    special_digit (second a.text.now a.from c.requires) (sym c.is_first_digit.ensures ∙ c.if-is_first_digit.true)

pub returns-then-b-eq35 : goal.returns-then-b-eq35
returns-then-b-eq35 c =
    let a = c.args in
    special_total (second a.text.now a.from c.requires) (sym c.is_first_digit.ensures ∙ c.if-is_first_digit.false) c.if-b-eq35.true

pub returns-then-is_in : goal.returns-then-is_in
returns-then-is_in c =
    let a = c.args in
    special_spread (second a.text.now a.from c.requires) (sym c.is_first_digit.ensures ∙ c.if-is_first_digit.false) c.if-b-eq35.false
    (sym c.is_in.ensures ∙ c.if-is_in.true) c.spread_at.result c.spread_at.ensures

pub returns-then-is_not_served : goal.returns-then-is_not_served
returns-then-is_not_served c =
    let a = c.args in
    special_unserved (second a.text.now a.from c.requires) (sym c.is_first_digit.ensures ∙ c.if-is_first_digit.false) c.if-b-eq35.false
    (sym c.is_in.ensures ∙ c.if-is_in.false) (sym c.is_not_served.ensures ∙ c.if-is_not_served.true)

pub returns-then-b-eq39 : goal.returns-then-b-eq39
returns-then-b-eq39 c =
    let a = c.args in
    special_quote (second a.text.now a.from c.requires) (sym c.is_first_digit.ensures ∙ c.if-is_first_digit.false) c.if-b-eq35.false
    (sym c.is_in.ensures ∙ c.if-is_in.false) (sym c.is_not_served.ensures ∙ c.if-is_not_served.false) c.if-b-eq39.true
    c.quote_at.result c.quote_at.ensures

pub returns : goal.returns
returns c =
    let a = c.args in
    special_plain (second a.text.now a.from c.requires) (sym c.is_first_digit.ensures ∙ c.if-is_first_digit.false) c.if-b-eq35.false
    (sym c.is_in.ensures ∙ c.if-is_in.false) (sym c.is_not_served.ensures ∙ c.if-is_not_served.false) c.if-b-eq39.false
