-- The tests of the code are those of the stage, in its order.
use mathlib.Core.Path.{sym, ◌∙◌}
use Rattle.split_delimiter.proofs.Places.{place_none, place_other, place_outside, place_white, place_hard}
use Rattle.split_delimiter.proofs.delimiter_at.Goals as goal

pub returns-then-row-at-le1 : goal.returns-then-row-at-le1
returns-then-row-at-le1 c = place_none _ _ _ c.if-row-at-le1.true

pub returns-then-row-at-ne-EXPANDED : goal.returns-then-row-at-ne-EXPANDED
returns-then-row-at-ne-EXPANDED c = place_other _ _ _ c.if-row-at-le1.false c.if-row-at-ne-EXPANDED.true

pub returns-then-not-is_in : goal.returns-then-not-is_in
returns-then-not-is_in c =
    place_outside _ _ _ c.if-row-at-le1.false c.if-row-at-ne-EXPANDED.false (sym c.is_in.ensures ∙ c.if-not-is_in.true)

pub returns-then-in_class : goal.returns-then-in_class
returns-then-in_class c =
    place_white _ _ _ c.if-row-at-le1.false c.if-row-at-ne-EXPANDED.false (sym c.is_in.ensures ∙ c.if-not-is_in.false)
    (sym c.in_class.ensures ∙ c.if-in_class.true)

pub returns-else-in_class : goal.returns-else-in_class
returns-else-in_class c =
    place_hard _ _ _ c.if-row-at-le1.false c.if-row-at-ne-EXPANDED.false (sym c.is_in.ensures ∙ c.if-not-is_in.false)
    (sym c.in_class.ensures ∙ c.if-in_class.false)
