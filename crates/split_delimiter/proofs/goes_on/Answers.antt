-- A field goes on where the unit's byte is above those of IFS, or the unit is no delimiter.
use mathlib.Core.Path.{sym, ap, ◌∙◌}
use borrow.Author.Tests.{lt-ltb}
use Rattle.split_delimiter.specs.Places.{delimiter_of}
use Rattle.split_delimiter.proofs.Places.{goes_none, goes_unit, goes_above, other_alone}
use Rattle.split_delimiter.proofs.goes_on.Goals as goal

pub returns-then-top-row : goal.returns-then-top-row
returns-then-top-row c = lt-ltb _ _ c.if-top-row.true ∙ goes_above _ _ _ _ c.requires.1 c.if-row-at-le1.false c.if-top-row.true

pub returns-in-Other : goal.returns-in-Other
returns-in-Other c = goes_unit _ _ _ _ c.if-row-at-le1.false (sym (ap delimiter_of c.in-Other.is) ∙ c.delimiter_at.ensures)

pub returns-in_default : goal.returns-in_default
returns-in_default c =
    other_alone c.args.ifs.now c.args.row.now c.args.at _ c.in_default.not-Other
    ∙ goes_unit _ _ _ _ c.if-row-at-le1.false c.delimiter_at.ensures

pub returns-then-row-at-le1 : goal.returns-then-row-at-le1
returns-then-row-at-le1 c = goes_none _ _ _ c.if-row-at-le1.true
