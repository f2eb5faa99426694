-- White units are skipped, then a hard one decides.
use mathlib.Core.Path.{sym, ap, ◌∙◌}
use Rattle.split_delimiter.specs.Places.{delimiter_of}
use Rattle.split_delimiter.proofs.Places.{behind_none, behind_fits, behind_hard}
use Rattle.split_delimiter.proofs.behind_field.Goals as goal

pub skip_white-requires : goal.skip_white-requires
skip_white-requires c = behind_fits _ c.skip_white-hard.ensures (sym c.delimiter_at.ensures ∙ ap delimiter_of c.in-Hard.is)

pub returns-in-Hard : goal.returns-in-Hard
returns-in-Hard c =
    behind_hard _ c.skip_white-hard.ensures (sym c.delimiter_at.ensures ∙ ap delimiter_of c.in-Hard.is) c.skip_white.ensures

pub returns-in-White : goal.returns-in-White
returns-in-White c = behind_none _ c.skip_white-hard.ensures _ c.in-White.is c.delimiter_at.ensures
