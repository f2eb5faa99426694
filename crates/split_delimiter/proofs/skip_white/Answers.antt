-- Each white unit is passed, and any other stops the walk.
use native.Mathlib.Omega.{arith}
use borrow.Author.Rules.{rules}
use Rattle.split_delimiter.proofs.Places.{skip_fits, skip_on, skip_stops}
use Rattle.split_delimiter.proofs.skip_white.Goals as goal

pub loop-to-smaller : goal.loop-to-smaller
loop-to-smaller c = omega (arith, skip_fits _ c.loop-to.invariant c.delimiter_at.result (search rules) c.delimiter_at.ensures)

pub loop-to-preserved : goal.loop-to-preserved
loop-to-preserved c = skip_on _ c.loop-to.invariant (search rules) c.delimiter_at.ensures

pub returns : goal.returns
returns c = skip_stops _ c.loop-to.invariant (search rules) c.delimiter_at.ensures
