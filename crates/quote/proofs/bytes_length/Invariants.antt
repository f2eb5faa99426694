-- `quote::bytes_length`: what is counted and what the bytes that are left take are together what the field takes.
use Rattle.quote.specs.Ways.{way_is}
use Rattle.quote.proofs.Lengths.{Counted}
use Rattle.quote.proofs.bytes_length.Given as goal

abbrev pub invariant-loop-b : goal.invariant-loop-b
invariant-loop-b l = Counted (way_is l.way) l.field l.n l.b-index
