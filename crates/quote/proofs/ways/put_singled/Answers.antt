-- `quote::ways::put_singled` meets its contract: one byte, or the four that stand for a quote.
use native.Mathlib.Omega.{arith}
use mathlib.Core.Path.{ap}
use lib.ListN.{length, length-set}
use Rattle.stages.specs.Quote.{singled}
use Rattle.quote.proofs.Lengths.{byte_some, byte_quote}
use Rattle.quote.proofs.Writing.{other_put, quote_put}
use Rattle.quote.proofs.ways.put_singled.Goals as goal

pub bounds-out-0 : goal.bounds-out-0
bounds-out-0 c = omega (arith, byte_some singled c.args.b, c.requires)

pub returns-then-b-ne-QUOTE : goal.returns-then-b-ne-QUOTE
returns-then-b-ne-QUOTE c = other_put c.args.b c.args.out.now c.if-b-ne-QUOTE.true (omega (arith, byte_some singled c.args.b, c.requires))

pub bounds-out-1 : goal.bounds-out-1
bounds-out-1 c = simp length-set (omega (arith, ap length (byte_quote c.args.b c.if-b-ne-QUOTE.false), c.requires))

pub bounds-out-2 : goal.bounds-out-2
bounds-out-2 c = simp length-set (omega (arith, ap length (byte_quote c.args.b c.if-b-ne-QUOTE.false), c.requires))

pub bounds-out-3 : goal.bounds-out-3
bounds-out-3 c = simp length-set (omega (arith, ap length (byte_quote c.args.b c.if-b-ne-QUOTE.false), c.requires))

pub returns : goal.returns
returns c =
    quote_put c.args.b c.args.out.now c.if-b-ne-QUOTE.false
    (omega (arith, ap length (byte_quote c.args.b c.if-b-ne-QUOTE.false), c.requires))
