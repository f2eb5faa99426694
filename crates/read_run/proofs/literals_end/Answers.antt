-- Whether a byte is of the run is told by its bit.
use Rattle.std.proofs.Common.{arith}
use Rattle.text.proofs.Scans.{span_bits}
use Rattle.read_mode.specs.Modes.{mode_of}
use Rattle.read_run.specs.Literals.{literal_in}
use Rattle.read_run.proofs.Table.{bit_is}
use Rattle.read_run.proofs.literals_end.Goals as goal

pub returns : goal.returns
returns c = record {
  is = span_bits (literal_in (mode_of c.args.mode)) c.literal_words.result c.args.text.now c.args.at c.bits_run.result
      (λ b. rw c.literal_words.ensures (bit_is c.args.mode b)) c.type_inv.text c.bits_run.ensures.is;
  onward = omega arith;
  within = omega (arith, c.bits_run.ensures.bound);
}
