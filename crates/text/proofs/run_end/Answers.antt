use Rattle.std.proofs.Common.{arith}
use Rattle.text.specs.Classes.{in_class}
use Rattle.text.proofs.ClassTable.{bit_is}
use Rattle.text.proofs.Scans.{span_bits}
use Rattle.text.proofs.run_end.Goals as goal

pub returns : goal.returns
returns c = record {
  is = span_bits (in_class c.args.class) c.words_of.result c.args.text.now c.args.at c.bits_run.result (λ b. rw c.words_of.ensures (bit_is c.args.class b))
      c.type_inv.text
      c.bits_run.ensures.is;
  onward = omega arith;
  within = omega (arith, c.bits_run.ensures.bound);
}
