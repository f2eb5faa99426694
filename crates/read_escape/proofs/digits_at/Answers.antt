-- The longest run of the part is the stage's, and its number is counted up to 255.
use Rattle.std.proofs.Common.{arith}
use Rattle.read_escape.proofs.Digits.{digits_refused, digits_small, digits_zero, digits_byte}
use Rattle.read_escape.proofs.digits_at.Goals as goal

pub returns-in_default : goal.returns-in_default
returns-in_default c =
    digits_refused c.args.text.now c.args.at c.args.from c.args.class c.args.base c.args.most c.part_end-end.result c.run_end.result c.requires.0 c.requires.5
    c.part_end-end.ensures c.run_end.ensures c.in_default.ensures

pub returns-then-n-eq0 : goal.returns-then-n-eq0
returns-then-n-eq0 c =
    digits_zero c.args.text.now c.args.at c.args.from c.args.class c.args.base c.args.most c.part_end-end.result c.run_end.result c.requires.0 c.requires.5
    c.part_end-end.ensures c.run_end.ensures c.in-Ok.ensures c.if-n-eq0.true

pub overflow_cast-result : goal.overflow_cast-result
overflow_cast-result c =
    omega (
      arith,
      digits_small c.args.text.now c.args.at c.args.from c.args.class c.args.base c.args.most c.part_end-end.result c.run_end.result c.requires.0 c.requires.5
          c.part_end-end.ensures c.run_end.ensures c.in-Ok.ensures,
    )

pub returns : goal.returns
returns c =
    digits_byte c.args.text.now c.args.at c.args.from c.args.class c.args.base c.args.most c.part_end-end.result c.run_end.result c.requires.0 c.requires.5
    c.part_end-end.ensures c.run_end.ensures c.in-Ok.ensures c.if-n-eq0.false
