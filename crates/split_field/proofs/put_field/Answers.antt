-- A plain field is no pattern. Patterns see the same units when N is gone, and so do the bytes.
use mathlib.Core.Path.{sym, ◌∙◌}
use native.Mathlib.Omega.{arith}
use lib.Seq.{length-take-le}
use Rattle.std.proofs.lemmas.Result.{err_from_is_err_and}
use Rattle.stages.specs.Images.{held_texts}
use Rattle.pattern_row.proofs.Keeping.{dropped_fits, dropped_few}
use Rattle.split_field.proofs.Placing.{puts_says}
use Rattle.split_field.proofs.Choosing.{plain_own, dropped_says, dropped_full}
use Rattle.split_field.proofs.put_field.Goals as goal

pub returns-in_err-put_own : goal.returns-in_err-put_own
returns-in_err-put_own c =
    let a = c.args in
    let p = err_from_is_err_and c.from_residual.result c.from_residual.ensures.1 in
    rw (p.1, p.2) (record {
      puts = puts_says (plain_own (held_texts a.paths.now) a.field.now (sym c.is_plain.ensures ∙ c.if-is_plain.true) c.in_err-put_own.ensures);
      spares = tt;
    })

pub returns-then-is_plain : goal.returns-then-is_plain
returns-then-is_plain c =
    let a = c.args in
    record {
      puts = puts_says (plain_own (held_texts a.paths.now) a.field.now (sym c.is_plain.ensures ∙ c.if-is_plain.true) c.in_ok-put_own.ensures);
      spares = tt;
    }

pub put_pattern-requires-clause-listed : goal.put_pattern-requires-clause-listed
put_pattern-requires-clause-listed c =
    let e = c.drop_empty-n.ensures in
    let l = length-take-le c.drop_empty-n.result c.drop_empty-n.new.row (dropped_fits e) in
    (c.requires.listed.0, dropped_full (held_texts c.args.paths.now) e, omega (arith, l, dropped_few e, c.requires.listed.1))

pub returns : goal.returns
returns c = record {
  puts = puts_says (dropped_says (held_texts c.args.paths.now) c.drop_empty-n.ensures c.put_pattern.ensures.0);
  spares = c.put_pattern.ensures.1;
}
