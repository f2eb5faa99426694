-- The record writer was lent the free part.
use Rattle.std.proofs.Common.{arith}
use Rattle.recipe_arguments.proofs.Packing.{put_within, appends_put, appends_full}
use Rattle.recipe_arguments.proofs.append_argument.Goals as goal

pub overflow_add-result : goal.overflow_add-result
overflow_add-result c = omega (
  arith,
  put_within c.args.argument.now c.args.used c.args.image.now c.put_record.new.out c.put_record.result
      c.put_record.ensures c.in-Ok.is c.requires,
)

pub returns-in-Ok : goal.returns-in-Ok
returns-in-Ok c = appends_put c.args.argument.now c.args.used c.args.image.now c.put_record.new.out c.put_record.result c.put_record.ensures c.in-Ok.is

pub returns-in-Err : goal.returns-in-Err
returns-in-Err c = appends_full c.args.argument.now c.args.used c.args.image.now c.put_record.new.out c.put_record.result c.put_record.ensures c.in-Err.is
