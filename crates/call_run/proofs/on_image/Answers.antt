-- The line is expanded with the copy, and what the job gives of its fields is delivered.
use Rattle.std.proofs.Common.{Ok, Err}
use Rattle.std.proofs.lemmas.Result.{err_from_is_err_and}
use Rattle.call_run.proofs.Drafting.{size_within, line_ready, line_stopped, len_within, deliver_ready, line_delivered}
use Rattle.call_run.proofs.on_image.Goals as goal

pub slice_bounds-expand_line-end : goal.slice_bounds-expand_line-end
slice_bounds-expand_line-end c =
    size_within c.args.out.now c.requires.drafting c.args.image.now c.requires.image_len c.room-size.result c.room-size.ensures

pub expand_line-requires : goal.expand_line-requires
expand_line-requires c =
    line_ready c.args.out.now c.requires.drafting c.args.image.now c.requires.image_len c.room-size.result c.room-size.ensures

pub returns-in_err-done : goal.returns-in_err-done
returns-in_err-done c =
    let p = err_from_is_err_and c.from_residual.result c.from_residual.ensures.1 in
    rw (p.1, p.2) (line_stopped c.args.out.now c.requires.drafting c.args.image.now c.requires.image_len c.room-size.result c.room-size.ensures
    c.expand_line.new.work c.in_err-done.field-0.0 c.in_err-done.ensures)

pub slice_bounds-deliver-end : goal.slice_bounds-deliver-end
slice_bounds-deliver-end c =
    len_within c.args.out.now c.requires.drafting c.args.image.now c.requires.image_len c.room-size.result c.room-size.ensures c.expand_line.new.vars
    c.expand_line.new.work c.expand_line.new.out c.expand_line.auto.out c.in_ok-done.ensures

pub deliver-requires-clause-image_len_bound : goal.deliver-requires-clause-image_len_bound
deliver-requires-clause-image_len_bound c =
    (deliver_ready c.args.out.now c.requires.drafting c.args.image.now c.requires.image_len c.room-size.result c.room-size.ensures
    c.expand_line.new.vars c.expand_line.new.work c.expand_line.new.out c.expand_line.auto.out c.in_ok-done.ensures).0

pub deliver-requires-clause-image_value : goal.deliver-requires-clause-image_value
deliver-requires-clause-image_value c =
    (deliver_ready c.args.out.now c.requires.drafting c.args.image.now c.requires.image_len c.room-size.result c.room-size.ensures
    c.expand_line.new.vars c.expand_line.new.work c.expand_line.new.out c.expand_line.auto.out c.in_ok-done.ensures).1

pub returns-in-Ok : goal.returns-in-Ok
returns-in-Ok c =
    line_delivered c.args.out.now c.requires.drafting c.args.image.now c.requires.image_len c.room-size.result c.room-size.ensures
    c.expand_line.new.vars c.expand_line.new.work c.expand_line.new.out c.expand_line.auto.out c.in_ok-done.ensures c.deliver.new.out (Ok
    c.in-Ok.out_len) c.in-Ok.ensures

pub returns-in-Err : goal.returns-in-Err
returns-in-Err c =
    rw c.from.ensures (line_delivered c.args.out.now c.requires.drafting c.args.image.now c.requires.image_len c.room-size.result c.room-size.ensures
    c.expand_line.new.vars c.expand_line.new.work c.expand_line.new.out c.expand_line.auto.out c.in_ok-done.ensures c.deliver.new.out (Err
    c.in-Err.error) c.in-Err.ensures)
