-- The variables are copied, the line is drafted with the copy, and what came of it is the answer.
use Rattle.std.proofs.Common.{ap, [], sym}
use Rattle.std.proofs.lemmas.List.{length-take-le}
use Rattle.call_deliver.specs.declared.Answer.{Answer}
use Rattle.call_deliver.proofs.Copying.{copy_fits}
use Rattle.call_deliver.proofs.Awaiting.{untold_awaits, awaits_as}
use Rattle.call_run.proofs.Working.{drafting, left_within, accept_ready, call_accepted, call_stopped}
use Rattle.call_run.proofs.on_copy.Goals as goal

pub slice_bounds-copy_in-end : goal.slice_bounds-copy_in-end
slice_bounds-copy_in-end c =
    (c.requires.passed []).tables.inside

pub slice_bounds-copy_in-end-2 : goal.slice_bounds-copy_in-end-2
slice_bounds-copy_in-end-2 c = sym (length-take-le _ _ (c.requires.passed []).tables.inside)

pub copy_in-requires : goal.copy_in-requires
copy_in-requires c =
    let t = (c.requires.passed []).tables in
    copy_fits c.args.vars.now c.args.call.extent.vars_used t.inside t.formed c.args.copy.now c.requires.vars_room_value.1

pub with_image-requires : goal.with_image-requires
with_image-requires c =
    drafting (c.requires.passed []) c.requires.vars_room_value.0 c.args.copy.now c.copy_in.new.to c.requires.vars_room_value.1 c.copy_in.ensures

pub returns-in-Err : goal.returns-in-Err
returns-in-Err c =
    awaits_as _ c.stop.ensures (call_stopped c.args.line.now c.args.vars.now _ _ c.args.homes.now c.args.params.now c.args.paths.now c.args.work.now
    c.args.out.now
    c.requires.passed c.requires.vars_room_value.0 c.args.copy.now c.copy_in.new.to c.requires.vars_room_value.1 c.copy_in.ensures
    c.with_image.new.copy c.with_image.new.work c.with_image.new.out c.in-Err.stop c.in-Err.ensures)

pub slice_bounds-accept-end : goal.slice_bounds-accept-end
slice_bounds-accept-end c =
    left_within (c.requires.passed []) c.requires.vars_room_value.0 c.args.copy.now c.copy_in.new.to c.requires.vars_room_value.1 c.copy_in.ensures
    c.with_image.new.copy c.with_image.new.work c.with_image.new.out c.in-Ok.ensures

pub accept-requires : goal.accept-requires
accept-requires c =
    accept_ready (c.requires.passed []) c.requires.vars_room_value.0 c.args.copy.now c.copy_in.new.to c.requires.vars_room_value.1 c.copy_in.ensures
    c.with_image.new.copy c.with_image.new.work c.with_image.new.out c.in-Ok.ensures

pub returns-in-Ok : goal.returns-in-Ok
returns-in-Ok c =
    untold_awaits (ap (λ (x : Answer). x.message_len) c.accept.ensures.is) c.with_image.new.work _ λ m.
    call_accepted (c.requires.passed m) c.requires.vars_room_value.0 c.args.copy.now c.copy_in.new.to c.requires.vars_room_value.1 c.copy_in.ensures
    c.with_image.new.copy c.with_image.new.work c.with_image.new.out c.in-Ok.ensures (λ i. (c.slice_known-6-1.given i).fits) c.accept.ensures
