-- The variables are copied, the assignments take effect on the copy, and what came of them is the answer.
use Rattle.std.proofs.Common.{ap, [], sym}
use Rattle.std.proofs.lemmas.List.{length-take-le}
use Rattle.call_deliver.specs.declared.Answer.{Answer}
use Rattle.call_deliver.proofs.Copying.{copy_fits}
use Rattle.call_deliver.proofs.Awaiting.{untold_awaits, awaits_as}
use Rattle.call_assign.proofs.Assigning.{line_ready, left_within, accept_ready, call_accepted, call_stopped}
use Rattle.call_assign.proofs.on_copy.Goals as goal

pub slice_bounds-copy_in-end : goal.slice_bounds-copy_in-end
slice_bounds-copy_in-end c =
    (c.requires.assign_passed []).tables.inside

pub slice_bounds-copy_in-end-2 : goal.slice_bounds-copy_in-end-2
slice_bounds-copy_in-end-2 c =
    sym (length-take-le _ _ (c.requires.assign_passed []).tables.inside)

pub copy_in-requires : goal.copy_in-requires
copy_in-requires c =
    let t = (c.requires.assign_passed []).tables in
    copy_fits c.args.vars.now c.args.extent.vars_used t.inside t.formed c.args.copy.now c.requires.vars_room_value.1

pub assign_line-requires : goal.assign_line-requires
assign_line-requires c =
    line_ready (c.requires.assign_passed []) c.requires.vars_room_value.0 c.args.copy.now c.requires.vars_room_value.1 c.copy_in.new.to c.copy_in.ensures

pub returns-in-Err : goal.returns-in-Err
returns-in-Err c =
    awaits_as _ c.stop.ensures (call_stopped c.args.line.now c.args.vars.now _ _ c.args.homes.now c.args.params.now c.args.work.now
    c.requires.assign_passed c.requires.vars_room_value.0 c.args.copy.now c.requires.vars_room_value.1 c.copy_in.new.to c.copy_in.ensures
    c.assign_line.new.vars c.assign_line.new.work c.in-Err.stop c.in-Err.ensures)

pub slice_bounds-accept-end : goal.slice_bounds-accept-end
slice_bounds-accept-end c =
    left_within (c.requires.assign_passed []) c.requires.vars_room_value.0 c.args.copy.now c.requires.vars_room_value.1 c.copy_in.new.to
    c.copy_in.ensures c.assign_line.new.vars c.assign_line.new.work c.in-Ok.ensures

pub accept-requires : goal.accept-requires
accept-requires c =
    accept_ready (c.requires.assign_passed []) c.requires.vars_room_value.0 c.args.copy.now c.requires.vars_room_value.1 c.copy_in.new.to
    c.copy_in.ensures c.assign_line.new.vars c.assign_line.new.work c.in-Ok.ensures

pub returns-in-Ok : goal.returns-in-Ok
returns-in-Ok c =
    untold_awaits (ap (λ (x : Answer). x.message_len) c.accept.ensures.is) c.assign_line.new.work _ λ m.
    call_accepted (c.requires.assign_passed m) c.requires.vars_room_value.0 c.args.copy.now c.requires.vars_room_value.1 c.copy_in.new.to
    c.copy_in.ensures c.assign_line.new.vars c.assign_line.new.work c.in-Ok.ensures (λ i. (c.slice_known-5-1.given i).fits) c.accept.ensures
