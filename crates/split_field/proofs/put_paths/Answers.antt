-- What was met is written, or has no room, and so all that is chosen has none.
use mathlib.Core.Path.{ap}
use native.Mathlib.Omega.{arith}
use Rattle.std.proofs.lemmas.Result.{err_from_is_err_and}
use Rattle.split_field.specs.Answers.{answered}
use Rattle.split_field.proofs.Choosing.{is_path_lem, choosing_start, choosing_end, choosing_on, choosing_full}
use Rattle.split_field.proofs.put_paths.Goals as goal

pub loop-path-init : goal.loop-path-init
loop-path-init c es s =
    choosing_start es c.args.paths.now c.args.used c.args.out.now c.requires.listed.0 c.requires.used_in_bounds.0

pub slice_bounds-put_text-count : goal.slice_bounds-put_text-count
slice_bounds-put_text-count c =
    let k = c.requires.listed.1 in
    (is_path_lem (c.next_path.ensures k.es k.shows) c.in-Some.is).low

pub slice_bounds-put_text-start : goal.slice_bounds-put_text-start
slice_bounds-put_text-start c =
    let k = c.requires.listed.1 in
    (is_path_lem (c.next_path.ensures k.es k.shows) c.in-Some.is).low

pub slice_bounds-put_text-end : goal.slice_bounds-put_text-end
slice_bounds-put_text-end c =
    let k = c.requires.listed.1 in
    (is_path_lem (c.next_path.ensures k.es k.shows) c.in-Some.is).high

pub returns-in_err-len : goal.returns-in_err-len
returns-in_err-len c es s =
    let p = err_from_is_err_and c.from_residual.result c.from_residual.ensures.1 in
    rw p.1
    (choosing_full (c.loop-path.invariant es s) (is_path_lem (c.next_path.ensures es s) c.in-Some.is) c.put_text.ensures (ap answered c.in_err-len.was))

pub loop-path-smaller : goal.loop-path-smaller
loop-path-smaller c =
    let k = c.requires.listed.1 in
    let f = is_path_lem (c.next_path.ensures k.es k.shows) c.in-Some.is in
    omega (arith, f.further, f.high)

pub loop-path-preserved : goal.loop-path-preserved
loop-path-preserved c es s =
    choosing_on (c.loop-path.invariant es s) (is_path_lem (c.next_path.ensures es s) c.in-Some.is) c.put_text.ensures (ap answered c.in_ok-len.was)

pub returns : goal.returns
returns c es s = choosing_end (c.loop-path.invariant es s) (c.next_path.ensures es s) c.in_default.is
