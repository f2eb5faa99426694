-- The cells stand for the elements before `at`, and the ends for the units beyond it.
use mathlib.Core.Path.{refl}
use native.Mathlib.Omega.{arith}
use Rattle.pattern_unit.proofs.Units.{size_bounds}
use Rattle.pattern_element.proofs.Filling.{roomy_small}
use Rattle.pattern_element.proofs.Standing.{piece_inside, piece_further, piece_within}
use Rattle.pattern_settle.proofs.Settling.{stood, settling_start, settling_stops, settling_step, settling_end}
use Rattle.std.proofs.lemmas.Result.{err_from_is_err_and}
use Rattle.pattern_settle.proofs.settle_pieces.Goals as goal

pub loop-at-init : goal.loop-at-init
loop-at-init c =
    let a = c.args in
    settling_start a.width a.path a.pattern.now a.cells.now a.sets.now c.requires

pub cell_of-requires-clause-lies : goal.cell_of-requires-clause-lies
cell_of-requires-clause-lies c = piece_within (stood c.loop-at-test.true c.unit_size-size.ensures c.piece_at-piece.ensures refl)

pub returns-in_err-cell : goal.returns-in_err-cell
returns-in_err-cell c =
    let p = err_from_is_err_and c.from_residual.result c.from_residual.ensures.1 in
    rw (p.1, p.2) (settling_stops c.loop-at.invariant (stood c.loop-at-test.true c.unit_size-size.ensures c.piece_at-piece.ensures refl)
    c.loop-at.cells c.cell_of.new.sets c.in_err-cell.field-0.0 c.in_err-cell.ensures)

pub behind-at-requires : goal.behind-at-requires
behind-at-requires c =
    let t = (stood c.loop-at-test.true c.unit_size-size.ensures c.piece_at-piece.ensures refl) in
    omega (arith, piece_inside t, roomy_small c.loop-at.invariant.ended.roomy)

pub loop-at-smaller : goal.loop-at-smaller
loop-at-smaller c =
    let t = (stood c.loop-at-test.true c.unit_size-size.ensures c.piece_at-piece.ensures c.behind-at.ensures) in
    omega (arith, piece_further t, size_bounds c.args.width, c.unit_size-size.ensures, c.loop-at-test.true)

pub loop-at-preserved : goal.loop-at-preserved
loop-at-preserved c =
    settling_step c.loop-at.invariant (stood c.loop-at-test.true c.unit_size-size.ensures c.piece_at-piece.ensures c.behind-at.ensures) c.in_ok-cell.ensures

pub returns : goal.returns
returns c = settling_end c.loop-at.invariant (omega (arith, c.unit_size-size.ensures, c.loop-at-test.false))
