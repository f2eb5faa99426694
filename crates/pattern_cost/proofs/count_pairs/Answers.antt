-- The row of an element is counted and leads on to the next; behind the last one it is counted alone.
use Rattle.std.proofs.Common.{◌∙◌, get_or, refl, arith}
use lib.ListN.{length-set}
use Rattle.pattern_set.specs.Sets.{has}
use Rattle.pattern_element.proofs.Standing.{piece_inside, piece_further, piece_within}
use Rattle.pattern_cost.proofs.Tallying.{stands}
use Rattle.pattern_cost.proofs.Counting.{counting_start, counting_step, counting_end, count_fits, row_most}
use Rattle.pattern_cost.proofs.count_pairs.Goals as goal

pub loop-at-init : goal.loop-at-init
loop-at-init c = counting_start _ _ _ c.requires

pub matched_by-set-requires : goal.matched_by-set-requires
matched_by-set-requires c = piece_within (stands c.loop-at-test.true c.search_piece-piece.ensures refl)

pub overflow_add-count : goal.overflow_add-count
overflow_add-count c =
    omega (arith, count_fits _ _ c.loop-at.invariant (row_most c.walk_row-count.ensures), c.loop-at.auto.area, length-set c.args.area.now 0 1)

pub behind-at-requires : goal.behind-at-requires
behind-at-requires c = omega (arith, piece_inside (stands c.loop-at-test.true c.search_piece-piece.ensures refl))

pub loop-at-smaller : goal.loop-at-smaller
loop-at-smaller c =
    omega (arith, piece_further (stands c.loop-at-test.true c.search_piece-piece.ensures c.behind-at.ensures), c.loop-at-test.true)

pub loop-at-preserved : goal.loop-at-preserved
loop-at-preserved c =
    let w = c.walk_row-count in
    let m = c.matched_by-set in
    counting_step _ _ c.loop-at.invariant (stands c.loop-at-test.true c.search_piece-piece.ensures c.behind-at.ensures)
    c.is_star.ensures (has m.result.words) (λ k b. m.ensures (get_or c.args.text.now k 0) (omega (arith, c.type_inv.text k))) w.ensures
    w.auto.area

pub overflow_add-result : goal.overflow_add-result
overflow_add-result c = omega (arith, count_fits _ _ c.loop-at.invariant (row_most c.walk_row.ensures), c.loop-at.auto.area, length-set c.args.area.now 0 1)

pub returns : goal.returns
returns c =
    counting_end _ _ c.loop-at.invariant c.loop-at-test.false
    (λ k b. c.none.ensures (get_or c.args.text.now k 0) (omega (arith, c.type_inv.text k))) c.walk_row.ensures
    (c.walk_row.auto.area ∙ c.loop-at.auto.area ∙ length-set c.args.area.now 0 1)
