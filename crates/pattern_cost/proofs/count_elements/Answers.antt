-- An element that met what is 19 ends the count, any other is counted.
use Rattle.std.proofs.Common.{refl, sym, ◌∙◌, arith}
use Rattle.pattern_element.proofs.Standing.{piece_inside, piece_further}
use Rattle.pattern_cost.proofs.Tallying.{stands, tallied_class, tallied_step, tallied_end}
use Rattle.pattern_cost.proofs.count_elements.Goals as goal

pub returns-then-is_refusing : goal.returns-then-is_refusing
returns-then-is_refusing c =
    tallied_class c.loop-at.invariant (stands c.loop-at-test.true c.search_piece-piece.ensures refl)
    (sym c.is_refusing.ensures ∙ c.if-is_refusing.true)

pub behind-at-requires : goal.behind-at-requires
behind-at-requires c = omega (arith, piece_inside (stands c.loop-at-test.true c.search_piece-piece.ensures refl))

pub loop-at-smaller : goal.loop-at-smaller
loop-at-smaller c =
    omega (arith, piece_further (stands c.loop-at-test.true c.search_piece-piece.ensures c.behind-at.ensures), c.loop-at-test.true)

pub loop-at-preserved : goal.loop-at-preserved
loop-at-preserved c =
    tallied_step c.loop-at.invariant (stands c.loop-at-test.true c.search_piece-piece.ensures c.behind-at.ensures)
    (sym c.is_refusing.ensures ∙ c.if-is_refusing.false)

pub returns : goal.returns
returns c = tallied_end c.loop-at.invariant c.loop-at-test.false
