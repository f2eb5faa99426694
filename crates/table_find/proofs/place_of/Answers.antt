-- `table_find::place_of` meets its contract: the records passed are below the key, and the first that is not decides.
use Rattle.std.proofs.Common.{refl, sym, ◌∙◌, arith}
use Rattle.table_find.proofs.Spots.{starts, name_fits, record_fits, place_less, place_same, place_more, place_end}
use Rattle.table_find.proofs.place_of.Goals as goal

pub loop-at-init : goal.loop-at-init
loop-at-init c = starts _ _ c.requires (λ i. (c.type_inv.image i).fits)

pub size_at-requires : goal.size_at-requires
size_at-requires c = omega (arith, name_fits _ _ _ c.loop-at.invariant c.loop-at-test.true _ refl)

pub size_at-requires-in-loop-at : goal.size_at-requires-in-loop-at
size_at-requires-in-loop-at c = omega (arith, name_fits _ _ _ c.loop-at.invariant c.loop-at-test.true _ c.size_at.ensures)

pub slice_bounds-compare-end : goal.slice_bounds-compare-end
slice_bounds-compare-end c =
    omega (arith, record_fits _ _ _ c.loop-at.invariant c.loop-at-test.true _ c.size_at.ensures _ c.size_at-in-loop-at.ensures)

pub returns-in-Less : goal.returns-in-Less
returns-in-Less c =
    place_less _ _ _ c.loop-at.invariant c.loop-at-test.true _ c.size_at.ensures _ c.size_at-in-loop-at.ensures (sym c.compare.ensures ∙ c.in-Less.is)

pub returns-in-Equal : goal.returns-in-Equal
returns-in-Equal c =
    place_same _ _ _ c.loop-at.invariant c.loop-at-test.true _ c.size_at.ensures _ c.size_at-in-loop-at.ensures (sym c.compare.ensures ∙ c.in-Equal.is)

pub loop-at-preserved : goal.loop-at-preserved
loop-at-preserved c =
    place_more _ _ _ c.loop-at.invariant c.loop-at-test.true _ c.size_at.ensures _ c.size_at-in-loop-at.ensures (sym c.compare.ensures ∙ c.in-Greater.is)

pub returns : goal.returns
returns c = place_end _ _ _ c.loop-at.invariant c.loop-at-test.false
