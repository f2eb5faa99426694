-- Zero bytes looked for: what the loop over a block holds, and what the blocks of a text say of it.
use Prim.Native.Nat.{zero, suc}
use native.Mathlib.Omega.{arith}
use mathlib.Core.Path.{◌≡◌, refl, ap, ◌∙◌}
use mathlib.Core.Bool.{Bool, true, false, not}
use mathlib.Core.List.{[], ◌∷◌}
use lib.Dec.{eqb-zero-suc}
use borrow.Author.Tests.{le-leb}
use Rattle.stages.specs.Bytes.{Text, is_in, all, not_zero}

-- the same as looking for a zero among the bytes
pub zero_among : (t : Text) → is_in 0 t ≡ not (all not_zero t)
zero_among [] = refl
zero_among (zero ∷ t) = refl
zero_among (suc b ∷ t) = rw (eqb-zero-suc b, le-leb 1 (suc b) (omega arith)) (zero_among t)

pub not_among : (t : Text) → not (is_in 0 t) ≡ all not_zero t
not_among t = ap not (zero_among t) ∙ twice (all not_zero t)
  where
    twice : (x : Bool) → not (not x) ≡ x
    twice true = refl
    twice false = refl
