-- Rows in which nothing divides and no sign of patterns is active, in lent bytes.
use Rattle.std.specs.Prelude.{ℕ, Bool, true, false, ◌&&◌, not, [], ◌∷◌, eqb}
use Rattle.stages.specs.Bytes.{Text, text, is_in}
use Rattle.stages.specs.Outcome.{pick}

-- a byte and its mark: L and no sign of patterns, or Q, or N; not E and not B
unfoldable pub quiet_unit : ℕ → ℕ → Bool
quiet_unit b m = pick (eqb m 1) (not (is_in b (text "*?["))) (pick (eqb m 2) false (pick (eqb m 3) true (not (eqb m 4))))

-- all units are such
unfoldable pub quiet : Text → Bool
unfolding quiet_unit
quiet [] = true
quiet (b ∷ []) = true
quiet (b ∷ m ∷ t) = quiet_unit b m && quiet t
