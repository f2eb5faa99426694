-- The stage's test of a unit, as one of the units from a place on.
use Rattle.std.specs.Prelude.{ℕ, Bool, false, [], ◌∷◌}
use Rattle.stages.specs.Pattern.{Signs, is_live}

-- the first unit is this byte, and active
unfoldable pub begins : ℕ → Signs → Bool
begins c [] = false
begins c (s ∷ r) = is_live c s
