-- Units among which no sign of patterns stands.
use Rattle.std.specs.Prelude.{Bool, true, ◌&&◌, not, [], ◌∷◌}
use Rattle.stages.specs.Bytes.{Text, text, is_in}

-- no unit is a byte that can be more than itself, quoted or not
unfoldable pub plain : Text → Bool
plain [] = true
plain (b ∷ []) = true
plain (b ∷ m ∷ t) = not (is_in b (text "*?[")) && plain t
