-- How the units of a pattern stand in its bytes, N units gone: each a byte alone, or a byte and behind it its mark.
use Rattle.std.specs.Prelude.{ℕ, ◌+◌, Bool, true, false, [], ◌∷◌, eqb, get_or}
use Rattle.stages.specs.Bytes.{Text}
use Rattle.stages.specs.Outcome.{pick}
use Rattle.stages.specs.Pattern.{Signs}
use Rattle.text.specs.Rows.{signs_of}
use Rattle.pattern_unit.specs.declared.Width.{Width}
use Rattle.pattern_unit.specs.declared.Width.TheVariants.{Plain, Marked}

-- how many bytes a unit has
abbrev pub size : Width → ℕ
size Plain = 1
size Marked = 2

-- bytes of which each is an active unit
unfoldable pub plain_signs : Text → Signs
plain_signs [] = []
plain_signs (b ∷ t) = record { live = true; byte = b } ∷ plain_signs t

-- the units that bytes stand for
abbrev pub signs_by : Width → Text → Signs
signs_by Plain t = plain_signs t
signs_by Marked t = signs_of t

-- the unit at a place is active: with a mark, if that is not the mark of quoted bytes
abbrev pub is_active : Width → Text → ℕ → Bool
is_active Plain p k = true
is_active Marked p k = pick (eqb (get_or p (k + 1) 0) 3) false true
