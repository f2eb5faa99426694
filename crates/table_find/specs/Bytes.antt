-- The bytes of a part of an image, for the code behind looking values and texts up.
use Rattle.std.specs.Prelude.{◌≤◌, [], length, Option, Some, None}
use Rattle.stages.specs.Bytes.{Text, part}
use Rattle.table.specs.declared.Part.{Part}

-- the part, if there is one, is within the image
abbrev pub Within : Text → Option Part → Type 0
Within t None = Unit {0}
Within t (Some p) = (p.from ≤ p.to) × (p.to ≤ length t)

-- its bytes; there are none where there is no part
abbrev pub bytes_of : Text → Option Part → Text
bytes_of t None = []
bytes_of t (Some p) = part t p.from p.to
