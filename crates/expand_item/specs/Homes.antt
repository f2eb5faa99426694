-- What a look-up of a login found.
use Rattle.std.specs.Prelude.{◌≤◌, length, Option as Perhaps, Some, None}
use Rattle.std.proofs.Math.Option.{Option, none, some}
use Rattle.stages.specs.Bytes.{Text, part}
use Rattle.table.specs.declared.Part.{Part}

-- it lies inside the image
abbrev pub Inside : Text → Perhaps Part → Type 0
Inside t None = Unit {0}
Inside t (Some p) = (p.from ≤ p.to) × (p.to ≤ length t)

-- and is this text
abbrev pub text_at : Text → Perhaps Part → Option Text
text_at t None = none
text_at t (Some p) = some (part t p.from p.to)
