-- What a line is expanded among, by the images that it is lent.
use Rattle.std.specs.Prelude.{ℕ, Bool}
use Rattle.stages.specs.Bytes.{Text}
use Rattle.stages.specs.Images.{held, held_texts}
use Rattle.stages.specs.Params.{Lent}
use Rattle.stages.specs.Line.{Around}

-- what is lent to an expansion: the variables may grow to `room` bytes, unset names shout or not, the homes and the positional parameters are those of images
abbrev pub lent_of : ℕ → Bool → Text → Text → Lent
lent_of room shouts houses params = record { room = room; homes = held houses; params = held_texts params; shouts = shouts }

-- the variables may grow to `room` bytes, the output to `out`
abbrev pub among : ℕ → Bool → Text → Text → Text → ℕ → Around
among room shouts houses params paths out = record { lent = lent_of room shouts houses params; out = out; paths = held_texts paths }
