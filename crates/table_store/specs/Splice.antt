-- What a splice makes of bytes, for the code behind a store.
use Rattle.std.specs.Prelude.{ℕ, ◌+◌, Bool, ◌++◌, leb, length, take, drop}
use Rattle.stages.specs.Numbers.{variable_room}
use Rattle.stages.specs.Bytes.{Text, part}
use Rattle.stages.specs.Outcome.{Outcome, refused, done, pick}

-- the first `used` bytes with those from `at` to `end` replaced
unfoldable pub spliced : Text → ℕ → ℕ → ℕ → Text → Text
spliced t used at end new = take at t ++ (new ++ part t end used)

-- a text stands at a place; all other bytes are the old ones
unfoldable pub placed : ℕ → Text → Text → Text
placed at t old = take at old ++ (t ++ drop (at + length t) old)

-- bytes where there is room for them
unfoldable pub within : ℕ → Text → Outcome Text
within room t = pick (leb (length t) room) (done t) (refused variable_room)

-- the records of two texts of these lengths have room
unfoldable pub room_for : ℕ → ℕ → ℕ → Bool
room_for name value room = leb (name + value + 4) room
