-- Places of a text.
use Rattle.std.specs.Prelude.{ℕ, ◌≤◌, ◌<◌, length}
use Rattle.stages.specs.Bytes.{Text}

-- a place further on than another, in the text
pub record Behind (text : Text) (at next : ℕ) : Type 0 where
  pub onward : at < next
  pub within : next ≤ length text
