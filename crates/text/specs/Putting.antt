-- What it is to write a text at the front of a lent buffer.
use Rattle.std.specs.Prelude.{ℕ, ◌≡◌, length}
use Rattle.stages.specs.Bytes.{Text}
use Rattle.stages.specs.Call.{over}

-- a text stands at the front of what was there, and is counted
pub record Puts (t old left : Text) (r : ℕ) : Type 0 where
  pub counts : r ≡ length t
  pub leaves : left ≡ over t old
