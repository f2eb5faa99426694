-- A path removed from others, if it is there: zeros come behind the image up to the length that it had.
use Rattle.std.specs.Prelude.{ℕ, ◌≡◌, List, length, Option as Perhaps, Some, None}
use Rattle.std.proofs.Math.Option.{Option, none, some}
use Rattle.stages.specs.Bytes.{Text}
use Rattle.stages.specs.Outcome.{pick}
use Rattle.stages.specs.Images.{image}
use Rattle.stages.specs.Call.{over, padded}
use Rattle.stages.specs.Updates.{without, is_there}

-- bytes stand at the front of the old ones, and zeros behind them up to `used`
pub record Cuts (used : ℕ) (new old left : Text) (r : ℕ) : Type 0 where
  pub answers : r ≡ length new
  pub leaves : left ≡ over (padded used new) old

-- the paths without one, where it is there
unfoldable pub removing : Text → List Text → Option (List Text)
unfolding without is_there
removing x l = pick (is_there x l) (some (without x l)) none

abbrev pub answer_of : Option (List Text) → Perhaps ℕ
answer_of none = None
answer_of (some l) = Some (length (image l))

-- the image stands at the front of the old bytes and zeros behind it, or the old ones stand as they were
abbrev pub left_of : ℕ → Option (List Text) → Text → Text
left_of used none old = old
left_of used (some l) old = over (padded used (image l)) old

pub record Removes (used : ℕ) (o : Option (List Text)) (old left : Text) (r : Perhaps ℕ) : Type 0 where
  pub answers : r ≡ answer_of o
  pub leaves : left ≡ left_of used o old
