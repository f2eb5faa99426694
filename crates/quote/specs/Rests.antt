-- What is still to be quoted of an image of fields: the texts from a place of it on.
use Rattle.std.specs.Prelude.{ℕ, ◌≤◌, ◌≡◌, length, drop}
use Rattle.std.proofs.Math.Option.{some}
use Rattle.stages.specs.Numbers.{image_limit}
use Rattle.stages.specs.Bytes.{Text}
use Rattle.stages.specs.Images.{texts_in}
use Rattle.table.specs.Pieces.{texts_from}

-- whole texts stand from the place on
pub record Rest (t : Text) (at : ℕ) : Type 0 where
  pub small : length t ≤ image_limit
  pub within : at ≤ length t
  pub is : texts_in (drop at t) ≡ some (texts_from t at)
