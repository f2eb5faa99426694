-- The texts of an image by their numbers, from 1 on, and what the bytes of one are.
use Rattle.std.specs.Prelude.{ℕ, ◌+◌, ◌-◌, ◌≤◌, ◌≡◌, length, take, Option, Some, None}
use Rattle.std.proofs.Math.Option.{none, some}
use Rattle.stages.specs.Bytes.{Text, part}
use Rattle.stages.specs.Images.{held_texts, image_length}
use Rattle.stages.specs.Params.{numbered}
use Rattle.table.specs.Places.{found_by}
use Rattle.table.specs.declared.Part.{Part}

-- the text of a number stands behind the records of those before it and two bytes
unfoldable pub numbered_in : Text → ℕ → Option Part
unfolding found_by numbered
numbered_in t k = found_by (image_length (take (k - 1) (held_texts t)) + 2) (numbered k (held_texts t))

-- the bytes from `start` to `end` are the text of the number
pub record Bears (t : Text) (k start end : ℕ) : Type 0 where
  pub low : start ≤ end
  pub high : end ≤ length t
  pub gets : numbered k (held_texts t) ≡ some (part t start end)

-- what an answer says of the bytes
pub data Shown (t : Text) (k : ℕ) : Option Part → Type 0 where
  shown : {p : Part} → Bears t k p.from p.to → Shown t k (Some p)
  absent : numbered k (held_texts t) ≡ none → Shown t k None

pub record Numbers (t : Text) (k : ℕ) (r : Option Part) : Type 0 where
  pub is : r ≡ numbered_in t k
  pub shows : Shown t k r
