-- Eight bytes as one number: what the code compares at once.
use Rattle.std.specs.Prelude.{ℕ, ◌+◌, ◌*◌, ◌<◌, ◌≡◌, [], ◌∷◌, get_or}
use Rattle.stages.specs.Bytes.{Text}

-- the number that bytes are behind a number, the first weighing most
abbrev pub weigh : ℕ → Text → ℕ
weigh n [] = n
weigh n (b ∷ t) = weigh (n * 256 + b) t

-- a number is that of a text, whose numbers are bytes
pub record Weighs (text : Text) (r : ℕ) : Type 0 where
  pub is : r ≡ weigh 0 text
  pub bytes : (k : ℕ) → get_or text k 0 < 256
