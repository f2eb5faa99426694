-- A walk over an image's texts that writes what they give: the texts ahead are left to be read, and what they give to be written.
use Prim.Native.Nat.{ℕ}
use mathlib.Core.Path.{◌≡◌, ap, ◌∙◌}
use mathlib.Core.List.{List, []}
use Rattle.stages.specs.Bytes.{Text}
use Rattle.text.specs.Putting.{Puts}
use Rattle.text.proofs.Filling.{Filling, fill_ends}
use Rattle.std.specs.Prelude.{Some, None, Ok, Err}
use Rattle.table.specs.Pieces.{Piece, malformed, piece_at}
use Rattle.table.proofs.Pieces.{Ahead, Next, ahead_end, ahead_bad, ahead_text}

pub record Writing (whole : Text) (gives : List Text → Text) (t : Text) (at : ℕ) (old out : Text) (used : ℕ) : Type 0 where
  pub left : List Text
  pub ahead : Ahead t at left
  pub filling : Filling whole (gives left) old out used

-- the walk where a text stands at its place, up to `end`
pub record Facing (whole : Text) (gives : List Text → Text) (t : Text) (at end : ℕ) (old out : Text) (used : ℕ) : Type 0 where
  pub walk : Writing whole gives t at old out used
  pub text : Next t at end walk.left

module _ {whole : Text} {gives : List Text → Text} {t : Text} {at : ℕ} {old out : Text} {used : ℕ} (w : Writing whole gives t at old out used)
    {r : Piece} (s : r ≡ piece_at t at) where
  pub writing_end : gives [] ≡ [] → r ≡ Ok None → Puts whole old out used
  writing_end n e = fill_ends w.filling (ap gives (ahead_end w.ahead s e) ∙ n)

  pub writing_bad : r ≡ Err malformed → Puts whole old out used
  writing_bad e = absurd (ahead_bad w.ahead s e)

  pub writing_text : {end : ℕ} → r ≡ Ok (Some end) → Facing whole gives t at end old out used
  writing_text e = record { walk = w; text = ahead_text w.ahead s e }
