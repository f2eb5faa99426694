-- What stands at a place of an image: "A text is a 2-byte big-endian length, then its bytes; no text holds a zero byte."
use Rattle.std.specs.Prelude.{
  ℕ,
  ◌+◌,
  ◌*◌,
  ◌&&◌,
  List,
  [],
  ◌∷◌,
  leb,
  length,
  take,
  drop,
  get_or,
  Option,
  Some,
  None,
  Result,
  Ok,
  Err,
}
use Rattle.stages.specs.Bytes.{Text, all, not_zero}
use Rattle.stages.specs.Outcome.{pick}
use Rattle.stages.specs.Images.{texts_in, or_empty}
use Rattle.table.specs.declared.Malformed.{Malformed}

-- the length that two bytes of an image say
abbrev pub size_at : Text → ℕ → ℕ
size_at t at = get_or t at 0 * 256 + get_or t (at + 1) 0

-- where the text ends that stands at a place of an image, or that nothing more does, or that what does is no text
abbrev pub Piece : Type 0
Piece = Result (Option ℕ) Malformed

-- the only value of the error
abbrev pub malformed : Malformed
malformed = record {}

-- by the bytes that are left from `at` on: none, no whole text or one with a zero byte, or a text and where it ends
unfoldable pub piece_of : ℕ → Text → Piece
piece_of at [] = Ok None
piece_of at (a ∷ []) = Err malformed
piece_of at (a ∷ b ∷ t) = pick (leb (a * 256 + b) (length t) && all not_zero (take (a * 256 + b) t)) (Ok (Some (at + 2 + (a * 256 + b)))) (Err malformed)

unfoldable pub piece_at : Text → ℕ → Piece
unfolding piece_of
piece_at t at = piece_of at (drop at t)

-- the same where zero bytes are not looked for
unfoldable pub frame_of : ℕ → Text → Piece
frame_of at [] = Ok None
frame_of at (a ∷ []) = Err malformed
frame_of at (a ∷ b ∷ t) = pick (leb (a * 256 + b) (length t)) (Ok (Some (at + 2 + (a * 256 + b)))) (Err malformed)

unfoldable pub frame_at : Text → ℕ → Piece
unfolding frame_of
frame_at t at = frame_of at (drop at t)

-- the texts of an image from a place on
unfoldable pub texts_from : Text → ℕ → List Text
unfolding texts_in
texts_from t at = or_empty (texts_in (drop at t))
