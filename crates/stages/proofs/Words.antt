-- The words of a line: the laws of `pieces` for them.
use Prim.Native.Nat.{ℕ, suc, ◌≤◌, ◌<◌}
use Prim.Native.Char.{code}
use mathlib.Core.Path.{◌≡◌}
use mathlib.Core.Bool.{true, false, ◌||◌}
use mathlib.Core.List.{List, [], ◌∷◌}
use lib.Dec.{eqb}
use lib.ListN.{length, drop, get_or}
use Rattle.stages.specs.Numbers.{depth_limit, bare_operator}
use Rattle.stages.specs.Bytes.{Text, is_blank, is_operator}
use Rattle.stages.specs.Outcome.{refused_at, done_at}
use Rattle.stages.specs.Syntax.{Word, fresh}
use Rattle.stages.specs.Read.{piece_at, a_word, word_of, words}
use Rattle.stages.proofs.Read.{word_good}
use Rattle.stages.proofs.Pieces.{Takes, Sound, FirstPiece, pieces_end, pieces_none, pieces_blank, pieces_operator, pieces_piece, pieces_sound}
use Rattle.stages.proofs.Pieces.{first_piece}

-- a word takes its first byte at least
pub word_takes : Takes a_word
word_takes b t e = word_good fresh depth_limit b t e

pub words_end : (place : ℕ) → words (place, []) ≡ done_at []
words_end place = pieces_end a_word word_of place

pub words_none : (line : Text) (from : ℕ) → length line ≤ from → words (from, drop from line) ≡ done_at []
words_none line from l = pieces_none a_word word_of line from l

module _ (place b : ℕ) (t : Text) where
  pub words_blank : is_blank b ≡ true → words (place, b ∷ t) ≡ words (suc place, t)
  words_blank e = pieces_blank a_word word_of place b t e

  pub words_operator : is_blank b ≡ false → (is_operator b || eqb b (code "#")) ≡ true → words (place, b ∷ t) ≡ refused_at bare_operator place
  words_operator e f = pieces_operator a_word word_of place b t e f

  pub words_word : is_blank b ≡ false → (is_operator b || eqb b (code "#")) ≡ false → words (place, b ∷ t) ≡ piece_at a_word word_of words place (b ∷ t)
  words_word e f = pieces_piece a_word word_of word_takes place b t e f

pub words_sound : (p : ℕ × Text) → Sound (words p)
words_sound p = pieces_sound a_word word_of word_takes p

-- the word whose first byte is at `from`, where the words from there on are `ws`
abbrev pub FirstWord : Text → ℕ → List Word → Type 0
FirstWord line from ws = FirstPiece a_word word_of line from ws

pub first_word : (line : Text) (from : ℕ) → from < length line → is_blank (get_or line from 0) ≡ false → (ws : List Word)
    → words (from, drop from line) ≡ done_at ws → FirstWord line from ws
first_word line from l e ws w = first_piece a_word word_of word_takes line from l e ws w
