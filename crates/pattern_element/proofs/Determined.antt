-- Whatever two outcomes a contract of this crate allows for one input, they are equal: each answer, and each entry of the table, is equal to the same
-- definition.
use Prim.Native.Nat.{ℕ, ◌+◌, ◌*◌, ◌≤◌}
use mathlib.Core.Path.{◌≡◌, sym, ◌∙◌}
use mathlib.Core.Bool.{Bool}
use mathlib.Core.List.{List}
use native.Mathlib.Omega.{arith}
use native.Mathlib.Decide.{dec_le}
use lib.ListN.{length, drop, get_or}
use lib.Seq.{ext_get_or}
use Rattle.stages.specs.Bytes.{Text}
use Rattle.text.proofs.Determined.{one_answer}
use Rattle.pattern_unit.specs.Widths.{size, signs_by}
use Rattle.pattern_unit.specs.declared.Width.{Width}
use Rattle.pattern_element.specs.Ends.{Fills}
use Rattle.pattern_element.specs.Pieces.{piece_at, behind_of}
use Rattle.pattern_element.specs.declared.Piece.{Piece}

pub fill_ends_determined : (pattern : Text) (path : Bool) (w : Width) (entry : List ℕ) {exit end : List ℕ}
    → Fills w path pattern entry exit → Fills w path pattern entry end → exit ≡ end
fill_ends_determined pattern path w entry {exit} {end} f g =
    ext_get_or 0 exit end (f.same ∙ sym g.same) (λ q h. each q (dec_le (size w * q + size w) (length pattern)))
  where
    each : (q : ℕ) → Dec (size w * q + size w ≤ length pattern) → get_or exit q 0 ≡ get_or end q 0
    each q (yes h) = f.right q h ∙ sym (g.right q h)
    each q (no n) = f.kept q (omega arith) ∙ sym (g.kept q (omega arith))

pub piece_at_determined : (pattern : Text) (at : ℕ) (path : Bool) (w : Width) {r q : Piece}
    → r ≡ piece_at w path at (signs_by w (drop at pattern)) → q ≡ piece_at w path at (signs_by w (drop at pattern)) → r ≡ q
piece_at_determined pattern at path w = one_answer

pub search_piece_determined : (pattern : Text) (at : ℕ) (path : Bool) (w : Width) {r q : Piece}
    → r ≡ piece_at w path at (signs_by w (drop at pattern)) → q ≡ piece_at w path at (signs_by w (drop at pattern)) → r ≡ q
search_piece_determined pattern at path w = one_answer

pub behind_determined : (piece : Piece) (at : ℕ) (w : Width) {r q : ℕ} → r ≡ behind_of w piece at → q ≡ behind_of w piece at → r ≡ q
behind_determined piece at w = one_answer
