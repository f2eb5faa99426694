-- The contracts determine every answer: two outcomes that a contract allows for one input are equal. No function writes.
use Prim.Native.Nat.{ℕ}
use mathlib.Core.Path.{◌≡◌}
use mathlib.Core.Bool.{Bool}
use Rattle.stages.specs.Bytes.{Text}
use Rattle.text.proofs.Determined.{one_answer}
use Rattle.table.specs.Kinds.{well_formed, key_fits}
use Rattle.table.specs.Pieces.{Piece, size_at, piece_at}
use Rattle.table.specs.declared.Kind.{Kind}

pub well_formed_determined : (kind : Kind) (image : Text) (r s : Bool) → r ≡ well_formed kind image → s ≡ well_formed kind image → r ≡ s
well_formed_determined kind image r s = one_answer

pub key_fits_determined : (kind : Kind) (last key : Text) (r s : Bool) → r ≡ key_fits kind last key → s ≡ key_fits kind last key → r ≡ s
key_fits_determined kind last key r s p q = one_answer p q

pub text_at_determined : (image : Text) (at : ℕ) (r s : Piece) → r ≡ piece_at image at → s ≡ piece_at image at → r ≡ s
text_at_determined image at r s = one_answer

pub size_at_determined : (image : Text) (at r s : ℕ) → r ≡ size_at image at → s ≡ size_at image at → r ≡ s
size_at_determined image at r s p q = one_answer p q
