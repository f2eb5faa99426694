-- The answers of showing: an image of any kind is whole texts, whose lines have room in a buffer of four times its length.
use Prim.Native.Nat.{ℕ, ◌*◌, ◌≤◌}
use native.Mathlib.Omega.{arith}
use mathlib.Core.Path.{◌≡◌, sym, ap, ◌∙◌}
use mathlib.Core.Bool.{Bool, true, false}
use mathlib.Core.List.{List}
use mathlib.Core.Option.{some}
use lib.ListN.{length}
use Rattle.stages.specs.Bytes.{Text}
use Rattle.stages.specs.Images.{texts, held_texts, held, flat, image_length}
use Rattle.stages.proofs.Images.{pairs_of_some, held_texts_texts}
use Rattle.stages.proofs.Tables.{vars_of, homes_of_lem, paths_of_lem, fields_of_lem, texts_held_length}
use Rattle.table.specs.Kinds.{well_formed, in_twos}
use Rattle.table.specs.Pieces.{malformed}
use Rattle.table.specs.declared.Kind.{Kind}
use Rattle.table.specs.declared.Kind.TheVariants.{Variables, Homes, Paths, Fields}
use Rattle.text.specs.Putting.{Puts}
use Rattle.tab_show.specs.Lines.{shown_texts, shown_of, showing_of, showing}
use Rattle.std.specs.Prelude.{Ok, Err}
use Rattle.tab_show.proofs.Writing.{lines_small}

held_flat : (t : Text) (l : List Text) → texts t ≡ some l → texts t ≡ some (held_texts t)
held_flat t l e = e ∙ ap some (sym (held_texts_texts t l e))

-- an image of a kind is whole texts
pub texts_here : (kind : Kind) (t : Text) → well_formed kind t ≡ true → texts t ≡ some (held_texts t)
texts_here Variables t e = held_flat t (flat (held t)) (pairs_of_some (texts t) (held t) (vars_of t e).table)
texts_here Homes t e = held_flat t (flat (held t)) (pairs_of_some (texts t) (held t) (homes_of_lem t e).table)
texts_here Paths t e = (paths_of_lem t e).table
texts_here Fields t e = (fields_of_lem t e).table

pub lines_room : (two : Bool) (t : Text) (n : ℕ) → texts t ≡ some (held_texts t) → 4 * length t ≤ n → length (shown_texts two two (held_texts t)) ≤ n
unfolding image_length
lines_room two t n e h = omega (arith, lines_small two two (held_texts t), texts_held_length t e, h)

module _ (kind : Kind) (t old : Text) where
  pub none_shown : well_formed kind t ≡ false → showing_of (Err malformed) old ≡ showing kind t old
  unfolding showing
  none_shown e = rw e

  pub shown : well_formed kind t ≡ true → (two : Bool) (left : Text) (n : ℕ) → two ≡ in_twos kind → Puts (shown_texts two two (held_texts t)) old left n
      → showing_of (Ok n) left ≡ showing kind t old
  unfolding showing shown_of
  shown e two left n k p = rw (e, ← k, p.counts, p.leaves)
