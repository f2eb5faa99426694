-- The walk that counts the elements of a pattern: no class that is not served was met, and so many elements stand before the place.
use Prim.Native.Nat.{ℕ, ◌+◌, ◌≤◌, ◌<◌}
use mathlib.Core.Path.{◌≡◌, ◌∙◌, ap}
use mathlib.Core.Bool.{true, false}
use mathlib.Core.List.{List}
use native.Mathlib.Omega.{arith}
use lib.ListN.{length, drop}
use Rattle.stages.specs.Bytes.{Text}
use Rattle.stages.specs.Pattern.{Element}
use Rattle.pattern_unit.specs.Widths.{signs_by}
use Rattle.pattern_unit.specs.declared.Width.TheVariants.{Plain}
use Rattle.pattern_element.specs.Pieces.{piece_at, behind_of, is_refusing_piece}
use Rattle.pattern_element.specs.declared.Piece.{Piece}
use Rattle.pattern_element.proofs.Reading.{elements_over, class_over}
use Rattle.pattern_element.proofs.Standing.{from, class_from, Standing, piece_inside, piece_further, parted, class_step}
use Rattle.pattern_cost.specs.Counts.{elements_of, class_in}

-- the element that is read at a place, and the place behind it
pub stands : {p : Text} {at n : ℕ} {q : Piece} → at < length p → q ≡ piece_at Plain false at (signs_by Plain (drop at p)) → n ≡ behind_of Plain q at
    → Standing Plain false p at q n
stands h e f = record { there = omega arith; is = e; ends = f }

pub record Tallied (p : Text) (at count : ℕ) : Type 0 where
  pub within : at ≤ length p
  pub fits : count ≤ at
  pub served : class_in p ≡ class_from Plain false p at
  pub long : length (elements_of p) ≡ count + length (from Plain false p at)

module _ {p : Text} {at count : ℕ} (t : Tallied p at count) where
  module _ {q : Piece} {n : ℕ} (s : Standing Plain false p at q n) where
    pub tallied_class : is_refusing_piece q ≡ true → class_in p ≡ true
    tallied_class y = t.served ∙ class_step s ∙ rw y

    pub tallied_step : is_refusing_piece q ≡ false → Tallied p n (count + 1)
    tallied_step e = record {
      within = piece_inside s;
      fits = omega (arith, t.fits, piece_further s);
      served = t.served ∙ class_step s ∙ rw e;
      long = omega (arith, t.long, ap (λ (es : List Element). length es) (parted s));
    }

  pub tallied_end : length p ≤ at → (class_in p ≡ false) × (count ≡ length (elements_of p))
  tallied_end l = (
    t.served ∙ class_over Plain false p at (omega arith),
    omega (arith, t.long, ap (λ (es : List Element). length es) (elements_over Plain false p at (omega arith))),
  )
