-- What an element matches, by how it stands in its pattern.
use Prim.Native.Nat.{ℕ}
use mathlib.Core.Path.{◌≡◌, sym, ◌∙◌, ap}
use mathlib.Core.Bool.{Bool, false, not, ◌||◌, or-false}
use lib.Dec.{eqb}
use Rattle.stages.specs.Bytes.{Text, part}
use Rattle.stages.specs.Pattern.{sense_of, in_set}
use Rattle.stages.specs.Cost.{matches_byte}
use Rattle.pattern_unit.specs.Widths.{signs_by}
use Rattle.pattern_unit.specs.declared.Width.TheVariants.{Plain}
use Rattle.pattern_element.specs.Pieces.{element_of}
use Rattle.pattern_element.specs.declared.Piece.{Piece}
use Rattle.pattern_element.specs.declared.Piece.TheVariants.{Star, One, Byte, Refusing, Set}

module _ (p : Text) (q : Piece) (k : ℕ) {x : Bool} where
  seen : {d : Piece} → q ≡ d → x ≡ matches_byte (element_of Plain p d) k → x ≡ matches_byte (element_of Plain p q) k
  seen h e = e ∙ sym (ap (λ (d : Piece). matches_byte (element_of Plain p d) k) h)

  pub star_matches : q ≡ Star → x ≡ false → x ≡ matches_byte (element_of Plain p q) k
  unfolding matches_byte element_of
  star_matches h e = seen h e

  pub one_matches : {y : Bool} → q ≡ One → x ≡ not y → y ≡ false → x ≡ matches_byte (element_of Plain p q) k
  unfolding matches_byte element_of
  one_matches h e f = seen h (e ∙ ap not f)

  pub byte_matches : {y : Bool} (b : ℕ) → q ≡ Byte b → x ≡ (eqb b k || y) → y ≡ false → x ≡ matches_byte (element_of Plain p q) k
  unfolding matches_byte element_of
  byte_matches b h e f = seen h (e ∙ ap (λ (z : Bool). eqb b k || z) f ∙ or-false (eqb b k))

  pub bracket_matches : {y : Bool} → q ≡ Refusing → x ≡ (eqb 91 k || y) → y ≡ false → x ≡ matches_byte (element_of Plain p q) k
  unfolding matches_byte element_of
  bracket_matches h e f = seen h (e ∙ ap (λ (z : Bool). eqb 91 k || z) f ∙ or-false (eqb 91 k))

  pub set_matches : (negative : Bool) (a e : ℕ) → q ≡ Set negative a e → x ≡ in_set (sense_of negative) (signs_by Plain (part p a e)) k
      → x ≡ matches_byte (element_of Plain p q) k
  unfolding matches_byte element_of
  set_matches negative a e h i = seen h i
