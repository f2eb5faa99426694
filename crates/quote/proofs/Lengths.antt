-- How long a quoted line is: at most four times its image, and the sum of its pieces. The byte 39 is `'`, 32 a blank, 92 a backslash.
use Prim.Native.Nat.{ℕ, ◌+◌, ◌*◌, ◌≤◌, ◌<◌}
use native.Mathlib.Omega.{arith}
use native.Mathlib.Numerals.{add-one}
use mathlib.Core.Path.{◌≡◌, refl, sym, ap, ◌∙◌}
use mathlib.Core.Bool.{true, false}
use mathlib.Core.List.{List, [], ◌∷◌, ◌++◌}
use lib.Dec.{eqb}
use lib.ListN.{length, drop, get_or, length-append, length-drop, drop_of_length-le}
use lib.Seq.{drop-cons}
use borrow.Author.Tests.{eq-eqb, ne_eqb, not-true, not-false}
use Rattle.stages.specs.Bytes.{Text, text, is_in, is_control, not_control}
use Rattle.stages.specs.Images.{record_bytes}
use Rattle.stages.specs.Quote.{Way, bare, singled, dollared, way_of, is_sign, octal, quoted_byte, quoted_bytes, enclosed}
use Rattle.stages.specs.Quote.{written, quoted_field, blanked, quoted_line}
use Rattle.stages.proofs.Bools.{either}
use Rattle.stages.proofs.Images.{texts_length}
use Rattle.table.proofs.Pieces.{Ahead}

-- a byte in single quotes, by its test

pub byte_quote : (b : ℕ) → b ≡ 39 → quoted_byte singled b ≡ b ∷ text "\\''"
unfolding quoted_byte
byte_quote b e = rw (eq-eqb b 39 e) (ap (λ (c : ℕ). c ∷ text "\\''") (sym e))

pub byte_other : (b : ℕ) → (b ≡ 39 → ⊥) → quoted_byte singled b ≡ b ∷ []
unfolding quoted_byte
byte_other b e = rw (ne_eqb b 39 e)

-- a byte in $'...', by its tests

module _ (b : ℕ) where
  pub byte_sign : is_in b (text "\\'") ≡ true → quoted_byte dollared b ≡ 92 ∷ b ∷ []
  unfolding quoted_byte is_sign
  byte_sign e = rw e

  pub byte_plain : is_in b (text "\\'") ≡ false → not_control b ≡ true → quoted_byte dollared b ≡ b ∷ []
  unfolding quoted_byte is_sign
  byte_plain e h = rw (e, not-true (is_control b) h)

  pub byte_control : is_in b (text "\\'") ≡ false → not_control b ≡ false → quoted_byte dollared b ≡ 92 ∷ octal b
  unfolding quoted_byte is_sign
  byte_control e h = rw (e, not-false (is_control b) h)

pub ruleset byte_cases = (byte_quote, byte_other, byte_sign, byte_plain, byte_control)

-- the bytes from a place on
pub bytes_at : (way : Way) (t : Text) (i : ℕ) → i < length t
    → quoted_bytes way (drop i t) ≡ quoted_byte way (get_or t i 0) ++ quoted_bytes way (drop (i + 1) t)
unfolding quoted_bytes
bytes_at way t i h = rw (add-one i, drop-cons t i 0 h)

-- and none are left at the end
pub bytes_none : (way : Way) (t : Text) (i : ℕ) → length t ≤ i → quoted_bytes way (drop i t) ≡ []
unfolding quoted_bytes
bytes_none way t i h = rw (drop_of_length-le t h)

-- a byte is one to four
record Few (t : Text) : Type 0 where
  some : 1 ≤ length t
  small : length t ≤ 4

byte_few : (way : Way) (b : ℕ) → Few (quoted_byte way b)
unfolding quoted_byte
byte_few bare b = record { some = omega arith; small = omega arith }
byte_few singled b =
    either (eqb b 39) (λ e. rw e (record { some = omega arith; small = omega arith })) (λ e. rw e (record { some = omega arith; small = omega arith }))
byte_few dollared b =
    either (is_sign b) (λ e. rw e (record { some = omega arith; small = omega arith })) λ e.
    either (is_control b) (λ h. rw (e, h) (record { some = omega arith; small = omega arith }))
    (λ h. rw (e, h) (record { some = omega arith; small = omega arith }))

pub byte_some : (way : Way) (b : ℕ) → 1 ≤ length (quoted_byte way b)
byte_some way b = (byte_few way b).some

pub bytes_small : (way : Way) (t : Text) → length (quoted_bytes way t) ≤ 4 * length t
unfolding quoted_bytes
bytes_small way [] = omega arith
bytes_small way (b ∷ t) = rw (length-append (quoted_byte way b) (quoted_bytes way t)) (omega (arith, (byte_few way b).small, bytes_small way t))

-- a field, by its way

pub enclosed_is : (way : Way) (t : Text) → enclosed way t ≡ 39 ∷ quoted_bytes way t ++ (39 ∷ [])
unfolding enclosed
enclosed_is way t = refl

pub enclosed_length : (way : Way) (t : Text) → length (enclosed way t) ≡ length (quoted_bytes way t) + 2
unfolding enclosed
enclosed_length way t = simp length-append (omega arith)

written_small : (way : Way) (t : Text) → length (written way t) ≤ 4 * length t + 3
unfolding written
written_small bare t = omega arith
written_small singled t = omega (arith, enclosed_length singled t, bytes_small singled t)
written_small dollared t = omega (arith, enclosed_length dollared t, bytes_small dollared t)

pub field_small : (t : Text) → length (quoted_field t) ≤ 4 * length t + 3
unfolding quoted_field
field_small t = written_small (way_of t) t

pub blanked_first : (t : Text) (l : List Text) → length (blanked (t ∷ l)) ≡ 1 + length (quoted_field t) + length (blanked l)
unfolding blanked
blanked_first t l = simp length-append (omega arith)

blanked_records : (l : List Text) → length (blanked l) ≤ 4 * record_bytes l
unfolding blanked record_bytes
blanked_records [] = omega arith
blanked_records (t ∷ l) = rw (blanked_first t l) (omega (arith, field_small t, blanked_records l))

-- the fields from a place of an image on
pub blanked_small : {t : Text} {at : ℕ} {l : List Text} → Ahead t at l → length (blanked l) ≤ 4 * length t
blanked_small {t} {at} {l} h = omega (arith, texts_length (drop at t) l h.is, length-drop at t, blanked_records l)

-- the line is what is left without the first blank
pub line_blanked : (l : List Text) → length (quoted_line l) ≤ length (blanked l)
unfolding quoted_line blanked
line_blanked [] = omega arith
line_blanked (t ∷ l) = omega arith

-- counting the bytes of a field: n are counted, and those from i on are left
pub record Counted (way : Way) (field : Text) (n i : ℕ) : Type 0 where
  pub within : i ≤ length field
  pub sum : n + length (quoted_bytes way (drop i field)) ≡ length (quoted_bytes way field)

pub counted_starts : (way : Way) (field : Text) → Counted way field 0 0
counted_starts way field = record { within = omega arith; sum = omega arith }

module _ {way : Way} {field : Text} {n i : ℕ} (c : Counted way field n i) where
  pub counted_small : n ≤ 4 * length field
  counted_small = omega (arith, c.sum, bytes_small way field)

  pub counted_more : (k : ℕ) → i < length field → k ≡ length (quoted_byte way (get_or field i 0)) → Counted way field (n + k) (i + 1)
  counted_more k h e =
      let s : length (quoted_bytes way (drop i field)) ≡ length (quoted_byte way (get_or field i 0)) + length (quoted_bytes way (drop (i + 1) field)) =
      ap length (bytes_at way field i h) ∙ length-append (quoted_byte way (get_or field i 0)) (quoted_bytes way (drop (i + 1) field)) in
      record { within = omega arith; sum = omega (arith, c.sum) }

  pub counted_ends : length field ≤ i → n ≡ length (quoted_bytes way field)
  counted_ends h = omega (arith, c.sum, ap length (bytes_none way field i h))
