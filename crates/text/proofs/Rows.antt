-- Rows in bytes: what is written as a row is read back, a row takes two bytes for each unit, and patterns see the same in bytes as in units.
use Prim.Native.Nat.{ℕ, ◌*◌}
use native.Mathlib.Omega.{arith}
use mathlib.Core.Path.{◌≡◌, refl, ap}
use mathlib.Core.Bool.{Bool, true, false}
use mathlib.Core.List.{[], ◌∷◌, ◌++◌}
use lib.ListN.{length}
use Rattle.stages.specs.Bytes.{Text}
use Rattle.stages.specs.Units.{L, E, Q, cell, N, B, Row}
use Rattle.stages.specs.Pattern.{Signs, signs}
use Rattle.text.specs.Rows.{mark_byte, row_bytes, unit_of, row_of, signs_of}

pub row_of_row_bytes : (r : Row) → row_of (row_bytes r) ≡ r
unfolding row_of row_bytes unit_of
row_of_row_bytes [] = refl
row_of_row_bytes (cell L b ∷ r) = ap (λ (x : Row). cell L b ∷ x) (row_of_row_bytes r)
row_of_row_bytes (cell E b ∷ r) = ap (λ (x : Row). cell E b ∷ x) (row_of_row_bytes r)
row_of_row_bytes (cell Q b ∷ r) = ap (λ (x : Row). cell Q b ∷ x) (row_of_row_bytes r)
row_of_row_bytes (N ∷ r) = ap (λ (x : Row). N ∷ x) (row_of_row_bytes r)
row_of_row_bytes (B ∷ r) = ap (λ (x : Row). B ∷ x) (row_of_row_bytes r)

pub length_row_bytes : (r : Row) → length (row_bytes r) ≡ 2 * length r
unfolding row_bytes
length_row_bytes [] = refl
length_row_bytes (cell m b ∷ r) = omega (arith, length_row_bytes r)
length_row_bytes (N ∷ r) = omega (arith, length_row_bytes r)
length_row_bytes (B ∷ r) = omega (arith, length_row_bytes r)

pub row_bytes_append : (r s : Row) → row_bytes (r ++ s) ≡ row_bytes r ++ row_bytes s
unfolding row_bytes
row_bytes_append [] s = refl
row_bytes_append (cell m b ∷ r) s = ap (λ (t : Text). b ∷ mark_byte m ∷ t) (row_bytes_append r s)
row_bytes_append (N ∷ r) s = ap (λ (t : Text). 0 ∷ 0 ∷ t) (row_bytes_append r s)
row_bytes_append (B ∷ r) s = ap (λ (t : Text). 0 ∷ 4 ∷ t) (row_bytes_append r s)

-- a row in which every unit is a byte
unfoldable pub no_marks : Row → Bool
no_marks [] = true
no_marks (cell m b ∷ r) = no_marks r
no_marks (N ∷ r) = false
no_marks (B ∷ r) = false

pub signs_of_row_bytes : (r : Row) → no_marks r ≡ true → signs_of (row_bytes r) ≡ signs r
unfolding signs_of row_bytes signs no_marks
signs_of_row_bytes [] e = refl
signs_of_row_bytes (cell L b ∷ r) e = ap (λ (s : Signs). record { live = true; byte = b } ∷ s) (signs_of_row_bytes r e)
signs_of_row_bytes (cell E b ∷ r) e = ap (λ (s : Signs). record { live = true; byte = b } ∷ s) (signs_of_row_bytes r e)
signs_of_row_bytes (cell Q b ∷ r) e = ap (λ (s : Signs). record { live = false; byte = b } ∷ s) (signs_of_row_bytes r e)
signs_of_row_bytes (N ∷ r) e = absurd (let z : ◌≡◌ {A = ℕ} 0 1 = cc in omega arith)
signs_of_row_bytes (B ∷ r) e = absurd (let z : ◌≡◌ {A = ℕ} 0 1 = cc in omega arith)
