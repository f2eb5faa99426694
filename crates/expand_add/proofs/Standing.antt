-- Rows that stand at the front of an area, where part of it is lent.
use Prim.Native.Nat.{ℕ, ◌+◌, ◌*◌, ◌≤◌}
use native.Mathlib.Omega.{arith}
use mathlib.Core.Path.{◌≡◌, ap, ◌∙◌}
use mathlib.Core.List.{[], ◌∷◌, ◌++◌, append_assoc}
use lib.ListN.{length, take, drop, length-append}
use lib.Seq.{take_at}
use Rattle.stages.specs.Bytes.{Text}
use Rattle.stages.specs.Units.{N, Row}
use Rattle.text.specs.Rows.{row_bytes}
use Rattle.text.proofs.Rows.{length_row_bytes, row_bytes_append}
use Rattle.row.specs.Stands.{Stands, fronted}

pub front : (row : Row) (area : Text) (n : ℕ) → Stands row area → length row ≡ n → take (2 * n) area ≡ row_bytes row
front row area n s e = ap (take (2 * n)) s.is ∙ take_at (row_bytes row) s.rest (2 * n) (length_row_bytes row ∙ ap (λ (k : ℕ). 2 * k) e)

pub stands_inside : (row : Row) (area : Text) (n : ℕ) → Stands row area → length row ≡ n → 2 * n ≤ length area
stands_inside row area n s e =
    let f = length_row_bytes row in
    let l : length area ≡ length (row_bytes row) + length s.rest = ap length s.is ∙ length-append (row_bytes row) s.rest in
    omega arith

-- an area whose part behind the row was lent, and came back with a row, or with anything
pub stands_nest : (row new : Row) (area ys z : Text) (n : ℕ) → Stands row area → length row ≡ n → Stands new ys → Stands (row ++ new)
    (take (2 * n) area ++ (ys ++ z))
stands_nest row new area ys z n s e t =
    record {
      rest = t.rest ++ z;
      is =
          ap (λ (p : Text). p ++ (ys ++ z)) (front row area n s e) ∙ ap (λ (p : Text). row_bytes row ++ (p ++ z)) t.is
          ∙ rw (row_bytes_append row new) (simp append_assoc);
    }

pub stands_kept : (row : Row) (area ys : Text) (n : ℕ) → Stands row area → length row ≡ n → Stands row (take (2 * n) area ++ ys)
stands_kept row area ys n s e = record { rest = ys; is = ap (λ (p : Text). p ++ ys) (front row area n s e) }

-- the empty mark at the front
pub empty_front : (entry exit : Text) → exit ≡ fronted (row_bytes (N ∷ [])) entry → exit ≡ 0 ∷ 0 ∷ drop 2 entry
unfolding row_bytes
empty_front entry exit e = e
