-- What is left at the front of a row: its bytes without marks, or its units without N.
use Prim.Native.Nat.{ℕ, ◌≤◌}
use native.Mathlib.Omega.{arith}
use mathlib.Core.Path.{◌≡◌, sym, ap, ◌∙◌}
use mathlib.Core.List.{◌++◌, append_assoc}
use lib.ListN.{length, take, length-append}
use lib.Seq.{take_at, length-take-le}
use Rattle.stages.specs.Bytes.{Text}
use Rattle.stages.specs.Units.{bytes}
use Rattle.text.specs.Rows.{row_of}
use Rattle.row.specs.Stands.{Stripped}
use Rattle.pattern_row.specs.Kept.{kept, Dropped}
use Rattle.expand_add.specs.Answers.{Waits}

front_of : (b x rest left : Text) (n : ℕ) → left ≡ b ++ x → n ≡ length b → take n (left ++ rest) ≡ b
front_of b x rest left n e c = ap (λ (l : Text). take n (l ++ rest)) e ∙ ap (take n) (append_assoc b x rest) ∙ take_at b (x ++ rest) n (sym c)

front_inside : (b x rest left : Text) (n : ℕ) → left ≡ b ++ x → n ≡ length b → n ≤ length (left ++ rest)
front_inside b x rest left n e c = omega (arith, length-append left rest, ap length e, length-append b x)

module _ {row left : Text} (rest : Text) {n : ℕ} (s : Stripped row left n) where
  pub stripped_front : take n (left ++ rest) ≡ bytes (row_of row)
  stripped_front = front_of (bytes (row_of row)) _ rest left n s.leaves s.counts

  pub stripped_inside : n ≤ length (left ++ rest)
  stripped_inside = front_inside (bytes (row_of row)) _ rest left n s.leaves s.counts

  pub stripped_length : n ≡ length (take n (left ++ rest))
  stripped_length = sym (length-take-le n (left ++ rest) stripped_inside)

  pub stripped_waits : Waits (bytes (row_of row)) (left ++ rest) 0 n
  stripped_waits = record { is = sym stripped_front; fits = omega (arith, stripped_inside) }

module _ {row left : Text} (rest : Text) {n : ℕ} (s : Dropped row left n) where
  pub dropped_front : take n (left ++ rest) ≡ kept row
  dropped_front = front_of (kept row) _ rest left n s.stands s.counts

  pub dropped_inside : n ≤ length (left ++ rest)
  dropped_inside = front_inside (kept row) _ rest left n s.stands s.counts
