-- A text in an image: its two bytes say its length, then it stands there, and behind it is what comes next.
use Prim.Native.Nat.{ℕ, suc, ◌+◌, ◌-◌, ◌/◌, ◌%◌}
use native.Mathlib.Omega.{arith}
use native.Mathlib.Nat.{div-add-mod'}
use mathlib.Core.Path.{◌≡◌, refl, sym, ap, ◌∙◌}
use mathlib.Core.List.{◌++◌}
use lib.ListN.{length, take, drop, get_or, length-append, length-drop}
use lib.Seq.{take_at, drop_at, drop-drop, get_or-drop}
use Rattle.stages.specs.Bytes.{Text, part}
use Rattle.stages.specs.Images.{framed}
use Rattle.table.specs.Pieces.{size_at}

pub record Frame (t : Text) (at : ℕ) (k w : Text) : Type 0 where
  pub size : size_at t at ≡ length k
  pub fits : at + 2 + length k + length w ≡ length t
  pub is : part t (at + 2) (at + 2 + length k) ≡ k
  pub next : drop (at + 2 + length k) t ≡ w

module _ (t : Text) (at : ℕ) (k w : Text) (e : drop at t ≡ framed k ++ w) where
  high_byte : get_or t at 0 ≡ length k / 256
  high_byte =
      let z : at ≡ at + 0 = omega arith in
      ap (λ (n : ℕ). get_or t n 0) z ∙ sym (get_or-drop at t 0 0) ∙ ap (λ (u : Text). get_or u 0 0) e

  low_byte : get_or t (at + 1) 0 ≡ length k % 256
  low_byte = sym (get_or-drop at t 1 0) ∙ ap (λ (u : Text). get_or u 1 0) e

  inside : drop (at + 2) t ≡ k ++ w
  inside = sym (drop-drop 2 at t) ∙ ap (drop 2) e

  lengths : length t - at ≡ suc (suc (length k + length w))
  lengths = sym (length-drop at t) ∙ ap length e ∙ ap (λ (n : ℕ). suc (suc n)) (length-append k w)

  pub frame : Frame t at k w
  frame =
      let n : at + 2 + length k - (at + 2) ≡ length k = omega arith in
      record {
        size = rw (high_byte, low_byte) (div-add-mod' (length k) 256);
        fits = omega (arith, lengths);
        is = ap (λ (m : ℕ). take m (drop (at + 2) t)) n ∙ ap (take (length k)) inside ∙ take_at k w (length k) refl;
        next = sym (drop-drop (length k) (at + 2) t) ∙ ap (drop (length k)) inside ∙ drop_at k w (length k) refl;
      }
