-- A part of a text, by its places; the rest of a buffer, lent.
use Prim.Native.Nat.{ℕ, ◌-◌, ◌≤◌}
use native.Mathlib.Omega.{arith}
use mathlib.Core.Path.{◌≡◌, ap, ◌∙◌}
use mathlib.Core.List.{◌++◌, append-nil}
use lib.ListN.{length, take, drop, length-drop}
use lib.Seq.{length-take-le, take_all, drop-length}
use borrow.Rule.Slice.PartMut.{put_mid, mid_of}
use Rattle.stages.specs.Bytes.{Text, part}

pub part_length : (t : Text) (a e : ℕ) → a ≤ e → e ≤ length t → length (part t a e) ≡ e - a
part_length t a e h k = length-take-le (e - a) (drop a t) (omega (arith, length-drop a t))

-- `&mut out[used..]`: what is lent, and the buffer when it comes back
module _ (used : ℕ) (out : Text) where
  pub rest_is : mid_of used (length out - used) out ≡ drop used out
  rest_is = let n : length (drop used out) ≡ length out - used = length-drop used out in take_all (length out - used) (drop used out) (omega arith)

  pub rest_length : length (mid_of used (length out - used) out) ≡ length out - used
  rest_length = ap length rest_is ∙ length-drop used out

  pub rest_back : (ys : Text) → put_mid used (length out - used) out ys ≡ take used out ++ ys
  rest_back ys = rw (← length-drop used out, drop-length (drop used out), append-nil ys)
