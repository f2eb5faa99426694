-- A buffer with a new image at its front: zeros up to the used length that was given, and what was behind them.
use Prim.Native.Nat.{ℕ, ◌+◌, ◌-◌, ◌≤◌}
use native.Mathlib.Omega.{arith}
use mathlib.Core.Path.{◌≡◌, sym, ap, ◌∙◌}
use mathlib.Core.List.{◌++◌, append_assoc}
use lib.ListN.{length, take, drop, replicate, length-append, length-replicate}
use lib.Seq.{drop-drop}
use borrow.Rule.Slice.PartMut.{mid_of, put_mid, mid_len}
use Rattle.stages.specs.Bytes.{Text}
use Rattle.stages.specs.Call.{over, padded}
use Rattle.stages.proofs.Rooms.{over_front, over_behind, over_length, padded_same}

-- the image is copied to the front
module _ (used : ℕ) (image old vars : Text) (c : vars ≡ over image old) where
  -- an image that is no shorter than the one before has no zeros behind it
  pub settled_long : used ≤ length image → vars ≡ over (padded used image) old
  settled_long h = c ∙ ap (λ (t : Text). over t old) (sym (padded_same used image h))

  module _ (l : length image ≤ length old) (w : used ≤ length old) where
    abbrev zeros : Text
    zeros = replicate (used - length image) 0

    pub used_within : used ≤ length vars
    used_within = let e = ap length c ∙ over_length image old l in omega (arith, e, w)

    front : take (length image) vars ≡ image
    front = ap (take (length image)) c ∙ over_front image old

    behind : drop (used - length image) (drop (length image) vars) ≡ drop (length (image ++ zeros)) old
    behind =
        let e : length image + (used - length image) ≡ length (image ++ zeros) =
        sym (length-append image zeros ∙ ap (λ (n : ℕ). length image + n) (length-replicate (used - length image) 0)) in
        ap (λ (t : Text). drop (used - length image) (drop (length image) t)) c
        ∙ ap (drop (used - length image)) (over_behind image old)
        ∙ drop-drop (used - length image) (length image) old
        ∙ ap (λ (n : ℕ). drop n old) e

    -- a shorter one has
    pub settled_short : (ys : Text) → ys ≡ replicate (length (mid_of (length image) (used - length image) vars)) 0
        → put_mid (length image) (used - length image) vars ys ≡ over (padded used image) old
    unfolding over padded
    settled_short ys e =
        let z : ys ≡ zeros = e ∙ ap (λ (n : ℕ). replicate n 0) (mid_len (length image) used vars used_within) in
        ap (λ (t : Text). t ++ (ys ++ drop (used - length image) (drop (length image) vars))) front
        ∙ ap (λ (t : Text). image ++ (t ++ drop (used - length image) (drop (length image) vars))) z
        ∙ ap (λ (t : Text). image ++ (zeros ++ t)) behind
        ∙ sym (append_assoc image zeros (drop (length (image ++ zeros)) old))
