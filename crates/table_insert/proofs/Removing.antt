-- Taking a record out, on plain lists: what stands behind it moves down, and zeros come behind that. Of a path that is there what is left is the image
-- without it.
use Prim.Native.Nat.{ℕ, ◌+◌, ◌-◌, ◌≤◌}
use native.Mathlib.Omega.{arith}
use mathlib.Core.Path.{◌≡◌, refl, sym, ap, ◌∙◌}
use mathlib.Core.List.{[], ◌++◌}
use lib.ListN.{length, take, drop, replicate, take-append-drop}
use lib.Seq.{paste, take-take, length-take-le}
use borrow.Rule.Slice.PartMut.{put_mid, mid_of}
use Rattle.stages.specs.Bytes.{Text, part}
use Rattle.stages.specs.Images.{written, image, held_texts}
use Rattle.stages.specs.Call.{over}
use Rattle.stages.specs.Updates.{without}
use Rattle.stages.proofs.Images.{written_append}
use Rattle.text_copy.proofs.Settling.{settled_short}
use Rattle.table_store.specs.Splice.{spliced, placed}
use Rattle.table_store.proofs.Splices.{spliced_length, splice_is}
use Rattle.table_store.proofs.StoredImages.{drop_take}
use Rattle.table_insert.specs.Added.{Gap, Spot}
use Rattle.table_insert.specs.Removed.{Cuts, removing, Removes}
use Rattle.std.specs.Prelude.{Some, None}

-- `cut`

-- nothing is put in the place of what moves down
placed_nothing : (at : ℕ) (x : Text) → placed at [] x ≡ x
unfolding placed
placed_nothing at x =
    let z : at + 0 ≡ at = omega arith in
    ap (λ (n : ℕ). take at x ++ drop n x) z ∙ take-append-drop at x

module _ (b : Text) (used at end : ℕ) (h : (at ≤ end) × (end ≤ used) × (used ≤ length b)) where
  abbrev rest : Text
  rest = spliced b used at end []

  rest_length : length rest ≡ used - (end - at)
  rest_length = spliced_length b [] used at end h.0 h.1 h.2 ∙ omega (arith, h.0, h.1)

  down : paste b at (drop end b) (used - end) ≡ over rest b
  down =
      let z : at ≡ at + 0 = omega arith in
      ap (λ (n : ℕ). paste b n (drop end b) (used - end)) z
      ∙ sym (placed_nothing at (paste b (at + 0) (drop end b) (used - end)))
      ∙ splice_is b [] used at end h.0 h.1 h.2 0 refl (omega (arith, h.0, h.1, h.2))

  pub cut_leaves : (b1 ys : Text) → b1 ≡ paste b at (drop end b) (used - end)
      → ys ≡ replicate (length (mid_of (used - (end - at)) (used - (used - (end - at))) b1)) 0
      → Cuts used rest b (put_mid (used - (end - at)) (used - (used - (end - at))) b1 ys) (used - (end - at))
  cut_leaves b1 ys e f = record {
    answers = sym rest_length;
    leaves = ap (λ (n : ℕ). put_mid n (used - n) b1 ys) (sym rest_length)
        ∙ settled_short used rest b b1 (e ∙ down) (omega (arith, rest_length, h.2)) h.2 ys
        (f ∙ ap (λ (n : ℕ). replicate (length (mid_of n (used - n) b1)) 0) (sym rest_length));
  }

-- `remove`

pub remove_none : {t x : Text} {at : ℕ} → Gap t x at → (used : ℕ) (old : Text) → Removes used (removing x (held_texts t)) old old None
unfolding removing
remove_none g used old = rw g.new (record { answers = refl; leaves = refl })

module _ (b x : Text) (used at end : ℕ) (l : used ≤ length b) (s : Spot (take used b) x at end) where
  pub spot_within : end ≤ used
  spot_within = omega (arith, s.high, length-take-le used b l)

  without_is : spliced b used at end [] ≡ image (without x (held_texts (take used b)))
  unfolding spliced image written
  without_is =
      let front : take at b ≡ image s.front = sym (take-take at used b (omega (arith, spot_within, s.low))) ∙ s.begins in
      let back : part b end used ≡ written s.back = sym (drop_take end used b spot_within l) ∙ s.ends in
      rw (front, back, s.is, written_append s.front s.back)

  -- the bytes around a path's record are the image without the path
  pub remove_cuts : {left : Text} {n : ℕ} → Cuts used (spliced b used at end []) b left n
      → Removes used (removing x (held_texts (take used b))) b left (Some n)
  unfolding removing
  remove_cuts {left} {n} w = go (rw without_is at w)
    where
      go : Cuts used (image (without x (held_texts (take used b)))) b left n → Removes used (removing x (held_texts (take used b))) b left (Some n)
      go k = rw s.there (record { answers = ap Some k.answers; leaves = k.leaves })
