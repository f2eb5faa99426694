-- A store is a splice: the records before the name and behind it stand as they were, and the new record between them.
use Prim.Native.Nat.{ℕ, ◌+◌, ◌-◌, ◌≤◌}
use native.Mathlib.Omega.{arith}
use mathlib.Core.Path.{◌≡◌, refl, sym, ap, ◌∙◌}
use mathlib.Core.Bool.{Bool, true, false, ◌&&◌}
use mathlib.Core.List.{◌∷◌, ◌++◌, append_assoc}
use lib.Dec.{leb}
use lib.ListN.{length, take, drop}
use lib.Seq.{drop_at, length-take-le, take-take, take-add}
use borrow.Author.Tests.{leb-true, le-leb}
use Rattle.stages.specs.Numbers.{variable_room, image_limit}
use Rattle.stages.specs.Bytes.{Text, part}
use Rattle.stages.specs.Outcome.{Outcome, refused, done, pick}
use Rattle.stages.specs.Images.{Pairs, framed, written, image, image_length, flat, stored, held}
use Rattle.stages.specs.Params.{store}
use Rattle.stages.proofs.Bools.{and_both}
use Rattle.stages.proofs.Images.{written_append, flat_append, length_image}
use Rattle.table.specs.Places.{Hole, before, behind}
use Rattle.table.proofs.Splits.{stored_between}
use Rattle.table_store.specs.Answers.{image_in, Writes}
use Rattle.table_store.specs.Splice.{spliced, within}

pub drop_take : (end used : ℕ) (b : Text) → end ≤ used → used ≤ length b → drop end (take used b) ≡ part b end used
drop_take end used b h k =
    let e : used ≡ end + (used - end) = omega arith in
    ap (λ (n : ℕ). drop end (take n b)) e
    ∙ ap (drop end) (take-add end (used - end) b)
    ∙ drop_at (take end b) (take (used - end) (drop end b)) end (length-take-le end b (omega arith))

pub splice_image : (b name value : Text) (used at end : ℕ) (before behind : Pairs) → at ≤ end → end ≤ used → used ≤ length b
    → take at (take used b) ≡ image (flat before) → drop end (take used b) ≡ written (flat behind)
    → spliced b used at end (framed name ++ framed value) ≡ image (flat (before ++ (name, value) ∷ behind))
unfolding spliced image written
splice_image b name value used at end before behind h k l p q =
    let front : take at b ≡ 1 ∷ written (flat before) = sym (take-take at used b (omega arith)) ∙ p in
    let back : part b end used ≡ written (flat behind) = sym (drop_take end used b k l) ∙ q in
    rw (front, back, flat_append before ((name, value) ∷ behind), written_append (flat before) (name ∷ value ∷ flat behind))
    (ap (λ (x : Text). 1 ∷ (written (flat before) ++ x)) (append_assoc (framed name) (framed value) (written (flat behind))))

-- the image with a variable stored, by the two tests of the stage
module _ (x t : Text) (v : Pairs) where
  abbrev bytes : ℕ
  bytes = image_length (flat (stored x t v))

  abbrev fits : ℕ → Bool
  fits room = leb bytes room && leb bytes image_limit

  pub store_by : (room : ℕ) (b : Bool) → fits room ≡ b → store room x t v ≡ pick b (done (stored x t v)) (refused variable_room)
  unfolding store
  store_by room true e = rw (e, store)
  store_by room false e = rw (e, store)

  pub image_by : (room : ℕ) (b : Bool) → fits room ≡ b → image_in room x t v ≡ pick b (done (image (flat (stored x t v)))) (refused variable_room)
  unfolding image_in
  image_by room true e = rw (store_by room true e)
  image_by room false e = rw (store_by room false e)

  -- a room of at most 8,192 bytes is the only one that counts
  pub image_within : (room : ℕ) → room ≤ image_limit → image_in room x t v ≡ within room (image (flat (stored x t v)))
  unfolding within
  image_within room h = go (leb bytes room) refl
    where
      go : (b : Bool) → leb bytes room ≡ b → image_in room x t v ≡ within room (image (flat (stored x t v)))
      go true e = image_by room true (and_both e (le-leb bytes image_limit (omega (arith, leb-true bytes room e)))) ∙ sym
          (rw (length_image (flat (stored x t v)), e))
      go false e = image_by room false (rw e) ∙ sym (rw (length_image (flat (stored x t v)), e))

-- the place of a name, and what `splice` does there
module _ (b name : Text) (used at end : ℕ) (l : used ≤ length b) (h : Hole (take used b) name at end) where
  pub hole_within : (at ≤ end) × (end ≤ used)
  hole_within = let u : length (take used b) ≡ used = length-take-le used b l in (h.low, omega (arith, h.high))

  pub store_writes : (value left : Text) (limit : ℕ) {r : Outcome ℕ} → limit ≤ image_limit
      → Writes (within limit (spliced b used at end (framed name ++ framed value))) b left r
      → Writes (image_in limit name value (held (take used b))) b left r
  store_writes value left limit {r} k w =
      let e : spliced b used at end (framed name ++ framed value) ≡ image (flat (stored name value (held (take used b)))) =
      splice_image b name value used at end (before name (held (take used b))) (behind name (held (take used b))) hole_within.0 hole_within.1 l
      h.front h.back
      ∙ ap (λ (v : Pairs). image (flat v)) (sym (stored_between name value (held (take used b)))) in
      rw (image_within name value (held (take used b)) limit k, ← e) w
