-- Inserting a record, on plain lists: what stands behind moves up, and the record is written between. Between the paths below and above it that is the
-- image with the path.
use Prim.Native.Nat.{ℕ, ◌+◌, ◌-◌, ◌≤◌, ◌<◌}
use native.Mathlib.Omega.{arith}
use mathlib.Core.Path.{◌≡◌, refl, sym, ap, ◌∙◌}
use mathlib.Core.Bool.{true, false}
use mathlib.Core.List.{List, ◌∷◌}
use lib.Dec.{leb}
use lib.ListN.{length, take, drop}
use lib.Seq.{paste, take-take, length-take-le}
use borrow.Rule.Slice.PartMut.{put_mid, mid_of}
use borrow.Author.Tests.{le-leb, lt-leb}
use Rattle.stages.specs.Numbers.{paths_limit}
use Rattle.stages.specs.Bytes.{Text, part}
use Rattle.stages.specs.Outcome.{Outcome}
use Rattle.stages.specs.Images.{framed, written, image, image_length, held_texts}
use Rattle.stages.specs.Updates.{added}
use Rattle.stages.proofs.Bools.{either}
use Rattle.stages.proofs.Images.{written_append, length_image}
use Rattle.table_store.specs.Answers.{record_in, Writes}
use Rattle.table_store.specs.Splice.{spliced, placed}
use Rattle.table_store.proofs.Splices.{spliced_length, put_placed, splice_is}
use Rattle.table_store.proofs.StoredImages.{drop_take}
use Rattle.table_insert.specs.Added.{Gap, Spot, Free, free, taken, Inserts, adding, Adds}
use Rattle.std.specs.Prelude.{Result, Ok, Err}
use Rattle.table.specs.declared.Part.{Part}
use Rattle.table_insert.specs.declared.AddError.{AddError}
use Rattle.table_insert.specs.declared.AddError.TheVariants.{Twice, NoRoom}

-- `insert`
module _ (b path : Text) (used at limit : ℕ) (h : (at ≤ used) × (used ≤ limit) × (limit ≤ length b) × (limit ≤ paths_limit)) where
  abbrev new : Text
  new = spliced b used at at (framed path)

  new_length : length new ≡ used + (length path + 2)
  new_length = spliced_length b (framed path) used at at (omega arith) h.0 (omega arith) ∙ omega arith

  pub insert_full : limit - used < length path + 2 → Inserts limit new b b (Err NoRoom)
  insert_full m = let d : leb (length new) limit ≡ false = lt-leb (length new) limit (omega (arith, new_length)) in
      record { answers = rw d; leaves = rw d }

  pub insert_kept : (b1 ys : Text) {r : Outcome ℕ} → length path + 2 ≤ limit - used → b1 ≡ paste b (at + (length path + 2)) (drop at b)
      (used - at) → length b1 ≡ length b
      → Writes (record_in (length (mid_of at (length b1 - at) b1)) path) (mid_of at (length b1 - at) b1) ys r
      → Inserts limit new b (put_mid at (length b1 - at) b1 ys) (Ok (used + (length path + 2)))
  insert_kept b1 ys n e long w =
      let d : leb (length new) limit ≡ true = le-leb (length new) limit (omega (arith, new_length)) in
      record {
        answers = rw d (ap Ok (sym new_length));
        leaves = rw d
            (put_placed at path b1 ys (omega arith) (omega arith) w
            ∙ ap (placed at (framed path)) e
            ∙ splice_is b (framed path) used at at (omega arith) h.0 (omega arith) (length path + 2) (omega arith) (omega arith));
      }

-- `add`
pub is_free : {t x : Text} {r : Result Part ℕ} → Free t x r → (at : ℕ) → r ≡ Err at → Gap t x at
is_free {t} {x} s at e = of_free (rw e at s)
  where
    of_free : Free t x (Err at) → Gap t x at
    of_free (free g) = g

pub is_taken : {t x : Text} {r : Result Part ℕ} → Free t x r → (p : Part) → r ≡ Ok p → Spot t x p.from p.to
is_taken {t} {x} s p e = of_taken (rw e at s)
  where
    of_taken : Free t x (Ok p) → Spot t x p.from p.to
    of_taken (taken p) = p

pub add_taken : {t x : Text} {at end : ℕ} → Spot t x at end → (limit : ℕ) (old : Text) → Adds (adding limit x (held_texts t)) old old (Err Twice)
unfolding adding
add_taken p limit old = rw p.there (record { answers = refl; leaves = refl })

module _ (b x : Text) (used at : ℕ) (l : used ≤ length b) (g : Gap (take used b) x at) where
  pub gap_within : at ≤ used
  gap_within = omega (arith, g.within, length-take-le used b l)

  with_is : spliced b used at at (framed x) ≡ image (added x (held_texts (take used b)))
  unfolding spliced image written
  with_is =
      let front : take at b ≡ image g.front = sym (take-take at used b gap_within) ∙ g.low in
      let back : part b at used ≡ written g.back = sym (drop_take at used b gap_within l) ∙ g.high in
      rw (front, back, g.is, written_append g.front (x ∷ g.back))

  -- the bytes between which a path comes, with its record, are the image with the path
  pub add_inserts : {limit : ℕ} {left : Text} {r : Result ℕ AddError} → Inserts limit (spliced b used at at (framed x)) b left r
      → Adds (adding limit x (held_texts (take used b))) b left r
  unfolding adding
  add_inserts {limit} {left} {r} w = either (leb (image_length more) limit) yes none
    where
      more : List Text
      more = added x (held_texts (take used b))

      here : Inserts limit (image more) b left r
      here = rw with_is at w

      yes : leb (image_length more) limit ≡ true → Adds (adding limit x (held_texts (take used b))) b left r
      yes d = rw (g.new, d) (record { answers = here.answers ∙ rw (length_image more, d); leaves = here.leaves ∙ rw (length_image more, d) })

      none : leb (image_length more) limit ≡ false → Adds (adding limit x (held_texts (take used b))) b left r
      none d = rw (g.new, d) (record { answers = here.answers ∙ rw (length_image more, d); leaves = here.leaves ∙ rw (length_image more, d) })
