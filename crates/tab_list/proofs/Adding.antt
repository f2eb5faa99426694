-- A field behind others: each way of the code is one of the definition's.
use Rattle.std.specs.Prelude.{Result, Ok, Err}
use Rattle.table_store.specs.declared.NoRoom.{NoRoom}
use Prim.Native.Nat.{ℕ, ◌+◌, ◌-◌, ◌≤◌, ◌<◌}
use native.Mathlib.Omega.{arith}
use mathlib.Core.Path.{◌≡◌, refl, sym, ap, ◌∙◌}
use mathlib.Core.Bool.{Bool, true, false}
use mathlib.Core.List.{List, [], ◌∷◌, ◌++◌, append_assoc, append-nil}
use lib.Dec.{leb}
use lib.ListN.{length, take, drop, length-append, take-append-drop}
use lib.Seq.{length-take-le, take_at, drop-drop}
use borrow.Rule.Slice.PartMut.{put_mid, mid_of}
use borrow.Author.Tests.{le-leb, lt-leb, leb-true, leb-false}
use Rattle.stages.specs.Numbers.{image_limit}
use Rattle.stages.specs.Bytes.{Text}
use Rattle.stages.specs.Images.{framed, written, image, record_bytes, image_length}
use Rattle.stages.specs.Call.{over}
use Rattle.stages.proofs.Images.{written_append, record_bytes_append, length_image}
use Rattle.text.proofs.Parts.{rest_is, rest_length, rest_back}
use Rattle.table_store.specs.Answers.{put_outcome, text_limit, record_in, Writes}
use Rattle.table_store.proofs.Callers.{put_len, put_none}
use Rattle.tab_escape.specs.Escapes.{Reading, good, read_text, Reads, reads, fails}
use Rattle.tab_escape.specs.declared.Fault.{Fault}
use Rattle.tab_escape.specs.declared.Fault.TheVariants.{TooLong}
use Rattle.tab_list.specs.Listings.{roomed, lined, Adds, takes, stops}

-- no room for a field is told as an image that is too long
abbrev pub put_as : Result ℕ NoRoom → Result ℕ Fault
put_as (Ok n) = Ok n
put_as (Err e) = Err TooLong

same : {k n : ℕ} → ◌≡◌ {A = Result ℕ Fault} (Ok k) (Ok n) → ◌≡◌ {A = Result ℕ NoRoom} (Ok k) (Ok n)
same e = cc

apart : {n : ℕ} → ◌≡◌ {A = Result ℕ Fault} (Err TooLong) (Ok n) → ⊥
apart e = cc

pub put_ok : {r : Result ℕ NoRoom} {n : ℕ} → put_as r ≡ Ok n → r ≡ Ok n
put_ok {r = Ok k} e = same e
put_ok {r = Err x} e = absurd (apart e)

err_same : {f g : Fault} → ◌≡◌ {A = Result ℕ Fault} (Err f) (Err g) → f ≡ g
err_same e = cc

ok_err : {n : ℕ} {f : Fault} → ◌≡◌ {A = Result ℕ Fault} (Ok n) (Err f) → ⊥
ok_err e = cc

pub not_put : (r : Result ℕ NoRoom) {f : Fault} → put_as r ≡ Err f → (x : NoRoom) × (r ≡ Err x) × (f ≡ TooLong)
not_put (Ok n) e = absurd (ok_err e)
not_put (Err x) e = (x, refl, sym (err_same e))

-- one more field

pub one_more : (l : List Text) (t : Text) → image_length (l ++ (t ∷ [])) ≡ image_length l + (length t + 2)
unfolding image_length record_bytes
one_more l t = omega (arith, record_bytes_append l (t ∷ []))

image_more : (l : List Text) (t : Text) → image (l ++ (t ∷ [])) ≡ image l ++ framed t
unfolding image written
image_more l t = ap (λ (x : Text). 1 ∷ x) (written_append l (t ∷ []) ∙ ap (λ (x : Text). written l ++ x) (append-nil (framed t)))

-- the free part of the buffer was lent, and the field's record stands at its front
placed_more : (used : ℕ) (old ys t : Text) (l : List Text) → take used old ≡ image l → used ≤ length old
    → ys ≡ over (framed t) (mid_of used (length old - used) old) → put_mid used (length old - used) old ys ≡ over (image (l ++ (t ∷ []))) old
unfolding over
placed_more used old ys t l h u e =
    let n : length (image (l ++ (t ∷ []))) ≡ used + length (framed t) =
    ap length (image_more l t) ∙ length-append (image l) (framed t) ∙ ap (λ (k : ℕ). k + length (framed t))
    (ap length (sym h) ∙ length-take-le used old u) in
    let y : ys ≡ framed t ++ drop (used + length (framed t)) old =
    e ∙ ap (λ (x : Text). framed t ++ drop (length (framed t)) x) (rest_is used old)
    ∙ ap (λ (x : Text). framed t ++ x) (drop-drop (length (framed t)) used old) in
    rest_back used old ys
    ∙ ap (λ (x : Text). x ++ ys) h
    ∙ ap (λ (x : Text). image l ++ x) y
    ∙ sym (append_assoc (image l) (framed t) (drop (used + length (framed t)) old))
    ∙ ap (λ (x : Text). x ++ drop (used + length (framed t)) old) (sym (image_more l t))
    ∙ ap (λ (k : ℕ). image (l ++ (t ∷ [])) ++ drop k old) (sym n)

-- the text that was read is n bytes
pub record Got (line left : Text) (n : ℕ) : Type 0 where
  pub is : read_text line ≡ good (take n left)
  pub long : n ≤ length left

module _ (line : Text) {area left : Text} {r : Result ℕ Fault} (s : Reads (read_text line) area left r) where
  pub line_bad : (room : ℕ) (l : List Text) (old : Text) (g : Fault) → r ≡ Err g → Adds (lined room (read_text line) l) old old (Err g)
  unfolding lined
  line_bad room l old g q = bad_of (rw q at s)
    where
      bad_of : Reads (read_text line) area left (Err g) → Adds (lined room (read_text line) l) old old (Err g)
      bad_of (fails x k) = stops (ap (λ (y : Reading). lined room y l) x) refl

  pub line_good : (n : ℕ) → r ≡ Ok n → Got line left n
  unfolding over
  line_good n q = good_of (rw q at s)
    where
      good_of : Reads (read_text line) area left (Ok n) → Got line left n
      good_of (reads {t} x z p) =
          let w : take n left ≡ t = ap (take n) p.leaves ∙ take_at t (drop (length t) area) n (sym p.counts) in
          record { is = x ∙ ap good (sym w); long = omega (arith, p.counts, ap length p.leaves, length-append t (drop (length t) area)) }

module _ {line area : Text} {k : ℕ} (g : Got line area k) (used : ℕ) (old ys : Text) (r : Result ℕ NoRoom) (h : used ≤ length old)
    (small : length old ≤ image_limit)
    (w : Writes (record_in (length (mid_of used (length old - used) old)) (take k area)) (mid_of used (length old - used) old) ys (put_outcome r)) where
  abbrev t : Text
  t = take k area

  abbrev after : Text
  after = put_mid used (length old - used) old ys

  pub line_fits : {n : ℕ} → r ≡ Ok n → used + n ≤ length old
  line_fits {n} e =
      let d : (n ≡ length t + 2) × (ys ≡ over (framed t) (mid_of used (length old - used) old)) ×
      (length t + 2 ≤ length (mid_of used (length old - used) old)) =
      put_len t (mid_of used (length old - used) old) ys r w n e in
      omega (arith, d.0, d.2, rest_length used old)

  module _ (l : List Text) (q : take used old ≡ image l) where
    used_is : used ≡ image_length l
    used_is = sym (length-take-le used old h) ∙ ap length q ∙ length_image l

    by_room : (b : Bool) → leb (image_length (l ++ (t ∷ []))) (length old) ≡ b → lined (length old) (read_text line) l ≡ roomed b (l ++ (t ∷ []))
    unfolding lined
    by_room b e = ap (λ (y : Reading). lined (length old) y l) g.is ∙ ap (λ (x : Bool). roomed x (l ++ (t ∷ []))) e

    pub line_put : {n : ℕ} → r ≡ Ok n → Adds (lined (length old) (read_text line) l) old after (Ok (used + n))
    line_put {n} e =
        let d : (n ≡ length t + 2) × (ys ≡ over (framed t) (mid_of used (length old - used) old)) ×
        (length t + 2 ≤ length (mid_of used (length old - used) old)) =
        put_len t (mid_of used (length old - used) old) ys r w n e in
        let m : image_length (l ++ (t ∷ [])) ≤ length old = omega (arith, one_more l t, used_is, d.0, line_fits e) in
        takes {l = l ++ (t ∷ [])} {n = used + n} (by_room true (le-leb (image_length (l ++ (t ∷ []))) (length old) m))
        (omega (arith, one_more l t, used_is, d.0)) (placed_more used old ys t l q h d.1)

    pub line_full : {x : NoRoom} → r ≡ Err x → Adds (lined (length old) (read_text line) l) old after (Err TooLong)
    line_full e =
        let d : (ys ≡ mid_of used (length old - used) old) × (length t ≤ text_limit → length (mid_of used (length old - used) old) < length t + 2) =
        put_none t (mid_of used (length old - used) old) ys r w e in
        stops {f = TooLong}
        (by_room false (lt-leb (image_length (l ++ (t ∷ []))) (length old) (long (leb (length t) text_limit) refl d.1)))
        (rest_back used old ys ∙ ap (λ (x : Text). take used old ++ x) (d.0 ∙ rest_is used old) ∙ whole)
      where
        whole : take used old ++ drop used old ≡ old
        whole = take-append-drop used old

        long : (x : Bool) → leb (length t) text_limit ≡ x
            → (length t ≤ text_limit → length (mid_of used (length old - used) old) < length t + 2)
            → length old < image_length (l ++ (t ∷ []))
        long true z k = omega (arith, k (leb-true (length t) text_limit z), rest_length used old, one_more l t, used_is)
        long false z k = omega (arith, leb-false (length t) text_limit z, one_more l t, used_is)
