-- The splice, on plain lists: what stands behind moves, two records are written behind each other, and the first bytes are then the spliced ones, all
-- from their end on as before.
use Prim.Native.Nat.{ℕ, ◌+◌, ◌-◌, ◌≤◌, ◌<◌}
use native.Mathlib.Omega.{arith}
use mathlib.Core.Path.{◌≡◌, sym, ap, ◌∙◌}
use mathlib.Core.Bool.{Bool, true, false}
use mathlib.Core.List.{[], ◌++◌, append_assoc, append-nil}
use lib.ListN.{length, take, drop, length-append, length-drop}
use lib.Seq.{paste, take_at, drop_at, take_all, drop-drop, drop-length, length-take-le, take-append-le, take-take}
use borrow.Rule.Slice.PartMut.{put_mid, mid_of}
use borrow.Author.Tests.{leb-true, leb-false, le-leb, lt-leb}
use Rattle.stages.specs.Numbers.{variable_room, image_limit}
use Rattle.stages.specs.Bytes.{Text, part}
use Rattle.stages.specs.Outcome.{Outcome, refused, done}
use Rattle.stages.specs.Images.{framed}
use Rattle.stages.specs.Call.{over}
use Rattle.table_store.specs.Answers.{text_limit, record_in, left_by, Writes}
use Rattle.table_store.specs.Splice.{spliced, placed, within, room_for}
use Rattle.table_store.proofs.Placed.{placed_length}
use Rattle.table_store.proofs.Writing.{writes_done, writes_refused, record_fits}

pub within_fits : (limit : ℕ) (t : Text) → length t ≤ limit → within limit t ≡ done t
unfolding within
within_fits limit t h = rw (le-leb (length t) limit h)

pub within_full : (limit : ℕ) (t : Text) → limit < length t → within limit t ≡ refused variable_room
unfolding within
within_full limit t h = rw (lt-leb (length t) limit h)

-- what the answer of `fits` tells

pub has_room : {r : Bool} (n v room : ℕ) → r ≡ room_for n v room → r ≡ true → n + v + 4 ≤ room
unfolding room_for
has_room n v room e k = leb-true (n + v + 4) room (sym e ∙ k)

pub lacks_room : {r : Bool} (n v room : ℕ) → r ≡ room_for n v room → r ≡ false → room < n + v + 4
unfolding room_for
lacks_room n v room e k = leb-false (n + v + 4) room (sym e ∙ k)

-- so many bytes have room in the part behind p
pub part_room : (p n : ℕ) (x : Text) → p + n ≤ length x → n ≤ length (mid_of p (length x - p) x)
part_room p n x h =
    let d : length (drop p x) ≡ length x - p = length-drop p x in
    let e : take (length x - p) (drop p x) ≡ drop p x = take_all (length x - p) (drop p x) (omega arith) in
    rw e (omega arith)

-- a record that is put into the part behind p, which is then given back
pub put_placed : (p : ℕ) (t x ys : Text) {r : Outcome ℕ} → length t ≤ text_limit → p + (length t + 2) ≤ length x
    → Writes (record_in (length (mid_of p (length x - p) x)) t) (mid_of p (length x - p) x) ys r → put_mid p (length x - p) x ys ≡ placed p (framed t) x
unfolding placed over
put_placed p t x ys h k w =
    let n : length (drop p x) ≡ length x - p = length-drop p x in
    let m : take (length x - p) (drop p x) ≡ drop p x = take_all (length x - p) (drop p x) (omega arith) in
    let f : record_in (length (drop p x)) t ≡ done (framed t) = record_fits (length (drop p x)) t h (omega arith) in
    let q : ys ≡ framed t ++ drop (length (framed t)) (drop p x) = (rw m at w).leaves ∙ ap (λ (o : Outcome Text). left_by o (drop p x)) f in
    let z : drop (length x - p) (drop p x) ≡ [] = rw (← n) (drop-length (drop p x)) in
    rw (z, append-nil ys, q, drop-drop (length (framed t)) p x)

-- two behind each other are one
pub placed_both : (p : ℕ) (w v x : Text) → p + length w ≤ length x → placed (p + length w) v (placed p w x) ≡ placed p (w ++ v) x
unfolding placed
placed_both p w v x h =
    let n : length (take p x ++ w) ≡ p + length w = simp (length-append, length-take-le p x (omega arith)) in
    let e : take p x ++ (w ++ drop (p + length w) x) ≡ (take p x ++ w) ++ drop (p + length w) x = sym (append_assoc (take p x) w (drop (p + length w) x)) in
    let t : take (p + length w) ((take p x ++ w) ++ drop (p + length w) x) ≡ take p x ++ w =
    take_at (take p x ++ w) (drop (p + length w) x) (p + length w) n in
    let d : drop (p + length w) ((take p x ++ w) ++ drop (p + length w) x) ≡ drop (p + length w) x =
    drop_at (take p x ++ w) (drop (p + length w) x) (p + length w) n in
    let k : p + length w + length v ≡ p + length (w ++ v) = simp length-append (omega arith) in
    rw (e, t, ← drop-drop (length v) (p + length w) ((take p x ++ w) ++ drop (p + length w) x), d, drop-drop (length v) (p + length w) x, k)
    (append_assoc (take p x) w (v ++ drop (p + length (w ++ v)) x) ∙ ap (λ (l : Text). take p x ++ l)
    (sym (append_assoc w v (drop (p + length (w ++ v)) x))))

regroup : (x y z u : Text) → x ++ (y ++ (z ++ u)) ≡ (x ++ (y ++ z)) ++ u
regroup x y z u = simp append_assoc

module _ (b w : Text) (used at end : ℕ) (h : at ≤ end) (k : end ≤ used) (l : used ≤ length b) where
  pub spliced_length : length (spliced b used at end w) ≡ at + (length w + (used - end))
  unfolding spliced
  spliced_length =
      let n : length (drop end b) ≡ length b - end = length-drop end b in
      simp (length-append, length-take-le at b (omega arith), length-take-le (used - end) (drop end b) (omega arith))

  module _ (size : ℕ) (s : size ≡ length w) (m : at + size + (used - end) ≤ length b) where
    abbrev moved : Text
    moved = paste b (at + size) (drop end b) (used - end)

    front : take at moved ≡ take at b
    front =
        let n : length (take (at + size) b) ≡ at + size = length-take-le (at + size) b (omega arith) in
        ap (take at) (append_assoc (take (at + size) b) (take (used - end) (drop end b)) (drop (at + size + (used - end)) b))
        ∙ take-append-le at (take (at + size) b) (take (used - end) (drop end b) ++ drop (at + size + (used - end)) b) (omega arith)
        ∙ take-take at (at + size) b (omega arith)

    back : drop (at + size) moved ≡ part b end used ++ drop (at + size + (used - end)) b
    back =
        ap (drop (at + size)) (append_assoc (take (at + size) b) (take (used - end) (drop end b)) (drop (at + size + (used - end)) b))
        ∙ drop_at (take (at + size) b) (take (used - end) (drop end b) ++ drop (at + size + (used - end)) b) (at + size)
        (length-take-le (at + size) b (omega arith))

    pub splice_is : placed at w moved ≡ over (spliced b used at end w) b
    unfolding placed spliced over
    splice_is =
        let q : at + size + (used - end) ≡ length (spliced b used at end w) = omega (arith, spliced_length) in
        ap (λ (x : Text). x ++ (w ++ drop (at + length w) moved)) front
        ∙ ap (λ (n : ℕ). take at b ++ (w ++ drop (at + n) moved)) (sym s)
        ∙ ap (λ (x : Text). take at b ++ (w ++ x)) (back ∙ ap (λ (n : ℕ). part b end used ++ drop n b) q)
        ∙ regroup (take at b) w (part b end used) (drop (length (spliced b used at end w)) b)

-- what `splice` answers and leaves
module _ (b name value : Text) (used at end limit : ℕ)
    (p : (at ≤ end) × (end ≤ used) × (used ≤ limit) × (limit ≤ length b) × (limit ≤ image_limit)) where
  abbrev new : Text
  new = framed name ++ framed value

  abbrev size : ℕ
  size = length name + length value + 4

  new_size : length new ≡ size
  new_size = simp length-append (omega arith)

  new_length : length (spliced b used at end new) ≡ at + (size + (used - end))
  new_length = spliced_length b new used at end p.0 p.1 (omega arith) ∙ ap (λ (n : ℕ). at + (n + (used - end))) new_size

  pub splice_full : limit - (used - (end - at)) < size → Writes (within limit (spliced b used at end new)) b b (refused variable_room)
  splice_full m = writes_refused variable_room b (within_full limit (spliced b used at end new) (omega (arith, new_length)))

  module _ (b1 ys1 : Text) {r1 : Outcome ℕ} (n : size ≤ limit - (used - (end - at))) (e : b1 ≡ paste b (at + size) (drop end b) (used - end))
      (long : length b1 ≡ length b)
      (w1 : Writes (record_in (length (mid_of at (length b1 - at) b1)) name) (mid_of at (length b1 - at) b1) ys1 r1) where
    abbrev b2 : Text
    b2 = put_mid at (length b1 - at) b1 ys1

    abbrev next : ℕ
    next = at + 2 + length name

    b2_is : b2 ≡ placed at (framed name) b1
    b2_is = put_placed at name b1 ys1 (omega arith) (omega arith) w1

    b2_length : length b2 ≡ length b
    b2_length = ap length b2_is ∙ placed_length at (framed name) b1 (omega arith) ∙ long

    behind : next ≡ at + length (framed name)
    behind = omega arith

    pub splice_kept : (ys2 : Text) {r2 : Outcome ℕ} → Writes (record_in (length (mid_of next (length b2 - next) b2)) value)
        (mid_of next (length b2 - next) b2) ys2 r2
        → Writes (within limit (spliced b used at end new)) b (put_mid next (length b2 - next) b2 ys2) (done (used - (end - at) + size))
    splice_kept ys2 w2 =
        writes_done (spliced b used at end new) b
        (within_fits limit (spliced b used at end new) (omega (arith, new_length)))
        (omega (arith, new_length))
        (put_placed next value b2 ys2 (omega arith) (omega (arith, b2_length)) w2
        ∙ ap (λ (x : Text). placed next (framed value) x) b2_is
        ∙ ap (λ (i : ℕ). placed i (framed value) (placed at (framed name) b1)) behind
        ∙ placed_both at (framed name) (framed value) b1 (omega arith)
        ∙ ap (placed at new) e
        ∙ splice_is b new used at end p.0 p.1 (omega arith) size (sym new_size) (omega arith))
