-- What stands at a place of an image: how `text_at` gets its answer, and what each answer says of the stage's texts. For whoever walks an image from
-- place 1 on: the texts met are those of the image, in order.
use Prim.Native.Nat.{ℕ, suc, ◌+◌, ◌-◌, ◌*◌, ◌≤◌, ◌<◌}
use native.Mathlib.Omega.{arith}
use native.Mathlib.Numerals.{add-one}
use mathlib.Core.Path.{◌≡◌, refl, sym, ap, ◌∙◌}
use mathlib.Core.Bool.{Bool, true, false}
use mathlib.Core.List.{List, [], ◌∷◌}
use mathlib.Core.Option.{Option, none, some}
use lib.Dec.{leb}
use lib.ListN.{length, drop, get_or, drop_of_length-le, length-drop}
use lib.Seq.{drop-cons, drop-drop}
use borrow.Author.Tests.{le-leb, lt-leb, leb-true}
use Rattle.stages.specs.Bytes.{Text, part, all, not_zero}
use Rattle.stages.specs.Outcome.{pick}
use Rattle.stages.specs.Images.{texts_in, texts, push, or_empty}
use Rattle.stages.proofs.Bools.{clash, some_same}
use Rattle.stages.proofs.Images.{whole, whole_fits, texts_nil, texts_single, texts_bad, texts_good, texts_inside}
use Rattle.std.specs.Prelude.{Some, None, Ok, Err}
use Rattle.table.specs.Pieces.{Piece, malformed, size_at, piece_of, piece_at, frame_of, frame_at, texts_from}

-- the ways of `frame_at`
module _ (t : Text) (at : ℕ) where
  two : 2 ≤ length t - at → drop at t ≡ get_or t at 0 ∷ get_or t (at + 1) 0 ∷ drop (at + 2) t
  two h =
      let k : at < length t = omega arith in
      let l : suc at < length t = omega arith in
      let e : at + 2 ≡ suc (suc at) = omega arith in
      rw (e, add-one at, drop-cons t at 0, drop-cons t (suc at) 0)

  pub frame_end : length t ≤ at → Ok None ≡ frame_at t at
  unfolding frame_at frame_of
  frame_end h = rw (drop_of_length-le t h)

  pub frame_one : length t - at ≡ 1 → Err malformed ≡ frame_at t at
  unfolding frame_at frame_of
  frame_one e =
      let h : at < length t = omega arith in
      let k : length t ≤ suc at = omega arith in
      rw (drop-cons t at 0, drop_of_length-le t k)

  module _ (n : ℕ) (e : n ≡ size_at t at) (h : 2 ≤ length t - at) where
    by_size : frame_at t at ≡ pick (leb n (length (drop (at + 2) t))) (Ok (Some (at + 2 + n))) (Err malformed)
    unfolding frame_at frame_of
    by_size = rw (two h, e)

    left : length (drop (at + 2) t) ≡ length t - at - 2
    left = length-drop (at + 2) t ∙ omega arith

    pub frame_long : length t - at - 2 < n → Err malformed ≡ frame_at t at
    frame_long k =
        let l : length (drop (at + 2) t) < n = omega (arith, left) in
        sym (by_size ∙ rw (lt-leb n (length (drop (at + 2) t)) l))

    pub frame_text : n ≤ length t - at - 2 → Ok (Some (at + 2 + n)) ≡ frame_at t at
    frame_text k = sym (by_size ∙ rw (le-leb n (length (drop (at + 2) t)) (omega (arith, left))))

-- a text stands at `at` and ends at `end`
pub record Stands (t : Text) (at end : ℕ) : Type 0 where
  pub low : at + 2 ≤ end
  pub high : end ≤ length t
  pub reads : texts_in (drop at t) ≡ push (part t (at + 2) end) (texts_in (drop end t))

none_left : (at : ℕ) (u : Text) → piece_of at u ≡ Ok None → u ≡ []
unfolding piece_of
none_left at [] e = refl
none_left at (a ∷ []) e = cc
none_left at (a ∷ b ∷ u) e = go (whole (a * 256 + b) u) refl
  where
    go : (x : Bool) → whole (a * 256 + b) u ≡ x → a ∷ b ∷ u ≡ []
    go true w = cc (rw w at e)
    go false w = cc (rw w at e)

no_texts : (at : ℕ) (u : Text) → piece_of at u ≡ Err malformed → texts_in u ≡ none
unfolding piece_of
no_texts at [] e = cc
no_texts at (a ∷ []) e = texts_single a
no_texts at (a ∷ b ∷ u) e = go (whole (a * 256 + b) u) refl
  where
    go : (x : Bool) → whole (a * 256 + b) u ≡ x → texts_in (a ∷ b ∷ u) ≡ none
    go true w = cc (rw w at e)
    go false w = texts_bad a b u w

stands_of : (t : Text) (at end : ℕ) (u : Text) → drop at t ≡ u → piece_of at u ≡ Ok (Some end) → Stands t at end
unfolding piece_of
stands_of t at end [] d e = cc
stands_of t at end (a ∷ []) d e = cc
stands_of t at end (a ∷ b ∷ u) d e = go (whole (a * 256 + b) u) refl
  where
    inside : drop (at + 2) t ≡ u
    inside = sym (drop-drop 2 at t) ∙ ap (drop 2) d

    go : (x : Bool) → whole (a * 256 + b) u ≡ x → Stands t at end
    go true w =
        let m : end ≡ at + 2 + (a * 256 + b) = cc (rw w at e) in
        let l : end - (at + 2) ≡ a * 256 + b = omega arith in
        record {
          low = omega arith;
          high = omega (arith, whole_fits (a * 256 + b) u w, length-drop at t, ap length d);
          reads = ap texts_in d ∙ texts_good a b u w ∙ rw (l, inside, m, ← drop-drop (a * 256 + b) (at + 2) t, inside);
        }
    go false w = cc (rw w at e)

-- what each answer says
module _ (t : Text) (at : ℕ) {r : Piece} (s : r ≡ piece_at t at) where
  pub is_end_lem : r ≡ Ok None → drop at t ≡ []
  unfolding piece_at
  is_end_lem e = none_left at (drop at t) (sym s ∙ e)

  pub is_bad : r ≡ Err malformed → texts_in (drop at t) ≡ none
  unfolding piece_at
  is_bad e = no_texts at (drop at t) (sym s ∙ e)

  pub is_text : {end : ℕ} → r ≡ Ok (Some end) → Stands t at end
  unfolding piece_at
  is_text {end} e = stands_of t at end (drop at t) refl (sym s ∙ e)

-- what each answer says where zero bytes are not looked for
framed_end : (at : ℕ) (u : Text) → frame_of at u ≡ Ok None → piece_of at u ≡ Ok None
unfolding piece_of frame_of
framed_end at [] e = refl
framed_end at (a ∷ []) e = cc
framed_end at (a ∷ b ∷ u) e = go (leb (a * 256 + b) (length u)) refl
  where
    go : (x : Bool) → leb (a * 256 + b) (length u) ≡ x → piece_of at (a ∷ b ∷ u) ≡ Ok None
    go true w = cc (rw w at e)
    go false w = cc (rw w at e)

framed_bad : (at : ℕ) (u : Text) → frame_of at u ≡ Err malformed → piece_of at u ≡ Err malformed
unfolding piece_of frame_of
framed_bad at [] e = cc
framed_bad at (a ∷ []) e = refl
framed_bad at (a ∷ b ∷ u) e = go (leb (a * 256 + b) (length u)) refl
  where
    go : (x : Bool) → leb (a * 256 + b) (length u) ≡ x → piece_of at (a ∷ b ∷ u) ≡ Err malformed
    go true w = cc (rw w at e)
    go false w = rw w

-- a text that may hold zero bytes
pub record Framed (t : Text) (at end : ℕ) : Type 0 where
  pub low : at + 2 ≤ end
  pub high : end ≤ length t
  pub piece : piece_at t at ≡ pick (all not_zero (part t (at + 2) end)) (Ok (Some end)) (Err malformed)

framed_of : (t : Text) (at end : ℕ) (u : Text) → drop at t ≡ u → frame_of at u ≡ Ok (Some end) → Framed t at end
unfolding piece_at piece_of frame_of
framed_of t at end [] d e = cc
framed_of t at end (a ∷ []) d e = cc
framed_of t at end (a ∷ b ∷ u) d e = go (leb (a * 256 + b) (length u)) refl
  where
    inside : drop (at + 2) t ≡ u
    inside = sym (drop-drop 2 at t) ∙ ap (drop 2) d

    go : (x : Bool) → leb (a * 256 + b) (length u) ≡ x → Framed t at end
    go true w =
        let m : end ≡ at + 2 + (a * 256 + b) = cc (rw w at e) in
        let l : end - (at + 2) ≡ a * 256 + b = omega arith in
        record {
          low = omega arith;
          high = omega (arith, leb-true (a * 256 + b) (length u) w, length-drop at t, ap length d);
          piece = rw (d, l, inside, w, m);
        }
    go false w = cc (rw w at e)

module _ (t : Text) (at : ℕ) {r : Piece} (s : r ≡ frame_at t at) where
  pub is_end_framed : r ≡ Ok None → drop at t ≡ []
  unfolding piece_at frame_at
  is_end_framed e = is_end_lem t at refl (framed_end at (drop at t) (sym s ∙ e))

  pub is_bad_framed : r ≡ Err malformed → texts_in (drop at t) ≡ none
  unfolding piece_at frame_at
  is_bad_framed e = is_bad t at refl (framed_bad at (drop at t) (sym s ∙ e))

  pub is_framed : {end : ℕ} → r ≡ Ok (Some end) → Framed t at end
  unfolding frame_at
  is_framed {end} e = framed_of t at end (drop at t) refl (sym s ∙ e)

  pub framed_none : r ≡ Ok None → Ok None ≡ piece_at t at
  unfolding piece_at frame_at
  framed_none e = sym (framed_end at (drop at t) (sym s ∙ e))

  pub framed_malformed : r ≡ Err malformed → Err malformed ≡ piece_at t at
  unfolding piece_at frame_at
  framed_malformed e = sym (framed_bad at (drop at t) (sym s ∙ e))

module _ {t : Text} {at end : ℕ} (f : Framed t at end) where
  pub framed_text : all not_zero (part t (at + 2) end) ≡ true → Ok (Some end) ≡ piece_at t at
  framed_text z = sym (f.piece ∙ rw z)

  pub framed_broken : all not_zero (part t (at + 2) end) ≡ false → Err malformed ≡ piece_at t at
  framed_broken z = sym (f.piece ∙ rw z)

  pub framed_whole : all not_zero (part t (at + 2) end) ≡ true → Stands t at end
  framed_whole z = is_text t at refl (f.piece ∙ rw z)

  pub framed_zero : all not_zero (part t (at + 2) end) ≡ false → texts_in (drop at t) ≡ none
  framed_zero z = is_bad t at refl (f.piece ∙ rw z)

-- the texts from a place on
pub record Ahead (t : Text) (at : ℕ) (l : List Text) : Type 0 where
  pub within : at ≤ length t
  pub is : texts_in (drop at t) ≡ some l

pub ahead_from : {t : Text} {at : ℕ} {l : List Text} → Ahead t at l → texts_from t at ≡ l
unfolding texts_from
ahead_from h = ap or_empty h.is

pub ahead_first : (t : Text) (l : List Text) → texts t ≡ some l → Ahead t 1 l
ahead_first t l e =
    let k : (t ≡ 1 ∷ drop 1 t) × (texts_in (drop 1 t) ≡ some l) = texts_inside t l e in
    record { within = omega (arith, ap length k.0); is = k.1 }

-- the text at a place is the first of those ahead, and behind it are the others
pub record Next (t : Text) (at end : ℕ) (l : List Text) : Type 0 where
  pub more : List Text
  pub is : l ≡ part t (at + 2) end ∷ more
  pub ahead : Ahead t end more
  pub low : at + 2 ≤ end

module _ {t : Text} {at : ℕ} {l : List Text} (h : Ahead t at l) {r : Piece} (s : r ≡ piece_at t at) where
  pub ahead_end : r ≡ Ok None → l ≡ []
  ahead_end e = some_same (sym h.is ∙ ap texts_in (is_end_lem t at s e) ∙ texts_nil)

  pub ahead_bad : r ≡ Err malformed → ⊥
  ahead_bad e = clash (sym (is_bad t at s e) ∙ h.is)

  pub ahead_text : {end : ℕ} → r ≡ Ok (Some end) → Next t at end l
  ahead_text {end} e = go (texts_in (drop end t)) refl
    where
      k : Stands t at end
      k = is_text t at s e

      go : (o : Option (List Text)) → texts_in (drop end t) ≡ o → Next t at end l
      go none q = absurd (clash (sym (k.reads ∙ ap (push (part t (at + 2) end)) q) ∙ h.is))
      go (some m) q = record {
        more = m;
        is = sym (some_same (sym (k.reads ∙ ap (push (part t (at + 2) end)) q) ∙ h.is));
        ahead = record { within = k.high; is = q };
        low = k.low;
      }
