-- The walk over a pattern's segments from its last star to its first: from the star at hand on, the shortest suffix begins at `top`.
use Prim.Native.Nat.{ℕ, suc, ◌+◌, ◌-◌, ◌≤◌, ◌<◌}
use mathlib.Core.Path.{◌≡◌, sym, ◌∙◌, ap, subst}
use mathlib.Core.Bool.{Bool, true, false}
use mathlib.Core.List.{List, ◌∷◌, ◌++◌}
use native.Mathlib.Omega.{arith}
use lib.Dec.{leb}
use lib.ListN.{length, take, drop, get_or}
use lib.Seq.{length-take-le, get_or-take}
use borrow.Author.Tests.{leb-true, leb-false}
use Rattle.stages.specs.Bytes.{Text}
use Rattle.stages.specs.Syntax.{suffix}
use Rattle.stages.specs.Pattern.{Element, star}
use Rattle.stages.proofs.Bools.{apart, either}
use Rattle.pattern_cell.specs.Cells.{Shows, Shown, is_star_cell, Trails, LastStar}
use Rattle.pattern_cell.proofs.Showing.{shown_take, shown_drop}
use Rattle.pattern_remove.specs.Bounds.{stands_at, LastAt, NoneBefore, Last, ShortestAt, NoneMatches, StarsAt}
use Rattle.std.specs.Prelude.{Option, Some, None}
use Rattle.pattern_remove.proofs.Bounding.{suffix_first, suffix_first_none, suffix_more, suffix_more_none, suffix_none}
use Rattle.pattern_remove.proofs.Stars.{
  star_shown,
  trails_shown,
  drop_parted,
  drop_taken,
  plain_behind,
  shown_end,
  end_length,
  last_star,
  end_plain,
}

-- what a case of an answer says
last_at : (x : List Element) (v : Text) (top : ℕ) {r : Option ℕ} {i : ℕ} → Last x v top r → r ≡ Some i → LastAt x v top i
last_at x v top l e = rw e at l

last_none : (x : List Element) (v : Text) (top : ℕ) {r : Option ℕ} → Last x v top r → r ≡ None → NoneBefore x v top
last_none x v top l e = rw e at l

-- from the star at a place on
pub record Topped (sets cells : List ℕ) (v : Text) (first at top : ℕ) : Type 0 where
  pub order : first ≤ at
  pub within : at < length cells
  pub here : is_star_cell (get_or cells at 0) ≡ true
  pub inside : top ≤ length v
  pub shortest : (p : List Element) → Shows sets cells p → ShortestAt suffix (drop at p) v top

-- none is matched from the first star on where none is from a later one
none_topped : (p : List Element) (v : Text) (first at : ℕ) → first ≤ at → NoneMatches suffix (drop at p) v → NoneMatches suffix (drop first p) v
none_topped p v first at h n =
    subst (λ (l : List Element). NoneMatches suffix l v) (sym (drop_parted p first at h)) (suffix_none (take (at - first) (drop first p)) n)

module _ {sets cells : List ℕ} {v : Text} {first last : ℕ} (w : StarsAt cells first last) where
  pub top_start_none : ((i : ℕ) → i + (length cells - last) ≡ length v → (x : List Element)
      → Shows sets (take (length cells - last) (drop last cells)) x → stands_at x v i ≡ false)
      → (p : List Element) → Shows sets cells p → NoneMatches suffix (drop first p) v
  top_start_none n p s =
      none_topped p v first (last - 1) (omega (arith, w.order))
      (subst (λ (l : List Element). NoneMatches suffix l v) (sym (last_star w s))
      (suffix_first_none (end_plain w s) v λ i h. n i (omega (arith, h, end_length s last)) (drop last p) (shown_end s last)))

  module _ {r : Bool} (top : ℕ) (h : top + (length cells - last) ≡ length v)
      (f : (x : List Element) → Shows sets (take (length cells - last) (drop last cells)) x → r ≡ stands_at x v top) where
    pub top_start : r ≡ true → Topped sets cells v first (last - 1) top
    top_start y =
        let o = w.order in
        let i = w.ends.trails.inside in
        record {
          order = omega arith;
          within = omega arith;
          here = w.ends.behind (last - 1) (omega arith);
          inside = omega arith;
          shortest = λ p s. subst (λ (l : List Element). ShortestAt suffix l v top) (sym (last_star w s))
              (suffix_first (end_plain w s) v top (omega (arith, end_length s last)) (sym (f (drop last p) (shown_end s last)) ∙ y));
        }

    pub top_start_else : r ≡ false → (p : List Element) → Shows sets cells p → NoneMatches suffix (drop first p) v
    top_start_else y =
        top_start_none λ i k x s. let e : i ≡ top = omega (arith, k) in ap (λ (n : ℕ). stands_at x v n) e ∙ sym (f x s) ∙ y

-- one segment more: between the star at hand and the last star before it, behind which `from` is
pub record TopTurn (sets cells : List ℕ) (v : Text) (first last at top from : ℕ) : Type 0 where
  pub shown : Shown sets cells
  pub stars : StarsAt cells first last
  pub topped : Topped sets cells v first at top
  pub more : first < at
  pub before : LastStar (take at cells) from

pub turn : {sets cells : List ℕ} {v : Text} {first last at top from : ℕ} → Shown sets cells → StarsAt cells first last
    → Topped sets cells v first at top → first < at → LastStar (take at cells) from → TopTurn sets cells v first last at top from
turn k w t m b = record { shown = k; stars = w; topped = t; more = m; before = b }

module _ {sets cells : List ℕ} {v : Text} {first last at top from : ℕ} (t : TopTurn sets cells v first last at top from) where
  taken_length : length (take at cells) ≡ at
  taken_length = length-take-le at cells (omega (arith, t.topped.within))

  pub segment_end : from ≤ at
  segment_end = omega (arith, t.before.trails.inside, taken_length)

  pub segment_start : first < from
  segment_start =
      either (leb from first)
      (λ y. absurd (apart
      (sym (ap is_star_cell (get_or-take at cells first 0 t.more))
      ∙ t.before.trails.plain first (leb-true from first y) (omega (arith, t.more, taken_length)))
      (t.stars.leads.here (omega (arith, t.more, t.topped.within)))))
      λ y. leb-false from first y

  pub segment_plain : Trails (take (at - from) (drop from cells)) 0
  segment_plain =
      subst (λ (c : List ℕ). Trails c 0) (drop_taken cells from at segment_end (omega (arith, t.topped.within))) (plain_behind t.before.trails)

  star_before : is_star_cell (get_or cells (from - 1) 0) ≡ true
  star_before =
      let a = segment_start in
      let b = segment_end in
      sym (ap is_star_cell (get_or-take at cells (from - 1) 0 (omega arith))) ∙ t.before.behind (from - 1) (omega arith)

  module _ {p : List Element} (s : Shows sets cells p) where
    whole : drop (from - 1) p ≡ star ∷ (take (at - from) (drop from p) ++ (star ∷ drop (suc at) p))
    whole =
        let a = segment_start in
        let b = segment_end in
        let e : suc (from - 1) ≡ from = omega arith in
        star_shown s (from - 1) (omega (arith, t.topped.within)) star_before ∙ ap (λ (n : ℕ). star ∷ drop n p) e
        ∙ ap (λ (z : List Element). star ∷ z)
        (drop_parted p from at b ∙ ap (λ (z : List Element). take (at - from) (drop from p) ++ z) (star_shown s at t.topped.within t.topped.here))

    behind : ShortestAt suffix (star ∷ drop (suc at) p) v top
    behind = subst (λ (z : List Element). ShortestAt suffix z v top) (star_shown s at t.topped.within t.topped.here) (t.topped.shortest p s)

    shows : Shows sets (take (at - from) (drop from cells)) (take (at - from) (drop from p))
    shows = shown_take (shown_drop s from) (at - from)

  module _ {r : Option ℕ} (f : (x : List Element) → Shows sets (take (at - from) (drop from cells)) x → Last x v top r) where
    more_topped : {i : ℕ} → r ≡ Some i → (p : List Element) → Shows sets cells p → ShortestAt suffix (drop (from - 1) p) v i
    more_topped {i} e p s =
        subst (λ (z : List Element). ShortestAt suffix z v i) (sym (whole s))
        (suffix_more (trails_shown (shows s) segment_plain) (drop (suc at) p) (behind s)
        (last_at (take (at - from) (drop from p)) v top (f (take (at - from) (drop from p)) (shows s)) e))

    pub top_on : {i : ℕ} → r ≡ Some i → Topped sets cells v first (from - 1) i
    top_on e =
        let a = segment_start in
        let b = segment_end in
        record {
          order = omega arith;
          within = omega (arith, t.topped.within);
          here = star_before;
          inside = (more_topped e t.shown.es t.shown.shows).inside;
          shortest = more_topped e;
        }

    pub top_on_none : r ≡ None → (p : List Element) → Shows sets cells p → NoneMatches suffix (drop first p) v
    top_on_none e p s =
        none_topped p v first (from - 1) (omega (arith, segment_start))
        (subst (λ (z : List Element). NoneMatches suffix z v) (sym (whole s))
        (suffix_more_none (trails_shown (shows s) segment_plain) (drop (suc at) p) (behind s)
        (last_none (take (at - from) (drop from p)) v top (f (take (at - from) (drop from p)) (shows s)) e)))
