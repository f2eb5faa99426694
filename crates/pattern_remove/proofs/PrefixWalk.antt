-- The walk over a pattern's segments from its first star to its last: up to the star before the place at hand, the shortest prefix ends at `low`.
use Prim.Native.Nat.{ℕ, suc, ◌+◌, ◌-◌, ◌≤◌, ◌<◌}
use mathlib.Core.Path.{◌≡◌, sym, ◌∙◌, ap, subst}
use mathlib.Core.Bool.{Bool, true, false}
use mathlib.Core.List.{List, [], ◌∷◌, ◌++◌}
use native.Mathlib.Omega.{arith}
use native.Mathlib.Numerals.{add-one}
use lib.Dec.{leb}
use lib.ListN.{length, take, drop, get_or, length-drop}
use lib.Seq.{take-add, length-take-le, get_or-drop}
use borrow.Author.Tests.{leb-true, leb-false}
use Rattle.stages.specs.Bytes.{Text}
use Rattle.stages.specs.Syntax.{prefix}
use Rattle.stages.specs.Pattern.{Element, star}
use Rattle.stages.proofs.Bools.{apart, either}
use Rattle.pattern_cell.specs.Cells.{Shows, Shown, is_star_cell, FirstStar}
use Rattle.pattern_cell.proofs.Showing.{shown_length, shown_take, shown_drop}
use Rattle.pattern_remove.specs.Shapes.{Plain}
use Rattle.pattern_remove.specs.Bounds.{stands_at, FirstAt, NoneFrom, First, ShortestAt, NoneMatches, StarsAt}
use Rattle.std.specs.Prelude.{Option, Some, None}
use Rattle.pattern_remove.proofs.Bounding.{prefix_first, prefix_first_none, prefix_more, prefix_more_none, prefix_none}
use Rattle.pattern_remove.proofs.Stars.{
  star_shown,
  trails_shown,
  cells_end,
  take_parted,
  take_star,
  plain_before,
  first_length,
  first_star,
  start_plain,
}

-- what a case of an answer says
first_at : (x : List Element) (v : Text) (low : ℕ) {r : Option ℕ} {i : ℕ} → First x v low r → r ≡ Some i → FirstAt x v low i
first_at x v low f e = rw e at f

first_none : (x : List Element) (v : Text) (low : ℕ) {r : Option ℕ} → First x v low r → r ≡ None → NoneFrom x v low
first_none x v low f e = rw e at f

-- up to the star before a place
pub record Lowered (sets cells : List ℕ) (v : Text) (from last low : ℕ) : Type 0 where
  pub some : 0 < from
  pub order : from ≤ last
  pub here : is_star_cell (get_or cells (from - 1) 0) ≡ true
  pub inside : low ≤ length v
  pub shortest : (p : List Element) → Shows sets cells p → ShortestAt prefix (take from p) v low

-- none is matched up to the last star where none is up to an earlier one
none_lowered : (p : List Element) (v : Text) (from last : ℕ) → from ≤ last → NoneMatches prefix (take from p) v → NoneMatches prefix (take last p) v
none_lowered p v from last h n =
    subst (λ (l : List Element). NoneMatches prefix l v) (sym (take_parted p from last h)) (prefix_none (take (last - from) (drop from p)) n)

module _ {sets cells : List ℕ} {v : Text} {first last : ℕ} (w : StarsAt cells first last) where
  pub low_start : {r : Bool} → first ≤ length v → ((x : List Element) → Shows sets (take first cells) x → r ≡ stands_at x v 0) → r ≡ true
      → Lowered sets cells v (first + 1) last first
  low_start h f y =
      let o = w.order in
      let e : first + 1 - 1 ≡ first = omega arith in
      record {
        some = omega arith;
        order = omega arith;
        here = ap (λ (n : ℕ). is_star_cell (get_or cells n 0)) e ∙ w.leads.here (omega (arith, w.ends.trails.inside));
        inside = h;
        shortest = λ p s. subst (λ (l : List Element). ShortestAt prefix l v first) (sym (first_star w s))
            (subst (λ (n : ℕ). ShortestAt prefix (take first p ++ (star ∷ [])) v n) (first_length w s)
            (prefix_first (start_plain w s) v (omega (arith, first_length w s)) (sym (f (take first p) (shown_take s first)) ∙ y)));
      }

  pub low_start_none : (first ≤ length v → (x : List Element) → Shows sets (take first cells) x → stands_at x v 0 ≡ false)
      → (p : List Element) → Shows sets cells p → NoneMatches prefix (take last p) v
  low_start_none n p s =
      none_lowered p v (first + 1) last (omega (arith, w.order))
      (subst (λ (l : List Element). NoneMatches prefix l v) (sym (first_star w s))
      (prefix_first_none (start_plain w s) v λ h. n (omega (arith, h, first_length w s)) (take first p) (shown_take s first)))

-- one segment more: from behind the star at hand to the next one, `count` cells on
pub record LowTurn (sets cells : List ℕ) (v : Text) (first last from low count : ℕ) : Type 0 where
  pub shown : Shown sets cells
  pub stars : StarsAt cells first last
  pub lowered : Lowered sets cells v from last low
  pub more : from < last
  pub behind : FirstStar (take (length cells - from) (drop from cells)) count

pub turn : {sets cells : List ℕ} {v : Text} {first last from low count : ℕ} → Shown sets cells → StarsAt cells first last
    → Lowered sets cells v from last low → from < last → FirstStar (take (length cells - from) (drop from cells)) count
    → LowTurn sets cells v first last from low count
turn k w t m b = record { shown = k; stars = w; lowered = t; more = m; behind = b }

module _ {sets cells : List ℕ} {v : Text} {first last from low count : ℕ} (t : LowTurn sets cells v first last from low count) where
  next : FirstStar (drop from cells) count
  next = subst (λ (c : List ℕ). FirstStar c count) (cells_end cells from) t.behind

  pub star_next : from + count < last
  star_next =
      either (leb count (last - 1 - from)) (λ y. omega (arith, t.more, leb-true count (last - 1 - from) y))
      λ y. absurd (apart (next.plain (last - 1 - from) (leb-false count (last - 1 - from) y))
      (ap is_star_cell (get_or-drop from cells (last - 1 - from) 0) ∙ ap (λ (n : ℕ). is_star_cell (get_or cells n 0)) there
      ∙ t.stars.ends.behind (last - 1) (omega (arith, t.more))))
    where
      there : from + (last - 1 - from) ≡ last - 1
      there = omega (arith, t.more)

  room : count < length (drop from cells)
  room = omega (arith, star_next, t.stars.ends.trails.inside, length-drop from cells)

  lent : from + count - from ≡ count
  lent = omega arith

  module _ {p : List Element} (s : Shows sets cells p) where
    part_shows : Shows sets (take (from + count - from) (drop from cells)) (take count (drop from p))
    part_shows = subst (λ (n : ℕ). Shows sets (take n (drop from cells)) (take count (drop from p))) (sym lent) (shown_take (shown_drop s from) count)

    part_plain : Plain (take count (drop from p))
    part_plain = trails_shown (shown_take (shown_drop s from) count) (plain_before next)

    part_counts : length (take count (drop from p)) ≡ count
    part_counts = length-take-le count (drop from p) (omega (arith, room, shown_length (shown_drop s from)))

    up_to_lem : take from p ≡ take (from - 1) p ++ (star ∷ [])
    up_to_lem =
        let e : suc (from - 1) ≡ from = omega (arith, t.lowered.some) in
        ap (λ (n : ℕ). take n p) (sym e)
        ∙ take_star p (from - 1) (star_shown s (from - 1) (omega (arith, t.lowered.some, t.more, t.stars.ends.trails.inside)) t.lowered.here)

    longer : take (from + (count + 1)) p ≡ (take (from - 1) p ++ (star ∷ [])) ++ (take count (drop from p) ++ (star ∷ []))
    longer =
        take-add from (count + 1) p ∙ ap (λ (l : List Element). l ++ take (count + 1) (drop from p)) up_to_lem
        ∙ ap (λ (l : List Element). (take (from - 1) p ++ (star ∷ [])) ++ l)
        (ap (λ (n : ℕ). take n (drop from p)) (add-one count) ∙ take_star (drop from p) count (star_shown (shown_drop s from) count room (next.here room)))

    before : ShortestAt prefix (take (from - 1) p ++ (star ∷ [])) v low
    before = subst (λ (l : List Element). ShortestAt prefix l v low) up_to_lem (t.lowered.shortest p s)

  module _ {r : Option ℕ} (g : (x : List Element) → Shows sets (take (from + count - from) (drop from cells)) x → First x v low r) where
    found : {i : ℕ} → r ≡ Some i → {p : List Element} → Shows sets cells p → FirstAt (take count (drop from p)) v low i
    found e {p} s = first_at (take count (drop from p)) v low (g (take count (drop from p)) (part_shows s)) e

    more_lowered : {i : ℕ} → r ≡ Some i → (p : List Element) → Shows sets cells p → ShortestAt prefix (take (from + (count + 1)) p) v (i + count)
    more_lowered {i} e p s =
        subst (λ (l : List Element). ShortestAt prefix l v (i + count)) (sym (longer s))
        (subst (λ (n : ℕ). ShortestAt prefix ((take (from - 1) p ++ (star ∷ [])) ++ (take count (drop from p) ++ (star ∷ []))) v (i + n)) (part_counts s)
        (prefix_more (part_plain s) (take (from - 1) p) (before s) (found e s)))

    -- the segment's end is inside the value
    pub low_room : {i : ℕ} → r ≡ Some i → i + count ≤ length v
    low_room e = (more_lowered e t.shown.es t.shown.shows).inside

    pub low_on : {i : ℕ} → r ≡ Some i → Lowered sets cells v (from + (count + 1)) last (i + count)
    low_on e =
        let z : from + (count + 1) - 1 ≡ from + count = omega arith in
        record {
          some = omega arith;
          order = omega (arith, star_next);
          here = ap (λ (n : ℕ). is_star_cell (get_or cells n 0)) z ∙ sym (ap is_star_cell (get_or-drop from cells count 0)) ∙ next.here room;
          inside = low_room e;
          shortest = more_lowered e;
        }

    pub low_on_none : r ≡ None → (p : List Element) → Shows sets cells p → NoneMatches prefix (take last p) v
    low_on_none e p s =
        none_lowered p v (from + (count + 1)) last (omega (arith, star_next))
        (subst (λ (l : List Element). NoneMatches prefix l v) (sym (longer s))
        (prefix_more_none (part_plain s) (take (from - 1) p) (before s)
        (first_none (take count (drop from p)) v low (g (take count (drop from p)) (part_shows s)) e)))
