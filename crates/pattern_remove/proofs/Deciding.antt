-- What the walk's end says of one cut, by the code's cases.
use Prim.Native.Nat.{ℕ, suc, ◌+◌, ◌-◌, ◌≤◌, ◌<◌}
use mathlib.Core.Path.{◌≡◌, sym, ◌∙◌, ap, subst}
use mathlib.Core.Bool.{Bool, true, false}
use mathlib.Core.List.{List, [], ◌∷◌, ◌++◌}
use native.Mathlib.Omega.{arith}
use lib.Dec.{leb}
use lib.ListN.{length, take, drop, take-append-drop}
use borrow.Author.Tests.{leb-true, leb-false}
use Rattle.stages.specs.Bytes.{Text}
use Rattle.stages.specs.Syntax.{Side, suffix, prefix}
use Rattle.stages.specs.Pattern.{Element, star}
use Rattle.stages.proofs.Bools.{no}
use Rattle.text.specs.Cases.{side_of}
use Rattle.pattern_cell.specs.Cells.{Shows, Shown}
use Rattle.pattern_remove.specs.Cuts.{matched_at}
use Rattle.pattern_remove.specs.Bounds.{stands_at, ShortestAt, NoneMatches, Shortest, starred, StarsAt, Bounds}
use Rattle.std.specs.Prelude.{Option, Some, None}
use Rattle.pattern_remove.specs.declared.Bound.{Bound}
use Rattle.pattern_remove.specs.declared.Bound.TheVariants.{Nothing, Within}
use Rattle.pattern_remove.proofs.Bounding.{suffix_beyond, suffix_none, prefix_beyond, prefix_bounded, prefix_none}
use Rattle.pattern_remove.proofs.Stars.{
  star_shown,
  take_star,
  shown_end,
  end_length,
  last_star,
  end_plain,
  first_length,
  start_plain,
}

-- a pattern's own cells: beyond the bound, and within it
module _ {sets cells : List ℕ} {p : List Element} (s : Shows sets cells p) {v : Text} {first last : ℕ} (w : StarsAt cells first last) (k : ℕ)
    (b : k ≤ length v) where
  suffix_out : {place : ℕ} → ShortestAt suffix (drop first p) v place → place < k + first → matched_at suffix p v k ≡ false
  suffix_out {place} t h =
      let i : first < length cells = omega (arith, w.order, w.ends.trails.inside) in
      let e = star_shown s first i (w.leads.here i) in
      ap (λ (l : List Element). matched_at suffix l v k) (sym (take-append-drop first p) ∙ ap (λ (l : List Element). take first p ++ l) e)
      ∙ suffix_beyond (start_plain w s) (drop (suc first) p) (subst (λ (l : List Element). ShortestAt suffix l v place) e t) k b
      (omega (arith, first_length w s))

  module _ {place : ℕ} (t : ShortestAt prefix (take last p) v place) where
    up_to_last : take last p ≡ take (last - 1) p ++ (star ∷ [])
    up_to_last =
        let e : suc (last - 1) ≡ last = omega (arith, w.order) in
        ap (λ (n : ℕ). take n p) (sym e) ∙ take_star p (last - 1) (last_star w s ∙ ap (λ (n : ℕ). star ∷ drop n p) (sym e))

    parted : p ≡ (take (last - 1) p ++ (star ∷ [])) ++ drop last p
    parted = sym (take-append-drop last p) ∙ ap (λ (l : List Element). l ++ drop last p) up_to_last

    starred_at : ShortestAt prefix (take (last - 1) p ++ (star ∷ [])) v place
    starred_at = subst (λ (l : List Element). ShortestAt prefix l v place) up_to_last t

    prefix_out : k < place + (length cells - last) → matched_at prefix p v k ≡ false
    prefix_out h =
        ap (λ (l : List Element). matched_at prefix l v k) parted
        ∙ prefix_beyond (end_plain w s) (take (last - 1) p) starred_at k b (omega (arith, end_length s last))

    prefix_in : {r : Bool} → place + (length cells - last) ≤ k
        → ((x : List Element) → Shows sets (take (length cells - last) (drop last cells)) x → r ≡ stands_at x v (k - (length cells - last)))
        → r ≡ matched_at prefix p v k
    prefix_in h f =
        f (drop last p) (shown_end s last) ∙ ap (λ (n : ℕ). stands_at (drop last p) v (k - n)) (sym (end_length s last))
        ∙ sym (prefix_bounded (end_plain w s) (take (last - 1) p) starred_at k b (omega (arith, end_length s last)))
        ∙ ap (λ (l : List Element). matched_at prefix l v k) (sym parted)

-- a cut at k of a value, by the shortest part that the pattern's stars take; z: a suffix is dropped
pub record Bounded (sets cells : List ℕ) (v : Text) (z : Bool) (k first last place : ℕ) : Type 0 where
  pub inside : k ≤ length v
  pub stars : StarsAt cells first last
  pub shortest : (p : List Element) → Shows sets cells p → ShortestAt (side_of z) (starred (side_of z) first last p) v place

module _ {sets cells : List ℕ} {v : Text} where
  pub bound_out_suffix : {z : Bool} {k first last place : ℕ} → Bounded sets cells v z k first last place → z ≡ true → {r : Bool}
      → r ≡ leb (k + first) place → r ≡ false → (p : List Element) → Shows sets cells p → false ≡ matched_at (side_of z) p v k
  bound_out_suffix {z = true} {k} {first} {last} {place} t y e n p s =
      sym (suffix_out s t.stars k t.inside (t.shortest p s) (leb-false (k + first) place (sym e ∙ n)))
  bound_out_suffix {z = false} t y e n p s = absurd (no y)

  module _ {k first last place : ℕ} where
    pub bound_out_prefix : {z : Bool} → Bounded sets cells v z k first last place → z ≡ false → {r : Bool}
        → r ≡ leb (place + (length cells - last)) k → r ≡ false → (p : List Element) → Shows sets cells p → false ≡ matched_at (side_of z) p v k
    bound_out_prefix {z = true} t y e n p s = absurd (no (sym y))
    bound_out_prefix {z = false} t y e n p s =
        sym (prefix_out s t.stars k t.inside (t.shortest p s) (leb-false (place + (length cells - last)) k (sym e ∙ n)))

    pub bound_in_prefix : {z : Bool} → Bounded sets cells v z k first last place → z ≡ false → {r : Bool}
        → r ≡ leb (place + (length cells - last)) k → r ≡ true → {a : Bool}
        → ((x : List Element) → Shows sets (take (length cells - last) (drop last cells)) x → a ≡ stands_at x v (k - (length cells - last)))
        → (p : List Element) → Shows sets cells p → a ≡ matched_at (side_of z) p v k
    bound_in_prefix {z = true} t y e n f p s = absurd (no (sym y))
    bound_in_prefix {z = false} t y e n f p s =
        prefix_in s t.stars k t.inside (t.shortest p s) (leb-true (place + (length cells - last)) k (sym e ∙ n)) f

-- what a case of a bound says
module _ {sets cells : List ℕ} (v : Text) (z : Bool) {bound : Bound}
    (b : (p : List Element) → Shows sets cells p → Bounds (side_of z) cells p v bound) where
  pub bound_within : {first last place : ℕ} → bound ≡ Within first last place → Shown sets cells → (k : ℕ) → k ≤ length v
      → Bounded sets cells v z k first last place
  bound_within {first} {last} {place} e h k i = record { inside = i; stars = (within h.es h.shows).0; shortest = λ p s. (within p s).1 }
    where
      within : (p : List Element) → Shows sets cells p → Bounds (side_of z) cells p v (Within first last place)
      within p s = rw e at (b p s)

-- the bound by the answer of the walk: where none is matched from the first star on, or up to the last, none is by the whole pattern
whole_none : (side : Side) (p : List Element) (v : Text) (first last : ℕ) → NoneMatches side (starred side first last p) v → NoneMatches side p v
whole_none suffix p v first last n =
    subst (λ (l : List Element). NoneMatches suffix l v) (take-append-drop first p) (suffix_none (take first p) n)
whole_none prefix p v first last n =
    subst (λ (l : List Element). NoneMatches prefix l v) (take-append-drop last p) (prefix_none (drop last p) n)

module _ {sets cells : List ℕ} (v : Text) (z : Bool) (first last : ℕ) {r : Option ℕ}
    (f : (p : List Element) → Shows sets cells p → Shortest (side_of z) (starred (side_of z) first last p) v r) where
  pub nothing_left : r ≡ None → (p : List Element) → Shows sets cells p → Bounds (side_of z) cells p v Nothing
  nothing_left e p s = let n : Shortest (side_of z) (starred (side_of z) first last p) v None = rw e at (f p s) in whole_none (side_of z) p v first last n

  pub some_left : StarsAt cells first last → {place : ℕ} → r ≡ Some place → (p : List Element) → Shows sets cells p
      → Bounds (side_of z) cells p v (Within first last place)
  some_left w {place} e p s = let t : Shortest (side_of z) (starred (side_of z) first last p) v (Some place) = rw e at (f p s) in (w, t)
