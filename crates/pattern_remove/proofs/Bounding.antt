-- The shortest suffix that a pattern from a star on matches, and the shortest prefix that one up to a star matches: what one segment more makes of it, and
-- which cuts of the whole pattern it leaves.
use Prim.Native.Nat.{ℕ, ◌+◌, ◌-◌, ◌≤◌, ◌<◌}
use mathlib.Core.Path.{◌≡◌, subst}
use mathlib.Core.Bool.{true, false}
use mathlib.Core.List.{List, [], ◌∷◌, ◌++◌}
use native.Mathlib.Omega.{arith}
use lib.Dec.{leb}
use lib.ListN.{length}
use borrow.Author.Tests.{leb-true, leb-false}
use Rattle.stages.specs.Bytes.{Text}
use Rattle.stages.specs.Syntax.{suffix, prefix}
use Rattle.stages.specs.Pattern.{Element, star}
use Rattle.stages.proofs.Bools.{apart, not_passed, either, same_tests}
use Rattle.pattern_remove.specs.Shapes.{Plain}
use Rattle.pattern_remove.specs.Cuts.{matched_at}
use Rattle.pattern_remove.specs.Bounds.{stands_at, LastAt, NoneBefore, FirstAt, NoneFrom, ShortestAt, NoneMatches}
use Rattle.pattern_remove.proofs.Covering.{
  Covers,
  suffix_covers,
  covers_suffix,
  prefix_covers,
  covers_prefix,
  covers_apart,
  covers_both,
  covers_star,
  front_apart,
  back_apart,
  star_earlier,
  star_later,
}

-- no shorter part is matched than the shortest
reaches_suffix : {p : List Element} {v : Text} {top : ℕ} → ShortestAt suffix p v top → (j : ℕ) → j ≤ length v → Covers p v j (length v) → j ≤ top
reaches_suffix {p} {v} {top} s j h e =
    either (leb j top) (λ y. leb-true j top y) λ n. absurd (apart (s.no_shorter j h (leb-false j top n)) (covers_suffix p v j e))

reaches_prefix : {p : List Element} {v : Text} {low : ℕ} → ShortestAt prefix p v low → (j : ℕ) → j ≤ length v → Covers p v 0 j → low ≤ j
reaches_prefix {p} {v} {low} s j h e =
    either (leb low j) (λ y. leb-true low j y) λ n. absurd (apart (s.no_shorter j h (leb-false low j n)) (covers_prefix p v j e))

-- suffixes. The last segment of all ends where the value does.
module _ {x : List Element} (p : Plain x) (v : Text) where
  pub suffix_first : (i : ℕ) → i + length x ≡ length v → stands_at x v i ≡ true → ShortestAt suffix (star ∷ x) v i
  suffix_first i h e = record {
    inside = omega arith;
    here = covers_suffix (star ∷ x) v i
        (covers_both (star ∷ []) x v i i (length v) (omega arith) (omega arith) (covers_star v i i) (subst (λ (n : ℕ). Covers x v i n) h e));
    no_shorter = λ k b l. not_passed (matched_at suffix (star ∷ x) v k) λ y. beyond k b l (suffix_covers (star ∷ x) v k y);
  }
    where
      beyond : (k : ℕ) → k ≤ length v → i < k → Covers (star ∷ x) v k (length v) → ⊥
      beyond k b l y =
          let c = covers_apart (star ∷ []) x v k (length v) b (omega arith) y in
          let f = back_apart p [] v c.at (length v) c.to (omega arith) c.back in
          omega (arith, c.from, f.room)

  pub suffix_first_none : ((i : ℕ) → i + length x ≡ length v → stands_at x v i ≡ false) → NoneMatches suffix (star ∷ x) v
  suffix_first_none n = record { none = λ k b. not_passed (matched_at suffix (star ∷ x) v k) λ y. never k b (suffix_covers (star ∷ x) v k y) }
    where
      never : (k : ℕ) → k ≤ length v → Covers (star ∷ x) v k (length v) → ⊥
      never k b y =
          let c = covers_apart (star ∷ []) x v k (length v) b (omega arith) y in
          let f = back_apart p [] v c.at (length v) c.to (omega arith) c.back in
          apart (n (length v - length x) (omega (arith, f.room))) f.stands

-- One segment more stands at its last place before the shortest.
module _ {x : List Element} (p : Plain x) (r : List Element) {v : Text} {top : ℕ} (s : ShortestAt suffix (star ∷ r) v top) where
  suffix_place : {P : Type 0} (k : ℕ) → k ≤ length v → matched_at suffix (star ∷ (x ++ (star ∷ r))) v k ≡ true
      → ((i : ℕ) → k ≤ i → i + length x ≤ top → stands_at x v i ≡ true → P) → P
  suffix_place k b y f =
      let c = covers_apart (star ∷ []) (x ++ (star ∷ r)) v k (length v) b (omega arith) (suffix_covers (star ∷ (x ++ (star ∷ r))) v k y) in
      let d = front_apart p (star ∷ r) v c.at (length v) c.to (omega arith) c.back in
      f c.at c.from (reaches_suffix s (c.at + length x) d.room d.rest) d.stands

  pub suffix_more : {i : ℕ} → LastAt x v top i → ShortestAt suffix (star ∷ (x ++ (star ∷ r))) v i
  suffix_more {i} l = record {
    inside = omega (arith, l.before, s.inside);
    here = covers_suffix (star ∷ (x ++ (star ∷ r))) v i
        (covers_both (star ∷ []) (x ++ (star ∷ r)) v i i (length v) (omega arith) (omega (arith, l.before, s.inside)) (covers_star v i i)
        (covers_both x (star ∷ r) v i (i + length x) (length v) (omega arith) (omega (arith, l.before, s.inside)) l.here
        (star_earlier r v (i + length x) top l.before s.inside (suffix_covers (star ∷ r) v top s.here))));
    no_shorter = λ k b h. not_passed (matched_at suffix (star ∷ (x ++ (star ∷ r))) v k)
        λ y. suffix_place k b y λ j a e z. apart (l.no_later j (omega arith) e) z;
  }

  pub suffix_more_none : NoneBefore x v top → NoneMatches suffix (star ∷ (x ++ (star ∷ r))) v
  suffix_more_none n = record {
    none = λ k b. not_passed (matched_at suffix (star ∷ (x ++ (star ∷ r))) v k) λ y. suffix_place k b y λ j a e z. apart (n.none j e) z;
  }

  -- The elements before the first star have no room, or they decide.
  pub suffix_beyond : (k : ℕ) → k ≤ length v → top < k + length x → matched_at suffix (x ++ (star ∷ r)) v k ≡ false
  suffix_beyond k b h = not_passed (matched_at suffix (x ++ (star ∷ r)) v k) λ y. never (suffix_covers (x ++ (star ∷ r)) v k y)
    where
      never : Covers (x ++ (star ∷ r)) v k (length v) → ⊥
      never y =
          let d = front_apart p (star ∷ r) v k (length v) b (omega arith) y in omega (arith, reaches_suffix s (k + length x) d.room d.rest)

  pub suffix_bounded : (k : ℕ) → k + length x ≤ top → matched_at suffix (x ++ (star ∷ r)) v k ≡ stands_at x v k
  suffix_bounded k h =
      same_tests (matched_at suffix (x ++ (star ∷ r)) v k) (stands_at x v k) (λ y. there (suffix_covers (x ++ (star ∷ r)) v k y))
      λ y. covers_suffix (x ++ (star ∷ r)) v k
      (covers_both x (star ∷ r) v k (k + length x) (length v) (omega arith) (omega (arith, s.inside)) y
      (star_earlier r v (k + length x) top h s.inside (suffix_covers (star ∷ r) v top s.here)))
    where
      there : Covers (x ++ (star ∷ r)) v k (length v) → stands_at x v k ≡ true
      there y = (front_apart p (star ∷ r) v k (length v) (omega (arith, s.inside)) (omega arith) y).stands

-- no suffix is matched where none is from a later element on
pub suffix_none : (y : List Element) {z : List Element} {v : Text} → NoneMatches suffix z v → NoneMatches suffix (y ++ z) v
suffix_none y {z} {v} n = record { none = λ k b. not_passed (matched_at suffix (y ++ z) v k) λ e. never k b (suffix_covers (y ++ z) v k e) }
  where
    never : (k : ℕ) → k ≤ length v → Covers (y ++ z) v k (length v) → ⊥
    never k b e = let c = covers_apart y z v k (length v) b (omega arith) e in apart (n.none c.at c.to) (covers_suffix z v c.at c.back)

-- prefixes. The first segment of all begins where the value does.
module _ {x : List Element} (p : Plain x) (v : Text) where
  pub prefix_first : length x ≤ length v → stands_at x v 0 ≡ true → ShortestAt prefix (x ++ (star ∷ [])) v (length x)
  prefix_first h e =
      let z : 0 + length x ≡ length x = omega arith in
      record {
        inside = h;
        here = covers_prefix (x ++ (star ∷ [])) v (length x)
            (covers_both x (star ∷ []) v 0 (length x) (length x) (omega arith) (omega arith) (subst (λ (n : ℕ). Covers x v 0 n) z e)
            (covers_star v (length x) (length x)));
        no_shorter = λ k b l. not_passed (matched_at prefix (x ++ (star ∷ [])) v k) λ y. beyond k b l (prefix_covers (x ++ (star ∷ [])) v k y);
      }
    where
      beyond : (k : ℕ) → k ≤ length v → k < length x → Covers (x ++ (star ∷ [])) v 0 k → ⊥
      beyond k b l y = let f = front_apart p (star ∷ []) v 0 k (omega arith) b y in omega (arith, f.room)

  pub prefix_first_none : (length x ≤ length v → stands_at x v 0 ≡ false) → NoneMatches prefix (x ++ (star ∷ [])) v
  prefix_first_none n = record {
    none = λ k b. not_passed (matched_at prefix (x ++ (star ∷ [])) v k) λ y. never k b (prefix_covers (x ++ (star ∷ [])) v k y);
  }
    where
      never : (k : ℕ) → k ≤ length v → Covers (x ++ (star ∷ [])) v 0 k → ⊥
      never k b y = let f = front_apart p (star ∷ []) v 0 k (omega arith) b y in apart (n (omega (arith, f.room))) f.stands

-- One segment more stands at its first place behind the shortest.
module _ {x : List Element} (p : Plain x) (q : List Element) {v : Text} {low : ℕ} (s : ShortestAt prefix (q ++ (star ∷ [])) v low) where
  abbrev longer : List Element
  longer = (q ++ (star ∷ [])) ++ (x ++ (star ∷ []))

  prefix_place : {P : Type 0} (k : ℕ) → k ≤ length v → matched_at prefix ((q ++ (star ∷ [])) ++ (x ++ (star ∷ []))) v k ≡ true
      → ((i : ℕ) → low ≤ i → i + length x ≤ k → stands_at x v i ≡ true → P) → P
  prefix_place k b y f =
      let c = covers_apart (q ++ (star ∷ [])) (x ++ (star ∷ [])) v 0 k (omega arith) b (prefix_covers longer v k y) in
      let d = front_apart p (star ∷ []) v c.at k c.to b c.back in
      f c.at (reaches_prefix s c.at (omega (arith, c.to)) c.front) d.room d.stands

  pub prefix_more : {i : ℕ} → FirstAt x v low i → ShortestAt prefix ((q ++ (star ∷ [])) ++ (x ++ (star ∷ []))) v (i + length x)
  prefix_more {i} f = record {
    inside = f.inside;
    here = covers_prefix longer v (i + length x)
        (covers_both (q ++ (star ∷ [])) (x ++ (star ∷ [])) v 0 i (i + length x) (omega arith) (omega arith)
        (star_later q v low i f.from (omega (arith, f.inside)) (prefix_covers (q ++ (star ∷ [])) v low s.here))
        (covers_both x (star ∷ []) v i (i + length x) (i + length x) (omega arith) (omega arith) f.here
        (covers_star v (i + length x) (i + length x))));
    no_shorter = λ k b h. not_passed (matched_at prefix longer v k) λ y. prefix_place k b y λ j a e z. apart (f.no_earlier j a (omega arith)) z;
  }

  pub prefix_more_none : NoneFrom x v low → NoneMatches prefix ((q ++ (star ∷ [])) ++ (x ++ (star ∷ []))) v
  prefix_more_none n = record {
    none = λ k b. not_passed (matched_at prefix longer v k) λ y. prefix_place k b y λ j a e z. apart (n.none j a (omega arith)) z;
  }

  -- The elements behind the last star have no room, or they decide.
  module _ (k : ℕ) (b : k ≤ length v) where
    pub prefix_beyond : k < low + length x → matched_at prefix ((q ++ (star ∷ [])) ++ x) v k ≡ false
    prefix_beyond h = not_passed (matched_at prefix ((q ++ (star ∷ [])) ++ x) v k) λ y. never (prefix_covers ((q ++ (star ∷ [])) ++ x) v k y)
      where
        never : Covers ((q ++ (star ∷ [])) ++ x) v 0 k → ⊥
        never y =
            let d = back_apart p (q ++ (star ∷ [])) v 0 k (omega arith) b y in
            omega (arith, d.room, reaches_prefix s (k - length x) (omega arith) d.rest)

    pub prefix_bounded : low + length x ≤ k → matched_at prefix ((q ++ (star ∷ [])) ++ x) v k ≡ stands_at x v (k - length x)
    prefix_bounded h =
        let e : k - length x + length x ≡ k = omega arith in
        same_tests (matched_at prefix ((q ++ (star ∷ [])) ++ x) v k) (stands_at x v (k - length x))
        (λ y. there (prefix_covers ((q ++ (star ∷ [])) ++ x) v k y))
        λ y. covers_prefix ((q ++ (star ∷ [])) ++ x) v k
        (covers_both (q ++ (star ∷ [])) x v 0 (k - length x) k (omega arith) (omega arith)
        (star_later q v low (k - length x) (omega arith) (omega arith) (prefix_covers (q ++ (star ∷ [])) v low s.here))
        (subst (λ (n : ℕ). Covers x v (k - length x) n) e y))
      where
        there : Covers ((q ++ (star ∷ [])) ++ x) v 0 k → stands_at x v (k - length x) ≡ true
        there y = (back_apart p (q ++ (star ∷ [])) v 0 k (omega arith) b y).stands

-- no prefix is matched where none is up to an earlier element
pub prefix_none : {y : List Element} (z : List Element) {v : Text} → NoneMatches prefix y v → NoneMatches prefix (y ++ z) v
prefix_none {y} z {v} n = record { none = λ k b. not_passed (matched_at prefix (y ++ z) v k) λ e. never k b (prefix_covers (y ++ z) v k e) }
  where
    never : (k : ℕ) → k ≤ length v → Covers (y ++ z) v 0 k → ⊥
    never k b e =
        let c = covers_apart y z v 0 k (omega arith) b e in
        apart (n.none c.at (omega (arith, c.to))) (covers_prefix y v c.at c.front)
