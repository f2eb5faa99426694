-- The stars of a pattern that stands in cells, and the segments between them.
use Prim.Native.Nat.{ℕ, zero, suc, ◌+◌, ◌-◌, ◌≤◌, ◌<◌}
use mathlib.Core.Path.{◌≡◌, refl, sym, ◌∙◌, ap, subst}
use mathlib.Core.Bool.{true, false}
use mathlib.Core.List.{List, [], ◌∷◌, ◌++◌}
use native.Mathlib.Omega.{arith}
use native.Mathlib.Numerals.{add-one}
use lib.Dec.{leb}
use lib.ListN.{length, take, drop, get_or, take-append-drop, length-drop}
use lib.Seq.{take-add, take_all, drop-drop, drop_at, length-take-le, get_or-take, get_or-drop}
use borrow.Author.Tests.{eqb-true, leb-true, leb-false}
use Rattle.stages.specs.Pattern.{Element, star, one, exactly, set}
use Rattle.stages.proofs.Bools.{no, apart, either}
use Rattle.pattern_cell.specs.Cells.{Is, Shows, none, more, Shown, star_cell, is_star_cell, Trails, FirstStar, LastStar}
use Rattle.pattern_cell.proofs.Showing.{shown_length, shown_at, shown_take, shown_drop}
use Rattle.pattern_remove.specs.Shapes.{is_star, Plain, none as plain_none, more as plain_more}
use Rattle.pattern_remove.specs.Bounds.{StarsAt}

-- a star's cell stands for a star, any other one for none
star_is : (sets : List ℕ) (c : ℕ) (e : Element) → Is sets c e → is_star_cell c ≡ true → e ≡ star
star_is sets c star i y = refl
star_is sets c one i y = let z = eqb-true c star_cell y in absurd (omega (arith, z, i))
star_is sets c (exactly b) i y = let z = eqb-true c star_cell y in absurd (omega (arith, z, i.0, i.1))
star_is sets c (set sense members) i y = let z = eqb-true c star_cell y in absurd (omega (arith, z, i.from))

plain_is : (sets : List ℕ) (c : ℕ) (e : Element) → Is sets c e → is_star_cell c ≡ false → is_star e ≡ false
plain_is sets c star i n = absurd (no (sym (ap is_star_cell (sym i) ∙ n)))
plain_is sets c one i n = refl
plain_is sets c (exactly b) i n = refl
plain_is sets c (set sense members) i n = refl

pub star_shown : {sets cells : List ℕ} {p : List Element} → Shows sets cells p → (i : ℕ) → i < length cells → is_star_cell (get_or cells i 0) ≡ true
    → drop i p ≡ star ∷ drop (suc i) p
star_shown {sets} {cells} {p} s i h y =
    let a = shown_at s i h in
    a.rest ∙ ap (λ (e : Element). e ∷ drop (suc i) p) (star_is sets (get_or cells i 0) a.element a.is y)

plain_shown : {sets cells : List ℕ} {p : List Element} → Shows sets cells p → ((i : ℕ) → i < length cells → is_star_cell (get_or cells i 0) ≡ false) → Plain p
plain_shown none f = plain_none
plain_shown {sets} (more {c} {e} i s) f = plain_more (plain_is sets c e i (f 0 (omega arith))) (plain_shown s λ j h. f (suc j) (omega arith))

pub trails_shown : {sets cells : List ℕ} {p : List Element} → Shows sets cells p → Trails cells 0 → Plain p
trails_shown s t = plain_shown s λ i h. t.plain i (omega arith) h

-- parts of a pattern
pub cells_end : (cells : List ℕ) (k : ℕ) → take (length cells - k) (drop k cells) ≡ drop k cells
cells_end cells k = take_all (length cells - k) (drop k cells) (simp length-drop (omega arith))

module _ {A : Type 0} (l : List A) where
  pub drop_parted : (a b : ℕ) → a ≤ b → drop a l ≡ take (b - a) (drop a l) ++ drop b l
  drop_parted a b h =
      let e : a + (b - a) ≡ b = omega arith in
      sym (take-append-drop (b - a) (drop a l)) ∙ ap (λ (r : List A). take (b - a) (drop a l) ++ r) (drop-drop (b - a) a l ∙ ap (λ (n : ℕ). drop n l) e)

  pub take_parted : (a b : ℕ) → a ≤ b → take b l ≡ take a l ++ take (b - a) (drop a l)
  take_parted a b h = let e : a + (b - a) ≡ b = omega arith in ap (λ (n : ℕ). take n l) (sym e) ∙ take-add a (b - a) l

  pub drop_taken : (a b : ℕ) → a ≤ b → b ≤ length l → drop a (take b l) ≡ take (b - a) (drop a l)
  drop_taken a b h k =
      ap (λ (r : List A). drop a r) (take_parted a b h) ∙ drop_at (take a l) (take (b - a) (drop a l)) a (length-take-le a l (omega arith))

module _ {sets cells : List ℕ} (s : Shown sets cells) where
  pub shown_part : (a n : ℕ) → Shown sets (take n (drop a cells))
  shown_part a n = record { es = take n (drop a s.es); shows = shown_take (shown_drop s.shows a) n }

  pub shown_front : (n : ℕ) → Shown sets (take n cells)
  shown_front n = record { es = take n s.es; shows = shown_take s.shows n }

-- what ends with a star
pub take_star : (p : List Element) (a : ℕ) → drop a p ≡ star ∷ drop (suc a) p → take (suc a) p ≡ take a p ++ (star ∷ [])
take_star p a e =
    ap (λ (n : ℕ). take n p) (sym (add-one a)) ∙ take-add a 1 p ∙ ap (λ (l : List Element). take a p ++ take 1 l) e

-- no star behind the last, none before the first
pub plain_behind : {cells : List ℕ} {last : ℕ} → Trails cells last → Trails (drop last cells) 0
plain_behind {cells} {last} t = record {
  inside = omega arith;
  plain = λ i h k.
      ap is_star_cell (get_or-drop last cells i 0) ∙ t.plain (last + i) (omega arith) (omega (arith, length-drop last cells));
}

pub plain_before : {cells : List ℕ} {first : ℕ} → FirstStar cells first → Trails (take first cells) 0
plain_before {cells} {first} f = record { inside = omega arith; plain = λ i h k. before i (omega (arith, length-take-le first cells f.inside)) }
  where
    before : (i : ℕ) → i < first → is_star_cell (get_or (take first cells) i 0) ≡ false
    before i h = ap is_star_cell (get_or-take first cells i 0 h) ∙ f.plain i h

-- the first star stands before the place behind the last
pub stars_at : {cells : List ℕ} {first last : ℕ} → FirstStar cells first → LastStar cells last → (last ≡ 0 → ⊥) → StarsAt cells first last
stars_at {cells} {first} {last} f l n = record { leads = f; ends = l; order = order last l n }
  where
    order : (k : ℕ) → LastStar cells k → (k ≡ 0 → ⊥) → first < k
    order zero l n = absurd (n refl)
    order (suc k) l n = below k (l.behind k refl)
      where
        below : (i : ℕ) → is_star_cell (get_or cells i 0) ≡ true → first < suc i
        below i y = either (leb first i) (λ z. omega (arith, leb-true first i z)) λ z. absurd (apart (f.plain i (leb-false first i z)) y)

-- the elements from a place on, as the code lends their cells
pub shown_end : {sets cells : List ℕ} {p : List Element} → Shows sets cells p → (k : ℕ) → Shows sets (take (length cells - k) (drop k cells)) (drop k p)
shown_end {sets} {cells} {p} s k = subst (λ (l : List ℕ). Shows sets l (drop k p)) (sym (cells_end cells k)) (shown_drop s k)

pub end_length : {sets cells : List ℕ} {p : List Element} → Shows sets cells p → (k : ℕ) → length (drop k p) ≡ length cells - k
end_length {sets} {cells} s k = shown_length (shown_drop s k) ∙ length-drop k cells

-- the elements before the first star, those behind the last, and the two stars
module _ {sets cells : List ℕ} {first last : ℕ} (w : StarsAt cells first last) {p : List Element} (s : Shows sets cells p) where
  pub last_star : drop (last - 1) p ≡ star ∷ drop last p
  last_star =
      let e : suc (last - 1) ≡ last = omega (arith, w.order) in
      star_shown s (last - 1) (omega (arith, w.ends.trails.inside)) (w.ends.behind (last - 1) (sym e)) ∙ ap (λ (n : ℕ). star ∷ drop n p) e

  pub end_plain : Plain (drop last p)
  end_plain = trails_shown (shown_drop s last) (plain_behind w.ends.trails)

  pub first_length : length (take first p) ≡ first
  first_length = length-take-le first p (omega (arith, w.leads.inside, shown_length s))

  pub first_star : take (first + 1) p ≡ take first p ++ (star ∷ [])
  first_star =
      let i : first < length cells = omega (arith, w.order, w.ends.trails.inside) in
      ap (λ (n : ℕ). take n p) (add-one first) ∙ take_star p first (star_shown s first i (w.leads.here i))

  pub start_plain : Plain (take first p)
  start_plain = trails_shown (shown_take s first) (plain_before w.leads)
