-- The parts of a row, on plain lists: a part grows unit by unit until a break mark, and its end is one step of `broken`.
use Prim.Native.Nat.{ℕ, zero, suc, ◌/◌, ◌+◌, ◌-◌, ◌*◌, ◌≤◌, ◌<◌}
use native.Mathlib.Omega.{arith}
use mathlib.Core.Path.{◌≡◌, refl, sym, ap, ◌∙◌}
use mathlib.Core.Bool.{Bool, true, false, cond, not}
use mathlib.Core.List.{List, [], ◌∷◌, ◌++◌, append_assoc, append-nil}
use lib.Dec.{eqb}
use lib.ListN.{length, take, drop, get_or, length-append, length-drop}
use lib.Seq.{drop-cons, drop-drop}
use borrow.Author.Tests.{ne_eqb, eqb-true, eqb-false, ltb-false}
use Rattle.std.specs.List.{position, position_or_len}
use Rattle.std.specs.Option.{unwrap_or}
use Rattle.std.proofs.Common.{nat_lt, Some, None}
use Rattle.std.proofs.lemmas.List.Sums.{prefix_len-le-length}
use Rattle.std.specs.Simd.{first_chunks}
use Rattle.stages.specs.Bytes.{Text, part}
use Rattle.stages.specs.Outcome.{pick}
use Rattle.stages.specs.Units.{L, E, Q, Cell, cell, N, B, Row}
use Rattle.stages.specs.Split.{longer_part, broken}
use Rattle.text.specs.Rows.{unit_of, row_of}
use Rattle.split_delimiter.specs.Places.{ahead}
use Rattle.split_delimiter.specs.Parts.{behind_break, PartEnds}
use Rattle.split_delimiter.proofs.Places.{none_ahead, unit_ahead}

-- units at the front of a row, where they stand in bytes
pub row_front : (p q : Row) (t : Text) → row_of t ≡ p ++ q → row_of (take (2 * length p) t) ≡ p
unfolding row_of
row_front [] q t e = refl
row_front (c ∷ p) q [] e = absurd (let z : ◌≡◌ {A = ℕ} 0 1 = cc in omega arith)
row_front (c ∷ p) q (a ∷ []) e = absurd (let z : ◌≡◌ {A = ℕ} 0 1 = cc in omega arith)
row_front (c ∷ p) q (a ∷ b ∷ t) e =
    let k : 2 * suc (length p) ≡ suc (suc (2 * length p)) = omega arith in
    let f : row_of t ≡ p ++ q = cc in
    let g : unit_of a b ≡ c = cc in
    rw (k, row_front p q t f, g)

-- units in front of the first part

unfoldable pub longer : Row → List Row → List Row
longer [] rs = rs
longer (c ∷ p) rs = longer_part c (longer p rs)

longer_first : (p r : Row) (rs : List Row) → longer p (r ∷ rs) ≡ (p ++ r) ∷ rs
unfolding longer longer_part
longer_first [] r rs = refl
longer_first (c ∷ p) r rs = ap (longer_part c) (longer_first p r rs)

longer_append : (p : Row) (c : Cell) (rs : List Row) → longer (p ++ (c ∷ [])) rs ≡ longer p (longer_part c rs)
unfolding longer
longer_append [] c rs = refl
longer_append (d ∷ p) c rs = ap (longer_part d) (longer_append p c rs)

-- a unit is a break mark by its mark alone

broken_unit : (b m : ℕ) (r : Row) → (m ≡ 4 → ⊥) → broken (unit_of b m ∷ r) ≡ longer_part (unit_of b m) (broken r)
unfolding broken unit_of
broken_unit b m r n = rw (ne_eqb m 4 n) (go (eqb m 1) (eqb m 2) (eqb m 3))
  where
    go : (x y z : Bool) → broken (pick x (cell L b) (pick y (cell E b) (pick z (cell Q b) N)) ∷ r) ≡ longer_part
        (pick x (cell L b) (pick y (cell E b) (pick z (cell Q b) N))) (broken r)
    go true y z = refl
    go false true z = refl
    go false false true = refl
    go false false false = refl

break_unit : (b m : ℕ) → m ≡ 4 → unit_of b m ≡ B
unfolding unit_of
break_unit b m e = rw e

-- the units passed from `at` to `end` are no break marks
pub record Parting (row : Text) (at end : ℕ) : Type 0 where
  pub passed : Row
  pub long : end ≡ at + 2 * length passed
  pub within : end ≤ length row
  pub front : ahead row at ≡ passed ++ ahead row end
  pub whole : broken (ahead row at) ≡ longer passed (broken (ahead row end))

pub part_start : (row : Text) (at : ℕ) → at ≤ length row → Parting row at at
part_start row at l = record { passed = []; long = omega arith; within = l; front = refl; whole = unfold longer in refl }

module _ {row : Text} {at end : ℕ} (s : Parting row at end) where
  pub part_on : 1 < length row - end → (get_or row (end + 1) 0 ≡ 4 → ⊥) → Parting row at (end + 2)
  part_on l n =
      let c : Cell = unit_of (get_or row end 0) (get_or row (end + 1) 0) in
      let u : ahead row end ≡ c ∷ ahead row (end + 2) = unit_ahead row end l in
      record {
        passed = s.passed ++ (c ∷ []);
        long = omega (arith, s.long, length-append s.passed (c ∷ []));
        within = omega arith;
        front = s.front ∙ ap (λ (r : Row). s.passed ++ r) u ∙ sym (append_assoc s.passed (c ∷ []) (ahead row (end + 2)));
        whole =
            s.whole
            ∙ ap (λ (r : Row). longer s.passed (broken r)) u
            ∙ ap (longer s.passed) (broken_unit (get_or row end 0) (get_or row (end + 1) 0) (ahead row (end + 2)) n)
            ∙ sym (longer_append s.passed c (broken (ahead row (end + 2))));
      }

  passed_is : s.passed ≡ row_of (part row at end)
  passed_is =
      let k : end - at ≡ 2 * length s.passed = omega (arith, s.long) in
      sym (ap (λ (n : ℕ). row_of (take n (drop at row))) k ∙ row_front s.passed (ahead row end) (drop at row) s.front)

  ends : broken (ahead row end) ≡ [] ∷ behind_break (ahead row end) → PartEnds row at end
  ends e = record {
    onward = omega (arith, s.long);
    within = s.within;
    far = s.long ∙ ap (λ (r : Row). at + 2 * length r) passed_is;
    is =
        s.whole
        ∙ ap (longer s.passed) e
        ∙ longer_first s.passed [] (behind_break (ahead row end))
        ∙ ap (λ (r : Row). r ∷ behind_break (ahead row end)) (append-nil s.passed ∙ passed_is);
  }

  pub part_none : length row - end ≤ 1 → PartEnds row at end
  part_none l = ends (rw (none_ahead row end l) (unfold broken behind_break in refl))

  pub part_break : 1 < length row - end → get_or row (end + 1) 0 ≡ 4 → PartEnds row at end
  part_break l m =
      let u : ahead row end ≡ B ∷ ahead row (end + 2) =
      unit_ahead row end l ∙ ap (λ (c : Cell). c ∷ ahead row (end + 2)) (break_unit (get_or row end 0) (get_or row (end + 1) 0) m) in
      ends (rw u (unfold broken behind_break in refl))

position_else : {X : Type 0} (p : X → Bool) (xs : List X) → unwrap_or (position p xs) (length xs) ≡ position_or_len p xs
position_else p xs = go (nat_lt (position_or_len p xs) (length xs)) refl
  where
    go : (x : Bool) → nat_lt (position_or_len p xs) (length xs) ≡ x
        → unwrap_or (cond x (Some (position_or_len p xs)) None) (length xs) ≡ position_or_len p xs
    go true e = refl
    go false e =
        let l : length xs ≤ position_or_len p xs = ltb-false _ _ e in
        omega (arith, prefix_len-le-length (λ x. not (p x)) xs)

-- the walk over whole units up to the first break mark
abbrev pub is_break : List ℕ → Bool
is_break u = eqb (get_or u 1 0) 4

module _ (row : Text) (at : ℕ) where
  part_walk : (n end : ℕ) → Parting row at end → n ≡ (length row - end) / 2
      → PartEnds row at (end + 2 * position_or_len is_break (first_chunks 2 n (drop end row)))
  part_walk zero end s e =
      let l : length row - end ≤ 1 = omega arith in
      let z : end + 0 ≡ end = omega arith in
      rw z (part_none s l)
  part_walk (suc n) end s e = go (is_break (take 2 (drop end row))) refl (λ t. part_walk n (end + 2) t (omega arith))
    where
      more : 1 < length row - end
      more = omega (arith, e)

      mark : get_or (take 2 (drop end row)) 1 0 ≡ get_or row (end + 1) 0
      mark =
          let e : suc end ≡ end + 1 = omega arith in
          let f : drop (suc end) row ≡ drop (end + 1) row = ap (λ (i : ℕ). drop i row) e in
          rw (drop-cons row end 0 (omega (arith, more)), f, drop-cons row (end + 1) 0 (omega (arith, more)))

      left : ℕ
      left = position_or_len is_break (first_chunks 2 n (drop 2 (drop end row)))

      go : (x : Bool) → is_break (take 2 (drop end row)) ≡ x
          → (Parting row at (end + 2) → PartEnds row at (end + 2 + 2 * position_or_len is_break (first_chunks 2 n (drop (end + 2) row))))
          → PartEnds row at (end + 2 * cond (not x) (1 + left) 0)
      go true y f =
          let z : end + 0 ≡ end = omega arith in
          rw z (part_break s more (sym mark ∙ eqb-true _ 4 y))
      go false y f =
          let z : end + 2 * (1 + left) ≡ end + 2 + 2 * left = omega arith in
          let d : drop 2 (drop end row) ≡ drop (end + 2) row = drop-drop 2 end row in
          rw z (rw d (f (part_on s more (λ m. eqb-false _ 4 y (mark ∙ m)))))

  pub part_here : at ≤ length row → {n k : ℕ} {t : Text} {us : List (List ℕ)} → us ≡ first_chunks n (length t / n) t → n ≡ 2 → t ≡ drop at row
      → k ≡ unwrap_or (position is_break us) (length us) → PartEnds row at (at + 2 * k)
  part_here l {n} {k} {t} {us} e two d f =
      let u : us ≡ first_chunks 2 (length (drop at row) / 2) (drop at row) =
      e ∙ ap (λ (t : Text). first_chunks n (length t / n) t) d ∙ ap (λ (n : ℕ). first_chunks n (length (drop at row) / n) (drop at row)) two in
      let g : k ≡ position_or_len is_break (first_chunks 2 (length (drop at row) / 2) (drop at row)) =
      f ∙ position_else is_break us ∙ ap (position_or_len is_break) u in
      rw g (part_walk (length (drop at row) / 2) at (part_start row at l) (ap (λ (n : ℕ). n / 2) (length-drop at row)))
