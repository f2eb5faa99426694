-- Places in a row, on plain lists: what a place shows of the units ahead of it, and the places behind the delimiters that a walk drops.
use Prim.Native.Nat.{ℕ, suc, ◌+◌, ◌-◌, ◌*◌, ◌≤◌, ◌<◌}
use native.Mathlib.Omega.{arith}
use mathlib.Core.Path.{◌≡◌, refl, sym, ap, ◌∙◌}
use mathlib.Core.Logic.{◌⊎◌, inl, inr}
use mathlib.Core.Bool.{Bool, true, false}
use mathlib.Core.List.{[], ◌∷◌}
use lib.Dec.{eqb, ltb}
use lib.ListN.{length, drop, get_or, length-drop}
use lib.Seq.{drop-cons}
use borrow.Author.Tests.{ltb-true, ltb-false, ne_eqb, eqb-true, eqb-false}
use Rattle.std.specs.List.{fold}
use Rattle.std.proofs.Common.{max}
use Rattle.stages.specs.Bytes.{Text, is_in, is_blank}
use Rattle.stages.specs.Outcome.{pick}
use Rattle.stages.specs.Units.{L, E, Q, Cell, cell, N, B, Row}
use Rattle.stages.specs.Split.{Delimiter, white, hard, other, delimiter, drop_white, drop_hard}
use Rattle.text.specs.Rows.{unit_of, row_of}
use Rattle.split_delimiter.specs.Places.{delimiter_of, ahead, first, is_other, goes_on, highest, Reaches}
use Rattle.split_delimiter.specs.declared.Delimiter.{Delimiter as Kind}
use Rattle.split_delimiter.specs.declared.Delimiter.TheVariants.{White, Hard, Other}

-- a place

short : (t : Text) → length t ≤ 1 → row_of t ≡ []
unfolding row_of
short [] l = refl
short (a ∷ []) l = refl
short (a ∷ b ∷ t) l = absurd (omega arith)

module _ (row : Text) (at : ℕ) where
  pub none_ahead : length row - at ≤ 1 → ahead row at ≡ []
  none_ahead l = short (drop at row) (simp length-drop l)

  pub unit_ahead : 1 < length row - at → ahead row at ≡ unit_of (get_or row at 0) (get_or row (at + 1) 0) ∷ ahead row (at + 2)
  unfolding row_of
  unit_ahead l =
      let e : suc at ≡ at + 1 = omega arith in
      let f : suc (at + 1) ≡ at + 2 = omega arith in
      rw (drop-cons row at 0 (omega arith), e, drop-cons row (at + 1) 0 (omega arith), f)

  -- either no unit is ahead, or one and those behind it
  pub by_place : (P : Row → Type 0) → (length row - at ≤ 1 → P []) → (1 < length row - at → (c : Cell) → P (c ∷ ahead row (at + 2)))
      → P (ahead row at)
  by_place P f g = go (ltb 1 (length row - at)) refl
    where
      go : (x : Bool) → ltb 1 (length row - at) ≡ x → P (ahead row at)
      go true e = let l : 1 < length row - at = ltb-true 1 (length row - at) e in rw (unit_ahead l) (g l (unit_of (get_or row at 0) (get_or row (at + 1) 0)))
      go false e = let l : length row - at ≤ 1 = ltb-false 1 (length row - at) e in rw (none_ahead l) (f l)

-- `delimiter_at`

marked_other : (ifs : Text) (b : ℕ) (x z w : Bool) → other ≡ delimiter ifs (pick x (cell L b) (pick false (cell E b) (pick z (cell Q b) (pick w B N))))
unfolding delimiter
marked_other ifs b true z w = refl
marked_other ifs b false true w = refl
marked_other ifs b false false true = refl
marked_other ifs b false false false = refl

module _ (ifs row : Text) (at : ℕ) where
  pub place_none : length row - at ≤ 1 → other ≡ first ifs (ahead row at)
  unfolding first
  place_none l = rw (none_ahead row at l)

  module _ (l : 1 < length row - at) where
    pub place_other : (get_or row (at + 1) 0 ≡ 2 → ⊥) → other ≡ first ifs (ahead row at)
    unfolding first unit_of
    place_other n = rw (unit_ahead row at l, ne_eqb (get_or row (at + 1) 0) 2 n)
        (marked_other ifs (get_or row at 0) (eqb (get_or row (at + 1) 0) 1) (eqb (get_or row (at + 1) 0) 3) (eqb (get_or row (at + 1) 0) 4))

    module _ (m : get_or row (at + 1) 0 ≡ 2) where
      first_is : first ifs (ahead row at) ≡ delimiter ifs (cell E (get_or row at 0))
      unfolding first unit_of
      first_is = rw (unit_ahead row at l, m)

      pub place_outside : is_in (get_or row at 0) ifs ≡ false → other ≡ first ifs (ahead row at)
      unfolding delimiter
      place_outside e = sym (first_is ∙ rw (e, delimiter))

      pub place_white : is_in (get_or row at 0) ifs ≡ true → is_blank (get_or row at 0) ≡ true → white ≡ first ifs (ahead row at)
      unfolding delimiter
      place_white e f = sym (first_is ∙ rw (e, f, delimiter))

      pub place_hard : is_in (get_or row at 0) ifs ≡ true → is_blank (get_or row at 0) ≡ false → hard ≡ first ifs (ahead row at)
      unfolding delimiter
      place_hard e f = sym (first_is ∙ rw (e, f, delimiter))

  -- `goes_on`

  pub goes_none : length row - at ≤ 1 → false ≡ goes_on ifs (ahead row at)
  unfolding goes_on
  goes_none l = rw (none_ahead row at l)

  pub goes_unit : (d : Delimiter) → 1 < length row - at → d ≡ first ifs (ahead row at) → is_other d ≡ goes_on ifs (ahead row at)
  unfolding goes_on first
  goes_unit d l e =
      let f : d ≡ delimiter ifs (unit_of (get_or row at 0) (get_or row (at + 1) 0)) = e ∙ rw (unit_ahead row at l) in
      rw (unit_ahead row at l) (ap is_other f)

  -- the code's other kinds of unit
  pub other_alone : (d : Kind) → (d ≡ Other → ⊥) → false ≡ is_other (delimiter_of d)
  other_alone White n = refl
  other_alone Hard n = refl
  other_alone Other n = absurd (n refl)

  -- whatever its mark is, a unit whose byte is not in IFS is no delimiter
  goes_outside : 1 < length row - at → is_in (get_or row at 0) ifs ≡ false → true ≡ goes_on ifs (ahead row at)
  goes_outside l e = goes_unit other l (go (eqb (get_or row (at + 1) 0) 2) refl)
    where
      go : (x : Bool) → eqb (get_or row (at + 1) 0) 2 ≡ x → other ≡ first ifs (ahead row at)
      go true q = place_outside l (eqb-true (get_or row (at + 1) 0) 2 q) e
      go false q = place_other l (eqb-false (get_or row (at + 1) 0) 2 q)

-- `highest_of`

pub fold_highest : (top : ℕ) (t : Text) → fold (λ n b. max n b) top t ≡ highest top t
unfolding highest
fold_highest top [] = refl
fold_highest top (b ∷ t) = ap (λ n. fold (λ n b. max n b) n t) (go (ltb top b) refl) ∙ fold_highest (pick (ltb top b) b top) t
  where
    go : (x : Bool) → ltb top b ≡ x → max top b ≡ pick x b top
    go true e = let l = ltb-true top b e in omega arith
    go false e = let l = ltb-false top b e in omega arith

-- a byte above the highest is none of them
above : (k top : ℕ) (t : Text) → highest top t < k → (top < k) × (is_in k t ≡ false)
unfolding highest
above k top [] h = (h, refl)
above k top (b ∷ t) h = go (ltb top b) refl (above k (pick (ltb top b) b top) t h)
  where
    go : (x : Bool) → ltb top b ≡ x → (pick (ltb top b) b top < k) × (is_in k t ≡ false) → (top < k) × (is_in k (b ∷ t) ≡ false)
    go true e p =
        let l = ltb-true top b e in
        let u : b < k = rw e at p.0 in
        (omega arith, rw (ne_eqb k b (λ q. omega (arith, q, u)), p.1))
    go false e p =
        let l = ltb-false top b e in
        let u : top < k = rw e at p.0 in
        (u, rw (ne_eqb k b (λ q. omega (arith, q, u, l)), p.1))

pub goes_above : (ifs row : Text) (at top : ℕ) → highest 0 ifs ≤ top → 1 < length row - at → top < get_or row at 0 → true ≡ goes_on ifs (ahead row at)
goes_above ifs row at top h l k = goes_outside ifs row at l (above (get_or row at 0) 0 ifs (omega arith)).1

-- `skip_white` and `behind_field`

clash_white : other ≡ white → ⊥
clash_white e = let z : ◌≡◌ {A = ℕ} 0 1 = cc in omega arith

clash_hard : other ≡ hard → ⊥
clash_hard e = let z : ◌≡◌ {A = ℕ} 0 1 = cc in omega arith

module _ (ifs : Text) where
  white_stops_hard : (r : Row) → first ifs r ≡ hard → drop_white ifs r ≡ r
  unfolding first drop_white
  white_stops_hard [] e = refl
  white_stops_hard (c ∷ r) e = rw (e, drop_white)

  white_stops_other : (r : Row) → first ifs r ≡ other → drop_white ifs r ≡ r
  unfolding first drop_white
  white_stops_other [] e = refl
  white_stops_other (c ∷ r) e = rw (e, drop_white)

  hard_stops_white : (r : Row) → first ifs r ≡ white → drop_hard ifs r ≡ r
  unfolding first drop_hard
  hard_stops_white [] e = refl
  hard_stops_white (c ∷ r) e = rw (e, drop_hard)

  hard_stops_other : (r : Row) → first ifs r ≡ other → drop_hard ifs r ≡ r
  unfolding first drop_hard
  hard_stops_other [] e = refl
  hard_stops_other (c ∷ r) e = rw (e, drop_hard)

  module _ (row : Text) (at : ℕ) where
    white_more : first ifs (ahead row at) ≡ white → (at + 2 ≤ length row) × (drop_white ifs (ahead row at) ≡ drop_white ifs (ahead row (at + 2)))
    unfolding first drop_white
    white_more e =
        by_place row at (λ (r : Row). first ifs r ≡ white → (at + 2 ≤ length row) × (drop_white ifs r ≡ drop_white ifs (ahead row (at + 2))))
        (λ l e. absurd (clash_white e))
        (λ l c e. (omega arith, rw (e, drop_white)))
        e

    hard_more : first ifs (ahead row at) ≡ hard → (at + 2 ≤ length row) × (drop_hard ifs (ahead row at) ≡ drop_white ifs (ahead row (at + 2)))
    unfolding first drop_hard
    hard_more e =
        by_place row at (λ (r : Row). first ifs r ≡ hard → (at + 2 ≤ length row) × (drop_hard ifs r ≡ drop_white ifs (ahead row (at + 2))))
        (λ l e. absurd (clash_hard e))
        (λ l c e. (omega arith, rw (e, drop_hard)))
        e

  -- white units are passed from `at` to `to`
  pub record Skipping (row : Text) (at to : ℕ) : Type 0 where
    pub passed : ℕ
    pub far : to ≡ at + 2 * passed
    pub within : to ≤ length row
    pub same : drop_white ifs (ahead row at) ≡ drop_white ifs (ahead row to)

  module _ {row : Text} {at to : ℕ} (s : Skipping row at to) where
    pub skip_fits : (d : Kind) → d ≡ White → delimiter_of d ≡ first ifs (ahead row to) → to + 2 ≤ length row
    skip_fits d f e = (white_more row to (sym e ∙ ap delimiter_of f)).0

    pub skip_on : {d : Kind} → d ≡ White → delimiter_of d ≡ first ifs (ahead row to) → Skipping row at (to + 2)
    skip_on {d} f e =
        let w = white_more row to (sym e ∙ ap delimiter_of f) in
        record { passed = suc s.passed; far = omega (arith, s.far); within = w.0; same = s.same ∙ w.1 }

    reached : drop_white ifs (ahead row to) ≡ ahead row to → Reaches row at to (drop_white ifs (ahead row at))
    reached e = record { passed = s.passed; far = s.far; within = s.within; units = sym (s.same ∙ e) }

    pub skip_stops : {d : Kind} → (d ≡ White → ⊥) → delimiter_of d ≡ first ifs (ahead row to) → Reaches row at to (drop_white ifs (ahead row at))
    skip_stops {d = White} n e = absurd (n refl)
    skip_stops {d = Hard} n e = reached (white_stops_hard (ahead row to) (sym e))
    skip_stops {d = Other} n e = reached (white_stops_other (ahead row to) (sym e))

  module _ {row : Text} {at to : ℕ} {r : Row} (h : Reaches row at to r) where
    pub behind_none : (d : Kind) → (d ≡ White) ⊎ (d ≡ Other) → delimiter_of d ≡ first ifs (ahead row to) → Reaches row at to (drop_hard ifs r)
    behind_none d n e = record {
      passed = h.passed;
      far = h.far;
      within = h.within;
      units = sym (ap (drop_hard ifs) (sym h.units) ∙ stops n);
    }
      where
        stops : (d ≡ White) ⊎ (d ≡ Other) → drop_hard ifs (ahead row to) ≡ ahead row to
        stops (inl f) = hard_stops_white (ahead row to) (sym e ∙ ap delimiter_of f)
        stops (inr f) = hard_stops_other (ahead row to) (sym e ∙ ap delimiter_of f)

    pub behind_fits : first ifs (ahead row to) ≡ hard → to + 2 ≤ length row
    behind_fits e = (hard_more row to e).0

    pub behind_hard : first ifs (ahead row to) ≡ hard → {next : ℕ} → Reaches row (to + 2) next (drop_white ifs (ahead row (to + 2))) →
        Reaches row at next (drop_hard ifs r)
    behind_hard e k = record {
      passed = suc (h.passed + k.passed);
      far = omega (arith, h.far, k.far);
      within = k.within;
      units = k.units ∙ sym (ap (drop_hard ifs) (sym h.units) ∙ (hard_more row to e).1);
    }
