-- The pass that drops N units, unit by unit, and what patterns see of what it keeps.
use Prim.Native.Nat.{ℕ, ◌+◌, ◌-◌, ◌≤◌, ◌<◌}
use mathlib.Core.Path.{◌≡◌, refl, sym, ◌∙◌, ap}
use mathlib.Core.Bool.{Bool, true, false, ◌||◌}
use mathlib.Core.List.{[], ◌∷◌, ◌++◌, append_assoc, append-nil}
use native.Mathlib.Omega.{arith}
use lib.Dec.{eqb}
use lib.ListN.{length, take, drop, get_or, set, length-append, length-drop}
use lib.Seq.{get_or-append-add, get_or-drop, set_at, take_at}
use borrow.Author.Tests.{eqb-true}
use Rattle.stages.specs.Numbers.{bracket_class}
use Rattle.stages.specs.Outcome.{refused, done, pick}
use Rattle.stages.specs.Bytes.{Text}
use Rattle.stages.specs.Units.{L, E, Q, cell, N, B, Row, bytes}
use Rattle.stages.specs.Pattern.{Signs, signs, has_class, elements, Purpose, is_for_paths, pattern}
use Rattle.stages.proofs.Bools.{either}
use Rattle.stages.proofs.CostCalls.{pattern_refused, pattern_done}
use Rattle.text.proofs.Rows.{row_of_row_bytes}
use Rattle.text.specs.Rows.{is_mark, row_bytes, row_of, unit_of, signs_of}
use Rattle.pattern_unit.proofs.Units.{two_on}
use Rattle.pattern_row.specs.Kept.{without_empty, kept, NoEmpty, Dropped}

-- the first unit of a row stays if its mark is that of a byte
pub kept_first : (b m : ℕ) (t : Text) → kept (b ∷ m ∷ t) ≡ pick (is_mark m) (b ∷ m ∷ kept t) (kept t)
unfolding kept without_empty row_bytes row_of unit_of
kept_first b m t = go (eqb m 1) (eqb m 2) (eqb m 3) (eqb m 4) (λ e. eqb-true m 1 e) (λ e. eqb-true m 2 e) (λ e. eqb-true m 3 e)
  where
    go : (x y z w : Bool) → (x ≡ true → m ≡ 1) → (y ≡ true → m ≡ 2) → (z ≡ true → m ≡ 3)
        → row_bytes (without_empty (pick x (cell L b) (pick y (cell E b) (pick z (cell Q b) (pick w B N))) ∷ row_of t)) ≡ pick (x || (y || z))
        (b ∷ m ∷ kept t) (kept t)
    go true y z w e f g = ap (λ (n : ℕ). b ∷ n ∷ kept t) (sym (e refl))
    go false true z w e f g = ap (λ (n : ℕ). b ∷ n ∷ kept t) (sym (f refl))
    go false false true w e f g = ap (λ (n : ℕ). b ∷ n ∷ kept t) (sym (g refl))
    go false false false true e f g = refl
    go false false false false e f g = refl

pub kept_few : (t : Text) → length t ≤ 1 → kept t ≡ []
unfolding kept without_empty row_bytes row_of
kept_few [] h = refl
kept_few (b ∷ []) h = refl
kept_few (b ∷ m ∷ t) h = absurd (omega arith)

-- The walk: what is kept so far stands at the front of the row, and behind it stands what stood there.
pub record Going (entry row : Text) (at to : ℕ) : Type 0 where
  pub front : Text
  pub whole : kept entry ≡ front ++ kept (drop at entry)
  pub stands : row ≡ front ++ drop to entry
  pub sized : length front ≡ to
  pub order : to ≤ at
  pub within : at ≤ length entry

pub going_start : (entry : Text) → Going entry entry 0 0
going_start entry = record { front = []; whole = refl; stands = refl; sized = refl; order = omega arith; within = omega arith }

module _ {entry row : Text} {at to : ℕ} (g : Going entry row at to) where
  pub going_length : length row ≡ length entry
  going_length =
      let s = g.sized in
      let o = g.order in
      let w = g.within in
      ap length g.stands ∙ simp (length-append, length-drop) (omega arith)

  -- what is not passed yet is as it was
  unread : (j : ℕ) → to ≤ j → get_or row j 0 ≡ get_or entry j 0
  unread j h =
      let e : length g.front + (j - to) ≡ j = omega (arith, g.sized) in
      let f : to + (j - to) ≡ j = omega arith in
      ap (λ (l : Text). get_or l j 0) g.stands ∙ ap (λ (n : ℕ). get_or (g.front ++ drop to entry) n 0) (sym e)
      ∙ get_or-append-add g.front (drop to entry) (j - to) 0 ∙ get_or-drop to entry (j - to) 0 ∙ ap (λ (n : ℕ). get_or entry n 0) f

  module _ (h : at + 1 < length entry) where
    here : kept (drop at entry) ≡ pick (is_mark (get_or row (at + 1) 0)) (get_or row at 0 ∷ get_or row (at + 1) 0 ∷ kept (drop (at + 2) entry))
        (kept (drop (at + 2) entry))
    here =
        let o = g.order in
        ap kept (two_on entry at h) ∙ kept_first (get_or entry at 0) (get_or entry (at + 1) 0) (drop (at + 2) entry)
        ∙ rw (unread at g.order, unread (at + 1) (omega arith))

    pub going_skip : is_mark (get_or row (at + 1) 0) ≡ false → Going entry row (at + 2) to
    going_skip n = record {
      front = g.front;
      whole = g.whole ∙ ap (λ (l : Text). g.front ++ l)
          (here ∙ ap (λ (b : Bool). pick b (get_or row at 0 ∷ get_or row (at + 1) 0 ∷ kept (drop (at + 2) entry)) (kept (drop (at + 2) entry))) n);
      stands = g.stands;
      sized = g.sized;
      order = let o = g.order in omega arith;
      within = omega arith;
    }

    -- two stores behind the front
    stored : (b m : ℕ) → set (set row to b) (to + 1) m ≡ (g.front ++ b ∷ m ∷ []) ++ drop (to + 2) entry
    stored b m =
        let o = g.order in
        let s = g.sized in
        let d = drop (to + 2) entry in
        let first : set row to b ≡ (g.front ++ b ∷ []) ++ get_or entry (to + 1) 0 ∷ d =
        ap (λ (l : Text). set l to b) (g.stands ∙ ap (λ (l : Text). g.front ++ l) (two_on entry to (omega arith)))
        ∙ set_at g.front (get_or entry to 0) (get_or entry (to + 1) 0 ∷ d) b to s ∙ simp append_assoc in
        ap (λ (l : Text). set l (to + 1) m) first
        ∙ set_at (g.front ++ b ∷ []) (get_or entry (to + 1) 0) d m (to + 1) (simp length-append (omega arith)) ∙ simp append_assoc

    pub going_keep : is_mark (get_or row (at + 1) 0) ≡ true →
        Going entry (set (set row to (get_or row at 0)) (to + 1) (get_or row (at + 1) 0)) (at + 2) (to + 2)
    going_keep y = record {
      front = g.front ++ get_or row at 0 ∷ get_or row (at + 1) 0 ∷ [];
      whole = g.whole
          ∙ ap (λ (l : Text). g.front ++ l)
          (here ∙ ap (λ (b : Bool). pick b (get_or row at 0 ∷ get_or row (at + 1) 0 ∷ kept (drop (at + 2) entry)) (kept (drop (at + 2) entry))) y)
          ∙ simp append_assoc;
      stands = stored (get_or row at 0) (get_or row (at + 1) 0);
      sized = let s = g.sized in simp length-append (omega arith);
      order = let o = g.order in omega arith;
      within = omega arith;
    }

  pub going_end : length entry ≤ at + 1 → Dropped entry row to
  going_end h =
      let all : kept entry ≡ g.front =
      g.whole ∙ ap (λ (l : Text). g.front ++ l) (kept_few (drop at entry) (simp length-drop (omega arith))) ∙ append-nil g.front in
      record {
        stands = g.stands ∙ ap (λ (n : ℕ). g.front ++ drop n entry) (sym g.sized) ∙ ap (λ (l : Text). l ++ drop (length l) entry) (sym all);
        counts = sym g.sized ∙ ap length (sym all);
      }

-- what is kept is no longer than the row
kept_fits : (t : Text) → length (kept t) ≤ length t
kept_fits [] = rw (kept_few [] (omega arith)) (omega arith)
kept_fits (b ∷ []) = rw (kept_few (b ∷ []) (omega arith)) (omega arith)
kept_fits (b ∷ m ∷ t) = go (is_mark m) refl (kept_fits t)
  where
    go : (x : Bool) → is_mark m ≡ x → length (kept t) ≤ length t → length (kept (b ∷ m ∷ t)) ≤ length (b ∷ m ∷ t)
    go true e h = rw (kept_first b m t, e) (omega arith)
    go false e h = rw (kept_first b m t, e) (omega arith)

-- patterns see in it what they see in the row
kept_signs : (t : Text) → signs_of (kept t) ≡ signs (row_of t)
unfolding signs_of signs row_of
kept_signs [] = ap signs_of (kept_few [] (omega arith))
kept_signs (b ∷ []) = ap signs_of (kept_few (b ∷ []) (omega arith))
kept_signs (b ∷ m ∷ t) =
    ap signs_of (kept_first b m t) ∙ go (eqb m 1) (eqb m 2) (eqb m 3) (eqb m 4) (λ e. eqb-true m 1 e) (λ e. eqb-true m 2 e) (λ e. eqb-true m 3 e) (kept_signs t)
  where
    go : (x y z w : Bool) → (x ≡ true → m ≡ 1) → (y ≡ true → m ≡ 2) → (z ≡ true → m ≡ 3) → signs_of (kept t) ≡ signs (row_of t)
        → signs_of (pick (x || (y || z)) (b ∷ m ∷ kept t) (kept t)) ≡ signs (pick x (cell L b) (pick y (cell E b) (pick z (cell Q b) (pick w B N))) ∷ row_of t)
    go true y z w e f g h = rw (e refl, h)
    go false true z w e f g h = rw (f refl, h)
    go false false true w e f g h = rw (g refl, h)
    go false false false true e f g h = h
    go false false false false e f g h = h

-- what is kept is a row without its N, which neither patterns nor the row's bytes see
kept_row : (t : Text) → row_of (kept t) ≡ without_empty (row_of t)
unfolding kept
kept_row t = row_of_row_bytes (without_empty (row_of t))

signs_without : (r : Row) → signs (without_empty r) ≡ signs r
unfolding signs without_empty
signs_without [] = refl
signs_without (cell L b ∷ r) = ap (λ (s : Signs). record { live = true; byte = b } ∷ s) (signs_without r)
signs_without (cell E b ∷ r) = ap (λ (s : Signs). record { live = true; byte = b } ∷ s) (signs_without r)
signs_without (cell Q b ∷ r) = ap (λ (s : Signs). record { live = false; byte = b } ∷ s) (signs_without r)
signs_without (N ∷ r) = signs_without r
signs_without (B ∷ r) = signs_without r

bytes_without : (r : Row) → bytes (without_empty r) ≡ bytes r
unfolding bytes without_empty
bytes_without [] = refl
bytes_without (cell m b ∷ r) = ap (λ (t : Text). b ∷ t) (bytes_without r)
bytes_without (N ∷ r) = bytes_without r
bytes_without (B ∷ r) = bytes_without r

kept_row_signs : (t : Text) → signs (row_of (kept t)) ≡ signs (row_of t)
kept_row_signs t = ap signs (kept_row t) ∙ signs_without (row_of t)

pub kept_bytes : (t : Text) → bytes (row_of (kept t)) ≡ bytes (row_of t)
kept_bytes t = ap bytes (kept_row t) ∙ bytes_without (row_of t)

pub kept_full : (t : Text) → NoEmpty (kept t)
kept_full t = record { seen = kept_signs t ∙ sym (kept_row_signs t) }

-- the pattern that a row makes
module _ (purpose : Purpose) where
  pub kept_pattern : (t : Text) → pattern purpose (row_of (kept t)) ≡ pattern purpose (row_of t)
  kept_pattern t = either (has_class (is_for_paths purpose) 0 (signs (row_of t)))
      (λ y. pattern_refused purpose (row_of (kept t)) (rw (kept_row_signs t) y) ∙ sym (pattern_refused purpose (row_of t) y))
      λ n. pattern_done purpose (row_of (kept t)) (rw (kept_row_signs t) n) ∙ rw (kept_row_signs t) (sym (pattern_done purpose (row_of t) n))

  -- and that of units among which is no N
  module _ {t : Text} (f : NoEmpty t) where
    pub full_refused : has_class (is_for_paths purpose) 0 (signs_of t) ≡ true → pattern purpose (row_of t) ≡ refused bracket_class
    full_refused y = pattern_refused purpose (row_of t) (rw (← f.seen) y)

    pub full_done : has_class (is_for_paths purpose) 0 (signs_of t) ≡ false → pattern purpose (row_of t) ≡ done (elements (is_for_paths purpose) 0 (signs_of t))
    full_done n = pattern_done purpose (row_of t) (rw (← f.seen) n) ∙ ap (λ (s : Signs). done (elements (is_for_paths purpose) 0 s)) (sym f.seen)

-- what a caller has who drops the N of a row and lends its front
module _ {entry exit : Text} {count : ℕ} (d : Dropped entry exit count) where
  pub dropped_front : take count exit ≡ kept entry
  dropped_front = ap (λ (t : Text). take count t) d.stands ∙ take_at (kept entry) (drop (length (kept entry)) entry) count (sym d.counts)

  pub dropped_fits : count ≤ length exit
  dropped_fits =
      let n = d.counts in
      omega (arith, ap length d.stands ∙ length-append (kept entry) (drop (length (kept entry)) entry))

  pub dropped_few : count ≤ length entry
  dropped_few = omega (arith, d.counts, kept_fits entry)
