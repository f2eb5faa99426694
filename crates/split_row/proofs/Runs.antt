-- The inner walk, on plain lists: how a run of other units grows, and that its end and the place behind the delimiters are one step of the stage's
-- walk.
use Prim.Native.Nat.{ℕ, ◌+◌, ◌-◌, ◌*◌, ◌≤◌, ◌<◌}
use native.Mathlib.Omega.{arith}
use mathlib.Core.Path.{◌≡◌, refl, sym, ap, ◌∙◌}
use mathlib.Core.Bool.{Bool, true, false}
use mathlib.Core.List.{[], ◌∷◌, ◌++◌, append_assoc, append-nil}
use lib.ListN.{length, take, drop, get_or, length-append}
use Rattle.stages.specs.Bytes.{Text, part}
use Rattle.stages.specs.Units.{Cell, Row}
use Rattle.stages.specs.Split.{Delimiter, white, hard, other, delimiter, drop_white, drop_hard, other_run, fields_step, fields_from}
use Rattle.stages.proofs.Split.{behind_field, run_append, behind_length_lem, fields_from_lem}
use Rattle.text.specs.Rows.{unit_of, row_of}
use Rattle.split_delimiter.specs.Places.{ahead, is_other, goes_on, Reaches}
use Rattle.split_delimiter.proofs.Places.{none_ahead, unit_ahead, by_place}
use Rattle.split_delimiter.proofs.Parts.{row_front}

module _ (ifs : Text) where
  run_stop : (r : Row) → goes_on ifs r ≡ false → other_run ifs r ≡ ([], r)
  unfolding goes_on other_run
  run_stop [] e = refl
  run_stop (c ∷ r) e = go (delimiter ifs c) refl
    where
      no : is_other other ≡ false → ⊥
      no e = let z : ◌≡◌ {A = ℕ} 0 1 = cc in omega arith

      go : (d : Delimiter) → delimiter ifs c ≡ d → other_run ifs (c ∷ r) ≡ ([], c ∷ r)
      go white f = rw (f, other_run)
      go hard f = rw (f, other_run)
      go other f = absurd (no (ap is_other (sym f) ∙ e))

  run_goes : (c : Cell) (r : Row) → goes_on ifs (c ∷ r) ≡ true → other_run ifs (c ∷ r) ≡ (c ∷ (other_run ifs r).0, (other_run ifs r).1)
  unfolding goes_on other_run
  run_goes c r e = go (delimiter ifs c) refl
    where
      no : (d : Delimiter) → is_other d ≡ false → delimiter ifs c ≡ d → ⊥
      no d n f = let z : ◌≡◌ {A = Bool} false true = sym n ∙ ap is_other (sym f) ∙ e in let y : ◌≡◌ {A = ℕ} 0 1 = cc in omega arith

      go : (d : Delimiter) → delimiter ifs c ≡ d → other_run ifs (c ∷ r) ≡ (c ∷ (other_run ifs r).0, (other_run ifs r).1)
      go white f = absurd (no white refl f)
      go hard f = absurd (no hard refl f)
      go other f = rw (f, other_run)

  -- other units are passed from `at` to `end`
  pub record Run (row : Text) (at end : ℕ) : Type 0 where
    pub passed : Row
    pub long : end ≡ at + 2 * length passed
    pub within : end ≤ length row
    pub whole : other_run ifs (ahead row at) ≡ (passed ++ (other_run ifs (ahead row end)).0, (other_run ifs (ahead row end)).1)

  -- one unit more
  record More (row : Text) (at : ℕ) : Type 0 where
    unit : Cell
    fits : at + 2 ≤ length row
    goes : other_run ifs (ahead row at) ≡ (unit ∷ (other_run ifs (ahead row (at + 2))).0, (other_run ifs (ahead row (at + 2))).1)

  more : (row : Text) (at : ℕ) → goes_on ifs (ahead row at) ≡ true → More row at
  unfolding goes_on
  more row at e = by_place row at (λ (r : Row). ahead row at ≡ r → goes_on ifs r ≡ true → More row at) none_left unit_left refl e
    where
      none_left : length row - at ≤ 1 → ahead row at ≡ [] → goes_on ifs [] ≡ true → More row at
      none_left l q e = absurd (let z : ◌≡◌ {A = ℕ} 0 1 = cc in omega arith)

      unit_left : 1 < length row - at → (c : Cell) → ahead row at ≡ c ∷ ahead row (at + 2) → goes_on ifs (c ∷ ahead row (at + 2)) ≡ true
          → More row at
      unit_left l c q e = record { unit = c; fits = omega arith; goes = ap (other_run ifs) q ∙ run_goes c (ahead row (at + 2)) e }

  module _ {row : Text} {at end : ℕ} (s : Run row at end) where
    pub run_fits : goes_on ifs (ahead row end) ≡ true → end + 2 ≤ length row
    run_fits e = (more row end e).fits

    pub run_on : goes_on ifs (ahead row end) ≡ true → Run row at (end + 2)
    run_on e =
        let m : More row end = more row end e in
        let rest : Row × Row = other_run ifs (ahead row (end + 2)) in
        record {
          passed = s.passed ++ (m.unit ∷ []);
          long = omega (arith, s.long, length-append s.passed (m.unit ∷ []));
          within = m.fits;
          whole =
              s.whole
              ∙ ap (λ (p : Row × Row). (s.passed ++ p.0, p.1)) m.goes
              ∙ ap (λ (r : Row). (r, rest.1)) (sym (append_assoc s.passed (m.unit ∷ []) rest.0));
        }

    pub run_further : at ≤ end
    run_further = omega (arith, s.long)

    -- the field and what is behind it
    pub run_end : goes_on ifs (ahead row end) ≡ false → other_run ifs (ahead row at) ≡ (row_of (part row at end), ahead row end)
    run_end e =
        let w : other_run ifs (ahead row at) ≡ (s.passed, ahead row end) =
        s.whole
        ∙ ap (λ (p : Row × Row). (s.passed ++ p.0, p.1)) (run_stop (ahead row end) e)
        ∙ ap (λ (r : Row). (r, ahead row end)) (append-nil s.passed) in
        let j : ahead row at ≡ s.passed ++ ahead row end = sym (run_append ifs (ahead row at)) ∙ ap (λ (p : Row × Row). p.0 ++ p.1) w in
        let k : end - at ≡ 2 * length s.passed = omega (arith, s.long) in
        w ∙ ap (λ (r : Row). (r, ahead row end))
        (sym (ap (λ (n : ℕ). row_of (take n (drop at row))) k ∙ row_front s.passed (ahead row end) (drop at row) j))

  -- one step of the stage's walk

  pub walk_end : (row : Text) (at : ℕ) → length row - at ≤ 1 → fields_from ifs (ahead row at) ≡ []
  unfolding fields_step
  walk_end row at l = ap (fields_from ifs) (none_ahead row at l) ∙ fields_from_lem ifs []

  module _ (row : Text) (at end next : ℕ) (l : 1 < length row - at) (run : other_run ifs (ahead row at) ≡ (row_of (part row at end), ahead row end))
      (h : Reaches row end next (drop_hard ifs (drop_white ifs (ahead row end)))) where
    behind_is : ahead row next ≡ behind_field ifs (ahead row at)
    behind_is = h.units ∙ ap (λ (p : Row × Row). drop_hard ifs (drop_white ifs p.1)) (sym run)

    pub walk_step : fields_from ifs (ahead row at) ≡ row_of (part row at end) ∷ fields_from ifs (ahead row next)
    unfolding fields_step
    walk_step =
        let u : ahead row at ≡ unit_of (get_or row at 0) (get_or row (at + 1) 0) ∷ ahead row (at + 2) = unit_ahead row at l in
        let s : fields_from ifs (ahead row at) ≡ (other_run ifs (ahead row at)).0 ∷ fields_from ifs (behind_field ifs (ahead row at)) =
        rw u (fields_from_lem ifs (unit_of (get_or row at 0) (get_or row (at + 1) 0) ∷ ahead row (at + 2))) in
        s
        ∙ ap (λ (p : Row × Row). p.0 ∷ fields_from ifs (behind_field ifs (ahead row at))) run
        ∙ ap (λ (r : Row). row_of (part row at end) ∷ fields_from ifs r) (sym behind_is)

    pub step_falls : length (ahead row next) < length (ahead row at)
    step_falls =
        let u : ahead row at ≡ unit_of (get_or row at 0) (get_or row (at + 1) 0) ∷ ahead row (at + 2) = unit_ahead row at l in
        let b : length (behind_field ifs (ahead row at)) < length (ahead row at) =
        rw u (behind_length_lem ifs (unit_of (get_or row at 0) (get_or row (at + 1) 0)) (ahead row (at + 2))) in
        rw behind_is b
