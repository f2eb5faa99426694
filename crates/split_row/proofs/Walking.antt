-- The walk over the fields of a part: behind each one those ahead are left.
use Prim.Native.Nat.{ℕ, ◌+◌, ◌-◌, ◌≤◌, ◌<◌}
use native.Mathlib.Omega.{arith}
use mathlib.Core.Path.{◌≡◌, refl, sym, ap, ◌∙◌}
use mathlib.Core.Bool.{Bool, true, false}
use mathlib.Core.List.{List}
use lib.ListN.{length, drop}
use lib.Seq.{drop-drop}
use borrow.Rule.Slice.PartMut.{mid_of, put_mid, same_len_mid, mid_len, drop_put}
use Rattle.stages.specs.Bytes.{Text, part}
use Rattle.stages.specs.Outcome.{Outcome}
use Rattle.stages.specs.Units.{Row}
use Rattle.stages.specs.Split.{drop_white, drop_hard, other_run, fields_from, split}
use Rattle.stages.specs.Paths.{texts_of_fields}
use Rattle.text.specs.Rows.{row_of}
use Rattle.split_delimiter.specs.Places.{ahead, goes_on, Reaches}
use Rattle.split_field.specs.Answers.{Says}
use Rattle.split_field.specs.Fields.{field_texts}
use Rattle.std.specs.Prelude.{Result, Ok, Err}
use Rattle.split_field.specs.declared.WriteError.{WriteError}
use Rattle.split_field.specs.declared.WriteError.TheVariants.{BadClass, NoRoom}
use Rattle.split_row.proofs.Runs.{Run, run_further, run_end, walk_end, walk_step, step_falls}
use Rattle.split_row.proofs.Taking.{
  Taking,
  taking_start,
  taking_same,
  taking_full,
  taking_fits,
  taking_class,
  taking_on,
  taking_over,
  first_then,
  texts_field,
}

-- the outer walk stands at a place of a row of `size` bytes
pub record Walk (paths : List Text) (ifs : Text) (o : Outcome (List Text)) (used : ℕ) (old : Text) (size : ℕ) (row : Text) (at n : ℕ)
    (full : Bool) (out : Text) : Type 0 where
  pub taking : Taking paths o used old (fields_from ifs (ahead row at)) n full out
  pub sized : length row ≡ size
  pub within : at ≤ length row

pub walk_start : (paths : List Text) (ifs : Text) (used : ℕ) (old row : Text) (at : ℕ) → used ≤ length old → Reaches row 0 at
    (drop_white ifs (ahead row 0))
    → Walk paths ifs (texts_of_fields paths (split ifs (row_of row))) used old (length row) row at used false old
unfolding split
walk_start paths ifs used old row at h k = record {
  taking = taking_same (ap (fields_from ifs) (sym k.units)) (taking_start paths (split ifs (row_of row)) used old h);
  sized = refl;
  within = k.within;
}

module _ {paths : List Text} {ifs : Text} {o : Outcome (List Text)} {used : ℕ} {old : Text} {size : ℕ} {row : Text} {at n : ℕ} {full : Bool} {out : Text}
    (w : Walk paths ifs o used old size row at n full out) (l : length row - at ≤ 1) where
  pub walk_full : full ≡ true → {left : Text} → Says o used old left (Err NoRoom)
  walk_full = taking_full w.taking (walk_end ifs row at l)

  pub walk_fits : full ≡ false → Says o used old out (Ok n)
  walk_fits = taking_fits w.taking (walk_end ifs row at l)

-- a field was taken from `at` to `end` and answered with r, ys are left of its units, and the next one begins at `next`
pub record Taken (paths : List Text) (ifs : Text) (o : Outcome (List Text)) (used : ℕ) (old : Text) (size : ℕ) (row : Text) (at n : ℕ)
    (full : Bool) (out : Text)
    (end next : ℕ) (ys after : Text) (r : Result ℕ WriteError) : Type 0 where
  pub walk : Walk paths ifs o used old size row at n full out
  pub more : 1 < length row - at
  pub run : Run ifs row at end
  pub stops : goes_on ifs (ahead row end) ≡ false
  pub behind : Reaches row end next (drop_hard ifs (drop_white ifs (ahead row end)))
  pub says : Says (field_texts paths (row_of (part row at end))) n out after r
  pub units : length ys ≡ length (mid_of at (end - at) row)
  pub kept : length after ≡ length out

pub took : {paths : List Text} {ifs : Text} {o : Outcome (List Text)} {used : ℕ} {old : Text} {size : ℕ} {row : Text} {at n : ℕ} {full : Bool} {out : Text}
    {end next : ℕ} {ys after : Text} {r : Result ℕ WriteError} → Walk paths ifs o used old size row at n full out → 1 < length row - at → Run ifs row at end
    → {g : Bool} → g ≡ goes_on ifs (ahead row end) → g ≡ false → Reaches row end next (drop_hard ifs (drop_white ifs (ahead row end)))
    → Says (field_texts paths (row_of (part row at end))) n out after r → length ys ≡ length (mid_of at (end - at) row) → length after ≡ length out
    → Taken paths ifs o used old size row at n full out end next ys after r
took w m u e f b s k l = record { walk = w; more = m; run = u; stops = sym e ∙ f; behind = b; says = s; units = k; kept = l }

module _ {paths : List Text} {ifs : Text} {o : Outcome (List Text)} {used : ℕ} {old : Text} {size : ℕ} {row : Text} {at n : ℕ} {full : Bool} {out : Text}
    {end next : ℕ} {ys after : Text} {r : Result ℕ WriteError} (t : Taken paths ifs o used old size row at n full out end next ys after r) where
  abbrev w : Walk paths ifs o used old size row at n full out
  w = t.walk

  abbrev field : Row
  field = row_of (part row at end)

  abbrev rest : List Row
  rest = fields_from ifs (ahead row next)

  cut : other_run ifs (ahead row at) ≡ (field, ahead row end)
  cut = run_end ifs t.run t.stops

  step : texts_of_fields paths (fields_from ifs (ahead row at)) ≡ first_then (field_texts paths field) (texts_of_fields paths rest)
  step = ap (texts_of_fields paths) (walk_step ifs row at end next t.more cut t.behind) ∙ texts_field paths field rest

  pub walk_class : r ≡ Err BadClass → {left : Text} → Says o used old left (Err BadClass)
  walk_class e = taking_class w.taking rest step t.says t.kept e

  -- the field's bytes may have changed, those ahead of the next place have not
  abbrev left : Text
  left = put_mid at (end - at) row ys

  ahead_same : ahead left next ≡ ahead row next
  ahead_same =
      let i : end ≤ length row = t.run.within in
      let j : end + (next - end) ≡ next = omega (arith, t.behind.far) in
      let d : drop end left ≡ drop end row = drop_put at end row ys (run_further ifs t.run) i (t.units ∙ mid_len at end row i) in
      let q : drop next left ≡ drop next row =
      ap (λ (m : ℕ). drop m left) (sym j) ∙ sym (drop-drop (next - end) end left) ∙ ap (drop (next - end)) d ∙ drop-drop (next - end) end row
      ∙ ap (λ (m : ℕ). drop m row) j in
      ap row_of q

  left_length : length left ≡ length row
  left_length = same_len_mid at (end - at) row ys t.units

  pub left_sized : length left ≡ size
  left_sized = left_length ∙ w.sized

  pub walk_falls : length (ahead left next) < length (ahead row at)
  walk_falls = rw ahead_same (step_falls ifs row at end next t.more cut t.behind)

  moved : {m : ℕ} {x : Bool} → Taking paths o used old rest m x after → Walk paths ifs o used old size left next m x after
  moved g = record {
    taking = taking_same (ap (fields_from ifs) (sym ahead_same)) g;
    sized = left_sized;
    within = omega (arith, t.behind.within, left_length);
  }

  -- the field fits; an earlier one may not have
  pub walk_on : {m : ℕ} → r ≡ Ok m → Walk paths ifs o used old size left next m full after
  walk_on e = moved (taking_on w.taking rest step t.says t.kept e)

  -- it does not fit
  pub walk_over : r ≡ Err NoRoom → Walk paths ifs o used old size left next n true after
  walk_over e = moved (taking_over w.taking rest step t.says t.kept e)
