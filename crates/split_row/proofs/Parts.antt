-- The walk from part to part: behind each part the fields of those ahead are left.
use Prim.Native.Nat.{ℕ, ◌+◌, ◌-◌, ◌≤◌}
use native.Mathlib.Omega.{arith}
use mathlib.Core.Path.{◌≡◌, refl, sym, ap, ◌∙◌}
use mathlib.Core.Bool.{Bool, true, false}
use mathlib.Core.List.{List, [], ◌++◌}
use lib.ListN.{length, drop}
use lib.Seq.{drop-drop}
use borrow.Rule.Slice.PartMut.{mid_of, put_mid, same_len_mid, mid_len, drop_put}
use Rattle.stages.specs.Bytes.{Text, part}
use Rattle.stages.specs.Outcome.{Outcome}
use Rattle.stages.specs.Units.{Row}
use Rattle.stages.specs.Split.{drop_white, fields_step, split, broken, split_parts}
use Rattle.stages.specs.Paths.{texts_of_fields}
use Rattle.stages.proofs.Split.{fields_from_lem}
use Rattle.text.specs.Rows.{row_of}
use Rattle.split_delimiter.specs.Places.{ahead}
use Rattle.split_delimiter.proofs.Places.{none_ahead, by_place}
use Rattle.split_field.specs.Answers.{Says}
use Rattle.std.specs.Prelude.{Result, Ok, Err}
use Rattle.split_field.specs.declared.WriteError.{WriteError}
use Rattle.split_field.specs.declared.WriteError.TheVariants.{BadClass, NoRoom}
use Rattle.split_delimiter.specs.Parts.{behind_break, PartEnds}
use Rattle.split_row.proofs.Taking.{
  Taking,
  taking_start,
  taking_same,
  taking_full,
  taking_fits,
  taking_class,
  taking_on,
  taking_over,
  first_then,
  texts_append,
}

-- the fields of the parts

module _ (ifs : Text) where
  nothing_split : split_parts ifs (broken []) ≡ []
  unfolding split_parts broken split drop_white fields_step
  nothing_split = ap (λ (rs : List Row). rs ++ []) (fields_from_lem ifs [])

  pub parts_end : (row : Text) (at : ℕ) → length row - at ≤ 1 → split_parts ifs (broken (ahead row at)) ≡ []
  parts_end row at l = rw (none_ahead row at l) nothing_split

  behind_same : (row : Text) (end : ℕ) → split_parts ifs (behind_break (ahead row end)) ≡ split_parts ifs (broken (ahead row (end + 2)))
  unfolding behind_break split_parts
  behind_same row end =
      by_place row end (λ (r : Row). split_parts ifs (behind_break r) ≡ split_parts ifs (broken (ahead row (end + 2))))
      (λ l. sym (parts_end row (end + 2) (omega arith)))
      (λ l c. refl)

  parts_step : (row : Text) (at end : ℕ) → PartEnds row at end → split_parts ifs (broken (ahead row at)) ≡ split ifs (row_of (part row at end)) ++
      split_parts ifs (broken (ahead row (end + 2)))
  unfolding split_parts
  parts_step row at end p = ap (split_parts ifs) p.is ∙ ap (λ (rs : List Row). split ifs (row_of (part row at end)) ++ rs) (behind_same row end)

-- the walk stands at a place of a row of `size` bytes, at most a unit behind its end
pub record Pacing (paths : List Text) (ifs : Text) (o : Outcome (List Text)) (used : ℕ) (old : Text) (size : ℕ) (row : Text) (at n : ℕ)
    (full : Bool) (out : Text) : Type 0 where
  pub taking : Taking paths o used old (split_parts ifs (broken (ahead row at))) n full out
  pub sized : length row ≡ size
  pub near : at ≤ length row + 2

pub pace_start : (paths : List Text) (ifs : Text) (used : ℕ) (old row : Text) → used ≤ length old → Pacing paths ifs
    (texts_of_fields paths (split_parts ifs (broken (row_of row)))) used old (length row) row 0 used false old
pace_start paths ifs used old row h = record {
  taking = taking_start paths (split_parts ifs (broken (row_of row))) used old h;
  sized = refl;
  near = omega arith;
}

module _ {paths : List Text} {ifs : Text} {o : Outcome (List Text)} {used : ℕ} {old : Text} {size : ℕ} {row : Text} {at n : ℕ} {full : Bool} {out : Text}
    (w : Pacing paths ifs o used old size row at n full out) (l : length row ≤ at + 1) where
  pub pace_full : full ≡ true → {left : Text} → Says o used old left (Err NoRoom)
  pace_full = taking_full w.taking (parts_end ifs row at (omega arith))

  pub pace_fits : full ≡ false → Says o used old out (Ok n)
  pace_fits = taking_fits w.taking (parts_end ifs row at (omega arith))

-- the part from `at` to `end` was answered with r, and ys are left of its units
pub record Paced (paths : List Text) (ifs : Text) (o : Outcome (List Text)) (used : ℕ) (old : Text) (size : ℕ) (row : Text) (at n : ℕ)
    (full : Bool) (out : Text)
    (end : ℕ) (ys after : Text) (r : Result ℕ WriteError) : Type 0 where
  pub walk : Pacing paths ifs o used old size row at n full out
  pub ends : PartEnds row at end
  pub says : Says (texts_of_fields paths (split ifs (row_of (part row at end)))) n out after r
  pub units : length ys ≡ length (mid_of at (end - at) row)
  pub kept : length after ≡ length out

pub paced : {paths : List Text} {ifs : Text} {o : Outcome (List Text)} {used : ℕ} {old : Text} {size : ℕ} {row : Text} {at n : ℕ} {full : Bool} {out : Text}
    {end : ℕ} {ys after : Text} {r : Result ℕ WriteError} → Pacing paths ifs o used old size row at n full out → PartEnds row at end
    → Says (texts_of_fields paths (split ifs (row_of (part row at end)))) n out after r → length ys ≡ length (mid_of at (end - at) row)
    → length after ≡ length out → Paced paths ifs o used old size row at n full out end ys after r
paced w e s k l = record { walk = w; ends = e; says = s; units = k; kept = l }

module _ {paths : List Text} {ifs : Text} {o : Outcome (List Text)} {used : ℕ} {old : Text} {size : ℕ} {row : Text} {at n : ℕ} {full : Bool} {out : Text}
    {end : ℕ} {ys after : Text} {r : Result ℕ WriteError} (t : Paced paths ifs o used old size row at n full out end ys after r) where
  abbrev rest : List Row
  rest = split_parts ifs (broken (ahead row (end + 2)))

  step : texts_of_fields paths (split_parts ifs (broken (ahead row at))) ≡ first_then (texts_of_fields paths (split ifs (row_of (part row at end))))
      (texts_of_fields paths rest)
  step = ap (texts_of_fields paths) (parts_step ifs row at end t.ends) ∙ texts_append paths (split ifs (row_of (part row at end))) rest

  pub pace_class : r ≡ Err BadClass → {left : Text} → Says o used old left r
  pace_class e = rw e (taking_class t.walk.taking rest step t.says t.kept e)

  -- the part's bytes may have changed, those behind it have not
  abbrev left : Text
  left = put_mid at (end - at) row ys

  ahead_same : ahead left (end + 2) ≡ ahead row (end + 2)
  ahead_same =
      let i : end ≤ length row = t.ends.within in
      let d : drop end left ≡ drop end row = drop_put at end row ys t.ends.onward i (t.units ∙ mid_len at end row i) in
      ap row_of (sym (drop-drop 2 end left) ∙ ap (drop 2) d ∙ drop-drop 2 end row)

  left_length : length left ≡ length row
  left_length = same_len_mid at (end - at) row ys t.units

  pub pace_sized : length left ≡ size
  pace_sized = left_length ∙ t.walk.sized

  moved : {m : ℕ} {x : Bool} → Taking paths o used old rest m x after → Pacing paths ifs o used old size left (end + 2) m x after
  moved g = record {
    taking = taking_same (ap (λ (r : Row). split_parts ifs (broken r)) (sym ahead_same)) g;
    sized = pace_sized;
    near = omega (arith, t.ends.within, left_length);
  }

  -- the part's fields fit; earlier ones may not have
  pub pace_on : {m : ℕ} → r ≡ Ok m → Pacing paths ifs o used old size left (end + 2) m full after
  pace_on e = moved (taking_on t.walk.taking rest step t.says t.kept e)

  -- they do not fit
  pub pace_over : r ≡ Err NoRoom → Pacing paths ifs o used old size left (end + 2) n true after
  pace_over e = moved (taking_over t.walk.taking rest step t.says t.kept e)
