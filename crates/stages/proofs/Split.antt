-- Laws of splitting: the walk over fields is never stuck, since a field and its delimiters leave a shorter row, and the units of the fields are
-- units of the row.
use Prim.Native.Nat.{suc, ◌≤◌, ◌<◌}
use native.Mathlib.Omega.{arith}
use mathlib.Core.Path.{◌≡◌, refl, ap, ◌∙◌}
use mathlib.Core.List.{List, [], ◌∷◌, ◌++◌}
use lib.ListN.{length}
use Rattle.stages.specs.Recur.{below_ok, fix_eq}
use Rattle.stages.specs.Bytes.{Text}
use Rattle.stages.specs.Images.{Pairs}
use Rattle.stages.specs.Units.{Cell, cell, N, B, Row}
use Rattle.stages.specs.Split.{
  Delimiter,
  white,
  hard,
  other,
  delimiter,
  drop_white,
  drop_hard,
  other_run,
  fields_step,
  fields_from,
  split,
  ifs_now,
  longer_part,
  broken,
  split_parts,
  fields_of_row,
}
use Rattle.stages.proofs.Outcomes.{Each, each_append, by_fix}

-- what is behind a field and its delimiters
abbrev pub behind_field : Text → Row → Row
behind_field ifs r = drop_hard ifs (drop_white ifs (other_run ifs r).1)

module _ (ifs : Text) where
  -- the run and what is behind it are the row
  pub run_append : (r : Row) → (other_run ifs r).0 ++ (other_run ifs r).1 ≡ r
  unfolding other_run
  run_append [] = refl
  run_append (c ∷ r) = go (delimiter ifs c) refl (run_append r)
    where
      go : (d : Delimiter) → delimiter ifs c ≡ d → (other_run ifs r).0 ++ (other_run ifs r).1 ≡ r → (other_run ifs (c ∷ r)).0 ++ (other_run ifs
          (c ∷ r)).1 ≡ c ∷ r
      go white e h = rw (e, other_run)
      go hard e h = rw (e, other_run)
      go other e h = rw (e, other_run) (ap {B = Row} (λ u. c ∷ u) h)

  pub run_length : (r : Row) → length (other_run ifs r).1 ≤ length r
  unfolding other_run
  run_length [] = omega arith
  run_length (c ∷ r) = go (delimiter ifs c) refl (run_length r)
    where
      go : (d : Delimiter) → delimiter ifs c ≡ d → length (other_run ifs r).1 ≤ length r → length (other_run ifs (c ∷ r)).1 ≤ suc (length r)
      go white e h = rw (e, other_run) (omega arith)
      go hard e h = rw (e, other_run) (omega arith)
      go other e h = rw (e, other_run) (omega arith)

  pub white_length : (r : Row) → length (drop_white ifs r) ≤ length r
  unfolding drop_white
  white_length [] = omega arith
  white_length (c ∷ r) = go (delimiter ifs c) refl (white_length r)
    where
      go : (d : Delimiter) → delimiter ifs c ≡ d → length (drop_white ifs r) ≤ length r → length (drop_white ifs (c ∷ r)) ≤ suc (length r)
      go white e h = rw (e, drop_white) (omega arith)
      go hard e h = rw (e, drop_white) (omega arith)
      go other e h = rw (e, drop_white) (omega arith)

  pub hard_length : (r : Row) → length (drop_hard ifs r) ≤ length r
  unfolding drop_hard
  hard_length [] = omega arith
  hard_length (c ∷ r) = go (delimiter ifs c) refl
    where
      go : (d : Delimiter) → delimiter ifs c ≡ d → length (drop_hard ifs (c ∷ r)) ≤ suc (length r)
      go white e = rw (e, drop_hard) (omega arith)
      go hard e = rw (e, drop_hard) (omega (arith, white_length r))
      go other e = rw (e, drop_hard) (omega arith)

  -- each step of the walk leaves a shorter row
  pub behind_length_lem : (c : Cell) (r : Row) → length (behind_field ifs (c ∷ r)) < length (c ∷ r)
  unfolding other_run drop_white drop_hard
  behind_length_lem c r = go (delimiter ifs c) refl
    where
      go : (d : Delimiter) → delimiter ifs c ≡ d → length (behind_field ifs (c ∷ r)) < suc (length r)
      go white e = rw (e, other_run, e, drop_white) (omega (arith, hard_length (drop_white ifs r), white_length r))
      go hard e = rw (e, other_run, e, drop_white, e, drop_hard) (omega (arith, white_length r))
      go other e =
          rw (e, other_run)
          (omega (arith, hard_length (drop_white ifs (other_run ifs r).1), white_length (other_run ifs r).1, run_length r))

  -- the walk, without its recursion's guard
  pub fields_from_lem : (r : Row) → fields_from ifs r ≡ fields_step ifs (fields_from ifs) r
  unfolding fields_from fields_step
  fields_from_lem [] = fix_eq length [] (fields_step ifs) []
  fields_from_lem (c ∷ r) =
      fix_eq length [] (fields_step ifs) (c ∷ r)
      ∙ ap {B = List Row} (λ l. (other_run ifs (c ∷ r)).0 ∷ l)
      (below_ok length [] (length (c ∷ r)) (fields_from ifs) (behind_field ifs (c ∷ r)) (behind_length_lem c r))

  module _ (P : Cell → Type 0) where
    pub run_each : (r : Row) → Each P r → Each P (other_run ifs r).0 × Each P (other_run ifs r).1
    unfolding other_run
    run_each [] h = (tt, tt)
    run_each (c ∷ r) h = go (delimiter ifs c) refl (run_each r h.1)
      where
        go : (d : Delimiter) → delimiter ifs c ≡ d → Each P (other_run ifs r).0 × Each P (other_run ifs r).1
            → Each P (other_run ifs (c ∷ r)).0 × Each P (other_run ifs (c ∷ r)).1
        go white e k = rw (e, other_run) (tt, h)
        go hard e k = rw (e, other_run) (tt, h)
        go other e k = rw (e, other_run) ((h.0, k.0), k.1)

    pub white_each : (r : Row) → Each P r → Each P (drop_white ifs r)
    unfolding drop_white
    white_each [] h = tt
    white_each (c ∷ r) h = go (delimiter ifs c) refl (white_each r h.1)
      where
        go : (d : Delimiter) → delimiter ifs c ≡ d → Each P (drop_white ifs r) → Each P (drop_white ifs (c ∷ r))
        go white e k = rw (e, drop_white) k
        go hard e k = rw (e, drop_white) h
        go other e k = rw (e, drop_white) h

    pub hard_each : (r : Row) → Each P r → Each P (drop_hard ifs r)
    unfolding drop_hard
    hard_each [] h = tt
    hard_each (c ∷ r) h = go (delimiter ifs c) refl
      where
        go : (d : Delimiter) → delimiter ifs c ≡ d → Each P (drop_hard ifs (c ∷ r))
        go white e = rw (e, drop_hard) h
        go hard e = rw (e, drop_hard) (white_each r h.1)
        go other e = rw (e, drop_hard) h

    step_each : (r : Row) (rec : Row → List Row) → ((s : Row) → length s < length r → Each P s → Each (Each P) (rec s)) → Each P r
        → Each (Each P) (fields_step ifs rec r)
    unfolding fields_step
    step_each [] rec ih h = tt
    step_each (c ∷ r) rec ih h = (
      (run_each (c ∷ r) h).0,
      ih (behind_field ifs (c ∷ r)) (behind_length_lem c r)
          (hard_each (drop_white ifs (other_run ifs (c ∷ r)).1) (white_each (other_run ifs (c ∷ r)).1 (run_each (c ∷ r) h).1)),
    )

    -- what holds of every unit of the row holds of every unit of its fields
    pub split_each : (r : Row) → Each P r → Each (Each P) (split ifs r)
    unfolding split fields_from
    split_each r h =
        by_fix length [] (fields_step ifs) (λ (s : Row) (l : List Row). Each P s → Each (Each P) l) step_each (drop_white ifs r) (white_each r h)

-- E5: the units of the parts between break marks are units of the row
module _ (P : Cell → Type 0) where
  longer_each : (c : Cell) (rs : List Row) → P c → Each (Each P) rs → Each (Each P) (longer_part c rs)
  unfolding longer_part
  longer_each c [] p h = ((p, tt), tt)
  longer_each c (r ∷ rs) p h = ((p, h.0), h.1)

  broken_each : (r : Row) → Each P r → Each (Each P) (broken r)
  unfolding broken
  broken_each [] h = (tt, tt)
  broken_each (cell m b ∷ r) h = longer_each (cell m b) (broken r) h.0 (broken_each r h.1)
  broken_each (N ∷ r) h = longer_each N (broken r) h.0 (broken_each r h.1)
  broken_each (B ∷ r) h = (tt, broken_each r h.1)

  parts_each : (ifs : Text) (rs : List Row) → Each (Each P) rs → Each (Each P) (split_parts ifs rs)
  unfolding split_parts
  parts_each ifs [] h = tt
  parts_each ifs (r ∷ rs) h = each_append (Each P) (split ifs r) (split_parts ifs rs) (split_each ifs P r h.0) (parts_each ifs rs h.1)

  pub fields_each : (v : Pairs) (r : Row) → Each P r → Each (Each P) (fields_of_row v r)
  unfolding fields_of_row
  fields_each v r h = parts_each (ifs_now v) (broken r) (broken_each r h)
