-- The loop over the assignments of a line, on plain lists: those that are left, and the variables that those before them left.
use Prim.Native.Nat.{ℕ, ◌≤◌}
use native.Mathlib.Omega.{arith}
use mathlib.Core.Path.{◌≡◌, ap, ◌∙◌}
use mathlib.Core.List.{List}
use lib.ListN.{length, drop}
use Rattle.stages.specs.Bytes.{Text}
use Rattle.stages.specs.Outcome.{Outcome, refused, demands, done, Placed, refused_at, demands_at, done_at, placed_at, ◌then◌}
use Rattle.stages.specs.Images.{Pairs}
use Rattle.stages.specs.Syntax.{Assignment}
use Rattle.stages.specs.Params.{Lent}
use Rattle.stages.specs.Assign.{an_assignment, Assignments, assignment_of, assignments, read_assignments, assign, assign_all}
use Rattle.stages.proofs.Pieces.{FirstPiece}
use Rattle.stages.proofs.Assignments.{assignment_takes}
use Rattle.read_line.specs.Says.{NextAt, NextNone}
use Rattle.read_line.proofs.Lines.{next_piece, last_piece}
use Rattle.assign_line.specs.Answers.{line_outcome}

-- where the loop stands: `left` are the assignments from here on, v the variables that they see
pub record Goes (a : Lent) (o : Placed Pairs) (line : Text) (from : ℕ) (v : Pairs) : Type 0 where
  pub left : List Assignment
  pub ahead : assignments (from, drop from line) ≡ done_at left
  pub is : o ≡ assign_all a left v
  pub within : from ≤ length line

-- no assignment is done
pub goes_start : (a : Lent) (line : Text) (v : Pairs) (ws : List Assignment) → read_assignments line ≡ done_at ws → Goes a (line_outcome a line v) line 0 v
unfolding read_assignments
goes_start a line v ws r =
    record { left = ws; ahead = r; is = ap (λ (w : Assignments). w then λ us. assign_all a us v) r; within = omega arith }

module _ {a : Lent} {o : Placed Pairs} {line : Text} {from : ℕ} {v : Pairs} (g : Goes a o line from v) where
  -- there is no further one
  pub goes_end : NextNone line from → o ≡ done_at v
  unfolding assign_all
  goes_end n =
      g.is ∙ ap (λ (ws : List Assignment). assign_all a ws v) (last_piece an_assignment assignment_of line from g.left n g.ahead)

  module _ {place : ℕ} (p : NextAt line from place) where
    pub first : FirstPiece an_assignment assignment_of line place g.left
    first = next_piece an_assignment assignment_of assignment_takes line from place g.left p g.ahead

    -- the first of those that are left
    abbrev own : Assignment
    own = assignment_of place first.tree

    abbrev later : Outcome Pairs → Placed Pairs
    later r = placed_at place r then λ u. assign_all a first.tail u

    opened : o ≡ later (assign a own v)
    unfolding assign_all
    opened = g.is ∙ ap (λ (ws : List Assignment). assign_all a ws v) first.whole

    pub goes_refused : {n : ℕ} → assign a own v ≡ refused n → o ≡ refused_at n place
    goes_refused h = opened ∙ ap later h

    pub goes_demanded : {t : Text} → assign a own v ≡ demands t → o ≡ demands_at t place
    goes_demanded h = opened ∙ ap later h

    -- those behind it see what it leaves
    pub goes_on : {u : Pairs} → assign a own v ≡ done u → {next : ℕ} → drop next line ≡ first.rest → next ≤ length line → Goes a o line next u
    goes_on h {next} e w = record { left = first.tail; ahead = first.more next e w; is = opened ∙ ap later h; within = w }
