-- The loop over the assignments with the buffers that it works in: what holds whenever the next one is looked for.
use Prim.Native.Nat.{ℕ, ◌≤◌, ◌<◌}
use native.Mathlib.Omega.{arith}
use mathlib.Core.Path.{◌≡◌}
use mathlib.Core.Bool.{Bool}
use lib.ListN.{length, take, drop}
use Rattle.stages.specs.Numbers.{work_least}
use Rattle.stages.specs.Bytes.{Text}
use Rattle.stages.specs.Outcome.{Outcome, Placed}
use Rattle.stages.specs.Images.{Pairs, held}
use Rattle.stages.specs.Params.{Lent}
use Rattle.stages.specs.Assign.{an_assignment, assignment_of, assign}
use Rattle.stages.proofs.Pieces.{FirstPiece}
use Rattle.table.specs.Around.{lent_of}
use Rattle.read_line.specs.Says.{NextAt, NextNone}
use Rattle.table_store.specs.Holding.{Holds}
use Rattle.assign_line.specs.Answers.{line_outcome, AssignmentReady, IsStored, AssignmentOf, AssignmentSays, LineReady, LineStops, LineSays}
use Rattle.std.specs.Prelude.{Result, Ok, Err}
use Rattle.expand_add.specs.declared.answers.Stop.{Stop}
use Rattle.expand_add.specs.declared.answers.Stop.TheVariants.{Refused, Demanded}
use Rattle.assign_line.specs.declared.Assigned.{Assigned}
use Rattle.assign_line.proofs.Going.{Goes, goes_start, goes_end, first, goes_refused, goes_demanded, goes_on}

pub record State (text houses params : Text) (room : ℕ) (shouts : Bool) (o : Placed Pairs) (at left : ℕ) (vars work : Text) : Type 0 where
  pub goes : Goes (lent_of room shouts houses params) o text at (held (take left vars))
  pub holds : Holds room vars left
  pub area : work_least ≤ length work

module _ {text vars : Text} {vars_used room : ℕ} {houses params work : Text} (shouts : Bool)
    (r : LineReady text vars vars_used room houses params work) where
  abbrev a : Lent
  a = lent_of room shouts houses params

  abbrev whole : Placed Pairs
  whole = line_outcome a text (held (take vars_used vars))

  pub state_start : State text houses params room shouts whole 0 vars_used vars work
  state_start = record { goes = goes_start a text (held (take vars_used vars)) r.words r.read; holds = r.holds; area = r.area }

  module _ {at left : ℕ} {vars' work' : Text} (s : State text houses params room shouts whole at left vars' work') where
    pub state_end : NextNone text at → LineSays room whole vars' work' (Ok left)
    state_end n = record { is = goes_end s.goes n; holds = s.holds }

    module _ {place : ℕ} (p : NextAt text at place) where
      abbrev own : FirstPiece an_assignment assignment_of text place s.goes.left
      own = first s.goes p

      -- what the assignment makes of the variables
      abbrev made : Outcome Pairs
      made = assign a (assignment_of place own.tree) (held (take left vars'))

      pub assignment_ready : AssignmentReady text place vars' left room houses params work'
      assignment_ready =
          record {
            within = p.within;
            tree = own.tree;
            rest = own.rest;
            is = own.read;
            clean = r.clean;
            holds = s.holds;
            housed = r.housed;
            handed = r.handed;
            area = s.area;
          }

      abbrev Says : Text → Text → Result Assigned Stop → Type 0
      Says vars₂ work₂ got = AssignmentSays a (an_assignment (drop place text)) text place (held (take left vars')) vars₂ work₂ got

      stopped : (vars₂ work₂ : Text) (stop : Stop) → AssignmentOf room made own.rest text place vars₂ work₂ (Err stop) → LineStops whole work₂ stop place
      stopped vars₂ work₂ (Refused e) h = goes_refused s.goes p h
      stopped vars₂ work₂ (Demanded from n) d = record { message = d.message; is = goes_demanded s.goes p d.is; waits = d.waits }

      module _ {vars₂ work₂ : Text} where
        word_of : {got : Result Assigned Stop} → Says vars₂ work₂ got → AssignmentOf room made own.rest text place vars₂ work₂ got
        word_of h = h.says (own.tree, own.rest) own.read

        pub state_stopped : {stop : Stop} → Says vars₂ work₂ (Err stop) → LineSays room whole vars₂ work₂ (Err (record { stop = stop; place = place }))
        state_stopped {stop} h = stopped vars₂ work₂ stop (word_of h)

        module _ {next left₂ : ℕ} (h : Says vars₂ work₂ (Ok (record { next = next; vars_used = left₂ }))) where
          kept : IsStored room made own.rest text place vars₂ next left₂
          kept = word_of h

          pub state_further : (at < next) × (next ≤ length text)
          state_further = (omega (arith, p.onward, kept.onward), kept.within)

          pub state_next : length work₂ ≡ length work' → State text houses params room shouts whole next left₂ vars₂ work₂
          state_next m =
              record {
                goes = goes_on s.goes p kept.is kept.ends kept.within;
                holds = kept.holds;
                area = omega (arith, s.area, m);
              }
