-- The walk over the lines: those passed are applied, and those ahead are left.
use Prim.Native.Nat.{ℕ, suc, ◌+◌, ◌-◌, ◌≤◌, ◌<◌}
use native.Mathlib.Omega.{arith}
use native.Mathlib.Numerals.{add-one}
use mathlib.Core.Path.{◌≡◌, refl, sym, ap, subst, ◌∙◌}
use mathlib.Core.Bool.{Bool, true, false}
use mathlib.Core.List.{[], ◌∷◌}
use lib.Dec.{eqb}
use lib.ListN.{length, take, drop, length-drop, drop_of_length-le}
use lib.Seq.{take_all, drop-drop}
use borrow.Author.Tests.{eq-eqb, ne_eqb}
use Rattle.stages.specs.Numbers.{accepted}
use Rattle.stages.specs.Bytes.{Text, part}
use Rattle.stages.specs.Call as stage
use Rattle.stages.specs.Program.{lines_of}
use Rattle.stages.proofs.Assigns.{AssignerFits, assigner_fits}
use Rattle.system.specs.Counts.{IsPrefixLen}
use Rattle.system.proofs.Counting.{prefix_len_of_le}
use Rattle.call_check.specs.Calls.{given}
use Rattle.call_deliver.specs.Hands.{Gives}
use Rattle.call_deliver.specs.declared.Answer.{Answer}
use Rattle.tab_escape.specs.Escapes.{up_to}
use Rattle.tab_pack.proofs.Going.{line_first, up_within}
use Rattle.tab_assign.specs.Assignings.{
  Buffers,
  buffers,
  answer_to,
  left_by,
  Assigning,
  assign_on,
  assigning,
  lines_taken,
  refused_line,
  Assigns,
  passes,
  stops,
}
use Rattle.std.specs.Prelude.{Result, Ok, Err}
use Rattle.tab_assign.specs.declared.RefusedLine.{RefusedLine}

-- the first line of a text
taken_first : (t : Text) → lines_taken t ≡ take (up_to 10 t) t ∷ lines_of (drop (suc (up_to 10 t)) t)
unfolding lines_taken lines_of
taken_first [] = refl
taken_first (b ∷ t) = line_first b t

-- a text with a byte in it has a line of its own
taken_some : (t : Text) → 0 < length t → lines_of t ≡ lines_taken t
unfolding lines_taken
taken_some [] h = absurd (omega arith)
taken_some (b ∷ t) h = refl

-- the lines before `at` are applied, and have left this
pub record Going (homes params : Text) (shouts : Bool) (text : Text) (first left : Buffers) (at line : ℕ) : Type 0 where
  pub is : assigning homes params shouts 1 first (lines_taken text) ≡ assigning homes params shouts line left (lines_taken (drop at text))
  pub within : at ≤ length text
  pub count : line ≤ at + 1

pub going_starts : (homes params : Text) (shouts : Bool) (text : Text) (first : Buffers) → Going homes params shouts text first first 0 1
going_starts homes params shouts text first = record { is = refl; within = omega arith; count = omega arith }

-- the line at the walk's place is r bytes long: it ends at the first newline, or at the text's end
pub record Line (homes params : Text) (shouts : Bool) (text : Text) (first left : Buffers) (at line r : ℕ) : Type 0 where
  pub going : Going homes params shouts text first left at line
  pub ends : r ≡ up_to 10 (take (length text - at) (drop at text))

pub line_there : {homes params : Text} {shouts : Bool} {text : Text} {first left : Buffers} {at line r : ℕ}
    → Going homes params shouts text first left at line → r ≡ up_to 10 (take (length text - at) (drop at text))
    → Line homes params shouts text first left at line r
line_there g e = record { going = g; ends = e }

module _ {homes params : Text} {shouts : Bool} {text : Text} {first left : Buffers} {at line r : ℕ}
    (l : Line homes params shouts text first left at line r) where
  place : r ≡ up_to 10 (drop at text)
  place = l.ends ∙ ap (up_to 10) (take_all (length text - at) (drop at text) (omega (arith, length-drop at text)))

  pub going_end : at + r ≤ length text
  going_end = omega (arith, l.going.within, place, up_within 10 (drop at text), length-drop at text)

  lines : lines_taken (drop at text) ≡ part text at (at + r) ∷ lines_of (drop (at + r + 1) text)
  lines =
      let z : at + r - at ≡ r = omega arith in
      let y : at + suc r ≡ at + r + 1 = omega arith in
      taken_first (drop at text)
      ∙ ap (λ (k : ℕ). take k (drop at text) ∷ lines_of (drop (suc k) (drop at text))) (sym place)
      ∙ ap (λ (t : Text). take r (drop at text) ∷ lines_of t) (drop-drop (suc r) at text ∙ ap (λ (k : ℕ). drop k text) y)
      ∙ ap (λ (k : ℕ). take k (drop at text) ∷ lines_of (drop (at + r + 1) text)) (sym z)

  abbrev all : Assigning
  all = assigning homes params shouts 1 first (lines_taken text)

  abbrev answer : stage.Answer
  answer = answer_to homes params shouts left (part text at (at + r))

  step : (b : Bool) → eqb answer.number accepted ≡ b
      → all ≡ assign_on b line answer (λ c. assigning homes params shouts (suc line) c (lines_of (drop (at + r + 1) text)))
  unfolding assigning
  step b e =
      l.going.is ∙ ap (assigning homes params shouts line left) lines
      ∙ ap (λ (x : Bool). assign_on x line answer (λ c. assigning homes params shouts (suc line) c (lines_of (drop (at + r + 1) text)))) e

  fits : AssignerFits (given (part text at (at + r)) left.vars left.vars_used shouts homes params [] left.work [] left.message) answer
  fits = assigner_fits _

  module _ {a : Answer} {vars work message : Text} (g : Gives answer a vars work [] message) where
    same : left_by answer ≡ buffers vars a.vars_used work message
    same = rw (← g.hands.variables, ← g.hands.vars_used, ← g.clears, ← g.hands.message)

    pub going_stops : (a.number ≡ accepted → ⊥) → Assigns all vars work message (Err (refused_line line a.number a.place a.message_len))
    going_stops e =
        stops (step false (ne_eqb answer.number accepted (λ k. e (g.hands.number ∙ k))))
        (record {
          numbered = g.hands.number;
          placed = g.hands.place;
          long = g.hands.message_length;
          variables = g.hands.variables;
          clears = g.clears;
          says = g.hands.message;
          within = prefix_len_of_le a.message_len message
              (omega (arith, g.hands.message_length, ap length g.hands.message, fits.tells.kept, fits.tells.fits));
        })

    module _ (e : a.number ≡ accepted) where
      taken : answer.number ≡ accepted
      taken = sym g.hands.number ∙ e

      goes : all ≡ assigning homes params shouts (suc line) (buffers vars a.vars_used work message) (lines_of (drop (at + r + 1) text))
      goes =
          step true (eq-eqb answer.number accepted taken)
          ∙ ap (λ (b : Buffers). assigning homes params shouts (suc line) b (lines_of (drop (at + r + 1) text))) same

    pub going_passes : a.number ≡ accepted → length text ≤ at + r + 1 → Assigns all vars work message (Ok a.vars_used)
    unfolding assigning lines_of
    going_passes e h =
        passes
        (goes e
        ∙ ap (λ (t : Text). assigning homes params shouts (suc line) (buffers vars a.vars_used work message) (lines_of t)) (drop_of_length-le text h))
        (prefix_len_of_le a.vars_used vars
        (omega (arith, g.hands.vars_used, ap length g.hands.variables, fits.vars_kept, (fits.accepts (taken e)).vars_fit)))

    pub going_more : a.number ≡ accepted → at + r + 1 < length text
        → Going homes params shouts text first (buffers vars a.vars_used work message) (at + r + 1) (line + 1)
    going_more e h = record {
      is = rw (add-one line) (goes e ∙ ap (assigning homes params shouts (suc line) (buffers vars a.vars_used work message))
          (taken_some (drop (at + r + 1) text) (omega (arith, h, length-drop (at + r + 1) text))));
      within = omega (arith, h);
      count = omega (arith, l.going.count);
    }
