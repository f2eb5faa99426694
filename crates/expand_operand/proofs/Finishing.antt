-- What is given without the operand's row, and of it.
use Prim.Native.Nat.{ℕ, ◌+◌, ◌*◌, ◌≤◌}
use native.Mathlib.Omega.{arith}
use mathlib.Core.Path.{◌≡◌, refl, sym, ap, ◌∙◌, subst}
use mathlib.Core.Bool.{Bool, true, false}
use mathlib.Core.List.{[], ◌++◌}
use borrow.Author.Tests.{leb-true, leb-false}
use lib.Dec.{leb}
use lib.ListN.{length, take, drop, take-append-drop}
use lib.Seq.{length-take-le}
use Rattle.stages.specs.Numbers.{row_limit}
use Rattle.stages.specs.Bytes.{Text}
use Rattle.stages.specs.Outcome.{demands, done}
use Rattle.stages.specs.Images.{Pairs, held, held_texts, or_empty}
use Rattle.stages.specs.Syntax.{Param}
use Rattle.stages.specs.Units.{Mark, Row, marked, bytes, expanded_mark}
use Rattle.stages.specs.Params.{Lent, value}
use Rattle.stages.specs.Expand.{demand}
use Rattle.stages.proofs.Bools.{either}
use Rattle.text.specs.Cases.{side_of, reach_of}
use Rattle.text.specs.Rows.{row_bytes}
use Rattle.text.proofs.Rows.{length_row_bytes}
use Rattle.row.specs.Stands.{Stands}
use Rattle.expand_add.specs.Added.{Adds, admitted}
use Rattle.expand_add.specs.Steps.{beside, placed}
use Rattle.table_store.specs.Holding.{Holds}
use Rattle.expand_add.specs.Answers.{Finishes}
use Rattle.expand_add.specs.declared.answers.Onward.{Onward}
use Rattle.std.specs.Prelude.{Ok, Err}
use Rattle.expand_add.specs.declared.answers.Stop.{Stop}
use Rattle.expand_add.specs.Expanded.{Expanded, row_on}
use Rattle.expand_add.specs.declared.answers.Stop.TheVariants as stop
use Rattle.expand_add.proofs.Fitting.{measured_full, adds_text}
use Rattle.expand_add.proofs.Steps.{placed_demands}
use Rattle.expand_add.proofs.Holding.{adds_finishes, finishes_same}
use Rattle.expand_param.specs.Holding.{holding_in}
use Rattle.expand_param.proofs.Holding.{value_held}
use Rattle.expand_form.specs.Plans.{settled, finished}
use Rattle.expand_form.specs.declared.Unused.TheVariants.{Value}
use Rattle.expand_form.specs.declared.Used.{Used}
use Rattle.expand_form.specs.declared.Used.TheVariants as used
use Rattle.expand_operand.specs.Operands.{Storable, row_at, cut_of, Demands}
use Rattle.expand_operand.proofs.Removing.{cut_beside}

-- where the operand is not used: the value that is held is given, or nothing is
pub settle_value : (a : Lent) (vars params : Text) → a.params ≡ held_texts params → (units : ℕ) (on : Onward) (x : Param) (m : Mark) (area : Text)
    (r : Expanded) → Adds units on (done (marked (expanded_mark m) (or_empty (holding_in (held_texts params) (held vars) x)))) area r
    → Adds units on (settled Value a x m (held vars)) area r
unfolding settled
settle_value a vars params e units on x m area r h =
    adds_text units on (expanded_mark m) area r (sym (value_held a (held_texts params) e (held vars) x)) h

pub adds_none : (units : ℕ) (on : Onward) (area : Text) → units ≤ row_limit
    → Adds units on (done []) area (Ok (row_on on 0))
unfolding row_bytes
adds_none units on area l =
    record {
      row = [];
      is = refl;
      counts = refl;
      stands = record { rest = area; is = refl };
      fits = omega arith;
      onward = refl;
      keeps = refl;
      tells = refl;
    }

-- the operand's row as it stands
admitted_adds : (units : ℕ) (on : Onward) (count : ℕ) (x : Param) (area : Text) → Storable x area count → {r : Expanded} → r ≡ admitted units on count
    → Adds units on (done (row_at area count)) area r
admitted_adds units on count x area p {r} q = rw q (either (leb (units + count) row_limit) fits full)
  where
    row : Row
    row = row_at area count

    counted : length row ≡ count
    counted = omega (arith, sym (length_row_bytes row) ∙ ap length p.is ∙ length-take-le (2 * count) area p.inside)

    whole : Stands row area
    whole = record {
      rest = drop (2 * count) area;
      is =
          sym (take-append-drop (2 * count) area) ∙ ap (λ (t : Text). t ++ drop (2 * count) area) (sym p.is);
    }

    fits : leb (units + count) row_limit ≡ true → Adds units on (done row) area (admitted units on count)
    fits e =
        rw e
        (record {
          row = row;
          is = refl;
          counts = counted;
          stands = whole;
          fits = leb-true (units + count) row_limit e;
          onward = refl;
          keeps = refl;
          tells = refl;
        })

    full : leb (units + count) row_limit ≡ false → Adds units on (done row) area (admitted units on count)
    full e = rw e (measured_full units row (omega (arith, counted, leb-false (units + count) row_limit e)))

module _ (a : Lent) (units : ℕ) (on : Onward) (count : ℕ) (x : Param) (m : Mark) (area vars : Text)
    (w : Holds a.room vars on.vars_used) where
  pub finish_given : Storable x area count → {r : Expanded} → r ≡ admitted units on count
      → Finishes a.room units (placed units (finished used.Given a x m (row_at area count, held (take on.vars_used vars), on.of_none)))
      on.next area vars r
  unfolding finished
  finish_given p {r} q = adds_finishes a.room units on (done (row_at area count)) area vars r (admitted_adds units on count x area p q) w

  pub finish_cut : on.of_none ≡ false → (suffix long g : Bool) (left : Text) (r : Expanded) {own : Text}
      → own ≡ value a (held (take on.vars_used vars)) x
      → Adds units on (cut_of (side_of suffix) (reach_of long) own m (row_at area count)) left r
      → Finishes a.room units
      (placed units (finished (used.Removed suffix long) a x m (row_at area count, held (take on.vars_used vars), g))) on.next left vars r
  unfolding finished
  finish_cut f suffix long g left r {own} e h =
      let v = held (take on.vars_used vars) in
      finishes_same a.room units on.next left vars r
      (ap (λ (b : Bool). placed units (beside v b (cut_of (side_of suffix) (reach_of long) own m (row_at area count)))) f
      ∙ ap (placed units) (cut_beside a (side_of suffix) (reach_of long) x m (row_at area count) v g e))
      (adds_finishes a.room units on _ left vars r h w)

-- the operand's bytes are the message
module _ (a : Lent) (units : ℕ) (x : Param) (m : Mark) (p : Row × Pairs × Bool) (next : ℕ) (area vars : Text) where
  demanded : (r : Stop) → Demands (bytes p.0) area r
      → Finishes a.room units (placed units (finished used.Demanded a x m p)) next area vars (Err r)
  unfolding finished demand
  demanded (stop.Refused e) h = absurd h
  demanded (stop.Demanded at len) h =
      record { message = bytes p.0; is = placed_demands units (demands (bytes p.0)) (bytes p.0) refl; waits = h }

  pub finish_demanded : {u : Used} → u ≡ used.Demanded → (r : Stop) → Demands (bytes p.0) area r
      → Finishes a.room units (placed units (finished u a x m p)) next area vars (Err r)
  finish_demanded e r h = subst (λ (k : Used). Finishes a.room units (placed units (finished k a x m p)) next area vars (Err r)) (sym e) (demanded r h)
