-- Room for a row, and rows that fill a front.
use Prim.Native.Nat.{ℕ, suc, ◌+◌, ◌≤◌, ◌<◌}
use mathlib.Core.Path.{◌≡◌, refl, ap, ◌∙◌, subst}
use mathlib.Core.List.{[], ◌∷◌}
use borrow.Author.Tests.{le-leb, lt-leb}
use lib.Dec.{leb}
use lib.ListN.{length, drop}
use Rattle.stages.specs.Numbers.{row_limit, too_many_units}
use Rattle.stages.specs.Bytes.{Text}
use Rattle.stages.specs.Outcome.{Outcome, refused, done}
use Rattle.stages.specs.Units.{Mark, Row, marked, expanded_mark, fit}
use Rattle.stages.proofs.Bools.{either}
use Rattle.stages.proofs.Rooms.{fit_full}
use Rattle.text.specs.Rows.{row_bytes}
use Rattle.row.specs.Marks.{mark_of}
use Rattle.row.specs.Stands.{fronted}
use Rattle.row.specs.declared.RowEnd.{RowEnd}
use Rattle.expand_add.specs.Added.{EndsExpanded, Adds, Fitting, AddsTo, measured, admitted}
use Rattle.expand_add.specs.declared.answers.Onward.{Onward}
use Rattle.std.specs.Prelude.{Ok, Err}
use Rattle.text.specs.declared.refusal.Refusal.TheVariants.{TooManyUnits}
use Rattle.expand_add.specs.declared.answers.Stop.TheVariants.{Refused}
use Rattle.expand_add.specs.Expanded.{Expanded, row_on}

-- what holds where there is room and where there is none
pub by_fit : (P : Outcome ℕ → Type 0) (n k : ℕ) → P (done (n + k)) → P (refused too_many_units) → P (fit n k)
unfolding fit
by_fit P n k a b = either (leb (n + k) row_limit) (λ e. rw (e, fit) a) (λ e. rw (e, fit) b)

pub measured_full : (units : ℕ) (row : Row) → row_limit < units + length row → measured units (done row) ≡ refused too_many_units
unfolding measured
measured_full units row h = rw (fit_full units (length row) h)

pub admitted_full : (units : ℕ) (on : Onward) (count : ℕ) → row_limit < units + count → Err (Refused TooManyUnits) ≡ admitted units on count
admitted_full units on count h = rw (lt-leb (units + count) row_limit h)

pub admitted_ok : (units : ℕ) (on : Onward) (count : ℕ) → units + count ≤ row_limit
    → Ok (row_on on count) ≡ admitted units on count
admitted_ok units on count h = rw (le-leb (units + count) row_limit h)

pub marked_count : (m : Mark) (t : Text) → length (marked m t) ≡ length t
unfolding marked
marked_count m [] = refl
marked_count m (b ∷ t) = ap suc (marked_count m t)

-- a row that was put at the front fits where it was measured to
pub fronted_fits : (units : ℕ) (on : Onward) (count : ℕ) (row : Row) (area left : Text) → length row ≡ count → units + count ≤ row_limit
    → left ≡ fronted (row_bytes row) area → Fitting units on (done row) left count on.next on.vars_used on.of_none
fronted_fits units on count row area left c f e =
    record {
      row = row;
      is = refl;
      counts = c;
      stands = record { rest = drop (length (row_bytes row)) area; is = e };
      fits = f;
      onward = refl;
      keeps = refl;
      tells = refl;
    }

-- an outcome that is the same
pub adds_same : (units : ℕ) (on : Onward) {o p : Outcome Row} (area : Text) (r : Expanded) → o ≡ p → Adds units on o area r → Adds units on p area r
adds_same units on area r e h = subst (λ (x : Outcome Row). Adds units on x area r) e h

-- a text that is the same
pub adds_text : (units : ℕ) (on : Onward) (m : Mark) {t u : Text} (area : Text) (r : Expanded) → t ≡ u → Adds units on (done (marked m t)) area r
    → Adds units on (done (marked m u)) area r
adds_text units on m area r e h = adds_same units on area r (ap (λ (s : Text). done (marked m s)) e) h

-- the same with every byte of the area
pub added_text : (units : ℕ) (on : Onward) (m : Mark) {t u : Text} (old area : Text) (r : Expanded) → t ≡ u → AddsTo units on (marked m t) old area r
    → AddsTo units on (marked m u) old area r
added_text units on m old area r e h = subst (λ (s : Text). AddsTo units on (marked m s) old area r) e h

pub added_expanded : (row : RowEnd) {there : RowEnd} (on : Onward) (t old area : Text) (r : Expanded) → EndsExpanded row there
    → AddsTo there.units on (marked (mark_of there.mark) t) old area r
    → AddsTo row.units on (marked (expanded_mark (mark_of row.mark)) t) old area r
added_expanded row {there} on t old area r x h =
    subst (λ (n : ℕ). AddsTo n on (marked (expanded_mark (mark_of row.mark)) t) old area r) x.units
    (subst (λ (k : Mark). AddsTo there.units on (marked k t) old area r) x.mark h)

-- a text that was given where what is expanded ends
pub adds_expanded : (row : RowEnd) {there : RowEnd} (on : Onward) {t u : Text} (area : Text) (r : Expanded) → EndsExpanded row there → t ≡ u
    → Adds there.units on (done (marked (mark_of there.mark) t)) area r
    → Adds row.units on (done (marked (expanded_mark (mark_of row.mark)) u)) area r
adds_expanded row {there} on {t} {u} area r x e h =
    subst (λ (n : ℕ). Adds n on (done (marked (expanded_mark (mark_of row.mark)) u)) area r) x.units
    (adds_same there.units on area r
    (ap (λ (k : Mark). done (marked k t)) x.mark ∙ ap (λ (s : Text). done (marked (expanded_mark (mark_of row.mark)) s)) e) h)
