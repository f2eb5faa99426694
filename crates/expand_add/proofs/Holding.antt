-- What an answer says, once its case is known.
use Prim.Native.Nat.{ℕ}
use native.Mathlib.Omega.{arith}
use mathlib.Core.Path.{◌≡◌, subst}
use lib.ListN.{take}
use Rattle.stages.specs.Bytes.{Text}
use Rattle.stages.specs.Outcome.{Outcome, done}
use Rattle.stages.specs.Images.{held}
use Rattle.stages.specs.Syntax.{Parts}
use Rattle.stages.specs.Read.{Taken}
use Rattle.stages.specs.Units.{Row}
use Rattle.stages.specs.Expand.{Made}
use Rattle.table_store.specs.Holding.{Holds}
use Rattle.expand_add.specs.Added.{Adds}
use Rattle.expand_add.specs.Steps.{beside, placed}
use Rattle.expand_add.specs.Answers.{Ends, Answers, Says, Finishes}
use Rattle.expand_add.specs.declared.answers.Onward.{Onward}
use Rattle.std.specs.Prelude.{Ok, Err}
use Rattle.text.specs.Refusals.{refusal_number}
use Rattle.expand_add.specs.declared.answers.Stop.TheVariants.{Refused, Demanded}
use Rattle.expand_add.specs.Expanded.{Expanded}
use Rattle.expand_add.proofs.Steps.{placed_fits, beside_refused, beside_done}

-- the answer of a text, once its parts are known
pub says_known : (varsRoom : ℕ) (text : Text) (at units : ℕ) (own : Parts → Made) {o : Taken} {p : Parts × Text} (area vars : Text) (r : Expanded)
    → Says varsRoom text at units own o area vars r → o ≡ done p → Answers varsRoom text at units (own p.0) p.1 area vars r
says_known varsRoom text at units own area vars r h e = subst (λ (x : Taken). Says varsRoom text at units own x area vars r) e h

pub answers_known : (varsRoom : ℕ) (text : Text) (at units : ℕ) (made : Made) (rest area vars : Text) {r s : Expanded}
    → Answers varsRoom text at units made rest area vars r → r ≡ s → Answers varsRoom text at units made rest area vars s
answers_known varsRoom text at units made rest area vars h e = subst (λ (x : Expanded). Answers varsRoom text at units made rest area vars x) e h

-- a row that was added where nothing is stored
pub adds_finishes : (varsRoom units : ℕ) (on : Onward) (o : Outcome Row) (area vars : Text) (r : Expanded) → Adds units on o area r
    → Holds varsRoom vars on.vars_used
    → Finishes varsRoom units (placed units (beside (held (take on.vars_used vars)) on.of_none o)) on.next area vars r
adds_finishes varsRoom units on o area vars (Err (Refused e)) h w =
    beside_refused units (held (take on.vars_used vars)) on.of_none o (refusal_number e) h
adds_finishes varsRoom units on o area vars (Ok r) f w =
    let c = f.counts in
    let l = f.fits in
    let v = held (take on.vars_used vars) in
    let g = on.of_none in (
      f.onward,
      rw (f.keeps, f.tells) (record {
        row = f.row;
        is = placed_fits units (beside v g o) f.row v g (beside_done v g o f.row f.is) (omega arith);
        counts = c;
        stands = f.stands;
        fits = l;
        holds = w;
      }),
    )
adds_finishes varsRoom units on o area vars (Err (Demanded at len)) h w = absurd h

-- the same of a row that is made the same
pub finishes_same : (varsRoom units : ℕ) {made made' : Made} (next : ℕ) (area vars : Text) (r : Expanded) → made ≡ made'
    → Finishes varsRoom units made next area vars r → Finishes varsRoom units made' next area vars r
finishes_same varsRoom units next area vars r e h = subst (λ (m : Made). Finishes varsRoom units m next area vars r) e h

-- what a leaf finishes is the answer of its text, which ends where the leaf was told
pub finishes_answers : (varsRoom : ℕ) (text : Text) (at units : ℕ) (made : Made) (next : ℕ) (rest area vars : Text) (r : Expanded)
    → Finishes varsRoom units made next area vars r → Ends text at next rest → Answers varsRoom text at units made rest area vars r
finishes_answers varsRoom text at units made next rest area vars (Err (Refused e)) h k = h
finishes_answers varsRoom text at units made next rest area vars (Ok r) h k = (h.1, rw h.0 k)
finishes_answers varsRoom text at units made next rest area vars (Err (Demanded from len)) h k = h
