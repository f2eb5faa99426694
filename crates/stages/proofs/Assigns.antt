-- Document 02, E9: the assigner's answer is well formed, whatever is given: a refusal has a number of the table, but for 4 and 21, and leaves the buffers
-- alone; an acceptance leaves an image in order at the front of the variables' buffer, zeros behind it up to the used length that was given, and what is beyond
-- as it was.
use Prim.Native.Nat.{ℕ, ◌+◌, ◌-◌, ◌≤◌}
use native.Mathlib.Omega.{arith}
use mathlib.Core.Path.{◌≡◌, refl}
use mathlib.Core.Bool.{Bool, true, not, ◌||◌}
use mathlib.Core.List.{List, [], ◌∷◌, ◌++◌}
use mathlib.Core.Logic.{◌⊎◌, inl, inr}
use mathlib.Core.Option.{some}
use lib.Dec.{eqb, leb}
use lib.ListN.{length, take, drop, replicate}
use borrow.Author.Tests.{leb-true}
use Rattle.stages.specs.Numbers.{accepted, work_too_small, bad_variables, bad_homes, bad_paths, line_too_long, zero_byte, demanded, output_room, bad_parameters}
use Rattle.stages.specs.Numbers.{work_least, line_limit, image_limit}
use Rattle.stages.specs.Bytes.{Text, between, is_in}
use Rattle.stages.specs.Outcome.{Placed, refused_at, demands_at, done_at}
use Rattle.stages.specs.Images.{Pairs, is_name, variables_of, homes_of, fields_of}
use Rattle.stages.specs.Syntax.{Assignment}
use Rattle.stages.specs.Units.{L, bytes}
use Rattle.stages.specs.Params.{Lent}
use Rattle.stages.specs.Assign.{assign, assign_all, read_assignments, assign_line}
use Rattle.stages.specs.Call.{Given, Answer, over, shown, answered, assigned, settled, assigner}
use Rattle.stages.proofs.Bools.{no, or_cases, or_left, or_right, between_bounds, between_true}
use Rattle.stages.proofs.Outcomes.{Each, is_fault, is_early, fault_late, Safe, safe_bind, SafeBy, early, refuses_at, asks_at, gives_at, safe_then}
use Rattle.stages.proofs.Outcomes.{safe_weaker_at, safe_at, safe_require}
use Rattle.stages.proofs.Safe.{SafeParts}
use Rattle.stages.proofs.SafeRows.{Kept, SafeLent, expand_safe, bytes_safe, store_safe}
use Rattle.stages.proofs.SafeLines.{no_zero}
use Rattle.stages.proofs.Assignments.{AssignmentIn, assignments_safe}
use Rattle.stages.proofs.Answers.{Refuses, Tells, Fits, Settles, answered_fits, some_safe, vars_kept_lem, homes_fine, fields_fine}

-- "The job takes neither paths nor output: 4 and 21 do not arise": what is looked at before the line is read are 1 to 3, 23, 5 and 6
abbrev pub is_first : ℕ → Bool
is_first n = between work_too_small n bad_homes || (between line_too_long n zero_byte || eqb n bad_parameters)

first_early : (n : ℕ) → is_first n ≡ true → is_early n ≡ true
first_early n e = go (or_cases (between work_too_small n bad_homes) (between line_too_long n zero_byte || eqb n bad_parameters) e)
  where
    within : (lo hi : ℕ) → work_too_small ≤ lo → hi ≤ zero_byte → between lo n hi ≡ true → is_early n ≡ true
    within lo hi l m h =
        let b = between_bounds lo n hi h in
        or_left (eqb n bad_parameters) (between_true work_too_small n zero_byte (omega (arith, b.0)) (omega (arith, b.1)))

    last : (between line_too_long n zero_byte ≡ true) ⊎ (eqb n bad_parameters ≡ true) → is_early n ≡ true
    last (inl h) = within line_too_long zero_byte (omega arith) (omega arith) h
    last (inr h) = or_right (between work_too_small n zero_byte) h

    go : (between work_too_small n bad_homes ≡ true) ⊎ ((between line_too_long n zero_byte || eqb n bad_parameters) ≡ true) → is_early n ≡ true
    go (inl h) = within work_too_small bad_homes (omega arith) (omega arith) h
    go (inr h) = last (or_cases (between line_too_long n zero_byte) (eqb n bad_parameters) h)

abbrev SafeJob : {A : Type 0} → ℕ → (A → Type 0) → Placed A → Type 0
SafeJob size P o = SafeBy is_first is_fault size P o

-- STORES

module _ (a : Lent) (l : SafeLent a) where
  assign_safe : (w : Assignment) (v : Pairs) → is_name w.name ≡ true → SafeParts w.parts → Kept a.room v → Safe (Kept a.room) (assign a w v)
  unfolding assign
  assign_safe w v n s k =
      safe_bind _ (expand_safe a l w.parts s L 0 v k)
      (λ r h. store_safe a.room w.name (bytes r.0) r.1 n (bytes_safe r.0 h.0) h.1)

  all_safe : (size : ℕ) (ws : List Assignment) (v : Pairs) → Each (AssignmentIn size) ws → Kept a.room v → SafeJob size (Kept a.room) (assign_all a ws v)
  unfolding assign_all
  all_safe size [] v h k = gives_at k
  all_safe size (w ∷ ws) v h k =
      safe_then _ (safe_at (λ n e. e) w.place h.0.inside (assign_safe w v h.0.named h.0.clean k)) (λ u i. all_safe size ws u h.1 i)

  line_assigns : (t : Text) (v : Pairs) → Kept a.room v → SafeJob (length t) (Kept a.room) (assign_line a t v)
  unfolding assign_line read_assignments
  line_assigns t v k =
      safe_then _ (safe_require (leb (length t) line_limit) line_too_long 0 (early refl))
      (λ _ _. safe_then _ (safe_require (not (is_in 0 t)) zero_byte 0 (early refl))
      (λ _ z. safe_then _ (assignments_safe (λ n e. e) (length t) (0, t) (no_zero t z) (omega arith))
      (λ ws h. all_safe (length t) ws v h k)))

pub assigned_safe : (g : Given) → SafeBy is_first is_fault (length g.line) (Settles g) (assigned g)
unfolding assigned
assigned_safe g =
    safe_then _ (safe_require (leb work_least (length g.work)) work_too_small 0 (early refl))
    (λ _ _. safe_then _ (safe_require (leb g.vars_used (length g.vars)) bad_variables 0 (early refl))
    (λ _ l. safe_then _ (some_safe (length g.line) bad_variables (variables_of (take g.vars_used g.vars)) refl)
    (λ v e. safe_then _ (some_safe (length g.line) bad_homes (homes_of g.homes) refl)
    (λ h f. safe_then _ (some_safe (length g.line) bad_parameters (fields_of g.params) refl)
    (λ ps j. safe_weaker_at (λ w k. record { kept = k; used = leb-true g.vars_used (length g.vars) l })
    (line_assigns (record { room = length g.vars; homes = h; params = ps; shouts = g.shouts })
    (record { homes = homes_fine g.homes h f; params = fields_fine g.params ps j }) g.line v
    (vars_kept_lem g.vars g.vars_used v (leb-true g.vars_used (length g.vars) l) e)))))))

-- ANSWERS

-- an acceptance: "The image stays in order."; "the used length then falls, and bytes behind the new image are zero up to the old used length (the one given),
-- and kept beyond it"
pub record Assigns (g : Given) (a : Answer) : Type 0 where
  pub place : a.place ≡ 0
  pub table : Pairs
  pub stored : variables_of (take a.vars_used a.vars) ≡ some table
  pub vars_fit : a.vars_used ≤ length g.vars
  pub small : a.vars_used ≤ image_limit
  pub behind : drop a.vars_used a.vars ≡ replicate (g.vars_used - a.vars_used) 0 ++ drop (a.vars_used + (g.vars_used - a.vars_used)) g.vars

-- "The job takes neither paths nor output", "A refusal undoes all"; and no buffer has another length
pub record AssignerFits (g : Given) (a : Answer) : Type 0 where
  pub clear : a.work ≡ replicate (length g.work) 0
  pub work_kept : length a.work ≡ length g.work
  pub vars_kept : length a.vars ≡ length g.vars
  pub nothing : a.out_length ≡ 0
  pub same_out : a.out ≡ g.out
  pub no_paths : a.number ≡ bad_paths → ⊥
  pub no_output : a.number ≡ output_room → ⊥
  pub tells : Tells g a
  pub refuses : (a.number ≡ accepted → ⊥) → Refuses g a
  pub accepts : a.number ≡ accepted → Assigns g a

-- nothing is written
abbrev NoText : Text → Type 0
NoText t = t ≡ []

module _ (g : Given) where
  -- an answer of the other jobs that writes nothing
  of_fits : (a : Answer) → Fits NoText g a → a.out_length ≡ 0 → a.out ≡ g.out → (a.number ≡ bad_paths → ⊥) → (a.number ≡ output_room → ⊥)
      → AssignerFits g a
  of_fits a f nothing same four full = record {
    clear = f.clear;
    work_kept = f.work_kept;
    vars_kept = f.vars_kept;
    nothing = nothing;
    same_out = same;
    no_paths = four;
    no_output = full;
    tells = f.tells;
    refuses = f.refuses;
    accepts = λ e.
        let b = f.accepts e in
        record { place = b.place; table = b.table; stored = b.stored; vars_fit = b.vars_fit; small = b.small; behind = b.behind_vars };
  }

  settled_fits : {o : Placed Pairs} → SafeJob (length g.line) (Settles g) o → AssignerFits g (settled g o)
  unfolding settled answered over
  settled_fits (early {n = n} e) =
      of_fits _ (answered_fits g NoText (early (first_early n e))) refl refl (λ k. no (rw k at e)) (λ k. no (rw k at e))
  settled_fits (refuses_at {n = n} {place = place} e l) =
      of_fits _ (answered_fits g NoText (refuses_at (fault_late n e) l)) refl refl (λ k. no (rw k at e)) (λ k. no (rw k at e))
  settled_fits (asks_at {t = t} {place = place} z l) =
      of_fits _ (answered_fits g NoText (asks_at z l)) refl refl
      (λ k. let z : ◌≡◌ {A = ℕ} demanded bad_paths = k in omega arith)
      (λ k. let z : ◌≡◌ {A = ℕ} demanded output_room = k in omega arith)
  settled_fits (gives_at {a = v} w) =
      of_fits _ (answered_fits g NoText (gives_at (record { output = refl; fits = omega arith; settles = w }))) refl refl
      (λ k. let z : ◌≡◌ {A = ℕ} accepted bad_paths = k in omega arith)
      (λ k. let z : ◌≡◌ {A = ℕ} accepted output_room = k in omega arith)

-- DEMAND 1 for the assigner
pub assigner_fits : (g : Given) → AssignerFits g (assigner g)
unfolding assigner
assigner_fits g = settled_fits g (assigned_safe g)

-- "The job takes neither paths nor output": a call with others in their place ..
abbrev pub elsewhere : Given → Text → Text → Given
elsewhere g paths out = record {
  work = g.work;
  vars = g.vars;
  vars_used = g.vars_used;
  homes = g.homes;
  paths = paths;
  params = g.params;
  line = g.line;
  out = out;
  message = g.message;
  shouts = g.shouts;
}

-- .. has the same answer, but for the output, which is as it was
abbrev pub keeping : Text → Answer → Answer
keeping out a = record {
  number = a.number;
  place = a.place;
  out_length = a.out_length;
  vars_used = a.vars_used;
  out = out;
  vars = a.vars;
  work = a.work;
  message_length = a.message_length;
  message = a.message;
}

module _ (g : Given) (paths out : Text) where
  settled_blind : (o : Placed Pairs) → settled (elsewhere g paths out) o ≡ keeping out (settled g o)
  unfolding settled answered over shown
  settled_blind (refused_at n place) = refl
  settled_blind (demands_at t place) = refl
  settled_blind (done_at v) = refl

  pub assigner_blind : assigner (elsewhere g paths out) ≡ keeping out (assigner g)
  unfolding assigner assigned
  assigner_blind = settled_blind (assigned g)
