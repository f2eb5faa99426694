-- Document 02, E14: "A line accepted with the switch on has the same fields and variables with it off." Over the calls: the whole answer of the expander, the
-- normaliser and the assigner is the one with the switch off, but where the number is 25.
use Prim.Native.Nat.{ℕ, ◌+◌}
use native.Mathlib.Omega.{arith}
use mathlib.Core.Path.{◌≡◌, refl}
use mathlib.Core.Bool.{false, not}
use mathlib.Core.List.{List, [], ◌∷◌}
use lib.Dec.{leb}
use lib.ListN.{length, take}
use Rattle.stages.specs.Numbers.{accepted, work_too_small, bad_variables, bad_homes, bad_paths, line_too_long, zero_byte, output_room, bad_parameters}
use Rattle.stages.specs.Numbers.{unset_name}
use Rattle.stages.specs.Numbers.{work_least, line_limit, image_limit}
use Rattle.stages.specs.Bytes.{Text, is_in}
use Rattle.stages.specs.Outcome.{Outcome, Placed, refused_at, demands_at, done_at, placed_at, ◌then◌, require}
use Rattle.stages.specs.Images.{Pairs, record_bytes, variables_of, homes_of, paths_of, fields_of}
use Rattle.stages.specs.Syntax.{Parts, Word, Assignment}
use Rattle.stages.specs.Units.{L}
use Rattle.stages.specs.Params.{Lent}
use Rattle.stages.specs.Read.{read_line}
use Rattle.stages.specs.Line.{Around, word_fields, out_fits, expand_words, expand_line}
use Rattle.stages.specs.Assign.{read_assignments, assign, assign_all, assign_line}
use Rattle.stages.specs.Call.{Given, Answer, or_refused, expanded, answered, expander, normaliser, assigned, settled, assigner}
use Rattle.stages.proofs.Shouts.{Under, shouts_first, same, under_bind, quietly, expand_under}

-- PLACES

data UnderAt {A : Type 0} : Placed A → Placed A → Type 0 where
  shouts_at : {place : ℕ} {o : Placed A} → UnderAt (refused_at unset_name place) o
  same_at : {o : Placed A} → UnderAt o o

under_then : {A B : Type 0} {o p : Placed A} (f g : A → Placed B) → UnderAt o p → ((a : A) → UnderAt (f a) (g a)) → UnderAt (o then f) (p then g)
under_then f g shouts_at h = shouts_at
under_then f g (same_at {o = refused_at n place}) h = same_at
under_then f g (same_at {o = demands_at t place}) h = same_at
under_then f g (same_at {o = done_at a}) h = h a

-- one outcome, used twice
under_from : {A B : Type 0} (o : Placed A) (f g : A → Placed B) → ((a : A) → UnderAt (f a) (g a)) → UnderAt (o then f) (o then g)
under_from o f g h = under_then {o = o} f g same_at h

under_placed : {A : Type 0} (place : ℕ) {o p : Outcome A} → Under o p → UnderAt (placed_at place o) (placed_at place p)
under_placed place shouts_first = shouts_at
under_placed place same = same_at

-- LINES OF ASSIGNMENTS

module _ (a : Lent) where
  assign_under : (w : Assignment) (v : Pairs) → Under (assign a w v) (assign (quietly a) w v)
  unfolding assign
  assign_under w v = under_bind _ _ (expand_under a w.parts L 0 v) (λ r. same)

  all_under : (ws : List Assignment) (v : Pairs) → UnderAt (assign_all a ws v) (assign_all (quietly a) ws v)
  unfolding assign_all
  all_under [] v = same_at
  all_under (w ∷ ws) v = under_then _ _ (under_placed w.place (assign_under w v)) (λ u. all_under ws u)

  assigns_under : (t : Text) (v : Pairs) → UnderAt (assign_line a t v) (assign_line (quietly a) t v)
  unfolding assign_line
  assigns_under t v =
      under_from (require (leb (length t) line_limit) line_too_long 0) _ _
      (λ _. under_from (require (not (is_in 0 t)) zero_byte 0) _ _ (λ _. under_from (read_assignments t) _ _ (λ ws. all_under ws v)))

-- LINES

abbrev quiet_around : Around → Around
quiet_around a = record { lent = quietly a.lent; out = a.out; paths = a.paths }

module _ (a : Around) where
  fields_under : (p : Parts) (v : Pairs) → Under (word_fields a p v) (word_fields (quiet_around a) p v)
  unfolding word_fields
  fields_under p v = under_bind _ _ (expand_under a.lent p L 0 v) (λ r. same)

  words_under : (ws : List Word) (n : ℕ) (v : Pairs) → UnderAt (expand_words a ws n v) (expand_words (quiet_around a) ws n v)
  unfolding expand_words out_fits
  words_under [] n v = same_at
  words_under (w ∷ ws) n v =
      under_then _ _ (under_placed w.place (fields_under w.parts v))
      (λ r. under_from (require (out_fits a (n + record_bytes r.0)) output_room w.place) _ _
      (λ _. under_then _ _ (words_under ws (n + record_bytes r.0) r.1) (λ s. same_at)))

  line_under : (t : Text) (v : Pairs) → UnderAt (expand_line a t v) (expand_line (quiet_around a) t v)
  unfolding expand_line out_fits
  line_under t v =
      under_from (require (leb (length t) line_limit) line_too_long 0) _ _
      (λ _. under_from (require (not (is_in 0 t)) zero_byte 0) _ _
      (λ _. under_from (read_line t) _ _ (λ ws. under_from (require (out_fits a 1) output_room 0) _ _ (λ _. words_under ws 1 v))))

-- CALLS

-- what is given, with the switch off
abbrev pub quiet : Given → Given
quiet g = record {
  work = g.work;
  vars = g.vars;
  vars_used = g.vars_used;
  homes = g.homes;
  paths = g.paths;
  params = g.params;
  line = g.line;
  out = g.out;
  message = g.message;
  shouts = false;
}

module _ (g : Given) where
  expanded_under : (out : ℕ) → UnderAt (expanded g out) (expanded (quiet g) out)
  unfolding expanded
  expanded_under out =
      under_from (require (leb work_least (length g.work)) work_too_small 0) _ _
      (λ _. under_from (require (leb g.vars_used (length g.vars)) bad_variables 0) _ _
      (λ _. under_from (or_refused bad_variables (variables_of (take g.vars_used g.vars))) _ _
      (λ v. under_from (or_refused bad_homes (homes_of g.homes)) _ _
      (λ h. under_from (or_refused bad_paths (paths_of g.paths)) _ _
      (λ p. under_from (or_refused bad_parameters (fields_of g.params)) _ _
      (λ ps. line_under (record { lent = record { room = length g.vars; homes = h; params = ps; shouts = g.shouts }; out = out; paths = p })
      g.line v))))))

  assigned_under : UnderAt (assigned g) (assigned (quiet g))
  unfolding assigned
  assigned_under =
      under_from (require (leb work_least (length g.work)) work_too_small 0) _ _
      (λ _. under_from (require (leb g.vars_used (length g.vars)) bad_variables 0) _ _
      (λ _. under_from (or_refused bad_variables (variables_of (take g.vars_used g.vars))) _ _
      (λ v. under_from (or_refused bad_homes (homes_of g.homes)) _ _
      (λ h. under_from (or_refused bad_parameters (fields_of g.params)) _ _
      (λ ps. assigns_under (record { room = length g.vars; homes = h; params = ps; shouts = g.shouts }) g.line v)))))

  -- an answer does not look at the switch
  answered_quiet : (o : Placed (Text × Pairs)) → answered g o ≡ answered (quiet g) o
  unfolding answered
  answered_quiet (refused_at n place) = refl
  answered_quiet (demands_at t place) = refl
  answered_quiet (done_at r) = refl

  answered_under : {o p : Placed (Text × Pairs)} → UnderAt o p → ((answered g o).number ≡ unset_name → ⊥) → answered g o ≡ answered (quiet g) p
  unfolding answered
  answered_under shouts_at n = absurd (n refl)
  answered_under (same_at {o = o}) n = answered_quiet o

  pub expander_quiet : ((expander g).number ≡ unset_name → ⊥) → expander g ≡ expander (quiet g)
  unfolding expander
  expander_quiet n = answered_under (under_then _ _ (expanded_under (length g.out)) (λ r. same_at)) n

  pub normaliser_quiet : ((normaliser g).number ≡ unset_name → ⊥) → normaliser g ≡ normaliser (quiet g)
  unfolding normaliser
  normaliser_quiet n = answered_under (under_then _ _ (expanded_under image_limit) (λ r. same_at)) n

  pub assigner_quiet : ((assigner g).number ≡ unset_name → ⊥) → assigner g ≡ assigner (quiet g)
  unfolding assigner settled
  assigner_quiet n = answered_under (under_then _ _ assigned_under (λ v. same_at)) n

-- E14, of a job: "A line accepted with the switch on has the same fields and variables with it off."
abbrev pub AcceptedAlike : (Given → Answer) → Type 0
AcceptedAlike job = (g : Given) → (job g).number ≡ accepted → job g ≡ job (quiet g)

unshouted : {n : ℕ} → n ≡ accepted → n ≡ unset_name → ⊥
unshouted e k = omega arith

-- THE LAW
pub accepted_alike : AcceptedAlike expander × AcceptedAlike normaliser × AcceptedAlike assigner
accepted_alike = (λ g e. expander_quiet g (unshouted e), λ g e. normaliser_quiet g (unshouted e), λ g e. assigner_quiet g (unshouted e))
