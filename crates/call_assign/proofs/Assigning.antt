-- A line of assignments on the copy of the variables, once the call has passed the checks, and what the stage answers then.
use Prim.Native.Nat.{ℕ, ◌+◌, ◌≤◌}
use native.Mathlib.Omega.{arith}
use mathlib.Core.Path.{◌≡◌, refl, sym, ap, ◌∙◌, subst}
use mathlib.Core.Bool.{Bool}
use mathlib.Core.List.{List, [], ◌++◌}
use lib.ListN.{length, take, drop}
use lib.Seq.{length-take-le}
use Rattle.stages.specs.Numbers.{demanded, image_limit}
use Rattle.stages.specs.Bytes.{Text}
use Rattle.stages.specs.Outcome.{Placed, refused_at, demands_at, done_at, ◌then◌}
use Rattle.stages.specs.Images.{Pairs, is_name, is_some, held, flat, image, variables_of}
use Rattle.stages.specs.Syntax.{Assignment}
use Rattle.stages.specs.Assign.{assign_all}
use Rattle.stages.specs.Call.{Given, over, cleared, assigned, settled, assigner}
use Rattle.stages.proofs.Images.{Bytes, bytes_take}
use Rattle.stages.proofs.Tables.{vars_of, table_canonical}
use Rattle.table.specs.Around.{lent_of}
use Rattle.assign_line.specs.Answers.{line_outcome, LineReady, LineDemands, IsLeft, LineStops, LineSays}
use Rattle.std.specs.Prelude.{Result, Ok, Err}
use Rattle.text.specs.Refusals.{refusal_number}
use Rattle.text.specs.declared.refusal.Refusal.{Refusal}
use Rattle.expand_add.specs.declared.answers.Stop.{Stop}
use Rattle.expand_add.specs.declared.answers.Stop.TheVariants.{Refused, Demanded}
use Rattle.expand_add.specs.declared.answers.LineStop.{LineStop}
use Rattle.call_check.specs.Checks.{AssignPassed}
use Rattle.call_deliver.specs.Hands.{Hands, Accepts, refused_as}
use Rattle.call_deliver.specs.Awaits.{telling, stopped_by, stopped_as, Awaits}
use Rattle.call_check.specs.Calls as calls
use Rattle.call_deliver.specs.declared.Answer.{Answer}
use Rattle.call_deliver.proofs.Copying.{used_low, copied, copy_long}
use Rattle.call_deliver.proofs.Awaiting.{answered_clear, refused_hands, demanded_hands, accepted_hands, untold_awaits}

-- THE STAGE'S ANSWER

module _ (g : Given) {r : Answer} where
  pub answer_refused : {n place : ℕ} → assigned g ≡ refused_at n place → r ≡ refused_as n place g.vars_used
      → Hands (assigner g) r g.vars g.out g.message
  unfolding assigner settled
  answer_refused h e = refused_hands g (ap (settled g) h) e

  answer_demands : {t : Text} {place : ℕ} → assigned g ≡ demands_at t place → r ≡ refused_as demanded place g.vars_used
      → Hands (assigner g) (telling r (length (take (length g.message) t))) g.vars g.out (over (take (length g.message) t) g.message)
  unfolding assigner settled
  answer_demands {t} {place} h e = demanded_hands g t place (ap (settled g) h) e

  -- the new image comes to the variables' buffer, and nothing is written
  answer_accepted : {v : Pairs} {w vars : Text} → assigned g ≡ done_at v → Accepts 0 g.vars_used w g.vars r vars → w ≡ image (flat v)
      → Hands (assigner g) r vars g.out g.message
  unfolding assigner settled over
  answer_accepted {v} h c = accepted_hands g [] v (ap (settled g) h) c refl refl

-- "The work area is zero throughout after every call"
pub answer_clear : (g : Given) → (assigner g).work ≡ cleared g.work
unfolding assigner settled
answer_clear g = answered_clear g (assigned g then λ v. done_at ([], v))

-- THE ASSIGNMENTS ON THE COPY

module _ {g : Given} (p : AssignPassed g) {room : ℕ} (same : room ≡ length g.vars) (copy : Text) (lc : length copy ≡ image_limit) (copy₁ : Text)
    (d : copy₁ ≡ take g.vars_used g.vars ++ drop (length (take g.vars_used g.vars)) copy) where
  same_image : take g.vars_used copy₁ ≡ take g.vars_used g.vars
  same_image = copied g.vars g.vars_used p.tables.inside p.tables.formed copy lc copy₁ d

  long : length copy₁ ≡ image_limit
  long = copy_long g.vars g.vars_used p.tables.inside p.tables.formed copy lc copy₁ d

  -- what the line gives with the copy, whose room is that of the variables' buffer
  abbrev given : ℕ → Placed Pairs
  given n = line_outcome (lent_of n g.shouts g.homes g.params) g.line (held (take g.vars_used copy₁))

  assigned_given : assigned g ≡ given (length g.vars)
  assigned_given =
      p.is
      ∙ ap (λ (t : Text). assign_all (lent_of (length g.vars) g.shouts g.homes g.params) p.words (held t)) (sym same_image)
      ∙ ap (λ (w : Placed (List Assignment)). w then λ ws.
      assign_all (lent_of (length g.vars) g.shouts g.homes g.params) ws (held (take g.vars_used copy₁))) (sym p.read)

  pub line_ready : LineReady g.line copy₁ g.vars_used room g.homes g.params g.work
  line_ready =
      subst (λ (n : ℕ). LineReady g.line copy₁ g.vars_used n g.homes g.params g.work) (sym same)
      (record {
        words = p.words;
        read = p.read;
        clean = p.clean;
        holds = record {
          formed = ap (λ (t : Text). is_some (variables_of t)) same_image ∙ p.tables.formed;
          inside = omega (arith, long, used_low g.vars g.vars_used p.tables.inside p.tables.formed);
          fits = p.tables.inside;
          long = omega (arith, long);
        };
        housed = p.tables.housed;
        handed = p.numbered;
        area = p.tables.area;
      })

  module _ (copy₂ work₂ : Text) where
    line_of : (x : Result ℕ LineStop) → LineSays room (given room) copy₂ work₂ x → LineSays (length g.vars) (assigned g) copy₂ work₂ x
    line_of x h =
        subst (λ (o : Placed Pairs). LineSays (length g.vars) o copy₂ work₂ x) (sym assigned_given)
        (subst (λ (n : ℕ). LineSays n (given n) copy₂ work₂ x) same h)

    abbrev Stops : Stop → ℕ → Type 0
    Stops stop place = LineStops (given room) work₂ stop place

    call_refused : (e : Refusal) (place : ℕ) → Stops (Refused e) place
        → Hands (assigner g) (refused_as (refusal_number e) place g.vars_used) g.vars g.out g.message
    call_refused e place h = answer_refused g (line_of (Err (record { stop = Refused e; place = place })) h) refl

    module _ (at len place : ℕ) (h : Stops (Demanded at len) place) where
      asked : LineDemands (assigned g) work₂ at len place
      asked = line_of (Err (record { stop = Demanded at len; place = place })) h

      message_within : at + len ≤ length work₂
      message_within = asked.waits.fits

      call_demands :
          let t = take (length g.message) (take len (drop at work₂)) in
          let r = refused_as demanded place g.vars_used in
          Hands (assigner g) (telling r (length t)) g.vars g.out (over t g.message)
      call_demands =
          let r = refused_as demanded place g.vars_used in
          subst
          (λ (t : Text). Hands (assigner g) (telling r (length (take (length g.message) t))) g.vars g.out
          (over (take (length g.message) t) g.message)) asked.waits.is (answer_demands g asked.is refl)

    module _ {left : ℕ} (h : IsLeft room (given room) copy₂ left) where
      stands : IsLeft (length g.vars) (assigned g) copy₂ left
      stands = line_of (Ok left) h

      pub left_within : left ≤ length copy₂
      left_within = stands.holds.inside

      pub accept_ready : (length (take left copy₂) ≤ length g.vars) × (g.vars_used ≤ length g.vars)
      accept_ready = (omega (arith, length-take-le left copy₂ left_within, stands.holds.fits), p.tables.inside)

      pub call_accepted : {r : Answer} {vars : Text} → Bytes copy₂ → Accepts 0 g.vars_used (take left copy₂) g.vars r vars
          → Hands (assigner g) r vars g.out g.message
      call_accepted b a =
          answer_accepted g stands.is a
          (table_canonical is_name (take left copy₂) (vars_of (take left copy₂) stands.holds.formed) (bytes_take left copy₂ b))

-- a call that stopped awaits its message, if it demands one, whatever buffer is lent for that
module _ (line vars : Text) (used : ℕ) (shouts : Bool) (houses params work : Text) where
  abbrev called : Text → Given
  called = calls.given line vars used shouts houses params [] work []

  module _ (p : (message : Text) → AssignPassed (called message)) {room : ℕ} (same : room ≡ length vars) (copy : Text)
      (lc : length copy ≡ image_limit) (copy₁ : Text) (d : copy₁ ≡ take used vars ++ drop (length (take used vars)) copy) (copy₂ work₂ : Text) where
    abbrev Halts : Stop → ℕ → Type 0
    Halts stop place = LineStops (line_outcome (lent_of room shouts houses params) line (held (take used copy₁))) work₂ stop place

    halted : (stop : Stop) (place : ℕ) → Halts stop place → Awaits (λ m. assigner (called m)) (stopped_by stop place used) vars work₂ []
    halted (Refused e) place h = untold_awaits refl work₂ _ λ m. call_refused (p m) same copy lc copy₁ d copy₂ work₂ e place h
    halted (Demanded at len) place h = record {
      fits = message_within (p []) same copy lc copy₁ d copy₂ work₂ at len place h;
      hands = λ m. call_demands (p m) same copy lc copy₁ d copy₂ work₂ at len place h;
    }

    pub call_stopped : (e : LineStop) → Halts e.stop e.place → Awaits (λ m. assigner (called m)) (stopped_as e used) vars work₂ []
    call_stopped e h = halted e.stop e.place h
