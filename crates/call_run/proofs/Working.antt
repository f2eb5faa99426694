-- A call on the copy of its variables, once it has passed the checks.
use Prim.Native.Nat.{ℕ, ◌+◌, ◌≤◌}
use native.Mathlib.Omega.{arith}
use mathlib.Core.Path.{◌≡◌, refl, sym, ap, ◌∙◌, subst}
use mathlib.Core.Bool.{Bool}
use mathlib.Core.List.{List, [], ◌++◌}
use mathlib.Core.Option.{some}
use lib.ListN.{length, take, drop}
use lib.Seq.{length-take-le}
use Rattle.stages.specs.Numbers.{demanded, image_limit}
use Rattle.stages.specs.Bytes.{Text}
use Rattle.stages.specs.Outcome.{Placed, done_at, ◌then◌}
use Rattle.stages.specs.Images.{Pairs, is_name, is_some, held, image, variables_of}
use Rattle.stages.specs.Syntax.{Word}
use Rattle.stages.specs.Line.{Fields, expand_words}
use Rattle.stages.specs.Call.{Given, over}
use Rattle.stages.proofs.Images.{Bytes, bytes_take, held_texts_image}
use Rattle.stages.proofs.Tables.{vars_of, table_canonical, fields_are, fields_image}
use Rattle.stages.proofs.Outcomes.{SafeAt, early, refuses_at, asks_at, gives_at}
use Rattle.stages.proofs.Answers.{expanded_safe}
use Rattle.call_check.specs.Calls.{answer_of, room_of, worked}
use Rattle.call_check.specs.Checks.{room_in, around, Passed}
use Rattle.call_check.specs.declared.Job.{Job}
use Rattle.call_deliver.specs.Hands.{Hands, Accepts, refused_as}
use Rattle.call_deliver.specs.declared.Answer.{Answer}
use Rattle.call_deliver.proofs.Copying.{used_low, copied, copy_long}
use Rattle.call_deliver.specs.Awaits.{telling, stopped_by, stopped_as, Awaits}
use Rattle.call_deliver.proofs.Awaiting.{untold_awaits}
use Rattle.call_check.specs.Calls as calls
use Rattle.text.specs.declared.refusal.Refusal.{Refusal}
use Rattle.call_run.specs.Drafts.{worded, draft, Drafting, Drafted, Demanding, DraftStops, DraftOf}
use Rattle.call_run.specs.declared.Delivered.{Delivered}
use Rattle.std.specs.Prelude.{Result, Ok, Err}
use Rattle.text.specs.Refusals.{refusal_number}
use Rattle.expand_add.specs.declared.answers.Stop.{Stop}
use Rattle.expand_add.specs.declared.answers.Stop.TheVariants.{Refused, Demanded}
use Rattle.expand_add.specs.declared.answers.LineStop.{LineStop}
use Rattle.call_run.proofs.Answering.{draft_refused, draft_demands, draft_accepted}

-- what an outcome that is known tells
safe_given : {A : Type 0} {size : ℕ} {P : A → Type 0} {o : Placed A} {a : A} → SafeAt size P o → o ≡ done_at a → P a
safe_given {P = P} (early h) e = absurd (let z : ◌≡◌ {A = ℕ} 0 1 = cc in omega arith)
safe_given {P = P} (refuses_at h l) e = absurd (let z : ◌≡◌ {A = ℕ} 0 1 = cc in omega arith)
safe_given {P = P} (asks_at h l) e = absurd (let z : ◌≡◌ {A = ℕ} 0 1 = cc in omega arith)
safe_given {P = P} {a = a} (gives_at {a = b} p) e = let k : b ≡ a = cc in rw (← k) p

module _ {job : Job} {g : Given} (p : Passed job g) {room : ℕ} (same : room ≡ length g.vars) (copy copy₁ : Text) (lc : length copy ≡ image_limit)
    (d : copy₁ ≡ take g.vars_used g.vars ++ drop (length (take g.vars_used g.vars)) copy) where
  same_image : take g.vars_used copy₁ ≡ take g.vars_used g.vars
  same_image = copied g.vars g.vars_used p.tables.inside p.tables.formed copy lc copy₁ d

  long : length copy₁ ≡ image_limit
  long = copy_long g.vars g.vars_used p.tables.inside p.tables.formed copy lc copy₁ d

  -- what the line gives with the copy, whose room is that of the variables' buffer
  abbrev given : ℕ → Placed (Fields × Pairs)
  given n = worded job n g.shouts g.vars_used g.line copy₁ g.homes g.params g.paths (length g.out)

  worked_given : worked job g ≡ given (length g.vars)
  worked_given =
      p.is
      ∙ ap (λ (t : Text). expand_words (around g (room_in job (length g.out))) p.words 1 (held t)) (sym same_image)
      ∙ ap (λ (w : Placed (List Word)). w then λ ws. expand_words (around g (room_in job (length g.out))) ws 1 (held (take g.vars_used copy₁)))
      (sym p.read)

  pub drafting : Drafting job room g.shouts g.vars_used g.line copy₁ g.homes g.params g.paths g.work (length g.out)
  drafting =
      subst (λ (n : ℕ). Drafting job n g.shouts g.vars_used g.line copy₁ g.homes g.params g.paths g.work (length g.out)) (sym same)
      (record {
        words = p.words;
        read = p.read;
        clean = p.clean;
        holds = record {
          formed = ap (λ (t : Text). is_some (variables_of t)) same_image ∙ p.tables.formed;
          inside = omega (arith, long, used_low g.vars g.vars_used p.tables.inside p.tables.formed);
          fits = p.tables.inside;
          long = omega (arith, long);
        };
        housed = p.tables.housed;
        numbered = p.tables.numbered;
        listed = p.tables.listed;
        area = p.tables.area;
        byte = p.byte;
        again = λ l v e.
            let r = safe_given (expanded_safe g (room_of job (length g.out))) (worked_given ∙ e) in
            fields_are (image l) (fields_image l r.fine r.small) ∙ ap some (held_texts_image l r.fine);
      })

  module _ (copy₂ work₂ out₁ : Text) where
    draft_of : (x : Result Delivered LineStop) → DraftOf room (draft job (length g.out) (given room)) copy₂ work₂ g.out out₁ x
        → DraftOf (length g.vars) (draft job (length g.out) (worked job g)) copy₂ work₂ g.out out₁ x
    draft_of x h =
        subst (λ (o : Placed (Fields × Pairs)). DraftOf (length g.vars) (draft job (length g.out) o) copy₂ work₂ g.out out₁ x)
        (sym worked_given)
        (subst (λ (n : ℕ). DraftOf n (draft job (length g.out) (given n)) copy₂ work₂ g.out out₁ x) same h)

    abbrev Stops : Stop → ℕ → Type 0
    Stops stop place = DraftStops (draft job (length g.out) (given room)) work₂ g.out out₁ stop place

    pub call_refused : (e : Refusal) (place : ℕ) → Stops (Refused e) place
        → Hands (answer_of job g) (refused_as (refusal_number e) place g.vars_used) g.vars out₁ g.message
    call_refused e place h =
        let q = draft_of (Err (record { stop = Refused e; place = place })) h in
        subst (λ (t : Text). Hands (answer_of job g) (refused_as (refusal_number e) place g.vars_used) g.vars t g.message) (sym q.1)
        (draft_refused job g q.0 refl)

    module _ (at len place : ℕ) (h : Stops (Demanded at len) place) where
      asked : Demanding (draft job (length g.out) (worked job g)) work₂ g.out out₁ at len place
      asked = draft_of (Err (record { stop = Demanded at len; place = place })) h

      pub message_within : at + len ≤ length work₂
      message_within = asked.waits.fits

      pub call_demands :
          let t = take (length g.message) (take len (drop at work₂)) in
          let r = refused_as demanded place g.vars_used in
          Hands (answer_of job g) (telling r (length t)) g.vars out₁ (over t g.message)
      call_demands =
          let r = refused_as demanded place g.vars_used in
          subst
          (λ (t : Text). Hands (answer_of job g) (telling r (length (take (length g.message) t))) g.vars out₁
          (over (take (length g.message) t) g.message)) asked.waits.is
          (subst
          (λ (o : Text). Hands (answer_of job g) (telling r (length (take (length g.message) asked.message))) g.vars o
          (over (take (length g.message) asked.message) g.message)) (sym asked.kept) (draft_demands job g asked.is refl))

    module _ {n left : ℕ} (h : Drafted room (draft job (length g.out) (given room)) copy₂ g.out out₁ n left) where
      made : Drafted (length g.vars) (draft job (length g.out) (worked job g)) copy₂ g.out out₁ n left
      made = draft_of (Ok (record { out_len = n; vars_used = left })) h

      pub left_within : left ≤ length copy₂
      left_within = made.holds.inside

      pub accept_ready : (length (take left copy₂) ≤ length g.vars) × (g.vars_used ≤ length g.vars)
      accept_ready = (omega (arith, length-take-le left copy₂ left_within, made.holds.fits), p.tables.inside)

      pub call_accepted : {r : Answer} {vars : Text} → Bytes copy₂ → Accepts n g.vars_used (take left copy₂) g.vars r vars → Hands (answer_of job g) r
          vars out₁ g.message
      call_accepted b a =
          draft_accepted job g made.is a made.long made.stands
          (table_canonical is_name (take left copy₂) (vars_of (take left copy₂) made.holds.formed) (bytes_take left copy₂ b))

-- a call that stopped awaits its message, if it demands one, whatever buffer is lent for that
module _ (line vars : Text) (used : ℕ) (shouts : Bool) (houses params paths work out : Text) where
  abbrev called : Text → Given
  called = calls.given line vars used shouts houses params paths work out

  module _ {job : Job} (p : (message : Text) → Passed job (called message)) {room : ℕ} (same : room ≡ length vars) (copy copy₁ : Text)
      (lc : length copy ≡ image_limit) (d : copy₁ ≡ take used vars ++ drop (length (take used vars)) copy) (copy₂ work₂ out₁ : Text) where
    abbrev Halts : Stop → ℕ → Type 0
    Halts stop place =
        DraftStops (draft job (length out) (worded job room shouts used line copy₁ houses params paths (length out))) work₂ out out₁ stop place

    halted : (stop : Stop) (place : ℕ) → Halts stop place → Awaits (λ m. answer_of job (called m)) (stopped_by stop place used) vars work₂ out₁
    halted (Refused e) place h = untold_awaits refl work₂ _ λ m. call_refused (p m) same copy copy₁ lc d copy₂ work₂ out₁ e place h
    halted (Demanded at len) place h = record {
      fits = message_within (p []) same copy copy₁ lc d copy₂ work₂ out₁ at len place h;
      hands = λ m. call_demands (p m) same copy copy₁ lc d copy₂ work₂ out₁ at len place h;
    }

    pub call_stopped : (e : LineStop) → Halts e.stop e.place → Awaits (λ m. answer_of job (called m)) (stopped_as e used) vars work₂ out₁
    call_stopped e h = halted e.stop e.place h
