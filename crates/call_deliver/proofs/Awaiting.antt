-- What the stage answers before and after the message is handed over: the same for every job.
use Prim.Native.Nat.{ℕ, ◌+◌, ◌-◌}
use native.Mathlib.Omega.{arith}
use mathlib.Core.Path.{◌≡◌, refl, sym, ap, ◌∙◌, subst}
use lib.ListN.{length, take, drop, replicate}
use lib.Seq.{take-nil}
use Rattle.stages.specs.Numbers.{demanded}
use Rattle.stages.specs.Bytes.{Text}
use Rattle.stages.specs.Outcome.{Placed, refused_at, demands_at, done_at}
use Rattle.stages.specs.Images.{Pairs, flat, image}
use Rattle.stages.specs.Call.{Given, over, padded, cleared, shown, answered}
use Rattle.stages.specs.Call as stage
use Rattle.call_deliver.specs.Hands.{Hands, Gives, Accepts, refused_as}
use Rattle.call_deliver.specs.Awaits.{untold, told_to, telling, Awaits, HandsOver}
use Rattle.call_deliver.specs.declared.Answer.{Answer}
use Rattle.call_deliver.specs.declared.Draft.{Draft}

-- "The work area is zero throughout after every call": of every answer
pub answered_clear : (g : Given) (o : Placed (Text × Pairs)) → (answered g o).work ≡ cleared g.work
unfolding answered
answered_clear g (refused_at n place) = refl
answered_clear g (demands_at t place) = refl
answered_clear g (done_at r) = refl

pub cleared_same : (work area : Text) → length work ≡ length area → cleared work ≡ cleared area
unfolding cleared
cleared_same work area e = ap (λ (n : ℕ). replicate n 0) e

module _ (g : Given) {a : stage.Answer} {r : Answer} where
  -- a call is refused
  pub refused_hands : {n place : ℕ} → a ≡ answered g (refused_at n place) → r ≡ refused_as n place g.vars_used → Hands a r g.vars g.out g.message
  unfolding answered
  refused_hands h e =
      subst (λ (x : stage.Answer). Hands x r g.vars g.out g.message) (sym h)
      (record {
        number = ap (λ (x : Answer). x.number) e;
        place = ap (λ (x : Answer). x.place) e;
        out_length = ap (λ (x : Answer). x.out_len) e;
        vars_used = ap (λ (x : Answer). x.vars_used) e;
        message_length = ap (λ (x : Answer). x.message_len) e;
        output = refl;
        variables = refl;
        message = refl;
      })

  -- a message is demanded: it comes to the front of its buffer, cut to it
  pub demanded_hands : (t : Text) (place : ℕ) → a ≡ answered g (demands_at t place) → r ≡ refused_as demanded place g.vars_used
      → Hands a (telling r (length (take (length g.message) t))) g.vars g.out (over (take (length g.message) t) g.message)
  unfolding answered shown
  demanded_hands t place h e =
      subst
      (λ (x : stage.Answer). Hands x (telling r (length (take (length g.message) t))) g.vars g.out
      (over (take (length g.message) t) g.message)) (sym h)
      (record {
        number = ap (λ (x : Answer). x.number) e;
        place = ap (λ (x : Answer). x.place) e;
        out_length = ap (λ (x : Answer). x.out_len) e;
        vars_used = ap (λ (x : Answer). x.vars_used) e;
        message_length = refl;
        output = refl;
        variables = refl;
        message = refl;
      })

  -- a call is accepted: so much is written to the output, and the variables' new image comes to their buffer
  pub accepted_hands : (t : Text) (v : Pairs) {w vars out : Text} {n : ℕ} → a ≡ answered g (done_at (t, v)) → Accepts n g.vars_used w g.vars r vars
      → n ≡ length t → out ≡ over t g.out → w ≡ image (flat v) → Hands a r vars out g.message
  unfolding answered
  accepted_hands t v {vars = vars} {out = out} h c k o e =
      subst (λ (x : stage.Answer). Hands x r vars out g.message) (sym h)
      (record {
        number = ap (λ (x : Answer). x.number) c.is;
        place = ap (λ (x : Answer). x.place) c.is;
        out_length = ap (λ (x : Answer). x.out_len) c.is ∙ k;
        vars_used = ap (λ (x : Answer). x.vars_used) c.is ∙ ap length e;
        message_length = ap (λ (x : Answer). x.message_len) c.is;
        output = o;
        variables = c.variables ∙ ap (λ (x : Text). over (padded g.vars_used x) g.vars) e;
        message = refl;
      })

-- an answer that comes without a message, whatever buffer is lent for one: none of its bytes is written
module _ {r : Answer} {vars out : Text} (quiet : r.message_len ≡ 0) (work : Text) where
  none_told : {a : stage.Answer} (message : Text) → Hands a r vars out message →
      Hands a (telling r (length (told_to message (untold r) work))) vars out (over (told_to message (untold r) work) message)
  unfolding over
  none_told message h =
      rw (take-nil {A = ℕ} (length message)) (record {
        number = h.number;
        place = h.place;
        out_length = h.out_length;
        vars_used = h.vars_used;
        message_length = sym quiet ∙ h.message_length;
        output = h.output;
        variables = h.variables;
        message = h.message;
      })

  pub untold_awaits : (a : Text → stage.Answer) → ((message : Text) → Hands (a message) r vars out message) → Awaits a (untold r) vars work out
  untold_awaits a h = record { fits = omega arith; hands = λ m. none_told m (h m) }

-- an answer once it is known
pub awaits_as : (a : Text → stage.Answer) {d e : Draft} {vars work out : Text} → d ≡ e → Awaits a e vars work out → Awaits a d vars work out
awaits_as a {vars = vars} {work = work} {out = out} k w = subst (λ (x : Draft). Awaits a x vars work out) (sym k) w

-- the part of the work area from `at` to its end is the message that waits there
module _ (d : Draft) (work message : Text) where
  -- so many bytes of the work area, cut to the buffer
  abbrev from_place : ℕ → Text
  from_place k = take (length message) (take k (drop d.at work))

  pub handed_over : {n : ℕ} {left area : Text}
      → (n ≡ length (from_place ((d.at + d.len) - d.at))) × (left ≡ over (from_place ((d.at + d.len) - d.at)) message)
      → area ≡ replicate (length work) 0 → HandsOver d work message (telling d.answer n) area left
  unfolding cleared
  handed_over t z =
      let e : (d.at + d.len) - d.at ≡ d.len = omega arith in
      record {
        is = ap (telling d.answer) (t.0 ∙ ap (λ (k : ℕ). length (from_place k)) e);
        tells = t.1 ∙ ap (λ (k : ℕ). over (from_place k) message) e;
        clears = z;
      }

-- the message is handed over: the answer is the stage's
pub handed_gives : (a : Text → stage.Answer) {d : Draft} {vars work out : Text} → Awaits a d vars work out → {message : Text} {r : Answer} {area told : Text}
    → HandsOver d work message r area told → (a message).work ≡ cleared work → Gives (a message) r vars area out told
handed_gives a {d} {vars} {work} {out} w {message} {r} {area} {told} h e =
    record {
      hands =
          subst (λ (x : Text). Hands (a message) r vars out x) (sym h.tells)
          (subst (λ (x : Answer). Hands (a message) x vars out (over (told_to message d work) message)) (sym h.is) (w.hands message));
      clears = h.clears ∙ sym e;
    }
