-- What a line comes to, and what the stage answers then.
use Prim.Native.Nat.{ℕ}
use mathlib.Core.Path.{◌≡◌, refl, ap, ◌∙◌}
use lib.ListN.{length, take}
use Rattle.stages.specs.Numbers.{demanded}
use Rattle.stages.specs.Bytes.{Text}
use Rattle.stages.specs.Outcome.{refused_at, demands_at, done_at}
use Rattle.stages.specs.Images.{Pairs, flat, image}
use Rattle.stages.specs.Call.{Given, over, cleared, answered, expander, normaliser}
use Rattle.stages.specs.Call as stage
use Rattle.call_check.specs.Calls.{answer_of, worked}
use Rattle.call_deliver.specs.Hands.{Hands, Accepts, refused_as}
use Rattle.call_deliver.specs.Awaits.{telling}
use Rattle.call_deliver.specs.declared.Answer.{Answer}
use Rattle.call_deliver.proofs.Awaiting.{answered_clear, refused_hands, demanded_hands, accepted_hands}
use Rattle.call_check.specs.declared.Job.{Job}
use Rattle.call_check.specs.declared.Job.TheVariants.{Expander, Normaliser}
use Rattle.call_run.specs.Drafts.{draft}

-- both jobs in one form
answer_is : (job : Job) (g : Given) → answer_of job g ≡ answered g (draft job (length g.out) (worked job g))
unfolding expander normaliser
answer_is Expander g = refl
answer_is Normaliser g = refl

module _ (job : Job) (g : Given) {r : Answer} where
  -- what the line comes to is refused
  pub draft_refused : {n place : ℕ} → draft job (length g.out) (worked job g) ≡ refused_at n place → r ≡ refused_as n place g.vars_used
      → Hands (answer_of job g) r g.vars g.out g.message
  draft_refused h e = refused_hands g (answer_is job g ∙ ap (answered g) h) e

  -- the words, or what is before them, are refused
  pub answer_refused : {n place : ℕ} → worked job g ≡ refused_at n place → r ≡ refused_as n place g.vars_used → Hands (answer_of job g) r
      g.vars g.out g.message
  answer_refused h e = draft_refused (ap (draft job (length g.out)) h) e

  -- a message is demanded: it comes to the front of its buffer, cut to it
  pub draft_demands : {t : Text} {place : ℕ} → draft job (length g.out) (worked job g) ≡ demands_at t place
      → r ≡ refused_as demanded place g.vars_used
      → Hands (answer_of job g) (telling r (length (take (length g.message) t))) g.vars g.out (over (take (length g.message) t) g.message)
  draft_demands {t} {place} h e = demanded_hands g t place (answer_is job g ∙ ap (answered g) h) e

  -- it is accepted
  pub draft_accepted : {t w vars out : Text} {v : Pairs} {n : ℕ} → draft job (length g.out) (worked job g) ≡ done_at (t, v)
      → Accepts n g.vars_used w g.vars r vars → n ≡ length t → out ≡ over t g.out → w ≡ image (flat v) → Hands (answer_of job g) r vars out g.message
  draft_accepted {t = t} {v = v} h = accepted_hands g t v (answer_is job g ∙ ap (answered g) h)

pub answer_clear : (job : Job) (g : Given) → (answer_of job g).work ≡ cleared g.work
answer_clear job g = ap (λ (a : stage.Answer). a.work) (answer_is job g) ∙ answered_clear g (draft job (length g.out) (worked job g))
