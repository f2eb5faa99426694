-- The contracts determine every answer. For `check` and `check_assignments`: a call passes the checks or is stopped by one of them, never both.
use Prim.Native.Nat.{ℕ}
use mathlib.Core.Path.{◌≡◌, refl, ap, ◌∙◌}
use Rattle.stages.specs.Outcome.{Placed, refused_at}
use mathlib.Core.Bool.{Bool, false}
use mathlib.Core.List.{[]}
use Rattle.stages.specs.Bytes.{Text}
use Rattle.stages.specs.Call.{Given}
use Rattle.text.proofs.Determined.{one_answer}
use Rattle.call_check.specs.Checks.{room_in, Checks, AssignChecks}
use Rattle.call_check.specs.declared.Job.{Job}
use Rattle.std.specs.Prelude.{Result, Ok, Err}
use Rattle.text.specs.Refusals.{refusal_number}
use Rattle.text.specs.declared.refusal.Refused.{Refused}
use Rattle.text.proofs.Refusals.{refusal_same}

pub room_determined : (job : Job) (out r s : ℕ) → r ≡ room_in job out → s ≡ room_in job out → r ≡ s
room_determined job out r s = one_answer

same_refusal : {e f : Refused} → refusal_number e.why ≡ refusal_number f.why → e.place ≡ f.place → ◌≡◌ {A = Result (Unit {0}) Refused} (Err e) (Err f)
same_refusal {e} {f} n p =
    let w : e.why ≡ f.why = refusal_same e.why f.why n in
    ap Err (ap (λ y. record { why = y; place = e.place }) w ∙ ap (λ k. record { why = f.why; place = k }) p)

-- one refusal of the stages
same_placed : {A : Type 0} {w : Placed A} {n k p q : ℕ} → w ≡ refused_at n p → w ≡ refused_at k q → (n ≡ k) × (p ≡ q)
same_placed h i = (cc, cc)

checks_once : (job : Job) (g : Given) (r s : Result (Unit {0}) Refused) → Checks job g r → Checks job g s → r ≡ s
checks_once job g (Ok u) (Ok v) p q = refl
checks_once job g (Ok u) (Err e) p q = absurd (q.early p)
checks_once job g (Err e) (Ok u) p q = absurd (p.early q)
checks_once job g (Err e) (Err f) p q = let k = same_placed p.is q.is in same_refusal k.0 k.1

pub check_determined : (job : Job) (g : Bool → Text → Given) (r s : Result (Unit {0}) Refused) → ((shouts : Bool) (message : Text)
    → Checks job (g shouts message) r)
    → ((shouts : Bool) (message : Text) → Checks job (g shouts message) s) → r ≡ s
check_determined job g r s p q = checks_once job (g false []) r s (p false []) (q false [])

assign_checks_once : (g : Given) (r s : Result (Unit {0}) Refused) → AssignChecks g r → AssignChecks g s → r ≡ s
assign_checks_once g (Ok u) (Ok v) p q = refl
assign_checks_once g (Ok u) (Err e) p q = absurd (q.early p)
assign_checks_once g (Err e) (Ok u) p q = absurd (p.early q)
assign_checks_once g (Err e) (Err f) p q = let k = same_placed p.is q.is in same_refusal k.0 k.1

pub check_assignments_determined : (g : Bool → Text → Given) (r s : Result (Unit {0}) Refused) → ((shouts : Bool) (message : Text)
    → AssignChecks (g shouts message) r)
    → ((shouts : Bool) (message : Text) → AssignChecks (g shouts message) s) → r ≡ s
check_assignments_determined g r s p q = assign_checks_once (g false []) r s (p false []) (q false [])
