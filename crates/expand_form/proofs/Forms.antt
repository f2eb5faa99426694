-- A parameter is what its plan gives: without its operand, or with it.
use mathlib.Core.Path.{◌≡◌, refl, sym, ap, ◌∙◌}
use mathlib.Core.Bool.{Bool, true, false, ◌&&◌}
use mathlib.Core.List.{[], ◌∷◌}
use mathlib.Core.Option.{Option, none, some}
use Rattle.stages.specs.Numbers.{unset_name}
use Rattle.stages.specs.Bytes.{Text}
use Rattle.stages.specs.Outcome.{Outcome, refused, demands, done, ◌>>=◌, pick}
use Rattle.stages.specs.Images.{Pairs, held, held_texts, or_empty}
use Rattle.stages.specs.Syntax.{Colon, no_colon, Param, Form, plain, minus, equals, query, plus, removal, Side, suffix, prefix, Reach, shortest, longest}
use Rattle.stages.specs.Units.{Mark, L, expanded_mark}
use Rattle.stages.specs.Params.{Lent, holding, value, or_shout, sought, absent, missing}
use Rattle.stages.specs.Expand.{Made, plainly, cut_by, parameter}
use Rattle.stages.proofs.Bools.{either}
use Rattle.text.specs.Cases.{is_suffix, is_longest}
use Rattle.std.specs.Prelude.{Option as Perhaps, Result, Ok, Err}
use Rattle.text.specs.Refusals.{refusal_number}
use Rattle.text.specs.declared.refusal.Refusal.{Refusal}
use Rattle.text.specs.declared.refusal.Refusal.TheVariants.{UnsetName}
use Rattle.table.specs.declared.Part.{Part}
use Rattle.expand_param.specs.Holding.{Shown, missing_in}
use Rattle.expand_param.proofs.Holding.{holding_held, missing_found}
use Rattle.table.specs.Around.{lent_of}
use Rattle.expand_form.specs.Plans.{missing_held, plan_of, operand_mark, settled, finished}
use Rattle.expand_add.specs.Steps.{beside}
use Rattle.expand_form.specs.declared.Plan.{Plan}
use Rattle.expand_form.specs.declared.Plan.TheVariants as plan
use Rattle.expand_form.specs.declared.Unused.{Unused}
use Rattle.expand_form.specs.declared.Unused.TheVariants.{Value, Nothing}
use Rattle.expand_form.specs.declared.Used.{Used}
use Rattle.expand_form.specs.declared.Used.TheVariants.{Given, Stored, Removed, Demanded}

plan_same : (f : Form) (g h : Colon → Bool) → ((c : Colon) → g c ≡ h c) → (s : Bool) → plan_of f g s ≡ plan_of f h s
plan_same plain g h e s = ap (λ (b : Bool). pick (s && b) (Err UnsetName) (Ok (plan.Unused Value))) (e no_colon)
plan_same (minus c) g h e s = ap (λ (b : Bool). Ok (pick b (plan.Used Given) (plan.Unused Value))) (e c)
plan_same (equals c) g h e s = ap (λ (b : Bool). Ok (pick b (plan.Used Stored) (plan.Unused Value))) (e c)
plan_same (query c) g h e s = ap (λ (b : Bool). Ok (pick b (plan.Used Demanded) (plan.Unused Value))) (e c)
plan_same (plus c) g h e s = ap (λ (b : Bool). Ok (pick b (plan.Unused Nothing) (plan.Used Given))) (e c)
plan_same (removal side reach) g h e s =
    ap (λ (b : Bool). pick (s && b) (Err UnsetName) (Ok (plan.Used (Removed (is_suffix side) (is_longest reach))))) (e no_colon)

-- the law of plans

bind_done : (o : Made) → o ≡ (o >>= λ p. done p)
bind_done (refused e) = refl
bind_done (demands t) = refl
bind_done (done p) = refl

-- E14: an unset value shouts by the test of a value that is missing without the colon
shout_plan : (s : Bool) (o : Option Text) → or_shout s o ≡ pick (s && absent no_colon o) (refused unset_name) (done (or_empty o))
unfolding or_shout absent
shout_plan false o = refl
shout_plan true none = refl
shout_plan true (some []) = refl
shout_plan true (some (b ∷ t)) = refl

module _ (a : Lent) (operand : Mark → Pairs → Made) (x : Param) (m : Mark) (v : Pairs) where
  abbrev by_plan : Result Plan Refusal → Made
  by_plan (Ok (plan.Unused unused)) = beside v false (settled unused a x m v)
  by_plan (Ok (plan.Used used)) = operand (operand_mark used m) v >>= λ p. finished used a x m p
  by_plan (Err e) = refused (refusal_number e)

  abbrev shout : Bool
  unfolding missing
  shout = a.shouts && missing a no_colon x v

  sought_plan : sought a v x ≡ pick shout (refused unset_name) (done (value a v x))
  unfolding sought missing value
  sought_plan = shout_plan a.shouts (holding a v x)

  plain_plan : (b : Bool) → (pick b (refused unset_name) (done (value a v x)) >>= λ t. plainly t m v) ≡ by_plan
      (pick b (Err UnsetName) (Ok (plan.Unused Value)))
  unfolding settled
  plain_plan true = refl
  plain_plan false = refl

  removal_plan : (side : Side) (reach : Reach) (b : Bool)
      → (pick b (refused unset_name) (done (value a v x)) >>= λ _. operand L v >>= λ p. cut_by a side reach x m p)
      ≡ by_plan (pick b (Err UnsetName) (Ok (plan.Used (Removed (is_suffix side) (is_longest reach)))))
  unfolding finished
  removal_plan side reach true = refl
  removal_plan suffix shortest false = refl
  removal_plan suffix longest false = refl
  removal_plan prefix shortest false = refl
  removal_plan prefix longest false = refl

  parameter_plan : (f : Form) → parameter a operand x f m v ≡ by_plan (plan_of f (λ c. missing a c x v) a.shouts)
  unfolding parameter settled finished
  parameter_plan plain = ap (λ (o : Outcome Text). o >>= λ t. plainly t m v) sought_plan ∙ plain_plan shout
  parameter_plan (minus c) = either (missing a c x v) (λ e. rw (e, parameter) (bind_done (operand (expanded_mark m) v))) (λ e. rw (e, parameter))
  parameter_plan (equals c) = either (missing a c x v) (λ e. rw (e, parameter)) (λ e. rw (e, parameter))
  parameter_plan (query c) = either (missing a c x v) (λ e. rw (e, parameter)) (λ e. rw (e, parameter))
  parameter_plan (plus c) = either (missing a c x v) (λ e. rw (e, parameter)) (λ e. rw (e, parameter) (bind_done (operand (expanded_mark m) v)))
  parameter_plan (removal side reach) =
      ap (λ (o : Outcome Text). o >>= λ _. operand L v >>= λ p. cut_by a side reach x m p) sought_plan ∙ removal_plan side reach shout

-- "missing", as the images hold the parameter
missing_held_lem : (a : Lent) (c : Colon) (x : Param) (vars params : Text) → a.params ≡ held_texts params →
    missing a c x (held vars) ≡ missing_held vars params x c
unfolding missing
missing_held_lem a c x vars params e = ap (absent c) (holding_held a (held_texts params) e (held vars) x)

-- a plan by where the value was found, and that of a removal by nothing, the switch being off
module _ (f : Form) (x : Param) (vars params : Text) (s : Bool) where
  pub found_plan : {found : Perhaps Part} {own : Result Plan Refusal} → Shown vars params x found → own ≡ plan_of f (missing_in found) s →
      own ≡ plan_of f (missing_held vars params x) s
  found_plan {found} h e =
      let a = lent_of 0 s [] params in
      e ∙ plan_same f (missing_in found) (missing_held vars params x) (λ c. missing_found a refl h c ∙ missing_held_lem a c x vars params refl) s

pub removal_plans : (side : Side) (reach : Reach) (g h : Colon → Bool) → plan_of (removal side reach) g false ≡ plan_of (removal side reach) h false
removal_plans side reach g h = refl

-- the same by what the images hold
module _ (a : Lent) (operand : Mark → Pairs → Made) (x : Param) (m : Mark) (vars params : Text) (lent : a.params ≡ held_texts params) (f : Form)
    {own : Result Plan Refusal} (e : own ≡ plan_of f (missing_held vars params x) a.shouts) where
  by_held : {known : Result Plan Refusal} → own ≡ known → parameter a operand x f m (held vars) ≡ by_plan a operand x m (held vars) known
  by_held k =
      parameter_plan a operand x m (held vars) f
      ∙ ap (by_plan a operand x m (held vars))
      (sym (sym k ∙ e ∙ plan_same f (missing_held vars params x) (λ c. missing a c x (held vars))
      (λ c. sym (missing_held_lem a c x vars params lent)) a.shouts))

  pub unused_operand : {unused : Unused} → own ≡ Ok (plan.Unused unused)
      → parameter a operand x f m (held vars) ≡ beside (held vars) false (settled unused a x m (held vars))
  unused_operand = by_held

  pub used_operand : {used : Used} → own ≡ Ok (plan.Used used)
      → parameter a operand x f m (held vars) ≡ (operand (operand_mark used m) (held vars) >>= λ p. finished used a x m p)
  used_operand = by_held

  pub refused_operand : {e : Refusal} → own ≡ Err e → parameter a operand x f m (held vars) ≡ refused (refusal_number e)
  refused_operand = by_held
