-- What the public contract allows is determined: the number that is answered, and the variables' image. Open are the bytes behind that image, and all of them
-- where a number refuses.
use Prim.Native.Nat.{ℕ}
use mathlib.Core.Path.{◌≡◌, sym, ap, ◌∙◌}
use mathlib.Core.Bool.{Bool}
use mathlib.Core.List.{[]}
use lib.IntN.{ℤ}
use lib.ListN.{take}
use Rattle.stages.specs.Bytes.{Text}
use Rattle.stages.specs.Outcome.{refused}
use Rattle.stages.specs.Images.{Pairs, is_name, flat, image, image_length}
use Rattle.stages.specs.Params.{Lent}
use Rattle.stages.specs.Arith.{Evaluated}
use Rattle.stages.proofs.Images.{Bytes}
use Rattle.stages.proofs.Outcomes.{done_same}
use Rattle.stages.proofs.Tables.{table_canonical}
use Rattle.table.specs.Around.{lent_of}
use Rattle.table_store.proofs.Holding.{vars_held, vars_used_is}
use Rattle.arith_eval.specs.Climbs.{inside}
use Rattle.arith_eval.specs.Answers.{ComesTo}
use Rattle.arith_eval.specs.declared.Worked.{Worked}
use Rattle.std.specs.Prelude.{Result, Ok, Err}
use Rattle.text.specs.Refusals.{refusal_number}
use Rattle.text.specs.declared.refusal.Refusal.{Refusal}
use Rattle.text.proofs.Refusals.{refusal_same}
use Rattle.arith_eval.proofs.Trees.{never}

abbrev worked : ℤ → ℕ → Worked
worked z n = record { value = z; vars_used = n }

module _ (a : Lent) (text : Text) (vars : Text) (used : ℕ) (left left' : Text) where
  same_end : (r s : Worked) → ComesTo a text vars used left (Ok r) → ComesTo a text vars used left' (Ok s)
      → ◌≡◌ {A = ℤ × Pairs} (r.value, inside left r.vars_used) (s.value, inside left' s.vars_used)
  same_end r s h h' = done_same (sym h.0 ∙ h'.0)

  one_answer : (r s : Result Worked Refusal) → ComesTo a text vars used left r → ComesTo a text vars used left' s → r ≡ s
  one_answer (Err e) (Err e') h h' =
      let q : ◌≡◌ {A = Evaluated} (refused (refusal_number e)) (refused (refusal_number e')) = sym h ∙ h' in
      ap Err (refusal_same e e' (let z : refusal_number e ≡ refusal_number e' = cc in z))
  one_answer (Err e) (Ok s) h h' = absurd (never (sym h ∙ h'.0))
  one_answer (Ok r) (Err e') h h' = absurd (never (sym h' ∙ h.0))
  one_answer (Ok r) (Ok s) h h' =
      let e = same_end r s h h' in
      let number : r.value ≡ s.value = ap (λ (p : ℤ × Pairs). p.0) e in
      let length : r.vars_used ≡ s.vars_used =
      vars_used_is a.room left r.vars_used h.1 ∙ ap (λ (p : ℤ × Pairs). image_length (flat p.1)) e ∙ sym (vars_used_is a.room left' s.vars_used h'.1) in
      ap (λ (x : ℤ). Ok (worked x r.vars_used)) number ∙ ap (λ (n : ℕ). Ok (worked s.value n)) length

  one_image : (r s : Worked) → ComesTo a text vars used left (Ok r) → ComesTo a text vars used left' (Ok s)
      → Bytes (take r.vars_used left) → Bytes (take s.vars_used left') → take r.vars_used left ≡ take s.vars_used left'
  one_image r s h h' b b' =
      table_canonical is_name (take r.vars_used left) (vars_held a.room left r.vars_used h.1) b
      ∙ ap (λ (p : ℤ × Pairs). image (flat p.1)) (same_end r s h h')
      ∙ sym (table_canonical is_name (take s.vars_used left') (vars_held a.room left' s.vars_used h'.1) b')

-- what is promised for all homes and parameters is promised for none
module _ (room : ℕ) (shouts : Bool) (text : Text) (vars : Text) (used : ℕ) (left left' : Text) where
  pub evaluate_text_determined : (r s : Result Worked Refusal) → ((homes params : Text) → ComesTo (lent_of room shouts homes params) text vars used left r)
      → ((homes params : Text) → ComesTo (lent_of room shouts homes params) text vars used left' s) → r ≡ s
  evaluate_text_determined r s h k = one_answer (lent_of room shouts [] []) text vars used left left' r s (h [] []) (k [] [])

  pub evaluate_text_image : (r s : Worked) → ((homes params : Text) → ComesTo (lent_of room shouts homes params) text vars used left (Ok r))
      → ((homes params : Text) → ComesTo (lent_of room shouts homes params) text vars used left' (Ok s)) → Bytes (take r.vars_used left)
      → Bytes (take s.vars_used left') → take r.vars_used left ≡ take s.vars_used left'
  evaluate_text_image r s h k = one_image (lent_of room shouts [] []) text vars used left left' r s (h [] []) (k [] [])
