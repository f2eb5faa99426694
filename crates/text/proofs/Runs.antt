-- A longest run that reaches the end shows that all bytes pass, and one that does not that some byte fails; what it passed is of its class.
use Prim.Native.Nat.{ℕ, suc, ◌-◌, ◌≤◌, ◌<◌}
use native.Mathlib.Omega.{arith}
use mathlib.Core.Path.{◌≡◌, sym, ap, ◌∙◌}
use mathlib.Core.Bool.{Bool, true, false}
use mathlib.Core.List.{◌++◌}
use lib.Dec.{eqb}
use lib.ListN.{length, drop, get_or, length-drop}
use lib.Seq.{take_all, drop-cons}
use borrow.Author.Tests.{eqb-true, eqb-false}
use Rattle.stages.specs.Bytes.{Text, part, all, span}
use Rattle.stages.proofs.Bools.{apart, not_passed, either, same_tests, and_left}
use Rattle.stages.proofs.Texts.{all_append, all_back, all_weaker, span_join, span_all, span_stops}
use Rattle.text.specs.Classes.{in_class, Runs}
use Rattle.text.specs.declared.Class.{Class}

module _ (t : Text) (at : ℕ) (class : Class) (r : ℕ) (p : Runs t at class r) where
  -- what the run passed, and what is left
  pub run_splits : drop at t ≡ part t at r ++ drop r t
  run_splits = sym (span_join (in_class class) (drop at t)) ∙ ap (λ (x : Text × Text). x.0 ++ x.1) p.is

  pub run_of : all (in_class class) (part t at r) ≡ true
  run_of = ap (λ (x : Text × Text). all (in_class class) x.0) (sym p.is) ∙ span_all (in_class class) (drop at t)

  -- a test that passes all of the class need not look at the run
  pub run_skipped : (f : ℕ → Bool) → ((b : ℕ) → in_class class b ≡ true → f b ≡ true) → all f (drop at t) ≡ all f (drop r t)
  run_skipped f h =
      let k : all f (part t at r) ≡ true = all_weaker (in_class class) f h (part t at r) run_of in
      ap (all f) run_splits
      ∙ same_tests (all f (part t at r ++ drop r t)) (all f (drop r t)) (all_back f (part t at r) (drop r t)) (all_append f (part t at r) (drop r t) k)

  pub run_passes : r ≡ length t → all (in_class class) (drop at t) ≡ true
  run_passes e =
      let n : length (drop at t) ≤ r - at = omega (arith, length-drop at t) in
      let s : (span (in_class class) (drop at t)).0 ≡ drop at t = ap (λ (x : Text × Text). x.0) p.is ∙ take_all (r - at) (drop at t) n in
      sym (ap (all (in_class class)) s) ∙ span_all (in_class class) (drop at t)

  first_fails : r < length t → in_class class (get_or t r 0) ≡ false
  first_fails h = rw (p.is, drop-cons t r 0) at (span_stops (in_class class) (drop at t))

  pub run_fails : (r ≡ length t → ⊥) → all (in_class class) (drop at t) ≡ false
  run_fails n =
      let h : r < length t = omega (arith, p.within, above r (length t) p.within n) in
      not_passed (all (in_class class) (drop at t))
      λ e. apart (first_fails h)
      (and_left (in_class class (get_or t r 0)) (all (in_class class) (drop (suc r) t))
      (rw (drop-cons t r 0) at (all_back (in_class class) (part t at r) (drop r t) (sym (ap (all (in_class class)) run_splits) ∙ e))))
    where
      above : (a b : ℕ) → a ≤ b → (a ≡ b → ⊥) → a < b
      above a b l n = omega arith

  pub run_all : eqb r (length t) ≡ all (in_class class) (drop at t)
  run_all = either (eqb r (length t)) (λ e. e ∙ sym (run_passes (eqb-true r (length t) e))) (λ e. e ∙ sym (run_fails (eqb-false r (length t) e)))
