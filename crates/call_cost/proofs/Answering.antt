-- The answers of the job, case by case: what refuses is what the stage refuses by, and what is counted is what it counts.
use Prim.Native.Nat.{ℕ, suc, ◌+◌, ◌*◌, ◌≤◌, ◌<◌}
use native.Mathlib.Omega.{arith}
use native.Mathlib.Nat.{mul-le-mul}
use mathlib.Core.Path.{◌≡◌, refl, sym, ap, ◌∙◌}
use mathlib.Core.Bool.{Bool, true, false, not, ◌&&◌, and-false}
use mathlib.Core.List.{List, [], ◌∷◌, ◌++◌}
use Rattle.std.proofs.Common.{Ok, Err, ◌⊎◌, inl, inr}
use lib.Dec.{eqb, leb}
use lib.ListN.{length, get_or, take, drop, replicate, replicate-append-replicate, length-append, take-append-drop}
use lib.Seq.{get_or-drop}
use borrow.Author.Tests.{eqb-true, le-leb, lt-leb}
use Rattle.stages.specs.Numbers.{work_least, elements_limit, compared_limit}
use Rattle.stages.specs.Bytes.{Text}
use Rattle.stages.specs.Outcome.{done_at}
use Rattle.stages.specs.Units.{L, marked}
use Rattle.stages.specs.Pattern.{Element, signs, elements, has_class}
use Rattle.stages.specs.Call.{cleared}
use Rattle.stages.specs.Cost as stage
use Rattle.stages.proofs.Bools.{no as never, and_both}
use Rattle.stages.proofs.CostCalls.{work_small, class_met, too_large, pairs_counted}
use Rattle.pattern_unit.proofs.Units.{plain_signs_lem}
use Rattle.pattern_cost.specs.Areas.{Clear, Marked}
use Rattle.text.specs.Refusals.{refusal_number}
use Rattle.text.specs.declared.refusal.Refusal.{Refusal}
use Rattle.text.specs.declared.refusal.Refusal.TheVariants.{WorkTooSmall, BracketClass, TooManyUnits}
use Rattle.pattern_cost.specs.Counts.{elements_of, class_in}
use Rattle.call_cost.specs.Hands.{costing, placed, answer_as, Hands}
use Rattle.call_cost.specs.declared.Costed.{Costed}

zeros_of : (l : Text) → ((k : ℕ) → get_or l k 0 ≡ 0) → l ≡ replicate (length l) 0
zeros_of [] h = refl
zeros_of (b ∷ l) h = ap (λ (c : ℕ). c ∷ l) (h 0) ∙ ap (λ (t : Text). 0 ∷ t) (zeros_of l (λ k. h (suc k)))

-- an area of which the front is cleared, and no flag is set behind it
front_cleared : (n : ℕ) (area zeroed : Text) → zeroed ≡ replicate (length (take n area)) 0 → Clear area n → zeroed ++ drop n area ≡ replicate (length area) 0
front_cleared n area zeroed e c =
    ap (λ (t : Text). t ++ drop n area) e
    ∙ ap (λ (t : Text). replicate (length (take n area)) 0 ++ t)
    (zeros_of (drop n area) (λ k. get_or-drop n area k 0 ∙ unset (get_or area (n + k) 0) (c (n + k) (omega arith))))
    ∙ replicate-append-replicate (length (take n area)) (length (drop n area)) 0
    ∙ ap (λ (k : ℕ). replicate k 0) (sym (length-append (take n area) (drop n area)) ∙ ap length (take-append-drop n area))
  where
    unset : (b : ℕ) → not (eqb b 0) ≡ false → b ≡ 0
    unset b h = go (eqb b 0) refl h
      where
        go : (x : Bool) → eqb b 0 ≡ x → not x ≡ false → b ≡ 0
        go true i h = eqb-true b 0 i
        go false i h = absurd (never (sym h))

-- what refuses, and what is counted
module _ (p t work : Text) where
  abbrev g : stage.Costing
  g = costing p t work

  -- the work area is too small
  pub small_refuses : length work < work_least → stage.pairs_of g ≡ placed (Err WorkTooSmall)
  small_refuses h = work_small g (lt-leb work_least (length work) h)

  module _ (h : work_least ≤ length work) where
    wide : leb work_least (length work) ≡ true
    wide = le-leb work_least (length work) h

    -- the pattern's bytes as its units
    classed : {x : Bool} → class_in p ≡ x → has_class false 0 (signs (marked L p)) ≡ x
    classed e = ap (has_class false 0) (sym (plain_signs_lem p)) ∙ e

    same_elements : elements_of p ≡ elements false 0 (signs (marked L p))
    same_elements = ap (elements false 0) (plain_signs_lem p)

    sized : {x : Bool} → (leb (length (elements_of p)) elements_limit && leb (length t) compared_limit) ≡ x
        → stage.is_small (elements false 0 (signs (marked L p))) t ≡ x
    unfolding stage.is_small
    sized e = ap (λ (es : List Element). leb (length es) elements_limit && leb (length t) compared_limit) (sym same_elements) ∙ e

    -- a class that is not served
    pub class_refuses : class_in p ≡ true → stage.pairs_of g ≡ placed (Err BracketClass)
    class_refuses e = class_met g wide (classed e)

    module _ {n : ℕ} (c : (class_in p ≡ false) × (n ≡ length (elements_of p))) where
      -- "more than 64 elements or 256 text bytes"
      pub many_refuse : (elements_limit < n) ⊎ (compared_limit < length t) → stage.pairs_of g ≡ placed (Err TooManyUnits)
      many_refuse (inl m) =
          too_large g wide (classed c.0) (sized (ap (λ (x : Bool). x && leb (length t) compared_limit) (lt-leb _ elements_limit (omega (arith, c.1)))))
      many_refuse (inr m) =
          too_large g wide (classed c.0) (sized (ap (λ (x : Bool). leb (length (elements_of p)) elements_limit && x) (lt-leb _ compared_limit m) ∙ and-false _))

      module _ (few : n ≤ elements_limit) (brief : length t ≤ compared_limit) where
        pub pairs_reported : {k : ℕ} → k ≡ stage.reachable (elements_of p) t → stage.pairs_of g ≡ placed (Ok k)
        pairs_reported i =
            pairs_counted g wide (classed c.0) (sized (and_both (le-leb _ elements_limit (omega (arith, c.1))) (le-leb _ compared_limit brief)))
            ∙ ap done_at (sym (i ∙ ap (λ (es : List Element). stage.reachable es t) same_elements))

        -- the marks of at most 66 rows of at most 257 flags
        marks_few : (m : ℕ) → m ≤ elements_limit + 2 → m * (length t + 1) ≤ 66 * 257
        marks_few m l = let one : length t + 1 ≤ 257 = omega arith in mul-le-mul l one

        -- the marks are cleared, which stand in its first 65,536 bytes
        pub marks_cleared : work ≡ replicate (length work) 0 → {area zeroed : Text} {m : ℕ} → Marked (elements_of p) t work area m
            → zeroed ≡ replicate (length (take work_least area)) 0 → zeroed ++ drop work_least area ≡ work
        marks_cleared z {area} {zeroed} a i =
            let m = marks_few (length (elements_of p) + 1) (omega (arith, c.1)) in
            front_cleared work_least area zeroed i (λ k g. a.clear k (omega (arith, m, g))) ∙ ap (λ (k : ℕ). replicate k 0) a.same ∙ sym z

-- THE ANSWER

-- only the length of the work area counts
pub same_room : (p t work other : Text) → length other ≡ length work → stage.pairs_of (costing p t other) ≡ stage.pairs_of (costing p t work)
unfolding stage.pairs_of
same_room p t work other e = rw e

module _ (p t work : Text) {left : Text} (clears : left ≡ cleared work) where
  pub reported : {k : ℕ} {r : Costed} → stage.pairs_of (costing p t work) ≡ placed (Ok k) → r ≡ answer_as 0 k → Hands (stage.coster (costing p t work)) r left
  unfolding stage.coster stage.costed
  reported e f = rw (e, f) (record { number = refl; place = refl; pairs = refl; work = clears })

  pub refused_by : (e : Refusal) {r : Costed} → stage.pairs_of (costing p t work) ≡ placed (Err e) → r ≡ answer_as (refusal_number e) 0
      → Hands (stage.coster (costing p t work)) r left
  unfolding stage.coster stage.costed
  refused_by x e f = rw (e, f) (record { number = refl; place = refl; pairs = refl; work = clears })
