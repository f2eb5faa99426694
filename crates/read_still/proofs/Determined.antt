-- The contracts determine every answer: two outcomes that a contract allows for one input are equal. Where a word is none of these,
-- what the area holds is scratch.
use Rattle.std.specs.Prelude.{Option, Some, None}
use Prim.Native.Nat.{ℕ, ◌≤◌}
use native.Mathlib.Omega.{arith}
use mathlib.Core.Path.{◌≡◌, refl, sym, ap, ◌∙◌, subst}
use mathlib.Core.Bool.{Bool, true, false}
use mathlib.Core.List.{[], ◌∷◌, ◌++◌}
use mathlib.Core.Option.{some}
use lib.ListN.{length, drop, length-drop}
use Rattle.stages.specs.Bytes.{Text, is_blank}
use Rattle.stages.specs.Call.{over}
use Rattle.stages.proofs.Bools.{no, apart, clash, some_same}
use Rattle.read_still.specs.declared.StillWord.{StillWord}
use Rattle.read_still.specs.Walks.{Said, quoted_in, behind, Walk, ends, stops, fails, goes, EndsAt, PutsStill}

abbrev Cut : Type 0
Cut = Text × Text

abbrev head_of : Text → ℕ
head_of [] = 0
head_of (b ∷ t) = b

abbrev is_none : Text → Bool
is_none [] = true
is_none (b ∷ t) = false

-- what stands behind a run is nothing, or something
ended : {s y u : Text} {b : ℕ} → ◌≡◌ {A = Cut} (s, []) (y, b ∷ u) → ⊥
ended e = no (ap (λ (z : Cut). is_none z.1) (sym e))

-- it is a blank, or none
blanked : {s y u v : Text} {b c : ℕ} → ◌≡◌ {A = Cut} (s, b ∷ u) (y, c ∷ v) → is_blank b ≡ true → is_blank c ≡ false → ⊥
blanked e f g = apart g (ap (λ (z : Cut). is_blank (head_of z.1)) (sym e) ∙ f)

-- what is quoted there is one thing
same_quoted : {s y u v : Text} {b c : ℕ} → ◌≡◌ {A = Cut} (s, b ∷ u) (y, c ∷ v) → quoted_in (b ∷ u) ≡ quoted_in (c ∷ v)
same_quoted e = ap (λ (z : Cut). quoted_in z.1) e

-- there is one walk over a text
pub walk_determined : {t : Text} {o p : Said} → Walk t o → Walk t p → o ≡ p
walk_determined (ends e) (ends f) = ap some (sym e ∙ f)
walk_determined (ends e) (stops f g) = absurd (ended (sym e ∙ f))
walk_determined (ends e) (fails f g h) = absurd (ended (sym e ∙ f))
walk_determined (ends e) (goes f g h w) = absurd (ended (sym e ∙ f))
walk_determined (stops e i) (ends f) = absurd (ended (sym f ∙ e))
walk_determined (stops e i) (stops f g) = ap some (sym e ∙ f)
walk_determined (stops e i) (fails f g h) = absurd (blanked (sym e ∙ f) i g)
walk_determined (stops e i) (goes f g h w) = absurd (blanked (sym e ∙ f) i g)
walk_determined (fails e i k) (ends f) = absurd (ended (sym f ∙ e))
walk_determined (fails e i k) (stops f g) = absurd (blanked (sym f ∙ e) g i)
walk_determined (fails e i k) (fails f g h) = refl
walk_determined (fails e i k) (goes f g h w) = absurd (clash (sym k ∙ same_quoted (sym e ∙ f) ∙ h))
walk_determined (goes e i k v) (ends f) = absurd (ended (sym f ∙ e))
walk_determined (goes e i k v) (stops f g) = absurd (blanked (sym f ∙ e) g i)
walk_determined (goes e i k v) (fails f g h) = absurd (clash (sym h ∙ same_quoted (sym f ∙ e) ∙ k))
walk_determined (goes {s = s} {q = q} {w = x} {o = o} e i k v) (goes {s = y} {q = r} {w = z} {o = p} f g h w) =
    let c : ◌≡◌ {A = Cut} (q, x) (r, z) = some_same (sym k ∙ same_quoted (sym e ∙ f) ∙ h) in
    let d : o ≡ p = walk_determined v (subst (λ (u : Text). Walk u p) (ap (λ (n : Cut). n.1) (sym c)) w) in
    ap (λ (n : Text). behind (n ++ q) o) (ap (λ (n : Cut). n.0) (sym e ∙ f)) ∙ ap (λ (n : Cut). behind (y ++ n.0) o) c ∙ ap (behind (y ++ r)) d

-- the same rest behind two places of a text
same_place : (line : Text) (r s : ℕ) → r ≤ length line → s ≤ length line → drop r line ≡ drop s line → r ≡ s
same_place line r s h k e = omega (arith, length-drop r line, length-drop s line, ap length e)

pub still_end_determined : (line : Text) (at : ℕ) (r s : Option ℕ) → EndsAt line at r → EndsAt line at s → r ≡ s
still_end_determined line at (Some r) (Some s) p q =
    ap Some (same_place line r s p.within q.within (ap (λ (z : Cut). z.1) (some_same (walk_determined p.walk q.walk))))
still_end_determined line at (Some r) None p q = absurd (clash (walk_determined q p.walk))
still_end_determined line at None (Some s) p q = absurd (clash (walk_determined p q.walk))
still_end_determined line at None None p q = refl

-- the same word is answered, and the same bytes stand at the front
pub put_still_determined : (line : Text) (at : ℕ) (old l m : Text) (r s : Option StillWord) → PutsStill line at old l r → PutsStill line at old m s
    → (r ≡ s) × ((r ≡ None → ⊥) → l ≡ m)
put_still_determined line at old l m None None p q = (refl, λ e. absurd (e refl))
put_still_determined line at old l m None (Some w) p q = absurd (clash (walk_determined p q.walk))
put_still_determined line at old l m (Some w) None p q = absurd (clash (walk_determined q p.walk))
put_still_determined line at old l m (Some w) (Some v) p q =
    let e = some_same (walk_determined p.walk q.walk) in
    let t : p.text ≡ q.text = ap (λ (z : Cut). z.0) e in
    let a : w.len ≡ v.len = p.counts ∙ ap length t ∙ sym q.counts in
    let b : w.next ≡ v.next = same_place line w.next v.next p.within q.within (ap (λ (z : Cut). z.1) e) in (
      ap (λ (i : ℕ). Some (record { len = i; next = w.next })) a ∙ ap (λ (i : ℕ). Some (record { len = v.len; next = i })) b,
      λ _. p.is ∙ ap (λ (x : Text). over x old) t ∙ sym q.is,
    )
