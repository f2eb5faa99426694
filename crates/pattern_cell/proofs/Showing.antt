-- Cells and the elements that they stand for, parted and put together; a table of sets may grow behind.
use Prim.Native.Nat.{ℕ, zero, suc, ◌+◌, ◌-◌, ◌/◌, ◌%◌, ◌≤◌, ◌<◌}
use mathlib.Core.Path.{◌≡◌, refl, ◌∙◌, ap}
use mathlib.Core.List.{List, [], ◌∷◌, ◌++◌}
use native.Mathlib.Omega.{arith}
use lib.ListN.{length, take, drop, get_or, length-append}
use Rattle.stages.specs.Pattern.{Element, star, one, exactly, set}
use Rattle.pattern_set.specs.Sets.{bit, has}
use Rattle.pattern_cell.specs.Cells.{words_at, Is, Shows, none, more}

pub shown_length : {sets cs : List ℕ} {es : List Element} → Shows sets cs es → length es ≡ length cs
shown_length none = refl
shown_length (more i s) = ap suc (shown_length s)

-- what stands at a place
pub record ShownAt (sets cs : List ℕ) (es : List Element) (i : ℕ) : Type 0 where
  pub element : Element
  pub is : Is sets (get_or cs i 0) element
  pub rest : drop i es ≡ element ∷ drop (suc i) es

pub shown_at : {sets cs : List ℕ} {es : List Element} → Shows sets cs es → (i : ℕ) → i < length cs → ShownAt sets cs es i
shown_at none i h = absurd (omega arith)
shown_at (more {e = e} is s) zero h = record { element = e; is = is; rest = refl }
shown_at (more is s) (suc i) h = let a = shown_at s i (omega arith) in record { element = a.element; is = a.is; rest = a.rest }

-- parts
pub shown_drop : {sets cs : List ℕ} {es : List Element} → Shows sets cs es → (n : ℕ) → Shows sets (drop n cs) (drop n es)
shown_drop s zero = s
shown_drop none (suc n) = none
shown_drop (more i s) (suc n) = shown_drop s n

pub shown_take : {sets cs : List ℕ} {es : List Element} → Shows sets cs es → (n : ℕ) → Shows sets (take n cs) (take n es)
shown_take s zero = none
shown_take none (suc n) = none
shown_take (more i s) (suc n) = more i (shown_take s n)

pub shown_both : {sets cs ds : List ℕ} {es fs : List Element} → Shows sets cs es → Shows sets ds fs → Shows sets (cs ++ ds) (es ++ fs)
shown_both none t = t
shown_both (more i s) t = more i (shown_both s t)

-- a table that grows keeps its sets
drop_both : (n : ℕ) (s t : List ℕ) → n ≤ length s → drop n (s ++ t) ≡ drop n s ++ t
drop_both zero s t h = refl
drop_both (suc n) [] t h = absurd (omega arith)
drop_both (suc n) (x ∷ s) t h = drop_both n s t (omega arith)

get_d_both : (s t : List ℕ) (i : ℕ) → i < length s → get_or (s ++ t) i 0 ≡ get_or s i 0
get_d_both [] t i h = absurd (omega arith)
get_d_both (x ∷ s) t zero h = refl
get_d_both (x ∷ s) t (suc i) h = get_d_both s t i (omega arith)

drop-length : (n : ℕ) (s : List ℕ) → length (drop n s) ≡ length s - n
drop-length zero s = omega arith
drop-length (suc n) [] = omega arith
drop-length (suc n) (x ∷ s) = drop-length n s ∙ omega arith

pub has_both : (s t : List ℕ) (at b : ℕ) → at + 4 ≤ length s → b < 256 → has (drop at (s ++ t)) b ≡ has (drop at s) b
has_both s t at b h k =
    ap (λ (l : List ℕ). has l b) (drop_both at s t (omega arith))
    ∙ ap (λ (w : ℕ). bit w (b % 64)) (get_d_both (drop at s) t (b / 64) (omega (arith, drop-length at s)))

is_both : (sets t : List ℕ) (c : ℕ) (e : Element) → Is sets c e → Is (sets ++ t) c e
is_both sets t c star i = i
is_both sets t c one i = i
is_both sets t c (exactly b) i = i
is_both sets t c (set sense members) i = record {
  from = i.from;
  inside = omega (arith, i.inside, length-append sets t);
  same = λ b h. has_both sets t (words_at c) b i.inside h ∙ i.same b h;
}

pub shown_grown : {sets cs : List ℕ} {es : List Element} → Shows sets cs es → (t : List ℕ) → Shows (sets ++ t) cs es
shown_grown none t = none
shown_grown {sets} (more {c} {e} i s) t = more (is_both sets t c e i) (shown_grown s t)
