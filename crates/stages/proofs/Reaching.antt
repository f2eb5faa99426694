-- Document 02, E13: the test `reaches` finds just the pairs of `Reached`, which all lie among those that are counted; and how many there are at most.
use Prim.Native.Nat.{ℕ, zero, suc, ◌+◌, ◌*◌, ◌≤◌, ◌<◌}
use native.Mathlib.Omega.{arith}
use native.Mathlib.Nat.{suc-mul}
use native.Mathlib.Numerals.{add-one}
use mathlib.Core.Path.{◌≡◌, refl}
use mathlib.Core.Logic.{◌⊎◌, inl, inr}
use mathlib.Core.Bool.{Bool, true, false}
use mathlib.Core.List.{List, [], ◌∷◌}
use lib.ListN.{length, get_or}
use Rattle.stages.proofs.Bools.{no, and_left, and_right, and_both, or_cases, or_left, or_right}
use Rattle.stages.specs.Bytes.{Text}
use Rattle.stages.specs.Outcome.{pick}
use Rattle.stages.specs.Pattern.{Element, star, one, exactly, set}
use Rattle.stages.specs.Cost.{
  is_star,
  matches_byte,
  At,
  first,
  later,
  Reached,
  start,
  past,
  over,
  both,
  spread,
  onward,
  marks,
  at_start,
  reaches,
  tally,
  tally_rows,
  reachable,
}

-- the bound
pub tally_most : (f : ℕ → Bool) (k : ℕ) → tally f k ≤ k
unfolding tally
tally_most f zero = omega arith
tally_most f (suc k) = go (f k) (tally_most f k)
  where
    go : (x : Bool) → tally f k ≤ k → tally f k + pick x 1 0 ≤ suc k
    go true h = omega arith
    go false h = omega arith

pub rows_most : (f : ℕ → ℕ → Bool) (k m : ℕ) → tally_rows f k m ≤ k * m
unfolding tally_rows
rows_most f zero m = omega arith
rows_most f (suc k) m = omega (arith, tally_most (f 0) m, rows_most (λ i j. f (suc i) j) k m, suc-mul k m)

-- "never exceeds (p+1) times (n+1)"
pub reachable_most : (es : List Element) (t : Text) → reachable es t ≤ (length es + 1) * (length t + 1)
unfolding reachable
reachable_most es t = rw (add-one (length es)) (rows_most (reaches es t) (suc (length es)) (length t + 1))

-- a star is the element star
star_is : (e : Element) → is_star e ≡ true → e ≡ star
star_is star y = refl
star_is one y = absurd (no y)
star_is (exactly c) y = absurd (no y)
star_is (set sense members) y = absurd (no y)

-- a property of pairs that goes along with each step
pub record Closed (es : List Element) (t : Text) (P : ℕ → ℕ → Type 0) : Type 0 where
  pub goes_past : {i j : ℕ} → At es i star → P i j → P (suc i) j
  pub goes_over : {i j : ℕ} → At es i star → j < length t → P i j → P i (suc j)
  pub goes_both : {i j : ℕ} {e : Element} → At es i e → j < length t → matches_byte e (get_or t j 0) ≡ true → P i j → P (suc i) (suc j)

-- what is reached has it if the start has
pub along : {es : List Element} {t : Text} {P : ℕ → ℕ → Type 0} → Closed es t P → P 0 0 → {i j : ℕ} → Reached es t i j → P i j
along c s start = s
along c s (past a r) = c.goes_past a (along c s r)
along c s (over a l r) = c.goes_over a l (along c s r)
along c s (both a l m r) = c.goes_both a l m (along c s r)

pub reached_closed : (es : List Element) (t : Text) → Closed es t (Reached es t)
reached_closed es t = record { goes_past = λ a r. past a r; goes_over = λ a l r. over a l r; goes_both = λ a l m r. both a l m r }

pub behind : {e : Element} {es : List Element} {t : Text} {P : ℕ → ℕ → Type 0} → Closed (e ∷ es) t P → Closed es t (λ i j. P (suc i) j)
behind c = record {
  goes_past = λ a r. c.goes_past (later a) r;
  goes_over = λ a l r. c.goes_over (later a) l r;
  goes_both = λ a l m r. c.goes_both (later a) l m r;
}

-- every marked pair has it if those of the first row have
module _ (t : Text) where
  row_sound : {e : Element} {es : List Element} {P : ℕ → ℕ → Type 0} → Closed (e ∷ es) t P → (f : ℕ → Bool)
      → ((k : ℕ) → k ≤ length t → f k ≡ true → P 0 k) → (s : Bool) → is_star e ≡ s → (j : ℕ) → j ≤ length t → spread s f j ≡ true → P 0 j
  unfolding spread
  row_sound c f h false y j l m = h j l m
  row_sound c f h true y zero l m = h zero l m
  row_sound {e} {es} {P} c f h true y (suc j) l m = go (or_cases (f (suc j)) _ m) λ x. row_sound c f h true y j (omega arith) x
    where
      go : ((f (suc j) ≡ true) ⊎ (spread true f j ≡ true)) → (spread true f j ≡ true → P 0 j) → P 0 (suc j)
      go (inl x) k = h (suc j) l x
      go (inr x) k = c.goes_over (rw (star_is e y) first) (omega arith) (k x)

  next_sound : {e : Element} {es : List Element} {P : ℕ → ℕ → Type 0} → Closed (e ∷ es) t P → (g : ℕ → Bool)
      → ((k : ℕ) → k ≤ length t → g k ≡ true → P 0 k) → (s : Bool) → is_star e ≡ s → (j : ℕ) → j ≤ length t
      → onward s (matches_byte e) t g j ≡ true → P 1 j
  unfolding onward
  next_sound {e} c g h true y j l m = c.goes_past (rw (star_is e y) first) (h j l m)
  next_sound c g h false y zero l m = absurd (no m)
  next_sound {e} c g h false y (suc j) l m =
      c.goes_both first (omega arith) (and_left (matches_byte e (get_or t j 0)) (g j) m) (h j (omega arith) (and_right (matches_byte e (get_or t j 0)) (g j) m))

  marks_sound : (es : List Element) {P : ℕ → ℕ → Type 0} → Closed es t P → (f : ℕ → Bool)
      → ((k : ℕ) → k ≤ length t → f k ≡ true → P 0 k) → (i j : ℕ) → j ≤ length t → marks es t f i j ≡ true → P i j
  unfolding marks
  marks_sound [] c f h zero j l m = h j l m
  marks_sound [] c f h (suc i) j l m = absurd (no m)
  marks_sound (e ∷ es) c f h zero j l m = row_sound c f h (is_star e) refl j l m
  marks_sound (e ∷ es) {P} c f h (suc i) j l m =
      marks_sound es {P = λ i j. P (suc i) j} (behind c) (onward (is_star e) (matches_byte e) t (spread (is_star e) f))
      (λ k b x. next_sound c (spread (is_star e) f) (λ q d z. row_sound c f h (is_star e) refl q d z) (is_star e) refl k b x) i j l m

start_alone : (P : ℕ → ℕ → Type 0) → P 0 0 → (k : ℕ) → at_start k ≡ true → P 0 k
start_alone P s zero m = s
start_alone P s (suc k) m = absurd (no m)

-- what the test finds is reached
pub reaches_sound : (es : List Element) (t : Text) (i j : ℕ) → j ≤ length t → reaches es t i j ≡ true → Reached es t i j
unfolding reaches
reaches_sound es t i j l m = marks_sound t es (reached_closed es t) at_start (λ k b x. start_alone (Reached es t) start k x) i j l m

-- the marks go along with each step
spread_keeps : (s : Bool) (f : ℕ → Bool) (j : ℕ) → f j ≡ true → spread s f j ≡ true
unfolding spread
spread_keeps false f j m = m
spread_keeps true f zero m = m
spread_keeps true f (suc j) m = or_left (spread true f j) m

first_kept : (es : List Element) (t : Text) (f : ℕ → Bool) (j : ℕ) → f j ≡ true → marks es t f 0 j ≡ true
unfolding marks
first_kept [] t f j m = m
first_kept (e ∷ es) t f j m = spread_keeps (is_star e) f j m

marks_past : {es : List Element} {i : ℕ} → At es i star → (t : Text) (f : ℕ → Bool) (j : ℕ) → marks es t f i j ≡ true → marks es t f (suc i) j ≡ true
unfolding marks onward
marks_past (first {es = es}) t f j m = first_kept es t _ j m
marks_past (later a) t f j m = marks_past a t _ j m

marks_over : {es : List Element} {i : ℕ} → At es i star → (t : Text) (f : ℕ → Bool) (j : ℕ) → marks es t f i j ≡ true → marks es t f i (suc j) ≡ true
unfolding marks spread
marks_over first t f j m = or_right (f (suc j)) m
marks_over (later a) t f j m = marks_over a t _ j m

onward_takes : (e : Element) (t : Text) (g : ℕ → Bool) (j : ℕ) → matches_byte e (get_or t j 0) ≡ true → g j ≡ true
    → onward (is_star e) (matches_byte e) t g (suc j) ≡ true
unfolding onward matches_byte
onward_takes star t g j y m = absurd (no y)
onward_takes one t g j y m = m
onward_takes (exactly c) t g j y m = and_both y m
onward_takes (set sense members) t g j y m = and_both y m

marks_both : {es : List Element} {i : ℕ} {e : Element} → At es i e → (t : Text) (f : ℕ → Bool) (j : ℕ) → matches_byte e (get_or t j 0) ≡ true
    → marks es t f i j ≡ true → marks es t f (suc i) (suc j) ≡ true
unfolding marks
marks_both (first {e = e} {es = es}) t f j y m = first_kept es t _ (suc j) (onward_takes e t (spread (is_star e) f) j y m)
marks_both (later a) t f j y m = marks_both a t _ j y m

marks_closed : (es : List Element) (t : Text) (f : ℕ → Bool) → Closed es t (λ i j. marks es t f i j ≡ true)
marks_closed es t f = record {
  goes_past = λ a m. marks_past a t f _ m;
  goes_over = λ a l m. marks_over a t f _ m;
  goes_both = λ a l y m. marks_both a t f _ y m;
}

-- what is reached the test finds
pub reaches_complete : (es : List Element) (t : Text) {i j : ℕ} → Reached es t i j → reaches es t i j ≡ true
unfolding reaches
reaches_complete es t r = along (marks_closed es t at_start) (first_kept es t at_start 0 refl) r

-- and lies among the pairs that are counted
at_inside : {es : List Element} {i : ℕ} {e : Element} → At es i e → i < length es
at_inside first = omega arith
at_inside (later a) = omega (arith, at_inside a)

pub reached_inside : (es : List Element) (t : Text) {i j : ℕ} → Reached es t i j → (i ≤ length es) × (j ≤ length t)
reached_inside es t r = along {P = λ i j. (i ≤ length es) × (j ≤ length t)} (record {
  goes_past = λ a h. (omega (arith, at_inside a), h.1);
  goes_over = λ a l h. (h.0, l);
  goes_both = λ a l y h. (omega (arith, at_inside a), l);
}) (omega arith, omega arith) r
