-- What the laws on whole calls share: what holds of every element, of an outcome, and of a recursion on what is shorter.
use Prim.Native.Nat.{ℕ, ◌<◌, ◌≤◌, ◌-◌}
use native.Mathlib.Omega.{arith}
use mathlib.Core.Path.{◌≡◌, refl}
use mathlib.Core.Bool.{Bool, true, false, ◌||◌}
use mathlib.Core.List.{List, [], ◌∷◌, ◌++◌}
use lib.Dec.{eqb}
use Rattle.stages.specs.Numbers.{work_too_small, zero_byte, unended, too_deep, demanded, too_many_units, variable_room, output_room, bad_parameters, unset_name}
use Rattle.stages.specs.Bytes.{Text, all, not_zero, between}
use Rattle.stages.specs.Recur.{below, below_ok, fix, fix_eq, by_size}
use Rattle.stages.specs.Outcome.{
  Outcome,
  refused,
  demands,
  done,
  ◌>>=◌,
  Placed,
  refused_at,
  demands_at,
  done_at,
  placed_at,
  ◌then◌,
  require,
  choose,
}
use Rattle.stages.proofs.Bools.{or_left}

-- what holds of every element of a list
abbrev pub Each : {A : Type 0} → (A → Type 0) → List A → Type 0
Each P [] = Unit {0}
Each P (a ∷ l) = P a × Each P l

pub each_append : {A : Type 0} (P : A → Type 0) (l m : List A) → Each P l → Each P m → Each P (l ++ m)
each_append P [] m h k = k
each_append P (a ∷ l) m h k = (h.0, each_append P l m h.1 k)

-- an outcome has one result, and a result is neither refusal nor message
pub done_same : {A : Type 0} {a b : A} → done a ≡ done b → a ≡ b
done_same e = cc

pub never : {A : Type 0} {a : A} {k : ℕ} → done a ≡ refused k → ⊥
never e = let z : ◌≡◌ {A = ℕ} 0 1 = cc in omega arith

pub never_asks : {A : Type 0} {a : A} {t : Text} → demands t ≡ done a → ⊥
never_asks e = let z : ◌≡◌ {A = ℕ} 0 1 = cc in omega arith

-- what a step makes of answers that P holds of, it holds of the whole recursion
module _ {A R : Type 0} (size : A → ℕ) (stuck : R) (step : (A → R) → A → R) (P : A → R → Type 0)
    (h : (a : A) (rec : A → R) → ((b : A) → size b < size a → P b (rec b)) → P a (step rec a)) where
  pub by_fix : (a : A) → P a (fix size stuck step a)
  by_fix a = by_size size (λ b. P b (fix size stuck step b)) one a
    where
      one : (a : A) → ((b : A) → size b < size a → P b (fix size stuck step b)) → P a (fix size stuck step a)
      one a ih =
          rw (fix_eq size stuck step a)
          (h a (below size stuck (size a) (fix size stuck step)) (λ b l. rw (below_ok size stuck (size a) (fix size stuck step) b l) (ih b l)))

-- the numbers from 7 to 20 and E14's 25, with which reading and expanding refuse; 0, the answer of a recursion that is stuck, is none of them, nor is 13,
-- which comes with its message alone
abbrev pub is_fault : ℕ → Bool
is_fault n = between unended n too_deep || (between too_many_units n variable_room || eqb n unset_name)

-- refused with one of these numbers, or with a message that has no zero byte, or done with what P holds of
pub data Safe {A : Type 0} (P : A → Type 0) : Outcome A → Type 0 where
  refuses : {n : ℕ} → is_fault n ≡ true → Safe P (refused n)
  asks : {t : Text} → all not_zero t ≡ true → Safe P (demands t)
  gives : {a : A} → P a → Safe P (done a)

-- what an outcome that is known tells
pub safe_done : {A : Type 0} {P : A → Type 0} {o : Outcome A} {a : A} → Safe P o → o ≡ done a → P a
safe_done {P = P} (refuses h) e = absurd (let z : ◌≡◌ {A = ℕ} 0 1 = cc in omega arith)
safe_done {P = P} (asks h) e = absurd (let z : ◌≡◌ {A = ℕ} 0 1 = cc in omega arith)
safe_done {P = P} {a = a} (gives {a = b} p) e = let k : b ≡ a = cc in rw (← k) p

pub safe_refused : {A : Type 0} {P : A → Type 0} {o : Outcome A} {n : ℕ} → Safe P o → o ≡ refused n → is_fault n ≡ true
safe_refused {n = n} (refuses {n = m} h) e = let k : m ≡ n = cc in rw (← k) h
safe_refused (asks h) e = absurd (let z : ◌≡◌ {A = ℕ} 0 1 = cc in omega arith)
safe_refused (gives p) e = absurd (let z : ◌≡◌ {A = ℕ} 0 1 = cc in omega arith)

pub safe_bind : {A B : Type 0} {P : A → Type 0} {Q : B → Type 0} {o : Outcome A} (f : A → Outcome B) → Safe P o →
    ((a : A) → P a → Safe Q (f a)) → Safe Q (o >>= f)
safe_bind f (refuses e) h = refuses e
safe_bind f (asks e) h = asks e
safe_bind f (gives {a = a} p) h = h a p

pub safe_weaker : {A : Type 0} {P Q : A → Type 0} {o : Outcome A} → ((a : A) → P a → Q a) → Safe P o → Safe Q o
safe_weaker f (refuses e) = refuses e
safe_weaker f (asks e) = asks e
safe_weaker f (gives {a = a} p) = gives (f a p)

-- the same where no message comes
pub data Sure {A : Type 0} (P : A → Type 0) : Outcome A → Type 0 where
  fails : {n : ℕ} → is_fault n ≡ true → Sure P (refused n)
  comes : {a : A} → P a → Sure P (done a)

pub sure_safe : {A : Type 0} {P : A → Type 0} {o : Outcome A} → Sure P o → Safe P o
sure_safe (fails e) = refuses e
sure_safe (comes p) = gives p

pub sure_quiet : {A : Type 0} {P : A → Type 0} {o : Outcome A} {t : Text} → Sure P o → o ≡ demands t → ⊥
sure_quiet (fails e) q = let z : ◌≡◌ {A = ℕ} 0 1 = cc in omega arith
sure_quiet (comes p) q = let z : ◌≡◌ {A = ℕ} 0 1 = cc in omega arith

pub sure_bind : {A B : Type 0} {P : A → Type 0} {Q : B → Type 0} {o : Outcome A} (f : A → Outcome B) → Sure P o →
    ((a : A) → P a → Sure Q (f a)) → Sure Q (o >>= f)
sure_bind f (fails e) h = fails e
sure_bind f (comes {a = a} p) h = h a p

pub sure_where : {A : Type 0} {P : A → Type 0} (x : Bool) (f g : Unit {0} → Outcome A) → (x ≡ true → Sure P (f tt)) → Sure P (g tt) →
    Sure P (choose x f g)
unfolding choose
sure_where true f g p q = p refl
sure_where false f g p q = q

pub sure_choose : {A : Type 0} {P : A → Type 0} (x : Bool) (f g : Unit {0} → Outcome A) → Sure P (f tt) → Sure P (g tt) → Sure P (choose x f g)
sure_choose x f g p q = sure_where x f g (λ e. p) q

-- one of two outcomes that are safe, the first where its test passes
pub safe_where : {A : Type 0} {P : A → Type 0} (x : Bool) (f g : Unit {0} → Outcome A) → (x ≡ true → Safe P (f tt)) → Safe P (g tt) →
    Safe P (choose x f g)
unfolding choose
safe_where true f g p q = p refl
safe_where false f g p q = q

pub safe_choose : {A : Type 0} {P : A → Type 0} (x : Bool) (f g : Unit {0} → Outcome A) → Safe P (f tt) → Safe P (g tt) → Safe P (choose x f g)
safe_choose x f g p q = safe_where x f g (λ e. p) q

-- the numbers 1 to 6 and E5's 23, of what is looked at before the line is read
abbrev pub is_early : ℕ → Bool
is_early n = between work_too_small n zero_byte || eqb n bad_parameters

-- the numbers of a line that is read and expanded: 21 too
abbrev pub is_late : ℕ → Bool
is_late n = is_fault n || eqb n output_room

-- the numbers of a call that is refused: 22 and 24 are those of other jobs
abbrev pub is_listed : ℕ → Bool
is_listed n = is_early n || (is_late n || eqb n demanded)

pub fault_late : (n : ℕ) → is_fault n ≡ true → is_late n ≡ true
fault_late n e = or_left (eqb n output_room) e

-- the same for a line of so many bytes, by two tests of numbers: one that passes the first at place 0, or one that passes the other, or a message, at the
-- place of a byte of the line, or at 0
pub data SafeBy {A : Type 0} (first other : ℕ → Bool) (size : ℕ) (P : A → Type 0) : Placed A → Type 0 where
  early : {n : ℕ} → first n ≡ true → SafeBy first other size P (refused_at n 0)
  refuses_at : {n place : ℕ} → other n ≡ true → place ≤ size - 1 → SafeBy first other size P (refused_at n place)
  asks_at : {t : Text} {place : ℕ} → all not_zero t ≡ true → place ≤ size - 1 → SafeBy first other size P (demands_at t place)
  gives_at : {a : A} → P a → SafeBy first other size P (done_at a)

abbrev pub SafeAt : {A : Type 0} → ℕ → (A → Type 0) → Placed A → Type 0
SafeAt size P o = SafeBy is_early is_late size P o

module _ {A : Type 0} {first other : ℕ → Bool} {size : ℕ} {P : A → Type 0} where
  pub safe_then : {B : Type 0} {Q : B → Type 0} {o : Placed A} (f : A → Placed B) → SafeBy first other size P o
      → ((a : A) → P a → SafeBy first other size Q (f a)) → SafeBy first other size Q (o then f)
  safe_then f (early e) h = early e
  safe_then f (refuses_at e l) h = refuses_at e l
  safe_then f (asks_at e l) h = asks_at e l
  safe_then f (gives_at {a = a} p) h = h a p

  pub safe_weaker_at : {Q : A → Type 0} {o : Placed A} → ((a : A) → P a → Q a) → SafeBy first other size P o → SafeBy first other size Q o
  safe_weaker_at f (early e) = early e
  safe_weaker_at f (refuses_at e l) = refuses_at e l
  safe_weaker_at f (asks_at e l) = asks_at e l
  safe_weaker_at f (gives_at {a = a} p) = gives_at (f a p)

  pub safe_at : {o : Outcome A} → ((n : ℕ) → is_fault n ≡ true → other n ≡ true) → (place : ℕ) → place ≤ size - 1 → Safe P o
      → SafeBy first other size P (placed_at place o)
  safe_at h place l (refuses {n = n} e) = refuses_at (h n e) l
  safe_at h place l (asks e) = asks_at e l
  safe_at h place l (gives p) = gives_at p

-- a test that passes or refuses
pub safe_require : {first other : ℕ → Bool} {size : ℕ} (x : Bool) (n place : ℕ) → SafeBy first other size (λ (u : Unit {0}). Unit {0}) (refused_at n place)
    → SafeBy first other size (λ u. x ≡ true) (require x n place)
safe_require true n place h = gives_at refl
safe_require false n place (early e) = early e
safe_require false n place (refuses_at e l) = refuses_at e l
