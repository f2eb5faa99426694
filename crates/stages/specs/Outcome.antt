-- What a stage answers: a result, the number that refuses it, or the message that is demanded; with a place, for a whole line.
use Rattle.std.specs.Prelude.{ℕ, Bool, true, false, List, [], ◌∷◌}
use Rattle.stages.specs.Bytes.{Text}

-- 13 comes with its message alone, E7: "On 13 the operand is now expanded first .. Its bytes without marks are written"
pub data Outcome (A : Type 0) : Type 0 where
  refused : ℕ → Outcome A
  demands : Text → Outcome A
  done : A → Outcome A

-- "first fault met": what comes next is worked out only if nothing is refused
infixl 20 ◌>>=◌
abbrev pub ◌>>=◌ : {A B : Type 0} → Outcome A → (A → Outcome B) → Outcome B
refused n >>= f = refused n
demands t >>= f = demands t
done a >>= f = f a

-- the number or the message with its place, or what is built
pub data Placed (A : Type 0) : Type 0 where
  refused_at : ℕ → ℕ → Placed A
  demands_at : Text → ℕ → Placed A
  done_at : A → Placed A

-- an outcome at a place
abbrev pub placed_at : {A : Type 0} → ℕ → Outcome A → Placed A
placed_at place (refused n) = refused_at n place
placed_at place (demands t) = demands_at t place
placed_at place (done a) = done_at a

infixl 20 ◌then◌
abbrev pub ◌then◌ : {A B : Type 0} → Placed A → (A → Placed B) → Placed B
refused_at n place then f = refused_at n place
demands_at t place then f = demands_at t place
done_at a then f = f a

-- on if the test passes, else the number at the place
abbrev pub require : Bool → ℕ → ℕ → Placed (Unit {0})
require true n place = done_at tt
require false n place = refused_at n place

-- the first of two if the test passes
abbrev pub pick : {A : Type 0} → Bool → A → A → A
pick true a b = a
pick false a b = b

-- the same where only the one that is chosen may be worked out
unfoldable pub choose : {A : Type 0} → Bool → (Unit {0} → A) → (Unit {0} → A) → A
choose true f g = f tt
choose false f g = g tt

-- the first case whose test passes, else the last argument
abbrev pub Cases : Type 0 → Type 0
Cases A = List (Bool × (Unit {0} → A))

abbrev pub cases : {A : Type 0} → Cases A → (Unit {0} → A) → A
cases [] d = d tt
cases (p ∷ l) d = choose p.0 p.1 (λ _. cases l d)
