-- Document 02, E9: the assignments of a line. A word that begins with a name and a `=` is read by its value, any other is 11; so each takes a byte at least,
-- and a line without a zero byte is read safely.
use Prim.Native.Nat.{ℕ, ◌-◌, ◌+◌, ◌≤◌, ◌<◌}
use native.Mathlib.Omega.{arith}
use mathlib.Core.Path.{◌≡◌, refl, ap}
use mathlib.Core.Bool.{Bool, true, false}
use mathlib.Core.List.{[], ◌∷◌}
use lib.ListN.{length, drop, length-append}
use Rattle.stages.specs.Numbers.{bad_syntax, depth_limit}
use Rattle.stages.specs.Bytes.{Text, not_zero, span, is_name_byte}
use Rattle.stages.specs.Outcome.{refused, done, ◌>>=◌}
use Rattle.stages.specs.Images.{is_name}
use Rattle.stages.specs.Syntax.{Parts, Assignment, fresh, value}
use Rattle.stages.specs.Read.{Taken, parts}
use Rattle.stages.specs.Assign.{name_at, behind_name_at, begins_equals, is_assignment, an_assignment, assignment_of, assignments}
use Rattle.stages.proofs.Bools.{no, and_left, and_right}
use Rattle.stages.proofs.Texts.{all_back, all_drop, span_join}
use Rattle.stages.proofs.Read.{Good, stays, leaves, parts_good}
use Rattle.stages.proofs.Pieces.{Takes, Sound, pieces_sound}
use Rattle.stages.proofs.Outcomes.{Each, is_fault, Safe, refuses, gives, safe_bind, SafeBy}
use Rattle.stages.proofs.Safe.{NoZero, SafeParts, parts_safe}
use Rattle.stages.proofs.SafePieces.{pieces_safe}

-- ONE

pub not_assignment : (t : Text) → is_assignment t ≡ false → an_assignment t ≡ refused bad_syntax
unfolding an_assignment
not_assignment t e = rw (e, an_assignment)

-- what follows the `=`
abbrev pub value_at : Text → Text
value_at t = drop 1 (behind_name_at t)

module _ (t : Text) (e : is_assignment t ≡ true) where
  pub an_assignment_lem : an_assignment t ≡ (parts (value fresh) depth_limit (value_at t) >>= λ p. done ((name_at t, p.0), p.1))
  unfolding an_assignment
  an_assignment_lem = rw (e, an_assignment)

  pub assigns_name : is_name (name_at t) ≡ true
  unfolding is_assignment
  assigns_name = and_left (is_name (name_at t)) (begins_equals (behind_name_at t)) e

  pub assigns_equals : begins_equals (behind_name_at t) ≡ true
  unfolding is_assignment
  assigns_equals = and_right (is_name (name_at t)) (begins_equals (behind_name_at t)) e

behind_short : (t : Text) → length (behind_name_at t) ≤ length t
unfolding behind_name_at
behind_short t = omega (arith, simp length-append at (ap length (span_join is_name_byte t)))

equals_shorter : (u : Text) → begins_equals u ≡ true → length (drop 1 u) < length u
equals_shorter [] e = absurd (no e)
equals_shorter (b ∷ u) e = omega arith

pub value_shorter : (t : Text) → is_assignment t ≡ true → length (value_at t) < length t
value_shorter t e = omega (arith, behind_short t, equals_shorter (behind_name_at t) (assigns_equals t e))

-- TAKEN

bound_good : {n k : ℕ} {r : Taken} (x : Text) → n ≤ k → Good n r → Good {A = Text × Parts} k (r >>= λ p. done ((x, p.0), p.1))
bound_good x h (stays g) = stays g
bound_good x h (leaves {p = p} l) = leaves {p = ((x, p.0), p.1)} (omega arith)

pub assignment_takes : Takes an_assignment
assignment_takes b t _ = go (is_assignment (b ∷ t)) refl
  where
    go : (x : Bool) → is_assignment (b ∷ t) ≡ x → Good (length t) (an_assignment (b ∷ t))
    go true e =
        rw (an_assignment_lem (b ∷ t) e)
        (bound_good (name_at (b ∷ t)) (omega (arith, value_shorter (b ∷ t) e)) (parts_good (value fresh) depth_limit (value_at (b ∷ t))))
    go false e = rw (not_assignment (b ∷ t) e) (stays refl)

-- a number of a line's assignments is from 7 to 12
pub assignments_sound : (p : ℕ × Text) → Sound (assignments p)
assignments_sound p = pieces_sound an_assignment assignment_of assignment_takes p

-- READ SAFELY

-- a name that is one, and parts of a value that are safe
abbrev Clean : Text × Parts → Type 0
Clean q = (is_name q.0 ≡ true) × SafeParts q.1

value_clean : (t : Text) → NoZero t → NoZero (value_at t)
unfolding behind_name_at
value_clean t z = all_drop not_zero 1 (behind_name_at t) (all_back not_zero (span is_name_byte t).0 (span is_name_byte t).1 (rw (span_join is_name_byte t) z))

assignment_safe : (t : Text) → NoZero t → Safe (λ p. Clean p.0 × NoZero p.1) (an_assignment t)
assignment_safe t z = go (is_assignment t) refl
  where
    go : (x : Bool) → is_assignment t ≡ x → Safe (λ p. Clean p.0 × NoZero p.1) (an_assignment t)
    go true e =
        rw (an_assignment_lem t e)
        (safe_bind _ (parts_safe (value fresh) depth_limit (value_at t) (value_clean t z)) (λ p s. gives ((assigns_name t e, s.clean), s.behind)))
    go false e = rw (not_assignment t e) (refuses refl)

-- an assignment of a line of so many bytes
pub record AssignmentIn (size : ℕ) (w : Assignment) : Type 0 where
  pub inside : w.place ≤ size - 1
  pub named : is_name w.name ≡ true
  pub clean : SafeParts w.parts

pub assignments_safe : {first other : ℕ → Bool} → ((n : ℕ) → is_fault n ≡ true → other n ≡ true) → (size : ℕ) (q : ℕ × Text) → NoZero q.1
    → q.0 + length q.1 ≤ size → SafeBy first other size (Each (AssignmentIn size)) (assignments q)
assignments_safe {first = first} {other = other} h size q =
    pieces_safe an_assignment assignment_of assignment_takes first other h size Clean (AssignmentIn size) assignment_safe
    (λ place p l s. record { inside = l; named = s.0; clean = s.1 }) q
