-- A line without a zero byte is read as parts without one, whose parameters are parameters.
use Prim.Native.Nat.{ℕ, suc, ◌-◌, ◌≤◌, ◌<◌}
use native.Mathlib.Omega.{arith}
use mathlib.Core.Path.{◌≡◌, refl}
use mathlib.Core.Bool.{true, ◌||◌}
use mathlib.Core.List.{[], ◌∷◌}
use lib.Dec.{eqb, leb}
use lib.ListN.{length, drop}
use Rattle.stages.specs.Numbers.{unended, too_deep, too_many_units, variable_room, unset_name}
use Rattle.stages.specs.Bytes.{between, Text, all, not_zero}
use Rattle.stages.specs.Outcome.{refused, done}
use Rattle.stages.specs.Syntax.{plain, unescaped, Parts, Mode, end, lit, quo, par}
use Rattle.stages.specs.Syntax.{len, lst, ari, til, word, value, bare, single, double, quoted_operand, arith as sums}
use Rattle.stages.specs.Items.{Item, item, ended, onward, behind_byte}
use Rattle.stages.specs.Read.{Taken, Reader, put, nest, read_item, Ask, ask_size, ask_step, parts}
use Rattle.stages.proofs.Bools.{and_left, and_right, and_both, or_left}
use Rattle.stages.proofs.Texts.{drop_short, all_drop}
use Rattle.stages.proofs.Items.{IsParam, IsCounted, Fair, faults, stops, a_byte, a_paren, a_quote, a_value, a_count, a_spread, an_inner, a_sum}
use Rattle.stages.proofs.Items.{a_home, item_passes}
use Rattle.stages.proofs.Outcomes.{Each, is_fault, Safe, refuses, gives, safe_bind, by_fix}

abbrev pub NoZero : Text → Type 0
NoZero t = all not_zero t ≡ true

abbrev NotZero : ℕ → Type 0
NotZero b = not_zero b ≡ true

each_byte : (t : Text) → NoZero t → Each NotZero t
each_byte [] z = tt
each_byte (b ∷ t) z = (and_left (not_zero b) (all not_zero t) z, each_byte t (and_right (not_zero b) (all not_zero t) z))

all_bytes : (t : Text) → Each NotZero t → NoZero t
all_bytes [] h = refl
all_bytes (b ∷ t) h = and_both h.0 (all_bytes t h.1)

reading_fault : (n : ℕ) → between unended n too_deep ≡ true → is_fault n ≡ true
reading_fault n e = or_left (between too_many_units n variable_room || eqb n unset_name) e

-- parts whose bytes are not zero and whose parameters are parameters
abbrev pub SafeParts : Parts → Type 0
SafeParts end = Unit {0}
SafeParts (lit q b p) = (not_zero b ≡ true) × SafeParts p
SafeParts (quo q p) = SafeParts q × SafeParts p
SafeParts (par x f q p) = IsParam x × SafeParts q × SafeParts p
SafeParts (len x p) = IsCounted x × SafeParts p
SafeParts (lst j p) = SafeParts p
SafeParts (ari q p) = SafeParts q × SafeParts p
SafeParts (til x p) = NoZero x × SafeParts p

-- such parts of t, and what is behind them, which is no longer
pub record SafeTaken (t : Text) (p : Parts × Text) : Type 0 where
  pub clean : SafeParts p.0
  pub behind : NoZero p.1
  pub short : length p.1 ≤ length t

put_safe : (f : Parts → Parts) (u t : Text) {r : Taken} → ((p : Parts) → SafeParts p → SafeParts (f p)) → length u ≤ length t → Safe
    (SafeTaken u) r
    → Safe (SafeTaken t) (put f r)
put_safe f u t h l s =
    safe_bind (λ p. done (f p.0, p.1)) s (λ p k. gives (record { clean = h p.0 k.clean; behind = k.behind; short = omega arith }))

module _ (b : ℕ) (u : Text) (rec : Ask → Taken)
    (ih : (a : Ask) → length a.2 < suc (length u) → NoZero a.2 → Safe (SafeTaken a.2) (rec a)) (z : NoZero u) where
  next_safe : (f : Parts → Parts) (m : Mode) (d k : ℕ) → ((p : Parts) → SafeParts p → SafeParts (f p)) → Safe (SafeTaken (b ∷ u))
      (put f (rec (m, d, drop k u)))
  next_safe f m d k h =
      let l : length (drop k u) ≤ length u = drop_short k u in
      put_safe f (drop k u) (b ∷ u) h (omega arith) (ih (m, d, drop k u) (omega arith) (all_drop not_zero k u z))

  nest_safe : (f : Parts → Parts → Parts) (n : Mode) (c k : ℕ) (m : Mode) (d : ℕ) →
      ((q p : Parts) → SafeParts q → SafeParts p → SafeParts (f q p))
      → Safe (SafeTaken (b ∷ u)) (nest f (rec (n, c, drop k u)) (λ t. rec (m, d, t)))
  nest_safe f n c k m d h =
      let l : length (drop k u) ≤ length u = drop_short k u in
      safe_bind (λ p. put (f p.0) (rec (m, d, p.1))) (ih (n, c, drop k u) (omega arith) (all_drop not_zero k u z))
      (λ p s. put_safe (f p.0) p.1 (b ∷ u) (λ q w. h p.0 q s.clean w) (omega (arith, s.short))
      (ih (m, d, p.1) (omega (arith, s.short)) s.behind))

  read_safe : (m : Mode) (d : ℕ) {i : Item} → not_zero b ≡ true → Fair NotZero true i → Safe (SafeTaken (b ∷ u))
      (read_item (λ m d t. rec (m, d, t)) m d (b ∷ u) i)
  unfolding read_item
  read_safe m d y (faults {n = n} e) = refuses (reading_fault n e)
  read_safe m d y (stops {k = k}) = gives (record { clean = tt; behind = all_drop not_zero k (b ∷ u) (and_both y z); short = drop_short k (b ∷ u) })
  read_safe m d y (a_byte {q = q} {b = c} {k = k} e) = next_safe (lit q c) (behind_byte m q c) d k (λ p s. (e, s))
  read_safe m d y (a_paren {b = c} {n = n} e) = next_safe (lit unescaped c) (sums n) d 0 (λ p s. (e, s))
  read_safe m d y (a_quote {m = n} {k = k}) = nest_safe quo n d k (onward m) d (λ q p r s. (r, s))
  read_safe m d y (a_value {x = x} {k = k} e) = next_safe (par x plain end) (onward m) d k (λ p s. (e, tt, s))
  read_safe m d y (a_count {x = x} {k = k} e) = next_safe (len x) (onward m) d k (λ p s. (e, s))
  read_safe m d y (a_spread {j = j} {k = k}) = next_safe (lst j) (onward m) d k (λ p s. s)
  read_safe m d y (an_inner {x = x} {f = f} {m = n} {k = k} e) = nest_safe (par x f) n (d - 1) k (onward m) d (λ q p r s. (e, r, s))
  read_safe m d y a_sum = nest_safe ari (sums 0) (d - 1) 2 (onward m) d (λ q p r s. (r, s))
  read_safe m d y (a_home {x = x} {k = k} e) = next_safe (til x) (onward m) d k (λ p s. (all_bytes x e, s))

ended_read : (rec : Reader) (m : Mode) (d : ℕ) → Safe (SafeTaken []) (read_item rec m d [] (ended m))
unfolding read_item ended
ended_read rec (word s) d = gives {a = (end, [])} (record { clean = tt; behind = refl; short = omega arith })
ended_read rec (value s) d = gives {a = (end, [])} (record { clean = tt; behind = refl; short = omega arith })
ended_read rec (bare s l) d = refuses refl
ended_read rec (single e) d = refuses refl
ended_read rec (double l) d = refuses refl
ended_read rec (quoted_operand l) d = refuses refl
ended_read rec (sums n) d = refuses refl

step_safe : (a : Ask) (rec : Ask → Taken) → ((b : Ask) → ask_size b < ask_size a → NoZero b.2 → Safe (SafeTaken b.2) (rec b)) → NoZero a.2
    → Safe (SafeTaken a.2) (ask_step rec a)
unfolding ask_step item
step_safe (m, d, []) rec ih z = ended_read (λ m d t. rec (m, d, t)) m d
step_safe (m, d, b ∷ u) rec ih z =
    read_safe b u rec ih (and_right (not_zero b) (all not_zero u) z) m d (and_left (not_zero b) (all not_zero u) z)
    (item_passes NotZero (λ c e. and_left (not_zero c) (leb c 255) e) m d b u (each_byte (b ∷ u) z))

pub parts_safe : (m : Mode) (d : ℕ) (t : Text) → NoZero t → Safe (SafeTaken t) (parts m d t)
unfolding parts
parts_safe m d t z = by_fix ask_size (refused 0) ask_step (λ (a : Ask) (r : Taken). NoZero a.2 → Safe (SafeTaken a.2) r) step_safe (m, d, t) z
