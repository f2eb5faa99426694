-- Document 02, E14: what the switch changes in an expansion: it is refused with 25, or it is what it is with the switch off.
use Prim.Native.Nat.{ℕ, ◌+◌}
use mathlib.Core.Path.{◌≡◌, refl, ap}
use mathlib.Core.Bool.{Bool, true, false}
use mathlib.Core.List.{[], ◌∷◌}
use mathlib.Core.Option.{Option, none, some}
use lib.ListN.{length}
use lib.IntN.{ℤ}
use Rattle.stages.specs.Numbers.{unset_name}
use Rattle.stages.specs.Bytes.{Text}
use Rattle.stages.specs.Outcome.{Outcome, refused, demands, done, ◌>>=◌, choose}
use Rattle.stages.specs.Images.{Pairs}
use Rattle.stages.specs.Syntax.{Colon, Side, Reach, Form, plain, minus, equals, query, plus, removal, Param, var, nth, Counted, bytes_of, parameters}
use Rattle.stages.specs.Syntax.{Parts, end, lit, quo, par, len, lst, ari, til}
use Rattle.stages.specs.Units.{Mark, L, Q, cell, Row, marked, bytes, expanded_mark, lit_mark, fit, decimal}
use Rattle.stages.specs.Params.{Lent, holding, value, or_shout, sought, absent, missing, store_in}
use Rattle.stages.specs.Constants.{signed}
use Rattle.stages.specs.Arith.{Op, early, is_true, Tree, constant_of, name_of, unary, binary, choice, assign, tree, Evaluated, unless, name_number}
use Rattle.stages.specs.Arith.{value_of, updated, keeping, storing, evaluate, arithmetic_of}
use Rattle.stages.specs.Expand.{Made, given, assigned, demand, cut_by, parameter, list_row, of_none, in_quotes, amount, onto, adding, directory}
use Rattle.stages.specs.Expand.{tilde_row, expand}
use Rattle.stages.proofs.Bools.{either}

-- OUTCOMES

-- 25, or the same
pub data Under {A : Type 0} : Outcome A → Outcome A → Type 0 where
  shouts_first : {o : Outcome A} → Under (refused unset_name) o
  same : {o : Outcome A} → Under o o

pub under_bind : {A B : Type 0} {o p : Outcome A} (f g : A → Outcome B) → Under o p → ((a : A) → Under (f a) (g a)) → Under (o >>= f) (p >>= g)
under_bind f g shouts_first h = shouts_first
under_bind f g (same {o = refused n}) h = same
under_bind f g (same {o = demands t}) h = same
under_bind f g (same {o = done a}) h = h a

-- one outcome, used twice
under_from : {A B : Type 0} (o : Outcome A) (f g : A → Outcome B) → ((a : A) → Under (f a) (g a)) → Under (o >>= f) (o >>= g)
under_from o f g h = under_bind {o = o} f g same h

-- what is set never shouts
pub shout_set : (s : Bool) (t : Text) → or_shout s (some t) ≡ done t
unfolding or_shout
shout_set false t = refl
shout_set true t = refl

shout_under : (s : Bool) (o : Option Text) → Under (or_shout s o) (or_shout false o)
unfolding or_shout
shout_under false o = same
shout_under true none = shouts_first
shout_under true (some t) = same

unless_under : (o : Option ℤ) (v : Pairs) (more others : Unit {0} → Evaluated) → Under (more tt) (others tt) → Under (unless o v more) (unless o v others)
unless_under none v more others u = u
unless_under (some z) v more others u = same

choose_under : (x : Bool) (f g h i : Unit {0} → Evaluated) → Under (f tt) (h tt) → Under (g tt) (i tt) → Under (choose x f g) (choose x h i)
unfolding choose
choose_under true f g h i a b = a
choose_under false f g h i a b = b

-- what is lent, with the switch off
abbrev pub quietly : Lent → Lent
quietly a = record { room = a.room; homes = a.homes; params = a.params; shouts = false }

module _ (a : Lent) where
  -- LOOKING UP

  holding_quiet : (v : Pairs) (x : Param) → holding (quietly a) v x ≡ holding a v x
  unfolding holding
  holding_quiet v (var x) = refl
  holding_quiet v (nth k) = refl

  value_quiet : (v : Pairs) (x : Param) → value (quietly a) v x ≡ value a v x
  unfolding value
  value_quiet v x = rw (holding_quiet v x)

  missing_quiet : (c : Colon) (x : Param) (v : Pairs) → missing (quietly a) c x v ≡ missing a c x v
  unfolding missing
  missing_quiet c x v = ap (absent c) (holding_quiet v x)

  store_quiet : (x : Param) (t : Text) (v : Pairs) → store_in (quietly a) x t v ≡ store_in a x t v
  unfolding store_in
  store_quiet (var x) t v = refl
  store_quiet (nth k) t v = refl

  sought_under : (v : Pairs) (x : Param) → Under (sought a v x) (sought (quietly a) v x)
  unfolding sought
  sought_under v x = rw (holding_quiet v x) (shout_under a.shouts (holding a v x))

  amount_under : (x : Counted) (v : Pairs) → Under (amount a x v) (amount (quietly a) x v)
  unfolding amount
  amount_under (bytes_of x) v = under_bind _ _ (sought_under v x) (λ t. same)
  amount_under parameters v = same

  -- ARITHMETIC

  value_under : (v : Pairs) (x : Text) → Under (value_of a v x) (value_of (quietly a) v x)
  unfolding value_of name_number
  value_under v x = rw (holding_quiet v (var x)) (under_bind _ _ (shout_under a.shouts (holding a v (var x))) (λ t. same))

  updated_under : (v : Pairs) (o : Option Op) (x : Text) (z : ℤ) → Under (updated a v o x z) (updated (quietly a) v o x z)
  unfolding updated
  updated_under v none x z = same
  updated_under v (some o) x z = under_bind _ _ (value_under v x) (λ y. same)

  storing_under : (o : Option Op) (x : Text) (p : ℤ × Pairs) → Under (storing a o x p) (storing (quietly a) o x p)
  unfolding storing keeping
  storing_under o x p =
      under_bind _ _ (updated_under p.1 o x p.0)
      (λ z. rw (store_quiet (var x) (signed z) p.1) same)

  evaluate_under : (e : Tree) (v : Pairs) → Under (evaluate a v e) (evaluate (quietly a) v e)
  unfolding evaluate
  evaluate_under (constant_of z) v = same
  evaluate_under (name_of x) v = under_bind _ _ (value_under v x) (λ z. same)
  evaluate_under (unary o l) v = under_bind _ _ (evaluate_under l v) (λ p. same)
  evaluate_under (binary o l r) v =
      under_bind _ _ (evaluate_under l v)
      (λ p. unless_under (early o p.0) p.1 _ _
      (under_bind _ _ (evaluate_under r p.1) (λ q. same)))
  evaluate_under (choice c l r) v =
      under_bind _ _ (evaluate_under c v) (λ p. choose_under (is_true p.0) _ _ _ _ (evaluate_under l p.1) (evaluate_under r p.1))
  evaluate_under (assign o x r) v = under_bind _ _ (evaluate_under r v) (λ p. storing_under o x p)

  arithmetic_under : (v : Pairs) (t : Text) → Under (arithmetic_of a v t) (arithmetic_of (quietly a) v t)
  unfolding arithmetic_of
  arithmetic_under v t = under_from (tree t) _ _ (λ e. under_bind _ _ (evaluate_under e v) (λ p. same))

  -- FORMS

  given_under : (x : Param) (m : Mark) (v : Pairs) → Under (given a x m v) (given (quietly a) x m v)
  given_under x m v = rw (value_quiet v x) same

  assigned_under : (x : Param) (m : Mark) (p : Row × Pairs × Bool) → Under (assigned a x m p) (assigned (quietly a) x m p)
  unfolding assigned
  assigned_under x m p = rw (store_quiet x (bytes p.0) p.1) (under_from (store_in a x (bytes p.0) p.1) _ _ (λ w. given_under x m w))

  cut_under : (s : Side) (reach : Reach) (x : Param) (m : Mark) (p : Row × Pairs × Bool) → Under (cut_by a s reach x m p) (cut_by (quietly a) s reach x m p)
  unfolding cut_by
  cut_under s reach x m p = rw (value_quiet p.1 x) same

  module _ (q r : Mark → Pairs → Made) (h : (m : Mark) (v : Pairs) → Under (q m v) (r m v)) (x : Param) where
    parameter_under : (f : Form) (m : Mark) (v : Pairs) → Under (parameter a q x f m v) (parameter (quietly a) r x f m v)
    unfolding parameter
    parameter_under plain m v = under_bind _ _ (sought_under v x) (λ t. same)
    parameter_under (minus c) m v =
        either (missing a c x v)
        (λ e. rw (e, parameter) (h (expanded_mark m) v))
        (λ e. rw (e, parameter) (given_under x m v))
    parameter_under (equals c) m v =
        either (missing a c x v)
        (λ e. rw (e, parameter)
        (under_bind (λ p. assigned a x m p) (λ p. assigned (quietly a) x m p) (h m v) (λ p. assigned_under x m p)))
        (λ e. rw (e, parameter) (given_under x m v))
    parameter_under (query c) m v =
        either (missing a c x v)
        (λ e. rw (e, parameter)
        (under_bind (λ p. demand p) (λ p. demand p) (h m v) (λ p. same)))
        (λ e. rw (e, parameter) (given_under x m v))
    parameter_under (plus c) m v =
        either (missing a c x v)
        (λ e. rw (e, parameter) same)
        (λ e. rw (e, parameter) (h (expanded_mark m) v))
    parameter_under (removal s reach) m v = under_bind _ _ (sought_under v x) (λ _. under_bind _ _ (h L v) (λ p. cut_under s reach x m p))

  -- PARTS

  onto_under : (r : Row) (g : Bool) {o p : Made} → Under o p → Under (onto r g o) (onto r g p)
  onto_under r g u = under_bind _ _ u (λ p. same)

  adding_under : (n : ℕ) (r : Row) (g : Bool) (f k : ℕ → Made) → ((i : ℕ) → Under (f i) (k i)) → Under (adding n r g f) (adding n r g k)
  unfolding fit
  adding_under n r g f k h = under_from (fit n (length r)) (λ i. onto r g (f i)) (λ i. onto r g (k i)) (λ i. onto_under r g (h i))

  pub expand_under : (p : Parts) (m : Mark) (n : ℕ) (v : Pairs) → Under (expand a p m n v) (expand (quietly a) p m n v)
  unfolding expand
  expand_under end m n v = same
  expand_under (lit q b p) m n v = adding_under n (cell (lit_mark q m) b ∷ []) false _ _ (λ i. expand_under p m i v)
  expand_under (quo q p) m n v =
      under_from (fit n 1) _ _
      (λ i. under_bind _ _ (expand_under q Q i v)
      (λ r. onto_under (in_quotes r.2 r.0) false (expand_under p m (n + length (in_quotes r.2 r.0)) r.1)))
  expand_under (par x f q p) m n v =
      under_bind _ _ (parameter_under (λ k w. expand a q k 0 w) (λ k w. expand (quietly a) q k 0 w) (λ k w. expand_under q k 0 w) x f m v)
      (λ r. adding_under n r.0 r.2 _ _ (λ i. expand_under p m i r.1))
  expand_under (len x p) m n v =
      under_bind _ _ (amount_under x v) (λ k. adding_under n (marked (expanded_mark m) (decimal k)) false _ _ (λ i. expand_under p m i v))
  expand_under (lst s p) m n v = adding_under n (list_row s m a.params v) (of_none s a.params) _ _ (λ i. expand_under p m i v)
  expand_under (ari q p) m n v =
      under_bind _ _ (expand_under q Q 0 v)
      (λ r. under_bind _ _ (arithmetic_under r.1 (bytes r.0))
      (λ s. adding_under n (marked (expanded_mark m) s.0) false _ _ (λ i. expand_under p m i s.1)))
  expand_under (til x p) m n v = adding_under n (tilde_row x m (directory v a.homes x)) false _ _ (λ i. expand_under p m i v)
