-- What expansion gives is safe where the parts, the variables and the homes are: rows and fields without a zero byte, and variables that are still a
-- table within its room. Each refusal has its number.
use Prim.Native.Nat.{ℕ, zero, suc, ◌+◌, ◌≤◌}
use Prim.Native.Char.{code}
use mathlib.Core.Path.{◌≡◌, refl}
use mathlib.Core.Bool.{Bool, true, false, ◌&&◌, ◌||◌}
use mathlib.Core.List.{List, [], ◌∷◌, ◌++◌}
use mathlib.Core.Option.{Option, none, some}
use lib.Dec.{leb}
use lib.ListN.{length, take}
use borrow.Author.Tests.{leb-true}
use Rattle.stages.specs.Numbers.{row_limit, image_limit}
use Rattle.stages.specs.Bytes.{Text, text, all, not_zero}
use Rattle.stages.specs.Outcome.{done}
use Rattle.stages.specs.Images.{Pairs, is_name, keys, all_texts, rising, lookup, stored, flat, image_length, or_empty}
use Rattle.stages.specs.Syntax.{Side, suffix, prefix, Reach, Form, plain, minus, equals, query, plus, removal}
use Rattle.stages.specs.Syntax.{Parts, end, lit, quo, par, len, lst, ari, til}
use Rattle.stages.specs.Syntax.{Param, var, nth, Counted, bytes_of, parameters, Spread, apart, joint}
use Rattle.stages.specs.Units.{Mark, L, E, Q, Cell, cell, N, B, Row, marked, bytes, expanded_mark, lit_mark, fit, decimal}
use Rattle.stages.specs.Pattern.{Element, signs, has_class, Purpose, for_paths, for_removal, is_for_paths, pattern, matches}
use Rattle.stages.specs.Removal.{removed, left, cut}
use Rattle.stages.specs.Params.{Lent, numbered, holding, value, or_shout, sought, missing, store, store_in}
use Rattle.stages.specs.Split.{ifs_or, ifs_now}
use Rattle.stages.specs.Expand.{Made, plainly, given, assigned, cut_by, parameter, gap, between, list_row, of_none, in_quotes, amount, demand}
use Rattle.stages.specs.Expand.{directory, tilde_row, onto, adding, expand}
use Rattle.stages.specs.Paths.{chosen, active, or_else, paths_for, texts_of_fields}
use Rattle.stages.proofs.Bools.{either, and_left, and_right, and_both}
use Rattle.stages.proofs.Texts.{all_take, all_drop}
use Rattle.stages.proofs.Images.{Fine, fine_append}
use Rattle.stages.proofs.Stores.{lookup_fine, rising_stored, keys_stored, fine_stored, name_fine}
use Rattle.stages.proofs.Items.{IsParam}
use Rattle.stages.proofs.Outcomes.{Each, each_append, Safe, refuses, asks, gives, safe_bind, Sure, fails, comes, sure_safe}
use Rattle.stages.proofs.Safe.{NoZero, SafeParts}
use Rattle.stages.proofs.SafeSums.{decimal_safe, Stores, arithmetic_safe}

-- rows

-- a unit whose byte is not zero
abbrev pub SafeCell : Cell → Type 0
SafeCell (cell m b) = not_zero b ≡ true
SafeCell N = Unit {0}
SafeCell B = Unit {0}

pub marked_safe : (m : Mark) (t : Text) → NoZero t → Each SafeCell (marked m t)
unfolding marked
marked_safe m [] z = tt
marked_safe m (b ∷ t) z = (and_left (not_zero b) (all not_zero t) z, marked_safe m t (and_right (not_zero b) (all not_zero t) z))

pub bytes_safe : (r : Row) → Each SafeCell r → NoZero (bytes r)
unfolding bytes
bytes_safe [] h = refl
bytes_safe (cell m b ∷ r) h = and_both h.0 (bytes_safe r h.1)
bytes_safe (N ∷ r) h = bytes_safe r h.1
bytes_safe (B ∷ r) h = bytes_safe r h.1

-- variables

-- variables that are a table, and whose image is not longer than its buffer or 8,192
pub record Kept (room : ℕ) (v : Pairs) : Type 0 where
  pub fine : Fine (flat v)
  pub passes : all_texts is_name (keys v) ≡ true
  pub rises : rising (keys v) ≡ true
  pub fits : image_length (flat v) ≤ room
  pub small : image_length (flat v) ≤ image_limit

-- what is lent holds no zero byte
pub record SafeLent (a : Lent) : Type 0 where
  pub homes : Fine (flat a.homes)
  pub params : Fine a.params

-- what holds of an option's element, if it has one
abbrev If : {A : Type 0} → (A → Type 0) → Option A → Type 0
If P none = Unit {0}
If P (some a) = P a

lookup_safe : (x : Text) (v : Pairs) → Fine (flat v) → If NoZero (lookup x v)
lookup_safe x v f = go (lookup x v) refl
  where
    go : (o : Option Text) → lookup x v ≡ o → If NoZero o
    go none e = tt
    go (some t) e = lookup_fine x t v f e

numbered_safe : (k : ℕ) (l : List Text) → Fine l → If NoZero (numbered k l)
unfolding numbered
numbered_safe k [] f = tt
numbered_safe zero (t ∷ l) f = tt
numbered_safe (suc zero) (t ∷ l) f = f.0
numbered_safe (suc (suc k)) (t ∷ l) f = numbered_safe (suc k) l f.1

holding_safe : (a : Lent) (v : Pairs) (x : Param) → SafeLent a → Fine (flat v) → If NoZero (holding a v x)
unfolding holding
holding_safe a v (var x) l f = lookup_safe x v f
holding_safe a v (nth k) l f = numbered_safe k a.params l.params

or_empty_safe : (o : Option Text) → If NoZero o → NoZero (or_empty o)
or_empty_safe none h = refl
or_empty_safe (some t) h = h

pub value_safe : (a : Lent) (v : Pairs) (x : Param) → SafeLent a → Fine (flat v) → NoZero (value a v x)
unfolding value
value_safe a v x l f = or_empty_safe (holding a v x) (holding_safe a v x l f)

-- E14: what is looked up, or 25
shout_safe : (s : Bool) (o : Option Text) → If NoZero o → Safe NoZero (or_shout s o)
unfolding or_shout
shout_safe false o h = gives (or_empty_safe o h)
shout_safe true none h = refuses refl
shout_safe true (some t) h = gives h

sought_safe : (a : Lent) (v : Pairs) (x : Param) → SafeLent a → Fine (flat v) → Safe NoZero (sought a v x)
unfolding sought
sought_safe a v x l f = shout_safe a.shouts (holding a v x) (holding_safe a v x l f)

amount_safe : (a : Lent) (c : Counted) (v : Pairs) → SafeLent a → Fine (flat v) → Safe (λ (n : ℕ). Unit {0}) (amount a c v)
unfolding amount
amount_safe a (bytes_of x) v l f = safe_bind _ (sought_safe a v x l f) (λ t _. gives tt)
amount_safe a parameters v l f = gives tt

pub store_sure : (room : ℕ) (x t : Text) (v : Pairs) → is_name x ≡ true → NoZero t → Kept room v → Sure (Kept room) (store room x t v)
unfolding store
store_sure room x t v n z k =
    let size : ℕ = image_length (flat (stored x t v)) in
    either (leb (image_length (flat (stored x t v))) room && leb (image_length (flat (stored x t v))) image_limit)
    (λ e. rw (e, store) (comes (record {
      fine = fine_stored x t v (name_fine x n) z k.fine;
      passes = keys_stored is_name x t v n k.passes;
      rises = rising_stored x t v k.rises;
      fits = leb-true size room (and_left (leb size room) (leb size image_limit) e);
      small = leb-true size image_limit (and_right (leb size room) (leb size image_limit) e);
    })))
    (λ e. rw (e, store) (fails refl))

pub store_safe : (room : ℕ) (x t : Text) (v : Pairs) → is_name x ≡ true → NoZero t → Kept room v → Safe (Kept room) (store room x t v)
store_safe room x t v n z k = sure_safe (store_sure room x t v n z k)

-- so does one of arithmetic
pub stores_kept : (a : Lent) → Stores a (Kept a.room)
unfolding store_in
stores_kept a x t v n z k = store_sure a.room x t v n z k

-- parameters

-- a row and variables that are safe
abbrev pub SafeMade : ℕ → Row × Pairs × Bool → Type 0
SafeMade room p = Each SafeCell p.0 × Kept room p.1

left_safe : (s : Side) (k : ℕ) (t : Text) → NoZero t → NoZero (left s t k)
left_safe suffix k t z = all_take not_zero k t z
left_safe prefix k t z = all_drop not_zero k t z

pub removed_safe : (s : Side) (reach : Reach) (p : List Element) (t : Text) → NoZero t → NoZero (removed s reach p t)
unfolding removed
removed_safe s reach p t z = left_safe s (cut s reach p t) t z

pub pattern_safe : (purpose : Purpose) (r : Row) → Safe (λ (p : List Element). Unit {0}) (pattern purpose r)
unfolding pattern
pattern_safe purpose r = either (has_class (is_for_paths purpose) 0 (signs r)) (λ e. rw (e, pattern) (refuses refl)) (λ e. rw (e, pattern) (gives tt))

module _ (a : Lent) (l : SafeLent a) where
  plainly_safe : (t : Text) (m : Mark) (v : Pairs) → NoZero t → Kept a.room v → Safe (SafeMade a.room) (plainly t m v)
  unfolding marked
  plainly_safe t m v z k = gives (marked_safe (expanded_mark m) t z, k)

  module _ (x : Param) (n : IsParam x) where
    store_in_safe : (t : Text) (v : Pairs) → NoZero t → Kept a.room v → Safe (Kept a.room) (store_in a x t v)
    store_in_safe t v z k = go x n
      where
        go : (y : Param) → IsParam y → Safe (Kept a.room) (store_in a y t v)
        go (var y) i = unfold store_in in store_safe a.room y t v i z k
        go (nth j) i = unfold store_in in refuses refl

    given_safe : (m : Mark) (v : Pairs) → Kept a.room v → Safe (SafeMade a.room) (given a x m v)
    given_safe m v k = plainly_safe (value a v x) m v (value_safe a v x l k.fine) k

    assigned_safe : (m : Mark) (p : Row × Pairs × Bool) → SafeMade a.room p → Safe (SafeMade a.room) (assigned a x m p)
    unfolding assigned
    assigned_safe m p h = safe_bind _ (store_in_safe (bytes p.0) p.1 (bytes_safe p.0 h.0) h.1) (λ w k. given_safe m w k)

    cut_safe : (s : Side) (reach : Reach) (m : Mark) (p : Row × Pairs × Bool) → SafeMade a.room p → Safe (SafeMade a.room) (cut_by a s reach x m p)
    unfolding cut_by
    cut_safe s reach m p h =
        safe_bind _ (pattern_safe for_removal p.0)
        (λ es _. plainly_safe (removed s reach es (value a p.1 x)) m p.1
        (removed_safe s reach es (value a p.1 x) (value_safe a p.1 x l h.1.fine)) h.1)

    demand_safe : (p : Row × Pairs × Bool) → SafeMade a.room p → Safe (SafeMade a.room) (demand p)
    unfolding demand
    demand_safe p h = asks (bytes_safe p.0 h.0)

    pub parameter_safe : (q : Mark → Pairs → Made) → ((m : Mark) (v : Pairs) → Kept a.room v → Safe (SafeMade a.room) (q m v)) → (f : Form)
        (m : Mark) (v : Pairs) → Kept a.room v
        → Safe (SafeMade a.room) (parameter a q x f m v)
    unfolding parameter
    parameter_safe q h plain m v k = safe_bind _ (sought_safe a v x l k.fine) (λ t z. plainly_safe t m v z k)
    parameter_safe q h (minus c) m v k =
        either (missing a c x v) (λ e. rw (e, parameter) (h (expanded_mark m) v k)) (λ e. rw (e, parameter) (given_safe m v k))
    parameter_safe q h (equals c) m v k =
        either (missing a c x v)
        (λ e. rw (e, parameter) (safe_bind (λ p. assigned a x m p) (h m v k) (λ p g. assigned_safe m p g)))
        (λ e. rw (e, parameter) (given_safe m v k))
    parameter_safe q h (query c) m v k =
        either (missing a c x v)
        (λ e. rw (e, parameter) (safe_bind (λ p. demand p) (h m v k) (λ p g. demand_safe p g)))
        (λ e. rw (e, parameter) (given_safe m v k))
    parameter_safe q h (plus c) m v k =
        either (missing a c x v) (λ e. rw (e, parameter) (gives (tt, k))) (λ e. rw (e, parameter) (h (expanded_mark m) v k))
    parameter_safe q h (removal s reach) m v k =
        safe_bind _ (sought_safe a v x l k.fine) (λ _ _. safe_bind _ (h L v k) (λ p g. cut_safe s reach m p g))

-- `$@` and `$*`

ifs_safe : (v : Pairs) → Fine (flat v) → NoZero (ifs_now v)
unfolding ifs_now ifs_or
ifs_safe v f = go (lookup (text "IFS") v) (lookup_safe (text "IFS") v f)
  where
    go : (o : Option Text) → If NoZero o → NoZero (ifs_or o)
    go none h = refl
    go (some t) h = h

gap_safe : (s : Spread) (m : Mark) (v : Pairs) → Fine (flat v) → Each SafeCell (gap s m v)
unfolding gap
gap_safe s L v f = (tt, tt)
gap_safe s E v f = (tt, tt)
gap_safe apart Q v f = (tt, (tt, tt))
gap_safe joint Q v f = marked_safe Q (take 1 (ifs_now v)) (all_take not_zero 1 (ifs_now v) (ifs_safe v f))

between_safe : (g : Row) (m : Mark) (l : List Text) → Each SafeCell g → Fine l → Each SafeCell (between g m l)
unfolding between
between_safe g m [] h f = tt
between_safe g m (t ∷ []) h f = marked_safe m t f.0
between_safe g m (t ∷ u ∷ l) h f =
    each_append SafeCell (marked m t) (g ++ between g m (u ∷ l)) (marked_safe m t f.0)
    (each_append SafeCell g (between g m (u ∷ l)) h (between_safe g m (u ∷ l) h f.1))

list_safe : (s : Spread) (m : Mark) (l : List Text) (v : Pairs) → Fine l → Fine (flat v) → Each SafeCell (list_row s m l v)
unfolding list_row
list_safe s m l v f g = between_safe (gap s (expanded_mark m) v) (expanded_mark m) l (gap_safe s (expanded_mark m) v g) f

in_quotes_safe : (g : Bool) (r : Row) → Each SafeCell r → Each SafeCell (in_quotes g r)
unfolding in_quotes
in_quotes_safe false r h = (tt, h)
in_quotes_safe true [] h = tt
in_quotes_safe true (c ∷ r) h = (tt, h)

-- the tilde

directory_safe : (v homes : Pairs) → Fine (flat v) → Fine (flat homes) → (t : Text) → If NoZero (directory v homes t)
unfolding directory
directory_safe v homes f g [] = lookup_safe (text "HOME") v f
directory_safe v homes f g (b ∷ t) = lookup_safe (b ∷ t) homes g

tilde_safe : (x : Text) (m : Mark) (o : Option Text) → NoZero x → If NoZero o → Each SafeCell (tilde_row x m o)
unfolding tilde_row
tilde_safe x m none z h = marked_safe m (code "~" ∷ x) (and_both refl z)
tilde_safe x m (some d) z h = (tt, marked_safe Q d h)

-- parts

fit_safe : (n k : ℕ) → Safe (λ (i : ℕ). Unit {0}) (fit n k)
unfolding fit
fit_safe n k = either (leb (n + k) row_limit) (λ e. rw (e, fit) (gives tt)) (λ e. rw (e, fit) (refuses refl))

onto_safe : (room : ℕ) (r : Row) (g : Bool) {o : Made} → Each SafeCell r → Safe (SafeMade room) o → Safe (SafeMade room) (onto r g o)
onto_safe room r g h s = safe_bind (λ p. done (r ++ p.0, p.1, g || p.2)) s (λ p k. gives (each_append SafeCell r p.0 h k.0, k.1))

adding_safe : (room n : ℕ) (r : Row) (g : Bool) (more : ℕ → Made) → Each SafeCell r → ((i : ℕ) → Safe (SafeMade room) (more i)) → Safe
    (SafeMade room) (adding n r g more)
unfolding fit
adding_safe room n r g more h s = safe_bind (λ i. onto r g (more i)) (fit_safe n (length r)) (λ i _. onto_safe room r g h (s i))

module _ (a : Lent) (l : SafeLent a) where
  pub expand_safe : (p : Parts) → SafeParts p → (m : Mark) (n : ℕ) (v : Pairs) → Kept a.room v → Safe (SafeMade a.room) (expand a p m n v)
  unfolding expand
  expand_safe end s m n v k = gives (tt, k)
  expand_safe (lit q b p) s m n v k = adding_safe a.room n (cell (lit_mark q m) b ∷ []) false _ (s.0, tt) (λ i. expand_safe p s.1 m i v k)
  expand_safe (quo q p) s m n v k =
      safe_bind _ (fit_safe n 1)
      (λ i _. safe_bind _ (expand_safe q s.0 Q i v k)
      (λ r h. onto_safe a.room (in_quotes r.2 r.0) false (in_quotes_safe r.2 r.0 h.0)
      (expand_safe p s.1 m (n + length (in_quotes r.2 r.0)) r.1 h.1)))
  expand_safe (par x f q p) s m n v k =
      safe_bind _ (parameter_safe a l x s.0 (λ j w. expand a q j 0 w) (λ j w g. expand_safe q s.1 j 0 w g) f m v k)
      (λ r h. adding_safe a.room n r.0 r.2 _ h.0 (λ i. expand_safe p s.2 m i r.1 h.1))
  expand_safe (len x p) s m n v k =
      safe_bind _ (amount_safe a x v l k.fine)
      (λ j _. adding_safe a.room n (marked (expanded_mark m) (decimal j)) false _ (marked_safe (expanded_mark m) (decimal j) (decimal_safe j))
      (λ i. expand_safe p s.1 m i v k))
  expand_safe (lst j p) s m n v k =
      adding_safe a.room n (list_row j m a.params v) (of_none j a.params) _ (list_safe j m a.params v l.params k.fine)
      (λ i. expand_safe p s m i v k)
  expand_safe (ari q p) s m n v k =
      safe_bind _ (expand_safe q s.0 Q 0 v k)
      (λ r h. safe_bind _ (arithmetic_safe a (Kept a.room) (stores_kept a) r.1 (bytes r.0) h.1)
      (λ t g. adding_safe a.room n (marked (expanded_mark m) t.0) false _ (marked_safe (expanded_mark m) t.0 g.0)
      (λ i. expand_safe p s.1 m i t.1 g.1)))
  expand_safe (til x p) s m n v k =
      adding_safe a.room n (tilde_row x m (directory v a.homes x)) false _
      (tilde_safe x m (directory v a.homes x) s.0 (directory_safe v a.homes k.fine l.homes x))
      (λ i. expand_safe p s.1 m i v k)

-- fields

chosen_safe : (p : List Element) (l : List Text) → Fine l → Fine (chosen p l)
unfolding chosen
chosen_safe p [] f = tt
chosen_safe p (t ∷ l) f = go (chosen_safe p l f.1) (matches for_paths p t) refl
  where
    go : Fine (chosen p l) → (x : Bool) → matches for_paths p t ≡ x → Fine (chosen p (t ∷ l))
    go ih true e = rw (e, chosen) (f.0, ih)
    go ih false e = rw (e, chosen) ih

or_else_safe : (l : List Text) (t : Text) → Fine l → NoZero t → Fine (or_else l t)
or_else_safe [] t f z = (z, tt)
or_else_safe (u ∷ l) t f z = f

paths_for_safe : (paths : List Text) (r : Row) (p : List Element) → Fine paths → Each SafeCell r → Fine (paths_for paths r p)
unfolding paths_for
paths_for_safe paths r p f h =
    either (active p) (λ e. rw (e, paths_for) (or_else_safe (chosen p paths) (bytes r) (chosen_safe p paths f) (bytes_safe r h)))
    (λ e. rw (e, paths_for) (bytes_safe r h, tt))

pub named_safe : (paths : List Text) (rs : List Row) → Fine paths → Each (Each SafeCell) rs → Safe Fine (texts_of_fields paths rs)
unfolding texts_of_fields
named_safe paths [] f h = gives tt
named_safe paths (r ∷ rs) f h =
    safe_bind _ (pattern_safe for_paths r)
    (λ p _. safe_bind _ (named_safe paths rs f h.1) (λ l g. gives (fine_append (paths_for paths r p) l (paths_for_safe paths r p f h.0) g)))
