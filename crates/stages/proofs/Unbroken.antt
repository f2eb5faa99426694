-- Document 02, E5: a text that holds no list has a row without break marks, and no `$@` of none came in it. So no break mark comes to a removal's pattern, to a
-- store or to an arithmetic text; nor, by E9, to an assignment's value.
use Prim.Native.Nat.{ℕ, ◌+◌}
use Prim.Native.Char.{code}
use mathlib.Core.Path.{◌≡◌, refl, sym}
use mathlib.Core.Bool.{Bool, true, false, ◌||◌}
use mathlib.Core.List.{[], ◌∷◌, ◌++◌}
use mathlib.Core.Option.{Option, none, some}
use lib.ListN.{length}
use Rattle.stages.specs.Bytes.{Text}
use Rattle.stages.specs.Outcome.{Outcome, refused, done, ◌>>=◌, demands}
use Rattle.stages.specs.Images.{Pairs}
use Rattle.stages.specs.Syntax.{Param, Lists, barred, Form, plain, minus, equals, query, plus, removal}
use Rattle.stages.specs.Syntax.{Parts, end, lit, quo, par, len, lst, ari, til, Start}
use Rattle.stages.specs.Syntax.{value as aValue}
use Rattle.stages.specs.Items.{both, lists_in}
use Rattle.stages.specs.Read.{Taken, parts}
use Rattle.stages.specs.Units.{Mark, L, Q, Cell, cell, N, B, Row, marked, bytes, expanded_mark, lit_mark, fit, decimal}
use Rattle.stages.specs.Arith.{arithmetic_of}
use Rattle.stages.specs.Pattern.{pattern, for_removal}
use Rattle.stages.specs.Removal.{removed}
use Rattle.stages.specs.Params.{Lent, value, sought, missing, store_in}
use Rattle.stages.specs.Expand.{Made, plainly, given, assigned, cut_by, parameter, in_quotes, directory, tilde_row, amount, onto, adding, expand, demand}
use Rattle.stages.proofs.Bools.{either}
use Rattle.stages.proofs.Outcomes.{Each, each_append, done_same, never}
use Rattle.stages.proofs.Barred.{clash, both_served, lets, Allowed, allowed_in, Reads, refuses, gives, parts_allowed}

-- a unit that is no break mark
abbrev pub Unbroken : Cell → Type 0
Unbroken (cell m b) = Unit {0}
Unbroken N = Unit {0}
Unbroken B = ⊥

-- refused, with a message or without, or done with what P holds of
pub data When {A : Type 0} (P : A → Type 0) : Outcome A → Type 0 where
  not_done : {n : ℕ} → When P (refused n)
  is_asked : {t : Text} → When P (demands t)
  is_done : {a : A} → P a → When P (done a)

when_bind : {A C : Type 0} {P : A → Type 0} {R : C → Type 0} {o : Outcome A} (f : A → Outcome C) → When P o → ((a : A) → P a → When R (f a))
    → When R (o >>= f)
when_bind f not_done h = not_done
when_bind f is_asked h = is_asked
when_bind f (is_done {a = a} p) h = h a p

any_outcome : {A : Type 0} (o : Outcome A) → When (λ (a : A). Unit {0}) o
any_outcome (refused n) = not_done
any_outcome (demands t) = is_asked
any_outcome (done a) = is_done tt

-- such a row, and no `$@` of none came in it, so that quotes around it keep their N
abbrev pub Whole : Row × Pairs × Bool → Type 0
Whole p = Each Unbroken p.0 × (p.2 ≡ false)

marked_whole : (m : Mark) (t : Text) → Each Unbroken (marked m t)
unfolding marked
marked_whole m [] = tt
marked_whole m (b ∷ t) = (tt, marked_whole m t)

plainly_whole : (t : Text) (m : Mark) (v : Pairs) → When Whole (plainly t m v)
plainly_whole t m v = is_done (marked_whole (expanded_mark m) t, refl)

module _ (a : Lent) where
  given_whole : (x : Param) (m : Mark) (v : Pairs) → When Whole (given a x m v)
  given_whole x m v = plainly_whole (value a v x) m v

  parameter_whole : (q : Mark → Pairs → Made) → ((m : Mark) (v : Pairs) → When Whole (q m v)) → (x : Param) (f : Form) (m : Mark) (v : Pairs)
      → When Whole (parameter a q x f m v)
  unfolding parameter assigned cut_by
  parameter_whole q h x plain m v = when_bind _ (any_outcome (sought a v x)) (λ t _. plainly_whole t m v)
  parameter_whole q h x (minus c) m v =
      either (missing a c x v) (λ e. rw (e, parameter) (h (expanded_mark m) v)) (λ e. rw (e, parameter) (given_whole x m v))
  parameter_whole q h x (equals c) m v =
      either (missing a c x v)
      (λ e. rw (e, parameter) (when_bind (λ p. assigned a x m p) (h m v)
      (λ p k. when_bind _ (any_outcome (store_in a x (bytes p.0) p.1)) (λ w l. given_whole x m w))))
      (λ e. rw (e, parameter) (given_whole x m v))
  parameter_whole q h x (query c) m v =
      either (missing a c x v)
      (λ e. rw (e, parameter) (when_bind (λ p. demand p) (h m v) (λ p k. unfold demand in is_asked)))
      (λ e. rw (e, parameter) (given_whole x m v))
  parameter_whole q h x (plus c) m v =
      either (missing a c x v) (λ e. rw (e, parameter) (is_done (tt, refl))) (λ e. rw (e, parameter) (h (expanded_mark m) v))
  parameter_whole q h x (removal s reach) m v =
      when_bind _ (any_outcome (sought a v x))
      (λ _ _. when_bind _ (h L v)
      (λ p k. when_bind _ (any_outcome (pattern for_removal p.0)) (λ es l. plainly_whole (removed s reach es (value a p.1 x)) m p.1)))

  onto_whole : (r : Row) (g : Bool) {o : Made} → Each Unbroken r → g ≡ false → When Whole o → When Whole (onto r g o)
  onto_whole r g h e k = when_bind (λ p. done (r ++ p.0, p.1, g || p.2)) k (λ p l. is_done (each_append Unbroken r p.0 h l.0, rw e l.1))

  adding_whole : (n : ℕ) (r : Row) (g : Bool) (more : ℕ → Made) → Each Unbroken r → g ≡ false → ((i : ℕ) → When Whole (more i))
      → When Whole (adding n r g more)
  unfolding fit
  adding_whole n r g more h e k = when_bind (λ i. onto r g (more i)) (any_outcome (fit n (length r))) (λ i _. onto_whole r g h e (k i))

  quotes_whole : (g : Bool) (r : Row) → Each Unbroken r → Each Unbroken (in_quotes g r)
  unfolding in_quotes
  quotes_whole false r h = (tt, h)
  quotes_whole true [] h = tt
  quotes_whole true (c ∷ r) h = (tt, h)

  tilde_whole : (x : Text) (m : Mark) (o : Option Text) → Each Unbroken (tilde_row x m o)
  unfolding tilde_row
  tilde_whole x m none = marked_whole m (code "~" ∷ x)
  tilde_whole x m (some d) = (tt, marked_whole Q d)

  pub expand_whole : (p : Parts) → Allowed barred p → (m : Mark) (n : ℕ) (v : Pairs) → When Whole (expand a p m n v)
  unfolding expand both
  expand_whole end k m n v = is_done (tt, refl)
  expand_whole (lit q b p) k m n v = adding_whole n (cell (lit_mark q m) b ∷ []) false _ (tt, tt) refl (λ i. expand_whole p k m i v)
  expand_whole (quo q p) k m n v =
      when_bind _ (any_outcome (fit n 1))
      (λ i _. when_bind _ (expand_whole q k.0 Q i v)
      (λ r h. onto_whole (in_quotes r.2 r.0) false (quotes_whole r.2 r.0 h.0) refl
      (expand_whole p k.1 m (n + length (in_quotes r.2 r.0)) r.1)))
  expand_whole (par x f q p) k m n v =
      when_bind _ (parameter_whole (λ j w. expand a q j 0 w) (λ j w. expand_whole q k.0 j 0 w) x f m v)
      (λ r h. adding_whole n r.0 r.2 _ h.0 h.1 (λ i. expand_whole p k.1 m i r.1))
  expand_whole (len x p) k m n v =
      when_bind _ (any_outcome (amount a x v))
      (λ j _. adding_whole n (marked (expanded_mark m) (decimal j)) false _ (marked_whole (expanded_mark m) (decimal j)) refl (λ i. expand_whole p k m i v))
  expand_whole (lst s p) k m n v = clash k.0
  expand_whole (ari q p) k m n v =
      when_bind _ (expand_whole q k.0 Q 0 v)
      (λ r h. when_bind _ (any_outcome (arithmetic_of a r.1 (bytes r.0)))
      (λ t _. adding_whole n (marked (expanded_mark m) t.0) false _ (marked_whole (expanded_mark m) t.0) refl (λ i. expand_whole p k.1 m i t.1)))
  expand_whole (til x p) k m n v =
      adding_whole n (tilde_row x m (directory v a.homes x)) false _ (tilde_whole x m (directory v a.homes x)) refl (λ i. expand_whole p k m i v)

  -- so the operand of a `=`, a `?` or a removal has none, nor an arithmetic text, at any depth of what is read
  pub operand_whole : (l : Lists) (x : Param) (f : Form) (q p : Parts) → lets f ≡ barred → Allowed l (par x f q p) → (m : Mark) (n : ℕ) (v : Pairs)
      → When Whole (expand a q m n v)
  operand_whole l x f q p e k m n v =
      expand_whole q (allowed_in (both l (lets f)) barred (λ h. clash (rw e at (both_served l (lets f) h).1)) q k.0) m n v

  pub sum_whole : (l : Lists) (q p : Parts) → Allowed l (ari q p) → (m : Mark) (n : ℕ) (v : Pairs) → When Whole (expand a q m n v)
  sum_whole l q p k m n v = expand_whole q k.0 m n v

reads_done : {l : Lists} {r : Taken} {p : Parts × Text} → Reads l r → r ≡ done p → Allowed l p.0
reads_done refuses e = absurd (never (sym e))
reads_done {l = l} {p = p} (gives {p = q} k) e = let h : q ≡ p = done_same e in rw (← h) k

-- E9: "`$@` and `$*` in values are 10": the row of a value has none, whatever is lent
pub value_whole : (a : Lent) (s : Start) (d : ℕ) (t : Text) (p : Parts × Text) → parts (aValue s) d t ≡ done p → (m : Mark) (n : ℕ) (v : Pairs)
    → When Whole (expand a p.0 m n v)
unfolding lists_in
value_whole a s d t p e m n v = expand_whole a p.0 (reads_done (parts_allowed (aValue s) d t) e) m n v
