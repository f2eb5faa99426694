-- Document 02, E8: parts that hold no list, do not mention IFS and have only literal arithmetic texts, expanded twice under variables that differ in IFS alone.
-- The row is the same wherever there are two, and in quotes it is quiet.
use Prim.Native.Nat.{ℕ, ◌+◌}
use Prim.Native.Char.{code}
use mathlib.Core.Path.{◌≡◌, refl, sym, ap, ◌∙◌}
use mathlib.Core.Bool.{true, false, ◌&&◌}
use mathlib.Core.List.{[], ◌∷◌, ◌++◌}
use mathlib.Core.Option.{Option, none, some}
use lib.ListN.{length}
use Rattle.stages.specs.Bytes.{Text, text}
use Rattle.stages.specs.Images.{Pairs, push, is_some, or_empty}
use Rattle.stages.specs.Syntax.{Colon, Side, Reach, Form, plain, minus, equals, query, plus, removal, Escape, escaped, unescaped}
use Rattle.stages.specs.Syntax.{Param, var, nth, Counted, bytes_of, parameters, Parts, end, lit, quo, par, len, lst, ari, til}
use Rattle.stages.specs.Units.{Mark, L, E, Q, cell, N, Row, marked, bytes, expanded_mark, lit_mark, fit, decimal}
use Rattle.stages.specs.Arith.{tree}
use Rattle.stages.specs.Pattern.{pattern, for_removal}
use Rattle.stages.specs.Removal.{removed}
use Rattle.stages.specs.Params.{Lent, holding, value, sought, missing, absent, store_in}
use Rattle.stages.specs.Expand.{Made, given, assigned, demand, cut_by, parameter, in_quotes, amount, directory, tilde_row, expand}
use Rattle.stages.specs.Together.{everywhere, no_lists, no_ifs, plain_sums, literally, other_param, other_count, other_tree, other_text}
use Rattle.stages.proofs.Bools.{no, clash, some_same, either, and_left, and_right}
use Rattle.stages.proofs.Quiet.{Quiet, no_units, a_mark, a_byte, quiet_append, marked_quiet}
use Rattle.stages.proofs.ButIFS.{Alike}
use Rattle.stages.proofs.Alike.{Both, one_stops, refuses, asks, both_give, Makes, makes, both_bind, both_from, agree_bind, makes_bind, makes_weaker}
use Rattle.stages.proofs.Alike.{onto_both, adding_both, Same, same_bind, shout_both, store_both, other_name_lem, arithmetic_both}

-- PARTS

-- an arithmetic text without an expansion and without the name
pub record PlainSum (q : Parts) : Type 0 where
  pub bytes : Text
  pub literal : literally q ≡ some bytes
  pub other : other_tree (tree bytes) ≡ true

-- what may stand in quotes
abbrev pub Inside : Parts → Type 0
Inside end = Unit {0}
Inside (lit q b p) = Inside p
Inside (quo q p) = Inside q × Inside p
Inside (par x f q p) = (other_param x ≡ true) × Inside q × Inside p
Inside (len c p) = (other_count c ≡ true) × Inside p
Inside (lst s p) = ⊥
Inside (ari q p) = PlainSum q × Inside p
Inside (til x p) = Inside p

plain_sum : (q : Parts) (o : Option Text) → literally q ≡ o → is_some o ≡ true → other_text o ≡ true → PlainSum q
unfolding other_text
plain_sum q none e s n = absurd (no s)
plain_sum q (some t) e s n = record { bytes = t; literal = e; other = n }

-- the three clauses of the test that go everywhere
pub inside : (p : Parts) → everywhere no_lists p ≡ true → everywhere no_ifs p ≡ true → everywhere plain_sums p ≡ true → Inside p
unfolding everywhere
inside end l n s = tt
inside (lit q b p) l n s = inside p l n s
inside (quo q p) l n s = (
  inside q (and_left (everywhere no_lists q) (everywhere no_lists p) l) (and_left (everywhere no_ifs q) (everywhere no_ifs p) n)
      (and_left (everywhere plain_sums q) (everywhere plain_sums p) s),
  inside p (and_right (everywhere no_lists q) (everywhere no_lists p) l) (and_right (everywhere no_ifs q) (everywhere no_ifs p) n)
      (and_right (everywhere plain_sums q) (everywhere plain_sums p) s),
)
inside (par x f q p) l n s =
    let m : (everywhere no_ifs q && everywhere no_ifs p) ≡ true = and_right (other_param x) (everywhere no_ifs q && everywhere no_ifs p) n in (
      and_left (other_param x) (everywhere no_ifs q && everywhere no_ifs p) n,
      inside q (and_left (everywhere no_lists q) (everywhere no_lists p) l) (and_left (everywhere no_ifs q) (everywhere no_ifs p) m)
          (and_left (everywhere plain_sums q) (everywhere plain_sums p) s),
      inside p (and_right (everywhere no_lists q) (everywhere no_lists p) l) (and_right (everywhere no_ifs q) (everywhere no_ifs p) m)
          (and_right (everywhere plain_sums q) (everywhere plain_sums p) s),
    )
inside (len c p) l n s = (and_left (other_count c) (everywhere no_ifs p) n, inside p l (and_right (other_count c) (everywhere no_ifs p) n) s)
inside (lst t p) l n s = absurd (no l)
inside (ari q p) l n s =
    let m : (everywhere no_ifs q && everywhere no_ifs p) ≡ true = and_right (other_text (literally q)) (everywhere no_ifs q && everywhere no_ifs p) n in
    let r : (everywhere plain_sums q && everywhere plain_sums p) ≡ true =
    and_right (is_some (literally q)) (everywhere plain_sums q && everywhere plain_sums p) s in (
      plain_sum q (literally q) refl (and_left (is_some (literally q)) (everywhere plain_sums q && everywhere plain_sums p) s)
          (and_left (other_text (literally q)) (everywhere no_ifs q && everywhere no_ifs p) n),
      inside p (and_right (everywhere no_lists q) (everywhere no_lists p) l) (and_right (everywhere no_ifs q) (everywhere no_ifs p) m)
          (and_right (everywhere plain_sums q) (everywhere plain_sums p) r),
    )
inside (til x p) l n s = inside p l n s

-- ROWS

-- a row whose literal bytes have the mark: in quotes it is quiet
abbrev pub Within : Mark → Row → Type 0
Within L r = Unit {0}
Within E r = Unit {0}
Within Q r = Quiet r

within_quiet : (m : Mark) (r : Row) → Quiet r → Within m r
within_quiet L r q = tt
within_quiet E r q = tt
within_quiet Q r q = q

within_append : (m : Mark) (r s : Row) → Within m r → Within m s → Within m (r ++ s)
within_append L r s h k = tt
within_append E r s h k = tt
within_append Q r s h k = quiet_append h k

within_expanded : (m : Mark) (r : Row) → Within (expanded_mark m) r → Within m r
within_expanded L r h = tt
within_expanded E r h = tt
within_expanded Q r h = h

within_literal : (q : Escape) (m : Mark) (b : ℕ) (r : Row) → Within m r → Within m (cell (lit_mark q m) b ∷ r)
within_literal q L b r h = tt
within_literal q E b r h = tt
within_literal escaped Q b r h = a_byte h
within_literal unescaped Q b r h = a_byte h

within_marked : (m : Mark) (t : Text) → Within m (marked (expanded_mark m) t)
within_marked L t = tt
within_marked E t = tt
within_marked Q t = marked_quiet t

within_tilde : (x : Text) (m : Mark) (o : Option Text) → Within m (tilde_row x m o)
unfolding tilde_row
within_tilde x m (some d) = within_quiet m (N ∷ marked Q d) (a_mark (marked_quiet d))
within_tilde x L none = tt
within_tilde x E none = tt
within_tilde x Q none = marked_quiet (code "~" ∷ x)

-- PARAMETERS

-- what is lent to both: the same homes and parameters, with room for more variables in one than in the other
pub record Shared (a b : Lent) : Type 0 where
  pub homes : a.homes ≡ b.homes
  pub params : a.params ≡ b.params

module _ (a b : Lent) (s : Shared a b) where
  pub directory_same : (x : Text) (v w : Pairs) → Alike v w → directory v a.homes x ≡ directory w b.homes x
  unfolding directory
  directory_same [] v w k = k (text "HOME") refl
  directory_same (c ∷ x) v w k = rw s.homes

  holding_same : (x : Param) → other_param x ≡ true → (v w : Pairs) → Alike v w → holding a v x ≡ holding b w x
  unfolding holding other_param
  holding_same (var x) n v w k = k x (other_name_lem x n)
  holding_same (nth i) n v w k = rw s.params

  value_same : (x : Param) → other_param x ≡ true → (v w : Pairs) → Alike v w → value a v x ≡ value b w x
  unfolding value
  value_same x n v w k = ap or_empty (holding_same x n v w k)

  sought_both : (x : Param) → other_param x ≡ true → (v w : Pairs) → Alike v w → Both Same (sought a v x) (sought b w x)
  unfolding sought
  sought_both x n v w k = rw (holding_same x n v w k) (shout_both a.shouts b.shouts (holding b w x))

  amount_both : (c : Counted) → other_count c ≡ true → (v w : Pairs) → Alike v w → Both Same (amount a c v) (amount b c w)
  unfolding amount other_count
  amount_both (bytes_of x) n v w k = same_bind _ _ (sought_both x n v w k) (λ t. both_give refl)
  amount_both parameters n v w k = both_give (ap length s.params)

  module _ (x : Param) (n : other_param x ≡ true) where
    missing_same : (c : Colon) (v w : Pairs) → Alike v w → missing a c x v ≡ missing b c x w
    unfolding missing
    missing_same c v w k = ap (absent c) (holding_same x n v w k)

    given_both : (m : Mark) (v w : Pairs) → Alike v w → Both (Makes (Within m)) (given a x m v) (given b x m w)
    given_both m v w k = rw (value_same x n v w k) (both_give (makes (within_marked m (value b w x)) k))

    assigned_both : (m : Mark) (r : Row) (v w : Pairs) → Alike v w → Both (Makes (Within m)) (assigned a x m (r, v, false)) (assigned b x m (r, w, false))
    unfolding assigned
    assigned_both m r v w k = both_bind _ _ (stores x) (λ i j l. given_both m i j l)
      where
        stores : (y : Param) → Both Alike (store_in a y (bytes r) v) (store_in b y (bytes r) w)
        stores (var y) = unfold store_in in store_both a.room b.room y (bytes r) v w k
        stores (nth i) = unfold store_in in one_stops refuses

    cut_both : (d : Side) (reach : Reach) (m : Mark) (r : Row) (v w : Pairs) → Alike v w
        → Both (Makes (Within m)) (cut_by a d reach x m (r, v, false)) (cut_by b d reach x m (r, w, false))
    unfolding cut_by
    cut_both d reach m r v w k =
        both_from (pattern for_removal r) _ _
        (λ es. rw (value_same x n v w k) (both_give (makes (within_marked m (removed d reach es (value b w x))) k)))

    module _ (q p : Mark → Pairs → Made) (h : (m : Mark) (v w : Pairs) → Alike v w → Both (Makes (Within m)) (q m v) (p m w)) where
      operand_both : (m : Mark) (v w : Pairs) → Alike v w → Both (Makes (Within m)) (q (expanded_mark m) v) (p (expanded_mark m) w)
      operand_both m v w k = makes_weaker (λ r c. within_expanded m r c) (h (expanded_mark m) v w k)

      parameter_both : (f : Form) (m : Mark) (v w : Pairs) → Alike v w → Both (Makes (Within m)) (parameter a q x f m v) (parameter b p x f m w)
      unfolding parameter
      parameter_both plain m v w k = same_bind _ _ (sought_both x n v w k) (λ t. both_give (makes (within_marked m t) k))
      parameter_both (minus c) m v w k =
          either (missing b c x w)
          (λ e. rw (missing_same c v w k ∙ e, parameter, e, parameter) (operand_both m v w k))
          (λ e. rw (missing_same c v w k ∙ e, parameter, e, parameter) (given_both m v w k))
      parameter_both (equals c) m v w k =
          either (missing b c x w)
          (λ e. rw (missing_same c v w k ∙ e, parameter, e, parameter)
          (makes_bind (λ r. assigned a x m r) (λ r. assigned b x m r) (h m v w k) (λ r i j _ l. assigned_both m r i j l)))
          (λ e. rw (missing_same c v w k ∙ e, parameter, e, parameter) (given_both m v w k))
      parameter_both (query c) m v w k =
          either (missing b c x w)
          (λ e. rw (missing_same c v w k ∙ e, parameter, e, parameter)
          (makes_bind (λ r. demand r) (λ r. demand r) (h m v w k) (λ r i j _ l. unfold demand in one_stops asks)))
          (λ e. rw (missing_same c v w k ∙ e, parameter, e, parameter) (given_both m v w k))
      parameter_both (plus c) m v w k =
          either (missing b c x w)
          (λ e. rw (missing_same c v w k ∙ e, parameter, e, parameter) (both_give (makes (within_quiet m [] no_units) k)))
          (λ e. rw (missing_same c v w k ∙ e, parameter, e, parameter) (operand_both m v w k))
      parameter_both (removal d reach) m v w k =
          same_bind _ _ (sought_both x n v w k) (λ _. makes_bind _ _ (h L v w k) (λ r i j _ l. cut_both d reach m r i j l))

  -- THE LAW

  -- a literal text: its own bytes
  literal_both : (q : Parts) (t : Text) → literally q ≡ some t → (m : Mark) (n : ℕ) (v w : Pairs) → Alike v w
      → Both (Makes (λ r. bytes r ≡ t)) (expand a q m n v) (expand b q m n w)
  unfolding literally expand bytes
  literal_both end t e m n v w k = both_give (makes (some_same e) k)
  literal_both (lit q c p) t e m n v w k = go (literally p) refl (λ u d i. literal_both p u d m i v w k)
    where
      go : (o : Option Text) → literally p ≡ o
          → ((u : Text) → literally p ≡ some u → (i : ℕ) → Both (Makes (λ r. bytes r ≡ u)) (expand a p m i v) (expand b p m i w))
          → Both (Makes (λ r. bytes r ≡ t)) (expand a (lit q c p) m n v) (expand b (lit q c p) m n w)
      go none d ih = absurd (clash (sym (ap (push c) d) ∙ e))
      go (some u) d ih =
          adding_both {C = λ r. bytes r ≡ u} n (cell (lit_mark q m) c ∷ []) _ _
          (λ z i. ap {B = Text} (λ y. c ∷ y) i ∙ some_same (sym (ap (push c) d) ∙ e)) (λ i. ih u d i)
  literal_both (quo q p) t e m n v w k = absurd (clash e)
  literal_both (par x f q p) t e m n v w k = absurd (clash e)
  literal_both (len x p) t e m n v w k = absurd (clash e)
  literal_both (lst x p) t e m n v w k = absurd (clash e)
  literal_both (ari q p) t e m n v w k = absurd (clash e)
  literal_both (til x p) t e m n v w k = absurd (clash e)

  pub expand_both : (p : Parts) → Inside p → (m : Mark) (n : ℕ) (v w : Pairs) → Alike v w → Both (Makes (Within m)) (expand a p m n v) (expand b p m n w)
  unfolding expand in_quotes
  expand_both end h m n v w k = both_give (makes (within_quiet m [] no_units) k)
  expand_both (lit q c p) h m n v w k =
      adding_both {C = Within m} n (cell (lit_mark q m) c ∷ []) _ _ (λ r i. within_literal q m c r i) (λ i. expand_both p h m i v w k)
  expand_both (quo q p) h m n v w k =
      both_from (fit n 1) _ _
      (λ i. makes_bind _ _ (expand_both q h.0 Q i v w k)
      (λ r v w c l. onto_both {C = Within m} (N ∷ r) (λ z d. within_append m (N ∷ r) z (within_quiet m (N ∷ r) (a_mark c)) d)
      (expand_both p h.1 m (n + length (N ∷ r)) v w l)))
  expand_both (par x f q p) h m n v w k =
      makes_bind _ _
      (parameter_both x h.0 (λ i v. expand a q i 0 v) (λ i w. expand b q i 0 w) (λ i v w l. expand_both q h.1 i 0 v w l) f m v w k)
      (λ r v w c l. adding_both {C = Within m} n r _ _ (λ z d. within_append m r z c d) (λ i. expand_both p h.2 m i v w l))
  expand_both (len c p) h m n v w k =
      same_bind _ _ (amount_both c h.0 v w k)
      (λ j. adding_both {C = Within m} n (marked (expanded_mark m) (decimal j)) _ _
      (λ z d. within_append m (marked (expanded_mark m) (decimal j)) z (within_marked m (decimal j)) d) (λ i. expand_both p h.1 m i v w k))
  expand_both (lst x p) h m n v w k = absurd h
  expand_both (ari q p) h m n v w k =
      makes_bind _ _ (literal_both q h.0.bytes h.0.literal Q 0 v w k)
      (λ r v w c l. rw c (agree_bind _ _ (arithmetic_both a b h.0.bytes h.0.other v w l)
      (λ t v w _ l. adding_both {C = Within m} n (marked (expanded_mark m) t) _ _
      (λ z d. within_append m (marked (expanded_mark m) t) z (within_marked m t) d) (λ i. expand_both p h.1 m i v w l))))
  expand_both (til x p) h m n v w k =
      let t : Row = tilde_row x m (directory w b.homes x) in
      rw (directory_same x v w k)
      (adding_both {C = Within m} n t _ _ (λ z d. within_append m t z (within_tilde x m (directory w b.homes x)) d) (λ i. expand_both p h m i v w k))
