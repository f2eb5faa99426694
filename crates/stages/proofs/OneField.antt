-- Document 02, E8: the row of a word that stays together is quiet and has a unit, so that nothing is split and no path is looked for. The word gives one field,
-- the same under variables that differ in IFS alone and under any paths.
use Prim.Native.Nat.{ℕ, ◌+◌}
use Prim.Native.Char.{code}
use mathlib.Core.Path.{◌≡◌, refl}
use mathlib.Core.Bool.{true, ◌&&◌}
use mathlib.Core.List.{List, [], ◌∷◌, ◌++◌}
use mathlib.Core.Option.{Option, none, some}
use lib.ListN.{length}
use borrow.Author.Tests.{not-true}
use Rattle.stages.specs.Bytes.{Text, text, is_in, all}
use Rattle.stages.specs.Outcome.{done, ◌>>=◌}
use Rattle.stages.specs.Images.{Pairs}
use Rattle.stages.specs.Syntax.{Escape, escaped, unescaped, Parts, end, lit, quo, par, len, lst, ari, til}
use Rattle.stages.specs.Units.{L, Q, cell, N, Row, marked, lit_mark, fit}
use Rattle.stages.specs.Params.{Lent}
use Rattle.stages.specs.Expand.{in_quotes, directory, tilde_row, expand}
use Rattle.stages.specs.Split.{fields_of_row}
use Rattle.stages.specs.Paths.{texts_of_fields}
use Rattle.stages.specs.Line.{Around, Fields, word_fields}
use Rattle.stages.specs.Together.{dollars_quoted, no_sign, no_bare_sign, signs_quoted, everywhere, no_lists, no_ifs, plain_sums, is_together}
use Rattle.stages.proofs.Bools.{no, and_left, and_right}
use Rattle.stages.proofs.Quiet.{Dull, dull_byte, Quiet, no_units, a_mark, a_byte, a_literal, quiet_append, marked_quiet, quiet_fields}
use Rattle.stages.proofs.Begun.{SomePart}
use Rattle.stages.proofs.ButIFS.{Alike}
use Rattle.stages.proofs.Alike.{Both, both_give, Agree, agrees, Makes, makes, both_from, makes_bind, onto_both, adding_both}
use Rattle.stages.proofs.AlikeRows.{Inside, inside, Shared, directory_same, expand_both}

-- PARTS

-- what may stand outside quotes
abbrev Outside : Parts → Type 0
Outside end = Unit {0}
Outside (lit q b p) = (no_bare_sign q b ≡ true) × Outside p
Outside (quo q p) = Inside q × Outside p
Outside (par x f q p) = ⊥
Outside (len c p) = ⊥
Outside (lst s p) = ⊥
Outside (ari q p) = ⊥
Outside (til x p) = (all no_sign x ≡ true) × Outside p

-- the clauses of the test
record Clauses (p : Parts) : Type 0 where
  dollars : dollars_quoted p ≡ true
  signs : signs_quoted p ≡ true
  lists : everywhere no_lists p ≡ true
  others : everywhere no_ifs p ≡ true
  sums : everywhere plain_sums p ≡ true

clauses : (p : Parts) → is_together p ≡ true → Clauses p
unfolding is_together
clauses p h =
    let i = and_right (dollars_quoted p) (signs_quoted p && (everywhere no_lists p && (everywhere no_ifs p && everywhere plain_sums p))) h in
    let j = and_right (signs_quoted p) (everywhere no_lists p && (everywhere no_ifs p && everywhere plain_sums p)) i in
    let k = and_right (everywhere no_lists p) (everywhere no_ifs p && everywhere plain_sums p) j in
    record {
      dollars = and_left (dollars_quoted p) (signs_quoted p && (everywhere no_lists p && (everywhere no_ifs p && everywhere plain_sums p))) h;
      signs = and_left (signs_quoted p) (everywhere no_lists p && (everywhere no_ifs p && everywhere plain_sums p)) i;
      lists = and_left (everywhere no_lists p) (everywhere no_ifs p && everywhere plain_sums p) j;
      others = and_left (everywhere no_ifs p) (everywhere plain_sums p) k;
      sums = and_right (everywhere no_ifs p) (everywhere plain_sums p) k;
    }

outside : (p : Parts) → Clauses p → Outside p
unfolding dollars_quoted signs_quoted everywhere
outside end c = tt
outside (lit q b p) c = (
  and_left (no_bare_sign q b) (signs_quoted p) c.signs,
  outside p (record {
    dollars = c.dollars;
    signs = and_right (no_bare_sign q b) (signs_quoted p) c.signs;
    lists = c.lists;
    others = c.others;
    sums = c.sums;
  }),
)
outside (quo q p) c = (
  inside q (and_left (everywhere no_lists q) (everywhere no_lists p) c.lists) (and_left (everywhere no_ifs q) (everywhere no_ifs p) c.others)
      (and_left (everywhere plain_sums q) (everywhere plain_sums p) c.sums),
  outside p (record {
    dollars = c.dollars;
    signs = c.signs;
    lists = and_right (everywhere no_lists q) (everywhere no_lists p) c.lists;
    others = and_right (everywhere no_ifs q) (everywhere no_ifs p) c.others;
    sums = and_right (everywhere plain_sums q) (everywhere plain_sums p) c.sums;
  }),
)
outside (par x f q p) c = absurd (no c.dollars)
outside (len x p) c = absurd (no c.dollars)
outside (lst s p) c = absurd (no c.dollars)
outside (ari q p) c = absurd (no c.dollars)
outside (til x p) c = (
  and_left (all no_sign x) (signs_quoted p) c.signs,
  outside p (record {
    dollars = c.dollars;
    signs = and_right (all no_sign x) (signs_quoted p) c.signs;
    lists = c.lists;
    others = c.others;
    sums = c.sums;
  }),
)

-- ROWS

abbrev SomeUnit : Row → Type 0
SomeUnit [] = ⊥
SomeUnit (c ∷ r) = Unit {0}

-- quiet, and a part gives a unit
abbrev Stands : Parts → Row → Type 0
Stands p r = Quiet r × (SomePart p → SomeUnit r)

dull_sign : (b : ℕ) → no_sign b ≡ true → Dull b
unfolding no_sign
dull_sign b e = dull_byte b (not-true (is_in b (text "*?[")) e)

literal_quiet : (q : Escape) (b : ℕ) (r : Row) → no_bare_sign q b ≡ true → Quiet r → Quiet (cell (lit_mark q L) b ∷ r)
unfolding no_bare_sign
literal_quiet escaped b r e h = a_byte h
literal_quiet unescaped b r e h = a_literal (dull_sign b e) h

login_quiet : (x : Text) → all no_sign x ≡ true → Quiet (marked L x)
unfolding marked
login_quiet [] e = no_units
login_quiet (b ∷ x) e = a_literal (dull_sign b (and_left (no_sign b) (all no_sign x) e)) (login_quiet x (and_right (no_sign b) (all no_sign x) e))

tilde_quiet : (x : Text) (o : Option Text) → all no_sign x ≡ true → Quiet (tilde_row x L o)
unfolding tilde_row marked
tilde_quiet x none e = a_literal (dull_byte (code "~") refl) (login_quiet x e)
tilde_quiet x (some d) e = a_mark (marked_quiet d)

tilde_unit : (x : Text) (o : Option Text) (r : Row) → SomeUnit (tilde_row x L o ++ r)
unfolding tilde_row marked
tilde_unit x none r = tt
tilde_unit x (some d) r = tt

row_both : (a b : Lent) → Shared a b → (p : Parts) → Outside p → (n : ℕ) (v w : Pairs) → Alike v w
    → Both (Makes (Stands p)) (expand a p L n v) (expand b p L n w)
unfolding expand in_quotes
row_both a b s end h n v w k = both_give (makes (no_units, λ t. t) k)
row_both a b s (lit q c p) h n v w k =
    adding_both {C = Stands p} n (cell (lit_mark q L) c ∷ []) _ _ (λ r i. (literal_quiet q c r h.0 i.0, λ _. tt))
    (λ i. row_both a b s p h.1 i v w k)
row_both a b s (quo q p) h n v w k =
    both_from (fit n 1) _ _
    (λ i. makes_bind _ _ (expand_both a b s q h.0 Q i v w k)
    (λ r v w c l. onto_both {C = Stands p} (N ∷ r) (λ z d. (a_mark (quiet_append c d.0), λ _. tt))
    (row_both a b s p h.1 (n + length (N ∷ r)) v w l)))
row_both a b s (par x f q p) h n v w k = absurd h
row_both a b s (len x p) h n v w k = absurd h
row_both a b s (lst x p) h n v w k = absurd h
row_both a b s (ari q p) h n v w k = absurd h
row_both a b s (til x p) h n v w k =
    let o : Option Text = directory w b.homes x in
    rw (directory_same a b s x v w k)
    (adding_both {C = Stands p} n (tilde_row x L o) _ _ (λ z d. (quiet_append (tilde_quiet x o h.0) d.0, λ _. tilde_unit x o z))
    (λ i. row_both a b s p h.1 i v w k))

-- FIELDS

pub data One : Fields → Type 0 where
  one : {t : Text} → One (t ∷ [])

one_both : (c d : List Text) (r : Row) (v w : Pairs) → Quiet r → SomeUnit r → Alike v w
    → Both (Agree One) (texts_of_fields c (fields_of_row v r) >>= λ l. done (l, v)) (texts_of_fields d (fields_of_row w r) >>= λ l. done (l, w))
one_both c d [] v w q u k = absurd u
one_both c d (z ∷ r) v w q u k = rw (quiet_fields c v q, quiet_fields d w q) (both_give (agrees one k))

-- THE LAW, of one word
pub fields_both : (a b : Around) → Shared a.lent b.lent → (p : Parts) → SomePart p → is_together p ≡ true → (v w : Pairs) → Alike v w
    → Both (Agree One) (word_fields a p v) (word_fields b p w)
unfolding word_fields
fields_both a b s p t h v w k =
    makes_bind _ _ (row_both a.lent b.lent s p (outside p (clauses p h)) 0 v w k)
    (λ r i j c l. one_both a.paths b.paths r i j c.0 (c.1 t) l)
