-- Document 02, E8: one thing worked out twice, under variables that differ in IFS alone. Where both come to a result it is the same, and the variables behind
-- it differ in IFS alone again. Here: how that goes on through outcomes, and that it holds of stores and of arithmetic without the name.
use Prim.Native.Nat.{ℕ}
use mathlib.Core.Path.{◌≡◌, refl}
use mathlib.Core.Bool.{Bool, true, false, ◌&&◌}
use mathlib.Core.List.{◌++◌}
use mathlib.Core.Option.{Option, none, some}
use lib.Dec.{leb}
use lib.ListN.{length}
use lib.IntN.{ℤ}
use borrow.Author.Tests.{not-true}
use Rattle.stages.specs.Numbers.{image_limit}
use Rattle.stages.specs.Bytes.{Text, text, eq_text}
use Rattle.stages.specs.Outcome.{Outcome, refused, demands, done, ◌>>=◌, choose}
use Rattle.stages.specs.Images.{Pairs, lookup, stored, flat, image_length}
use Rattle.stages.specs.Units.{Row, fit}
use Rattle.stages.specs.Constants.{valued, signed}
use Rattle.stages.specs.Arith.{is_true, Op, early, apply, apply_alone, Tree, constant_of, name_of, unary, binary, choice, assign, tree}
use Rattle.stages.specs.Arith.{Evaluated, with_variables, unless, name_number, value_of, updated, keeping, storing, evaluate, arithmetic_of}
use Rattle.stages.specs.Params.{Lent, holding, or_shout, store, store_in}
use Rattle.stages.specs.Expand.{Made, onto, adding}
use Rattle.stages.specs.Together.{other_name, other_names, other_tree}
use Rattle.stages.proofs.Bools.{either, and_left, and_right}
use Rattle.stages.proofs.ButIFS.{Alike, alike_stored}

-- OUTCOMES

-- without a result
pub data Stops {A : Type 0} : Outcome A → Type 0 where
  refuses : {n : ℕ} → Stops (refused n)
  asks : {t : Text} → Stops (demands t)

stops_bind : {A B : Type 0} {o : Outcome A} (f : A → Outcome B) → Stops o → Stops (o >>= f)
stops_bind f refuses = refuses
stops_bind f asks = asks

-- two outcomes: P holds of the results, where there are two
pub data Both {A : Type 0} (P : A → A → Type 0) : Outcome A → Outcome A → Type 0 where
  one_stops : {o u : Outcome A} → Stops o → Both P o u
  other_stops : {o u : Outcome A} → Stops u → Both P o u
  both_give : {a b : A} → P a b → Both P (done a) (done b)

-- the same result, which C holds of, and variables that are alike
pub data Agree {A : Type 0} (C : A → Type 0) : A × Pairs → A × Pairs → Type 0 where
  agrees : {a : A} {v w : Pairs} → C a → Alike v w → Agree C (a, v) (a, w)

-- the same of rows, in which no `$@` of none came
pub data Makes (C : Row → Type 0) : Row × Pairs × Bool → Row × Pairs × Bool → Type 0 where
  makes : {r : Row} {v w : Pairs} → C r → Alike v w → Makes C (r, v, false) (r, w, false)

abbrev pub Any : {A : Type 0} → A → Type 0
Any a = Unit {0}

module _ {A B : Type 0} {P : B → B → Type 0} where
  pub both_bind : {R : A → A → Type 0} {o u : Outcome A} (f g : A → Outcome B) → Both R o u → ((a b : A) → R a b → Both P (f a) (g b))
      → Both P (o >>= f) (u >>= g)
  both_bind f g (one_stops s) h = one_stops (stops_bind f s)
  both_bind f g (other_stops s) h = other_stops (stops_bind g s)
  both_bind f g (both_give {a = a} {b = b} r) h = h a b r

  -- one outcome, used twice
  pub both_from : (o : Outcome A) (f g : A → Outcome B) → ((a : A) → Both P (f a) (g a)) → Both P (o >>= f) (o >>= g)
  both_from (refused n) f g h = one_stops refuses
  both_from (demands t) f g h = one_stops asks
  both_from (done a) f g h = h a

  pub agree_bind : {C : A → Type 0} {o u : Outcome (A × Pairs)} (f g : A × Pairs → Outcome B) → Both (Agree C) o u
      → ((a : A) (v w : Pairs) → C a → Alike v w → Both P (f (a, v)) (g (a, w))) → Both P (o >>= f) (u >>= g)
  agree_bind f g (one_stops s) h = one_stops (stops_bind f s)
  agree_bind f g (other_stops s) h = other_stops (stops_bind g s)
  agree_bind f g (both_give (agrees {a = a} {v = v} {w = w} c k)) h = h a v w c k

module _ {B : Type 0} {P : B → B → Type 0} where
  pub makes_bind : {C : Row → Type 0} {o u : Made} (f g : Row × Pairs × Bool → Outcome B) → Both (Makes C) o u
      → ((r : Row) (v w : Pairs) → C r → Alike v w → Both P (f (r, v, false)) (g (r, w, false))) → Both P (o >>= f) (u >>= g)
  makes_bind f g (one_stops s) h = one_stops (stops_bind f s)
  makes_bind f g (other_stops s) h = other_stops (stops_bind g s)
  makes_bind f g (both_give (makes {r = r} {v = v} {w = w} c k)) h = h r v w c k

pub makes_weaker : {C D : Row → Type 0} {o u : Made} → ((r : Row) → C r → D r) → Both (Makes C) o u → Both (Makes D) o u
makes_weaker f (one_stops s) = one_stops s
makes_weaker f (other_stops s) = other_stops s
makes_weaker f (both_give (makes {r = r} c k)) = both_give (makes (f r c) k)

-- what is expanded behind a row
pub onto_both : {C D : Row → Type 0} (r : Row) {o u : Made} → ((s : Row) → C s → D (r ++ s)) → Both (Makes C) o u
    → Both (Makes D) (onto r false o) (onto r false u)
onto_both r f b = makes_bind _ _ b (λ s v w c k. both_give (makes (f s c) k))

pub adding_both : {C D : Row → Type 0} (n : ℕ) (r : Row) (more others : ℕ → Made) → ((s : Row) → C s → D (r ++ s))
    → ((i : ℕ) → Both (Makes C) (more i) (others i)) → Both (Makes D) (adding n r false more) (adding n r false others)
unfolding fit
adding_both n r more others f b = both_from (fit n (length r)) (λ i. onto r false (more i)) (λ i. onto r false (others i)) (λ i. onto_both r f (b i))

-- the same result
abbrev pub Same : {A : Type 0} → A → A → Type 0
Same a b = a ≡ b

pub both_same : {A : Type 0} (o : Outcome A) → Both Same o o
both_same (refused n) = one_stops refuses
both_same (demands t) = one_stops asks
both_same (done a) = both_give refl

pub same_bind : {A B : Type 0} {P : B → B → Type 0} {o u : Outcome A} (f g : A → Outcome B) → Both Same o u → ((a : A) → Both P (f a) (g a))
    → Both P (o >>= f) (u >>= g)
same_bind f g b h = both_bind f g b (λ x y e. rw e (h y))

-- E14: what is looked up is the same, wherever the switches let it be
pub shout_both : (s z : Bool) (o : Option Text) → Both Same (or_shout s o) (or_shout z o)
unfolding or_shout
shout_both false false o = both_give refl
shout_both false true none = other_stops refuses
shout_both false true (some t) = both_give refl
shout_both true z none = one_stops refuses
shout_both true false (some t) = both_give refl
shout_both true true (some t) = both_give refl

-- STORES

-- a buffer may be too short for one of them
pub store_both : (room other : ℕ) (x t : Text) (v w : Pairs) → Alike v w → Both Alike (store room x t v) (store other x t w)
unfolding store
store_both room other x t v w k =
    either (leb (image_length (flat (stored x t v))) room && leb (image_length (flat (stored x t v))) image_limit)
    (λ e. either (leb (image_length (flat (stored x t w))) other && leb (image_length (flat (stored x t w))) image_limit)
    (λ d. rw (e, store, d, store) (both_give (alike_stored x t v w k)))
    (λ d. rw (d, store) (other_stops refuses)))
    (λ e. rw (e, store) (one_stops refuses))

-- ARITHMETIC

pub other_name_lem : (x : Text) → other_name x ≡ true → eq_text x (text "IFS") ≡ false
unfolding other_name
other_name_lem x n = not-true (eq_text x (text "IFS")) n

with_both : (v w : Pairs) → Alike v w → {o u : Outcome ℤ} → Both Same o u → Both (Agree Any) (with_variables v o) (with_variables w u)
with_both v w k b = same_bind _ _ b (λ z. both_give (agrees tt k))

unless_both : (o : Option ℤ) (v w : Pairs) (more others : Unit {0} → Evaluated) → Alike v w → Both (Agree Any) (more tt) (others tt)
    → Both (Agree Any) (unless o v more) (unless o w others)
unless_both none v w more others k b = b
unless_both (some z) v w more others k b = both_give (agrees tt k)

choose_both : (x : Bool) (f g h i : Unit {0} → Evaluated) → Both (Agree Any) (f tt) (h tt) → Both (Agree Any) (g tt) (i tt)
    → Both (Agree Any) (choose x f g) (choose x h i)
unfolding choose
choose_both true f g h i a b = a
choose_both false f g h i a b = b

-- with room for more variables in one than in the other
module _ (a b : Lent) where
  value_both : (x : Text) → other_name x ≡ true → (v w : Pairs) → Alike v w → Both Same (value_of a v x) (value_of b w x)
  unfolding value_of name_number holding
  value_both x n v w k = rw (k x (other_name_lem x n)) (same_bind _ _ (shout_both a.shouts b.shouts (lookup x w)) (λ t. both_same (valued t)))

  updated_both : (o : Option Op) (x : Text) → other_name x ≡ true → (z : ℤ) (v w : Pairs) → Alike v w → Both Same (updated a v o x z) (updated b w o x z)
  unfolding updated
  updated_both none x n z v w k = both_give refl
  updated_both (some o) x n z v w k = same_bind _ _ (value_both x n v w k) (λ y. both_same (apply o y z))

  keeping_both : (x : Text) (z : ℤ) (v w : Pairs) → Alike v w → Both (Agree Any) (keeping a x v z) (keeping b x w z)
  unfolding keeping store_in
  keeping_both x z v w k = both_bind _ _ (store_both a.room b.room x (signed z) v w k) (λ i j l. both_give (agrees tt l))

  storing_both : (o : Option Op) (x : Text) → other_name x ≡ true → (z : ℤ) (v w : Pairs) → Alike v w
      → Both (Agree Any) (storing a o x (z, v)) (storing b o x (z, w))
  unfolding storing
  storing_both o x n z v w k = same_bind _ _ (updated_both o x n z v w k) (λ y. keeping_both x y v w k)

  evaluate_both : (e : Tree) → other_names e ≡ true → (v w : Pairs) → Alike v w → Both (Agree Any) (evaluate a v e) (evaluate b w e)
  unfolding evaluate other_names
  evaluate_both (constant_of z) n v w k = both_give (agrees tt k)
  evaluate_both (name_of x) n v w k = with_both v w k (value_both x n v w k)
  evaluate_both (unary o l) n v w k = agree_bind _ _ (evaluate_both l n v w k) (λ z i j _ m. with_both i j m (both_same (apply_alone o z)))
  evaluate_both (binary o l r) n v w k =
      agree_bind _ _ (evaluate_both l (and_left (other_names l) (other_names r) n) v w k)
      (λ x i j _ m. unless_both (early o x) i j _ _ m
      (agree_bind _ _ (evaluate_both r (and_right (other_names l) (other_names r) n) i j m) (λ y i j _ m. with_both i j m (both_same (apply o x y)))))
  evaluate_both (choice c l r) n v w k =
      let d : (other_names l && other_names r) ≡ true = and_right (other_names c) (other_names l && other_names r) n in
      agree_bind _ _ (evaluate_both c (and_left (other_names c) (other_names l && other_names r) n) v w k)
      (λ z i j _ m. choose_both (is_true z) _ _ _ _ (evaluate_both l (and_left (other_names l) (other_names r) d) i j m)
      (evaluate_both r (and_right (other_names l) (other_names r) d) i j m))
  evaluate_both (assign o x r) n v w k =
      agree_bind _ _ (evaluate_both r (and_right (other_name x) (other_names r) n) v w k)
      (λ z i j _ m. storing_both o x (and_left (other_name x) (other_names r) n) z i j m)

  tree_both : (o : Outcome Tree) → other_tree o ≡ true → (v w : Pairs) → Alike v w
      → Both (Agree {A = Text} Any) (o >>= λ e. evaluate a v e >>= λ p. done (signed p.0, p.1))
      (o >>= λ e. evaluate b w e >>= λ p. done (signed p.0, p.1))
  unfolding other_tree
  tree_both (refused i) n v w k = one_stops refuses
  tree_both (demands t) n v w k = one_stops asks
  tree_both (done e) n v w k = agree_bind _ _ (evaluate_both e n v w k) (λ z i j _ m. both_give (agrees tt m))

  pub arithmetic_both : (t : Text) → other_tree (tree t) ≡ true → (v w : Pairs) → Alike v w → Both (Agree Any) (arithmetic_of a v t) (arithmetic_of b w t)
  unfolding arithmetic_of
  arithmetic_both t n v w k = tree_both (tree t) n v w k
