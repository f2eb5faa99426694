-- Laws of trees: a refusal of a left side is that of every tree that grows from it, and what a tree comes to asks of all that is lent for the room and the
-- switch alone.
use Prim.Native.Nat.{ℕ, suc, ◌≤◌, ◌<◌}
use native.Mathlib.Omega.{arith}
use mathlib.Core.Path.{◌≡◌, refl, sym, ap, ◌∙◌}
use mathlib.Core.Bool.{Bool, true, false}
use lib.Dec.{leb}
use mathlib.Core.Option.{Option, none, some}
use lib.IntN.{ℤ}
use lib.ListN.{length}
use borrow.Author.Tests.{lt-leb}
use Rattle.stages.specs.Recur.{by_size}
use Rattle.stages.specs.Bytes.{Text}
use Rattle.stages.specs.Outcome.{Outcome, refused, demands, done, ◌>>=◌, choose}
use Rattle.stages.specs.Images.{Pairs, lookup}
use Rattle.stages.specs.Params.{Lent, holding, store, store_in}
use Rattle.stages.specs.Constants.{signed}
use Rattle.stages.specs.Arith.{choice_level, is_true, early, apply, apply_alone, Op, ends, num, name, op, opens, query, gets, Lexed, token, level}
use Rattle.stages.specs.Arith.{Tree, constant_of, name_of, unary, binary, choice, assign, Grown, further, expression, further_at, grow_step, grow}
use Rattle.stages.specs.Arith.{Evaluated, with_variables, unless, name_number, value_of, updated, keeping, storing, evaluate}
use Rattle.stages.proofs.Arith.{Lexes, lex_more, token_left, Leaves, some_left, expression_left, grow_left, grow_eq}
use Rattle.stages.proofs.Outcomes.{done_same, never_asks}
use Rattle.stages.proofs.Storeys.{lowest}
use Rattle.arith_eval.specs.Wholes.{updated_in}

-- a refusal is no result
pub never : {A : Type 0} {e : ℕ} {a : A} → refused e ≡ done a → ⊥
never q = let z : ◌≡◌ {A = ℕ} 0 1 = cc in omega arith

-- what is bound to a result was worked out
pub record Bound {A B : Type 0} (r : Outcome A) (f : A → Outcome B) (b : B) : Type 0 where
  pub from : A
  pub first : r ≡ done from
  pub then_is : f from ≡ done b

pub bound : {A B : Type 0} (r : Outcome A) (f : A → Outcome B) (b : B) → (r >>= f) ≡ done b → Bound r f b
bound (refused e) f b q = absurd (never q)
bound (demands t) f b q = absurd (never_asks q)
bound (done a) f b q = record { from = a; first = refl; then_is = q }

-- working out

module _ (a : Lent) (v : Pairs) where
  right_of : Op → Tree → ℤ × Pairs → Evaluated
  right_of o r p = unless (early o p.0) p.1 λ _. evaluate a p.1 r >>= λ q. with_variables q.1 (apply o p.0 q.0)

  binary_is : (o : Op) (l r : Tree) → evaluate a v (binary o l r) ≡ (evaluate a v l >>= right_of o r)
  unfolding evaluate right_of
  binary_is o l r = refl

  pub left_refused : (o : Op) (l r : Tree) (e : ℕ) → evaluate a v l ≡ refused e → evaluate a v (binary o l r) ≡ refused e
  left_refused o l r e q = binary_is o l r ∙ ap (λ (x : Evaluated). x >>= right_of o r) q

  module _ (o : Op) (l r : Tree) (x : ℤ) (w : Pairs) (known : evaluate a v l ≡ done (x, w)) (opened : early o x ≡ none) where
    then_right : evaluate a v (binary o l r) ≡ (evaluate a w r >>= λ q. with_variables q.1 (apply o x q.0))
    unfolding right_of
    then_right = binary_is o l r ∙ ap (λ (y : Evaluated). y >>= right_of o r) known ∙ rw opened

    pub right_refused : (e : ℕ) → evaluate a w r ≡ refused e → evaluate a v (binary o l r) ≡ refused e
    right_refused e h = then_right ∙ ap (λ (y : Evaluated). y >>= λ q. with_variables q.1 (apply o x q.0)) h

    pub both_done : (y : ℤ) (u : Pairs) → evaluate a w r ≡ done (y, u) → evaluate a v (binary o l r) ≡ with_variables u (apply o x y)
    both_done y u h = then_right ∙ ap (λ (y : Evaluated). y >>= λ q. with_variables q.1 (apply o x q.0)) h

  pub unary_refused : (o : Op) (l : Tree) (e : ℕ) → evaluate a v l ≡ refused e → evaluate a v (unary o l) ≡ refused e
  unfolding evaluate
  unary_refused o l e q = ap (λ (x : Evaluated). x >>= λ p. with_variables p.1 (apply_alone o p.0)) q

  pub unary_done : (o : Op) (l : Tree) (x : ℤ) (w : Pairs) → evaluate a v l ≡ done (x, w) → evaluate a v (unary o l) ≡ with_variables w (apply_alone o x)
  unfolding evaluate
  unary_done o l x w q = ap (λ (x : Evaluated). x >>= λ p. with_variables p.1 (apply_alone o p.0)) q

  pub name_is : (x : Text) → evaluate a v (name_of x) ≡ with_variables v (name_number a.shouts (lookup x v))
  unfolding evaluate value_of holding
  name_is x = refl

  pub constant_is : (z : ℤ) → evaluate a v (constant_of z) ≡ done (z, v)
  unfolding evaluate
  constant_is z = refl

-- a store, by the room that is lent and the switch
unfoldable pub stores_by : ℕ → Bool → Option Op → Text → ℤ × Pairs → Evaluated
stores_by room shouts o x p = updated_in shouts p.1 o x p.0 >>= λ z. store room x (signed z) p.1 >>= λ w. done (z, w)

pub storing_is : (a : Lent) (o : Option Op) (x : Text) (p : ℤ × Pairs) → storing a o x p ≡ stores_by a.room a.shouts o x p
unfolding storing updated keeping store_in value_of holding stores_by
storing_is a none x p = refl
storing_is a (some o) x p = refl

bind_alike : {A B : Type 0} (r : Outcome A) (f g : A → Outcome B) → ((p : A) → f p ≡ g p) → (r >>= f) ≡ (r >>= g)
bind_alike (refused e) f g h = refl
bind_alike (demands t) f g h = refl
bind_alike (done p) f g h = h p

unless_alike : (e : Option ℤ) (v : Pairs) (f g : Unit {0} → Evaluated) → f tt ≡ g tt → unless e v f ≡ unless e v g
unless_alike none v f g h = h
unless_alike (some z) v f g h = refl

choose_alike : (x : Bool) (f g k m : Unit {0} → Evaluated) → f tt ≡ k tt → g tt ≡ m tt → choose x f g ≡ choose x k m
unfolding choose
choose_alike true f g k m h i = h
choose_alike false f g k m h i = i

-- THE LAW: of all that is lent only the room and the switch are asked for
module _ (a b : Lent) (same : a.room ≡ b.room) (alike : a.shouts ≡ b.shouts) where
  storing_alike : (o : Option Op) (x : Text) (p : ℤ × Pairs) → storing a o x p ≡ storing b o x p
  storing_alike o x p =
      storing_is a o x p ∙ ap (λ (n : ℕ). stores_by n a.shouts o x p) same ∙ ap (λ (s : Bool). stores_by b.room s o x p) alike
      ∙ sym (storing_is b o x p)

  pub evaluate_alike : (t : Tree) (v : Pairs) → evaluate a v t ≡ evaluate b v t
  unfolding evaluate value_of holding
  evaluate_alike (constant_of z) v = refl
  evaluate_alike (name_of x) v = ap (λ (s : Bool). with_variables v (name_number s (lookup x v))) alike
  evaluate_alike (unary o l) v = ap (λ (r : Evaluated). r >>= λ p. with_variables p.1 (apply_alone o p.0)) (evaluate_alike l v)
  evaluate_alike (binary o l r) v =
      ap (λ (x : Evaluated). x >>= λ p. unless (early o p.0) p.1 λ _. evaluate a p.1 r >>= λ q. with_variables q.1 (apply o p.0 q.0))
      (evaluate_alike l v)
      ∙ bind_alike (evaluate b v l) _ _ λ p.
      unless_alike (early o p.0) p.1 _ _ (ap (λ (x : Evaluated). x >>= λ q. with_variables q.1 (apply o p.0 q.0)) (evaluate_alike r p.1))
  evaluate_alike (choice c l r) v =
      ap (λ (x : Evaluated). x >>= λ p. choose (is_true p.0) (λ _. evaluate a p.1 l) (λ _. evaluate a p.1 r)) (evaluate_alike c v)
      ∙ bind_alike (evaluate b v c) _ _ λ p. choose_alike (is_true p.0) _ _ _ _ (evaluate_alike l p.1) (evaluate_alike r p.1)
  evaluate_alike (assign o x r) v =
      ap (λ (y : Evaluated). y >>= λ p. storing a o x p) (evaluate_alike r v) ∙ bind_alike (evaluate b v r) _ _ λ p. storing_alike o x p

-- a tree that grows from a left side

module _ (a : Lent) (v : Pairs) where
  -- the tree of what operators of the table make of l, at a text, fails where l does
  abbrev Failing : ℕ × ℕ × Tree × Text → Type 0
  Failing s = lowest ≤ s.1 → (p : Tree × Text) → grow (further s.1 s.2, s.0, s.3) ≡ done p → (e : ℕ) → evaluate a v s.2 ≡ refused e →
      evaluate a v p.0 ≡ refused e

  abbrev fail_size : ℕ × ℕ × Tree × Text → ℕ
  fail_size s = length s.3

  module _ (d k : ℕ) (l : Tree) (t : Text) (ih : (b : ℕ × ℕ × Tree × Text) → fail_size b < length t → Failing b) (high : lowest ≤ k) (p : Tree × Text)
      (e : ℕ) (bad : evaluate a v l ≡ refused e) where
    ends_here_lem : done (l, t) ≡ done p → evaluate a v p.0 ≡ refused e
    ends_here_lem q = rw (sym (done_same q)) bad

    goes_on : (o : Op) (u : Text) → length u < length t → (r : Grown) → Leaves (length u) r
        → (r >>= λ q. grow (further k (binary o l q.0), d, q.1)) ≡ done p → evaluate a v p.0 ≡ refused e
    goes_on o u h (refused n) w q = absurd (never q)
    goes_on o u h (demands _) w q = elim w [ ]
    goes_on o u h (done r) (some_left w) q = ih (d, k, binary o l r.0, r.1) (omega arith) high p q e (left_refused a v o l r.0 e bad)

    by_token : (o : Lexed) → Lexes (length t) o → (o >>= λ s. further_at grow d k l t s) ≡ done p → evaluate a v p.0 ≡ refused e
    unfolding further_at
    by_token (refused n) w q = absurd (never q)
    by_token (demands _) w q = elim w [ ]
    by_token (done (ends i, u)) w q = ends_here_lem q
    by_token (done (num z, u)) w q = ends_here_lem q
    by_token (done (name x, u)) w q = ends_here_lem q
    by_token (done (op o, u)) (lex_more w) q = go (leb k (level o)) refl
      where
        go : (x : Bool) → leb k (level o) ≡ x → evaluate a v p.0 ≡ refused e
        go true s =
            goes_on o u w (expression grow d (suc (level o)) u) (expression_left (suc (length u)) grow (λ b m. grow_left b) d (suc (level o)) u (omega arith))
            (rw (s, further_at) at q)
        go false s = ends_here_lem (rw (s, further_at) at q)
    by_token (done (opens, u)) w q = ends_here_lem q
    by_token (done (gets i, u)) w q = ends_here_lem q
    by_token (done (query, u)) w q = ends_here_lem (rw (lt-leb k choice_level (omega arith), further_at) at q)

  pub left_fails : (d k : ℕ) (l : Tree) (t : Text) → Failing (d, k, l, t)
  unfolding grow_step
  left_fails d k l t = by_size fail_size Failing one (d, k, l, t)
    where
      one : (s : ℕ × ℕ × Tree × Text) → ((b : ℕ × ℕ × Tree × Text) → fail_size b < fail_size s → Failing b) → Failing s
      one s ih high p q e bad =
          by_token s.0 s.1 s.2 s.3 ih high p e bad (token s.3) (token_left s.3) (sym (grow_eq (further s.1 s.2, s.0, s.3)) ∙ q)
