-- Document 02, E10: what a text stores to in arithmetic is a name, wherever the assignment stands in the tree that the text is read as. The reader goes on at
-- what is shorter, and a name's token is a name.
use Prim.Native.Nat.{ℕ, zero, suc, ◌≤◌, ◌<◌}
use native.Mathlib.Omega.{arith}
use mathlib.Core.Path.{◌≡◌, refl, sym, subst}
use mathlib.Core.Bool.{Bool, true, false, ◌&&◌}
use mathlib.Core.List.{[], ◌∷◌}
use mathlib.Core.Option.{Option, none, some}
use lib.Dec.{eqb, leb}
use lib.IntN.{pos}
use lib.ListN.{length}
use Rattle.stages.specs.Recur.{by_size}
use Rattle.stages.specs.Numbers.{open_limit}
use Rattle.stages.specs.Bytes.{Text, span, is_name_start, is_name_byte}
use Rattle.stages.specs.Outcome.{refused, demands, done, ◌>>=◌}
use Rattle.stages.specs.Images.{is_name}
use Rattle.stages.specs.Constants.{constant}
use Rattle.stages.specs.Arith.{Op, level, is_sign, whole_level, choice_level, End, stop, shuts, colon, Token, ends, num, name, op, opens, query, gets}
use Rattle.stages.specs.Arith.{Lexed, Spellings, written, behind, spelled, token, Tree, constant_of, name_of, unary, binary, choice, assign, Grown, grown}
use Rattle.stages.specs.Arith.{Task, operand, further, expression, rank, ended, up_to, enclosed, sign, target_at, operand_at, choice_at, further_at}
use Rattle.stages.specs.Arith.{grow_step, grow_size, grow, tree}
use Rattle.stages.proofs.Bools.{no, and_left, and_right, and_both}
use Rattle.stages.proofs.Texts.{span_more, span_all, start_name_byte}
use Rattle.stages.proofs.Outcomes.{Sure, fails, comes, sure_bind, sure_choose, sure_where}
use Rattle.stages.proofs.Arith.{is_plain, fair, written_fair, number_sure, Lexes, lex_more, token_left, Leaves, none_left, some_left}
use Rattle.stages.proofs.Arith.{expression_left, up_to_left, grow_left, grow_eq}

-- a tree in which every name that is stored to is one
abbrev pub Named : Tree → Type 0
Named (constant_of z) = Unit {0}
Named (name_of x) = Unit {0}
Named (unary o l) = Named l
Named (binary o l r) = Named l × Named r
Named (choice c l r) = Named c × Named l × Named r
Named (assign o x r) = (is_name x ≡ true) × Named r

-- TOKENS

abbrev NamedToken : Token → Type 0
NamedToken (ends e) = Unit {0}
NamedToken (num z) = Unit {0}
NamedToken (name x) = is_name x ≡ true
NamedToken (op o) = Unit {0}
NamedToken opens = Unit {0}
NamedToken query = Unit {0}
NamedToken (gets o) = Unit {0}

plain_named : (k : Token) → is_plain k ≡ true → NamedToken k
plain_named (ends e) h = tt
plain_named (num z) h = tt
plain_named (name x) h = absurd (no h)
plain_named (op o) h = tt
plain_named opens h = tt
plain_named query h = tt
plain_named (gets o) h = tt

abbrev SureToken : Lexed → Type 0
SureToken o = Sure (λ p. NamedToken p.0) o

spelled_named : (l : Spellings) (t : Text) → fair l ≡ true → SureToken (spelled l t)
unfolding spelled
spelled_named [] t f = fails refl
spelled_named (r ∷ l) t f =
    let m : (is_plain r.1 && fair l) ≡ true = and_right (leb 1 (length r.0)) (is_plain r.1 && fair l) f in
    go (behind r.0 t) refl (plain_named r.1 (and_left (is_plain r.1) (fair l) m)) (spelled_named l t (and_right (is_plain r.1) (fair l) m))
  where
    go : (o : Option Text) → behind r.0 t ≡ o → NamedToken r.1 → SureToken (spelled l t) → SureToken (spelled (r ∷ l) t)
    go none e n h = rw (e, spelled) h
    go (some u) e n h = rw (e, spelled) (comes {a = (r.1, u)} n)

run_name : (b : ℕ) (t : Text) → is_name_start b ≡ true → is_name (span is_name_byte (b ∷ t)).0 ≡ true
unfolding is_name
run_name b t e = rw (span_more is_name_byte b t (start_name_byte b e)) (and_both e (span_all is_name_byte t))

pub token_named : (t : Text) → SureToken (token t)
unfolding token
token_named [] = comes {a = (ends stop, [])} tt
token_named (b ∷ t) =
    sure_choose _ _ _ (token_named t)
    (sure_choose _ _ _
    (sure_bind _ (number_sure pos (constant (span is_name_byte (b ∷ t)).0)) (λ z _. comes {a = (num z, (span is_name_byte (b ∷ t)).1)} tt))
    (sure_where (is_name_start b) _ _
    (λ e. comes {a = (name (span is_name_byte (b ∷ t)).0, (span is_name_byte (b ∷ t)).1)} (run_name b t e)) (spelled_named written (b ∷ t) written_fair)))

-- THE READER

-- refused, or such a tree
pub data Grows : Grown → Type 0 where
  no_tree : {e : ℕ} → Grows (refused e)
  a_tree : {p : Tree × Text} → Named p.0 → Grows (done p)

grown_named : (f : Tree → Tree) → ((l : Tree) → Named l → Named (f l)) → {r : Grown} → Grows r → Grows (grown f r)
grown_named f h no_tree = no_tree
grown_named f h (a_tree {p = p} w) = a_tree {p = (f p.0, p.1)} (h p.0 w)

ended_named : (e : End) (l : Tree) → Named l → (n : ℕ) (o : Lexed) → Lexes n o → Grows (o >>= λ s. ended e l s)
unfolding ended
ended_named e l w n (demands _) h = elim h [ ]
ended_named e l w n (refused i) h = no_tree
ended_named e l w n (done (ends i, u)) h = go (eqb (rank e) (rank i)) refl
  where
    go : (x : Bool) → eqb (rank e) (rank i) ≡ x → Grows (ended e l (ends i, u))
    go true q = rw (q, ended) (a_tree {p = (l, u)} w)
    go false q = rw (q, ended) no_tree
ended_named e l w n (done (num z, u)) h = no_tree
ended_named e l w n (done (name x, u)) h = no_tree
ended_named e l w n (done (op o, u)) h = no_tree
ended_named e l w n (done (opens, u)) h = no_tree
ended_named e l w n (done (query, u)) h = no_tree
ended_named e l w n (done (gets o, u)) h = no_tree

-- the tree that a task goes on from
abbrev NamedTask : Task → Type 0
NamedTask (operand b) = Unit {0}
NamedTask (further k l) = Named l

module _ (n : ℕ) (ih : (a : Task × ℕ × Text) → grow_size a < n → NamedTask a.0 → Grows (grow a)) where
  behind_operand : (d k i : ℕ) (r : Grown) → i < n → Leaves i r → Grows r → Grows (r >>= λ p. grow (further k p.0, d, p.1))
  behind_operand d k i (demands _) h l g = elim l [ ]
  behind_operand d k i (refused e) h l g = no_tree
  behind_operand d k i (done p) h (some_left l) (a_tree w) = ih (further k p.0, d, p.1) (omega arith) w

  expression_named : (d k : ℕ) (t : Text) → length t < n → Grows (expression grow d k t)
  expression_named d k t h =
      behind_operand d k (length t) (grow (operand (leb k whole_level), d, t)) h (grow_left (operand (leb k whole_level), d, t))
      (ih (operand (leb k whole_level), d, t) h tt)

  closed_named : (e : End) (r : Grown) → Grows r → Grows (r >>= λ q. token q.1 >>= λ s. ended e q.0 s)
  closed_named e (demands _) g = elim g [ ]
  closed_named e (refused i) g = no_tree
  closed_named e (done q) (a_tree w) = ended_named e q.0 w (length q.1) (token q.1) (token_left q.1)

  up_to_named : (e : End) (d : ℕ) (t : Text) → length t < n → Grows (up_to e grow d t)
  unfolding up_to
  up_to_named e d t h = closed_named e (expression grow d whole_level t) (expression_named d whole_level t h)

  enclosed_named : (d : ℕ) (t : Text) → length t < n → Grows (enclosed grow d t)
  unfolding enclosed
  enclosed_named zero t h = no_tree
  enclosed_named (suc d) t h = up_to_named shuts d t h

  sign_named : (x : Bool) (o : Op) (d : ℕ) (t : Text) → length t < n → Grows (sign grow x o d t)
  unfolding sign
  sign_named false o d t h = no_tree
  sign_named true o zero t h = no_tree
  sign_named true o (suc d) t h = grown_named (unary o) (λ l w. w) (ih (operand false, d, t) h tt)

  target_named : (d : ℕ) (x t : Text) → is_name x ≡ true → (o : Lexed) → Lexes (length t) o → length t < n → Grows (o >>= λ p. target_at grow d x t p)
  unfolding target_at
  target_named d x t i (demands _) l h = elim l [ ]
  target_named d x t i (refused e) l h = no_tree
  target_named d x t i (done (ends e, u)) l h = a_tree {p = (name_of x, t)} tt
  target_named d x t i (done (num z, u)) l h = a_tree {p = (name_of x, t)} tt
  target_named d x t i (done (name y, u)) l h = a_tree {p = (name_of x, t)} tt
  target_named d x t i (done (op o, u)) l h = a_tree {p = (name_of x, t)} tt
  target_named d x t i (done (opens, u)) l h = a_tree {p = (name_of x, t)} tt
  target_named d x t i (done (query, u)) l h = a_tree {p = (name_of x, t)} tt
  target_named d x t i (done (gets o, u)) (lex_more l) h = grown_named (assign o x) (λ r w. (i, w)) (expression_named d whole_level u (omega arith))

  operand_named : (i : ℕ) (first : Bool) (d : ℕ) (o : Lexed) → Lexes i o → SureToken o → i ≤ n → Grows (o >>= λ p. operand_at grow first d p)
  unfolding operand_at
  operand_named i b d (demands _) l s h = elim l [ ]
  operand_named i b d (refused e) l s h = no_tree
  operand_named i b d (done (ends e, u)) l s h = no_tree
  operand_named i b d (done (num z, u)) l s h = a_tree {p = (constant_of z, u)} tt
  operand_named i false d (done (name x, u)) l s h = a_tree {p = (name_of x, u)} tt
  operand_named i true d (done (name x, u)) (lex_more l) (comes s) h = target_named d x u s (token u) (token_left u) (omega arith)
  operand_named i b d (done (op o, u)) (lex_more l) s h = sign_named (is_sign o) o d u (omega arith)
  operand_named i b d (done (opens, u)) (lex_more l) s h = enclosed_named d u (omega arith)
  operand_named i b d (done (query, u)) l s h = no_tree
  operand_named i b d (done (gets o, u)) l s h = no_tree

  other_named : (d i : ℕ) (l : Tree) → Named l → (r : Grown) → i < n → Leaves i r → Grows r
      → Grows (r >>= λ a. grown (choice l a.0) (expression grow d choice_level a.1))
  other_named d i l w (demands _) h m g = elim m [ ]
  other_named d i l w (refused e) h m g = no_tree
  other_named d i l w (done a) h (some_left m) (a_tree g) =
      grown_named (choice l a.0) (λ r k. (w, g, k)) (expression_named d choice_level a.1 (omega arith))

  choice_named : (d : ℕ) (l : Tree) (t : Text) → Named l → length t < n → Grows (choice_at grow d l t)
  unfolding choice_at
  choice_named d l t w h =
      other_named d (length t) l w (up_to colon grow d t) h (up_to_left (suc (length t)) grow (λ a _. grow_left a) colon d t (omega arith))
      (up_to_named colon d t h)

  joined_named : (o : Op) (l : Tree) (d k i : ℕ) → Named l → (r : Grown) → i < n → Leaves i r → Grows r
      → Grows (r >>= λ q. grow (further k (binary o l q.0), d, q.1))
  joined_named o l d k i w (demands _) h m g = elim m [ ]
  joined_named o l d k i w (refused e) h m g = no_tree
  joined_named o l d k i w (done q) h (some_left m) (a_tree g) = ih (further k (binary o l q.0), d, q.1) (omega arith) (w, g)

  further_named : (d k : ℕ) (l : Tree) (t : Text) → Named l → (o : Lexed) → Lexes (length t) o → length t ≤ n → Grows (o >>= λ p. further_at grow d k l t p)
  unfolding further_at
  further_named d k l t w (demands _) m h = elim m [ ]
  further_named d k l t w (refused e) m h = no_tree
  further_named d k l t w (done (ends e, u)) m h = a_tree {p = (l, t)} w
  further_named d k l t w (done (num z, u)) m h = a_tree {p = (l, t)} w
  further_named d k l t w (done (name x, u)) m h = a_tree {p = (l, t)} w
  further_named d k l t w (done (op o, u)) (lex_more m) h = go (leb k (level o)) refl
    where
      go : (x : Bool) → leb k (level o) ≡ x → Grows (further_at grow d k l t (op o, u))
      go true e =
          rw (e, further_at)
          (joined_named o l d k (length u) w (expression grow d (suc (level o)) u) (omega arith)
          (expression_left (suc (length u)) grow (λ a _. grow_left a) d (suc (level o)) u (omega arith)) (expression_named d (suc (level o)) u (omega arith)))
      go false e = rw (e, further_at) (a_tree {p = (l, t)} w)
  further_named d k l t w (done (opens, u)) m h = a_tree {p = (l, t)} w
  further_named d k l t w (done (query, u)) (lex_more m) h = go (leb k choice_level) refl
    where
      go : (x : Bool) → leb k choice_level ≡ x → Grows (further_at grow d k l t (query, u))
      go true e = rw (e, further_at) (choice_named d l u w (omega arith))
      go false e = rw (e, further_at) (a_tree {p = (l, t)} w)
  further_named d k l t w (done (gets o, u)) m h = a_tree {p = (l, t)} w

  step_named : (a : Task × ℕ × Text) → grow_size a ≤ n → NamedTask a.0 → Grows (grow_step grow a)
  unfolding grow_step
  step_named (operand b, d, t) h w = operand_named (length t) b d (token t) (token_left t) (token_named t) h
  step_named (further k l, d, t) h w = further_named d k l t w (token t) (token_left t) h

abbrev Right : Task × ℕ × Text → Type 0
Right a = NamedTask a.0 → Grows (grow a)

pub grow_named : (a : Task × ℕ × Text) → NamedTask a.0 → Grows (grow a)
grow_named a = by_size grow_size Right one a
  where
    one : (a : Task × ℕ × Text) → ((b : Task × ℕ × Text) → grow_size b < grow_size a → Right b) → Right a
    one a ih w = subst Grows (sym (grow_eq a)) (step_named (grow_size a) ih a (omega arith) w)

tree_of : {n : ℕ} {r : Grown} → Leaves n r → Grows r → Sure (λ p. Named p.0) r
tree_of (none_left w) g = fails w
tree_of (some_left l) (a_tree w) = comes w

-- THE LAW: a text is refused in reading, or its tree stores to names alone
pub tree_named : (t : Text) → Sure Named (tree t)
unfolding tree
tree_named t =
    sure_bind (λ p. done p.0)
    (tree_of (up_to_left (suc (length t)) grow (λ a _. grow_left a) stop open_limit t (omega arith))
    (up_to_named (suc (length t)) (λ a _ w. grow_named a w) stop open_limit t (omega arith)))
    (λ p w. comes w)
