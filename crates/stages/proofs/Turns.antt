-- Document 02, E6 and E10: reading a whole expression as a loop, with a count of the colons that are still to come in the place of a stack. Each turn of the
-- loop is a law.
use Prim.Native.Nat.{ℕ, zero, suc}
use mathlib.Core.Path.{◌≡◌, refl, ap, ◌∙◌}
use mathlib.Core.Bool.{true, false}
use mathlib.Core.Option.{Option}
use Rattle.stages.specs.Numbers.{arithmetic_syntax}
use Rattle.stages.specs.Bytes.{Text}
use Rattle.stages.specs.Outcome.{Outcome, refused, demands, done, ◌>>=◌}
use Rattle.stages.specs.Arith.{Op, whole_level, choice_level, stop, shuts, colon, Token, ends, num, name, op, opens, query, gets, Lexed, token}
use Rattle.stages.specs.Arith.{Tree, choice, assign, Grown, grown, operand, further, expression, ended, up_to, choice_at, grow}
use Rattle.stages.proofs.Storeys.{lowest, asked, upstairs, whole_storeys, choice_storeys}
use Rattle.stages.proofs.Ended.{assignment, NoTarget, choice_above, whole_above}

-- what is behind a tree
abbrev pub rest : Grown → Outcome Text
rest r = r >>= λ p. done p.1

rest_grown : (f : Tree → Tree) (r : Grown) → rest (grown f r) ≡ rest r
rest_grown f (refused e) = refl
rest_grown f (demands m) = refl
rest_grown f (done p) = refl

module _ (d : ℕ) where
  -- a colon, and the conditional behind it
  unfoldable pub other : Token × Text → Outcome Text
  other (ends stop, u) = refused arithmetic_syntax
  other (ends shuts, u) = refused arithmetic_syntax
  other (ends colon, u) = rest (expression grow d choice_level u)
  other (num z, u) = refused arithmetic_syntax
  other (name x, u) = refused arithmetic_syntax
  other (op o, u) = refused arithmetic_syntax
  other (opens, u) = refused arithmetic_syntax
  other (query, u) = refused arithmetic_syntax
  other (gets o, u) = refused arithmetic_syntax

  -- p colons are still to come
  unfoldable pub pending : ℕ → Outcome Text → Outcome Text
  pending zero o = o
  pending (suc p) o = pending p (o >>= λ t. token t >>= λ s. other s)

  pub pending_refused : (p e : ℕ) → pending p (refused e) ≡ refused e
  unfolding pending
  pending_refused zero e = refl
  pending_refused (suc p) e = pending_refused p e

  colon_there : (l m : Tree) (s : Token × Text)
      → rest (ended colon m s >>= λ a. grown (choice l a.0) (expression grow d choice_level a.1)) ≡ other s
  unfolding ended other
  colon_there l m (ends stop, u) = refl
  colon_there l m (ends shuts, u) = refl
  colon_there l m (ends colon, u) = rest_grown (choice l m) (expression grow d choice_level u)
  colon_there l m (num z, u) = refl
  colon_there l m (name x, u) = refl
  colon_there l m (op o, u) = refl
  colon_there l m (opens, u) = refl
  colon_there l m (query, u) = refl
  colon_there l m (gets o, u) = refl

  colon_next : (l m : Tree) (o : Lexed)
      → rest ((o >>= λ s. ended colon m s) >>= λ a. grown (choice l a.0) (expression grow d choice_level a.1)) ≡ (o >>= λ s. other s)
  colon_next l m (refused e) = refl
  colon_next l m (demands t) = refl
  colon_next l m (done s) = colon_there l m s

  middle_then : (l : Tree) (r : Grown)
      → rest ((r >>= λ q. token q.1 >>= λ s. ended colon q.0 s) >>= λ a. grown (choice l a.0) (expression grow d choice_level a.1))
      ≡ (rest r >>= λ t. token t >>= λ s. other s)
  middle_then l (refused e) = refl
  middle_then l (demands t) = refl
  middle_then l (done q) = colon_next l q.0 (token q.1)

  choice_rest : (l : Tree) (t : Text) → rest (choice_at grow d l t) ≡ (rest (expression grow d whole_level t) >>= λ u. token u >>= λ s. other s)
  unfolding choice_at up_to
  choice_rest l t = middle_then l (expression grow d whole_level t)

  -- The turns, behind a lower storey l that was read up to t, p colons being still to come:

  -- `?`: one more, and a whole expression
  pub turn_query : (p : ℕ) (l : Tree) (t u : Text) → token t ≡ done (query, u)
      → pending p (rest (upstairs d (l, t))) ≡ pending (suc p) (rest (expression grow d whole_level u))
  unfolding asked pending
  turn_query p l t u e = ap (λ (o : Lexed). pending p (rest (o >>= λ s. asked d l t s))) e ∙ ap (pending p) (choice_rest l u)

  -- `:` where one is to come: one less, and a conditional
  pub turn_colon : (p : ℕ) (l : Tree) (t u : Text) → token t ≡ done (ends colon, u)
      → pending (suc p) (rest (upstairs d (l, t))) ≡ pending p (rest (expression grow d choice_level u))
  unfolding asked pending other
  turn_colon p l t u e =
      ap (λ (o : Lexed). pending (suc p) (rest (o >>= λ s. asked d l t s))) e ∙ ap (λ (o : Lexed). pending p (o >>= λ s. other s)) e

  -- a name and `=` where a whole expression begins, with an operator before the `=` or without: as many, and a whole expression
  pub turn_gets : (p : ℕ) (o : Option Op) (x t v u : Text) → token t ≡ done (name x, v) → token v ≡ done (gets o, u)
      → pending p (rest (expression grow d whole_level t)) ≡ pending p (rest (expression grow d whole_level u))
  turn_gets p o x t v u e f =
      ap (λ (r : Grown). pending p (rest r)) (assignment d o x t v u e f) ∙ ap (pending p) (rest_grown (assign o x) (expression grow d whole_level u))

  -- THE LOOP'S START: a whole expression, or what is behind a colon, is an operand, the operators behind it, and then one of these turns
  pub begins_whole : (p : ℕ) (t : Text) → pending p (rest (expression grow d whole_level t))
      ≡ pending p (rest (grow (operand true, d, t) >>= λ q. grow (further lowest q.0, d, q.1) >>= upstairs d))
  begins_whole p t = ap (λ (r : Grown). pending p (rest r)) (go (grow (operand true, d, t)))
    where
      go : (r : Grown) → (r >>= λ q. grow (further whole_level q.0, d, q.1)) ≡ (r >>= λ q. grow (further lowest q.0, d, q.1) >>= upstairs d)
      go (refused e) = refl
      go (demands m) = refl
      go (done q) = whole_storeys d q.1 q.0

  pub begins_choice : (p : ℕ) (t : Text) → pending p (rest (expression grow d choice_level t))
      ≡ pending p (rest (grow (operand false, d, t) >>= λ q. grow (further lowest q.0, d, q.1) >>= upstairs d))
  begins_choice p t = ap (λ (r : Grown). pending p (rest r)) (go (grow (operand false, d, t)))
    where
      go : (r : Grown) → (r >>= λ q. grow (further choice_level q.0, d, q.1)) ≡ (r >>= λ q. grow (further lowest q.0, d, q.1) >>= upstairs d)
      go (refused e) = refl
      go (demands m) = refl
      go (done q) = choice_storeys d q.1 q.0

  -- the same with the lower storey as one expression, the whole one beginning with no name that a `=` follows
  pub above_whole : (p : ℕ) (t : Text) → NoTarget t → pending p (rest (expression grow d whole_level t))
      ≡ pending p (rest (expression grow d lowest t >>= upstairs d))
  above_whole p t bare = ap (λ (r : Grown). pending p (rest r)) (whole_above d t bare)

  pub above_choice : (p : ℕ) (t : Text) → pending p (rest (expression grow d choice_level t)) ≡ pending p (rest (expression grow d lowest t >>= upstairs d))
  above_choice p t = ap (λ (r : Grown). pending p (rest r)) (choice_above d t)
