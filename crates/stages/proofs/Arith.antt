-- Laws of the arithmetic reader: it goes on by itself, at what is shorter, and is never stuck.
use Prim.Native.Nat.{ℕ, zero, suc, ◌+◌, ◌≤◌, ◌<◌}
use native.Mathlib.Omega.{arith}
use mathlib.Core.Path.{◌≡◌, refl, sym, ap, ◌∙◌}
use mathlib.Core.Bool.{Bool, true, false, ◌&&◌}
use mathlib.Core.List.{[], ◌∷◌}
use mathlib.Core.Option.{Option, none, some}
use lib.Dec.{eqb, leb}
use lib.IntN.{ℤ, pos}
use lib.ListN.{length, length-append}
use borrow.Author.Tests.{leb-true}
use Rattle.stages.specs.Recur.{below, below_ok, fix_eq, by_size}
use Rattle.stages.specs.Numbers.{too_deep, arithmetic_syntax}
use Rattle.stages.specs.Bytes.{Text, span, is_blank, is_digit, is_name_start, is_name_byte}
use Rattle.stages.specs.Outcome.{Outcome, refused, demands, done, ◌>>=◌, choose}
use Rattle.stages.specs.Constants.{constant, fits, ranged, number}
use Rattle.stages.specs.Arith.{Op, whole_level, choice_level, level, is_sign, End, stop, shuts, colon, Token, ends, num, name, op, opens, query, gets}
use Rattle.stages.specs.Arith.{Lexed, Spellings, written, behind, spelled, token, Tree, constant_of, name_of, unary, binary, choice, assign, Grown, grown}
use Rattle.stages.specs.Arith.{Task, operand, further, Grow, expression, rank, ended, up_to, enclosed, sign, target_at, operand_at, choice_at, further_at}
use Rattle.stages.specs.Arith.{grow_step, grow_size, grow}
use Rattle.stages.proofs.Bools.{no, or_right, and_left, and_right, clash, some_same}
use Rattle.stages.proofs.Texts.{start_name_byte, span_join, span_more}
use Rattle.stages.proofs.Outcomes.{is_fault, Sure, fails, comes}

pub digit_name_byte : (b : ℕ) → is_digit b ≡ true → is_name_byte b ≡ true
unfolding is_name_byte
digit_name_byte b e = or_right (is_name_start b) e

-- tokens

-- a token that is no end leaves less of a text of n bytes; no refusal is 0, the value of a reader that is stuck
pub data Lexes (n : ℕ) : Lexed → Type 0 where
  lex_refused : {e : ℕ} → is_fault e ≡ true → Lexes n (refused e)
  lex_end : {u : Text} → length u ≤ n → Lexes n (done (ends stop, u))
  lex_more : {k : Token} {u : Text} → length u < n → Lexes n (done (k, u))

-- refused with a number of the table, or done, whatever with
abbrev pub Numbered : {A : Type 0} → Outcome A → Type 0
Numbered o = Sure (λ a. Unit {0}) o

pub ranged_sure : (z : ℤ) → Numbered (ranged z)
unfolding ranged
ranged_sure z = go (fits z) refl
  where
    go : (x : Bool) → fits z ≡ x → Numbered (ranged z)
    go true e = rw (e, ranged) (comes tt)
    go false e = rw (e, ranged) (fails refl)

pub number_sure : (sign : ℕ → ℤ) (o : Option ℕ) → Numbered (number sign o)
unfolding number
number_sure sign none = fails refl
number_sure sign (some n) = ranged_sure (sign n)

module _ {n : ℕ} where
  lex_choose : (f g : Unit {0} → Lexed) (x : Bool) → (x ≡ true → Lexes n (f tt)) → (x ≡ false → Lexes n (g tt)) → Lexes n (choose x f g)
  unfolding choose
  lex_choose f g true h k = h refl
  lex_choose f g false h k = k refl

  lex_number : (u : Text) {o : Outcome ℤ} → length u < n → Numbered o → Lexes n (o >>= λ z. done (num z, u))
  lex_number u h (fails w) = lex_refused w
  lex_number u h (comes w) = lex_more h

lex_wider : {n : ℕ} {o : Lexed} → Lexes n o → Lexes (suc n) o
lex_wider (lex_refused w) = lex_refused w
lex_wider (lex_end {u = u} h) = lex_end {u = u} (omega arith)
lex_wider (lex_more {u = u} h) = lex_more {u = u} (omega arith)

lexes_short : {n : ℕ} {k : Token} {u : Text} → Lexes n (done (k, u)) → length u ≤ n
lexes_short (lex_end w) = w
lexes_short (lex_more w) = omega arith

-- what is behind a run
span_left : (f : ℕ → Bool) (t : Text) → length (span f t).1 ≤ length t
span_left f t = omega (arith, simp length-append at (ap length (span_join f t)))

span_shorter : (f : ℕ → Bool) (b : ℕ) (t : Text) → f b ≡ true → length (span f (b ∷ t)).1 < suc (length t)
span_shorter f b t e = rw (span_more f b t e) (omega (arith, span_left f t))

-- the table of spellings: none is empty, and none is a name or a constant
abbrev pub is_plain : Token → Bool
is_plain (ends e) = true
is_plain (num z) = false
is_plain (name x) = false
is_plain (op o) = true
is_plain opens = true
is_plain query = true
is_plain (gets o) = true

abbrev pub fair : Spellings → Bool
fair [] = true
fair (r ∷ l) = leb 1 (length r.0) && (is_plain r.1 && fair l)

pub written_fair : fair written ≡ true
unfolding written
written_fair = refl

pub behind_left : (s t u : Text) → behind s t ≡ some u → length s + length u ≡ length t
unfolding behind
behind_left [] t u e = let k : t ≡ u = some_same e in rw k (omega arith)
behind_left (c ∷ s) [] u e = absurd (clash e)
behind_left (c ∷ s) (b ∷ t) u e = go (eqb b c) refl (behind_left s t u)
  where
    go : (x : Bool) → eqb b c ≡ x → (behind s t ≡ some u → length s + length u ≡ length t) → length (c ∷ s) + length u ≡ length (b ∷ t)
    go true q h = omega (arith, h (sym (rw (q, behind)) ∙ e))
    go false q h = absurd (clash (sym (rw (q, behind)) ∙ e))

pub spelled_shorter : (s t u : Text) → leb 1 (length s) ≡ true → behind s t ≡ some u → length u < length t
spelled_shorter s t u l e = omega (arith, behind_left s t u e, leb-true 1 (length s) l)

lex_spelled : (l : Spellings) (t : Text) → fair l ≡ true → Lexes (length t) (spelled l t)
unfolding spelled
lex_spelled [] t f = lex_refused {e = arithmetic_syntax} refl
lex_spelled (r ∷ l) t f =
    go (behind r.0 t) refl (lex_spelled l t (and_right (is_plain r.1) (fair l) (and_right (leb 1 (length r.0)) (is_plain r.1 && fair l) f)))
  where
    go : (o : Option Text) → behind r.0 t ≡ o → Lexes (length t) (spelled l t) → Lexes (length t) (spelled (r ∷ l) t)
    go none e h = rw (e, spelled) h
    go (some u) e h = rw (e, spelled) (lex_more {u = u} (spelled_shorter r.0 t u (and_left (leb 1 (length r.0)) (is_plain r.1 && fair l) f) e))

pub token_left : (t : Text) → Lexes (length t) (token t)
unfolding token
token_left [] = lex_end {u = []} (omega arith)
token_left (b ∷ t) =
    lex_choose _ _ (is_blank b) (λ e. lex_wider (token_left t)) λ e.
    lex_choose _ _ (is_digit b)
    (λ d. lex_number (span is_name_byte (b ∷ t)).1 (span_shorter is_name_byte b t (digit_name_byte b d))
    (number_sure pos (constant (span is_name_byte (b ∷ t)).0))) λ e.
    lex_choose _ _ (is_name_start b) (λ s. lex_more (span_shorter is_name_byte b t (start_name_byte b s))) λ e. lex_spelled written (b ∷ t) written_fair

-- the reader is never stuck

-- at most n bytes are left
pub data Leaves (n : ℕ) : Grown → Type 0 where
  none_left : {e : ℕ} → is_fault e ≡ true → Leaves n (refused e)
  some_left : {p : Tree × Text} → length p.1 ≤ n → Leaves n (done p)

syntax_left : {n : ℕ} → Leaves n (refused arithmetic_syntax)
syntax_left = none_left {e = arithmetic_syntax} refl

deep_left : {n : ℕ} → Leaves n (refused too_deep)
deep_left = none_left {e = too_deep} refl

leaves_wider : {n k : ℕ} {r : Grown} → Leaves n r → n ≤ k → Leaves k r
leaves_wider (none_left w) h = none_left w
leaves_wider (some_left {p = p} l) h = some_left {p = p} (omega arith)

module _ (k : ℕ) (f : Grow) (good : (a : Task × ℕ × Text) → grow_size a < k → Leaves (grow_size a) (f a)) where
  behind_operand : (d j n : ℕ) (r : Grown) → n < k → Leaves n r → Leaves n (r >>= λ p. f (further j p.0, d, p.1))
  behind_operand d j n (demands _) h x3 = elim x3 [ ]
  behind_operand d j n (refused e) h (none_left w) = none_left w
  behind_operand d j n (done p) h (some_left l) = leaves_wider (good (further j p.0, d, p.1) (omega arith)) l

  pub expression_left : (d j : ℕ) (t : Text) → length t < k → Leaves (length t) (expression f d j t)
  expression_left d j t h = behind_operand d j (length t) (f (operand (leb j whole_level), d, t)) h (good (operand (leb j whole_level), d, t) h)

  ended_left : (e : End) (l : Tree) (n : ℕ) (o : Lexed) → Lexes n o → Leaves n (o >>= λ s. ended e l s)
  unfolding ended
  ended_left e l n (demands _) h = elim h [ ]
  ended_left e l n (refused i) (lex_refused w) = none_left w
  ended_left e l n (done (ends i, u)) h = go (eqb (rank e) (rank i)) refl (lexes_short h)
    where
      go : (x : Bool) → eqb (rank e) (rank i) ≡ x → length u ≤ n → Leaves n (ended e l (ends i, u))
      go true q w = rw (q, ended) (some_left {p = (l, u)} w)
      go false q w = rw (q, ended) syntax_left
  ended_left e l n (done (num z, u)) h = syntax_left
  ended_left e l n (done (name x, u)) h = syntax_left
  ended_left e l n (done (op o, u)) h = syntax_left
  ended_left e l n (done (opens, u)) h = syntax_left
  ended_left e l n (done (query, u)) h = syntax_left
  ended_left e l n (done (gets o, u)) h = syntax_left

  closed_left : (e : End) (n : ℕ) (r : Grown) → Leaves n r → Leaves n (r >>= λ q. token q.1 >>= λ s. ended e q.0 s)
  closed_left e n (demands _) x'' = elim x'' [ ]
  closed_left e n (refused i) (none_left w) = none_left w
  closed_left e n (done p) (some_left l) = leaves_wider (ended_left e p.0 (length p.1) (token p.1) (token_left p.1)) l

  pub up_to_left : (e : End) (d : ℕ) (t : Text) → length t < k → Leaves (length t) (up_to e f d t)
  unfolding up_to
  up_to_left e d t h = closed_left e (length t) (expression f d whole_level t) (expression_left d whole_level t h)

  enclosed_left : (d : ℕ) (t : Text) → length t < k → Leaves (length t) (enclosed f d t)
  unfolding enclosed
  enclosed_left zero t h = deep_left
  enclosed_left (suc d) t h = up_to_left shuts d t h

  grown_left : (g : Tree → Tree) (n : ℕ) (r : Grown) → Leaves n r → Leaves n (grown g r)
  grown_left g n (demands _) x'' = elim x'' [ ]
  grown_left g n (refused e) (none_left w) = none_left w
  grown_left g n (done p) (some_left l) = some_left {p = (g p.0, p.1)} l

  sign_left : (x : Bool) (o : Op) (d : ℕ) (t : Text) → length t < k → Leaves (length t) (sign f x o d t)
  unfolding sign
  sign_left false o d t h = syntax_left
  sign_left true o zero t h = deep_left
  sign_left true o (suc d) t h = grown_left (unary o) (length t) (f (operand false, d, t)) (good (operand false, d, t) h)

  target_left : (d : ℕ) (x t : Text) (o : Lexed) → Lexes (length t) o → length t < k → Leaves (length t) (o >>= λ p. target_at f d x t p)
  unfolding target_at
  target_left d x t (demands _) w h = elim w [ ]
  target_left d x t (refused e) (lex_refused w) h = none_left w
  target_left d x t (done (ends e, u)) w h = some_left {p = (name_of x, t)} (omega arith)
  target_left d x t (done (num z, u)) w h = some_left {p = (name_of x, t)} (omega arith)
  target_left d x t (done (name y, u)) w h = some_left {p = (name_of x, t)} (omega arith)
  target_left d x t (done (op o, u)) w h = some_left {p = (name_of x, t)} (omega arith)
  target_left d x t (done (opens, u)) w h = some_left {p = (name_of x, t)} (omega arith)
  target_left d x t (done (query, u)) w h = some_left {p = (name_of x, t)} (omega arith)
  target_left d x t (done (gets o, u)) (lex_more w) h =
      leaves_wider (grown_left (assign o x) (length u) (expression f d whole_level u) (expression_left d whole_level u (omega arith))) (omega arith)

  operand_left : (n : ℕ) (first : Bool) (d : ℕ) (o : Lexed) → Lexes n o → n ≤ k → Leaves n (o >>= λ p. operand_at f first d p)
  unfolding operand_at
  operand_left n b d (demands _) l h = elim l [ ]
  operand_left n b d (refused e) (lex_refused w) h = none_left w
  operand_left n b d (done (ends e, u)) l h = syntax_left
  operand_left n b d (done (num z, u)) (lex_more l) h = some_left {p = (constant_of z, u)} (omega arith)
  operand_left n false d (done (name x, u)) (lex_more l) h = some_left {p = (name_of x, u)} (omega arith)
  operand_left n true d (done (name x, u)) (lex_more l) h = leaves_wider (target_left d x u (token u) (token_left u) (omega arith)) (omega arith)
  operand_left n b d (done (op o, u)) (lex_more l) h = leaves_wider (sign_left (is_sign o) o d u (omega arith)) (omega arith)
  operand_left n b d (done (opens, u)) (lex_more l) h = leaves_wider (enclosed_left d u (omega arith)) (omega arith)
  operand_left n b d (done (query, u)) l h = syntax_left
  operand_left n b d (done (gets o, u)) l h = syntax_left

  other_left : (d n : ℕ) (l : Tree) (r : Grown) → n < k → Leaves n r → Leaves n (r >>= λ a. grown (choice l a.0) (expression f d choice_level a.1))
  other_left d n l (demands _) h x3 = elim x3 [ ]
  other_left d n l (refused e) h (none_left w) = none_left w
  other_left d n l (done p) h (some_left w) =
      leaves_wider (grown_left (choice l p.0) (length p.1) (expression f d choice_level p.1) (expression_left d choice_level p.1 (omega arith))) w

  choice_left : (d : ℕ) (l : Tree) (t : Text) → length t < k → Leaves (length t) (choice_at f d l t)
  unfolding choice_at
  choice_left d l t h = other_left d (length t) l (up_to colon f d t) h (up_to_left colon d t h)

  joined_left : (o : Op) (l : Tree) (d j n : ℕ) (r : Grown) → n < k → Leaves n r → Leaves n (r >>= λ q. f (further j (binary o l q.0), d, q.1))
  joined_left o l d j n (demands _) h x3 = elim x3 [ ]
  joined_left o l d j n (refused e) h (none_left w) = none_left w
  joined_left o l d j n (done p) h (some_left w) = leaves_wider (good (further j (binary o l p.0), d, p.1) (omega arith)) w

  further_left : (d j : ℕ) (l : Tree) (t : Text) (o : Lexed) → Lexes (length t) o → length t ≤ k → Leaves (length t) (o >>= λ p. further_at f d j l t p)
  unfolding further_at
  further_left d j l t (demands _) w h = elim w [ ]
  further_left d j l t (refused e) (lex_refused w) h = none_left w
  further_left d j l t (done (ends e, u)) w h = some_left {p = (l, t)} (omega arith)
  further_left d j l t (done (num z, u)) w h = some_left {p = (l, t)} (omega arith)
  further_left d j l t (done (name x, u)) w h = some_left {p = (l, t)} (omega arith)
  further_left d j l t (done (op o, u)) (lex_more w) h = go (leb j (level o)) refl
    where
      go : (x : Bool) → leb j (level o) ≡ x → Leaves (length t) (further_at f d j l t (op o, u))
      go true e =
          rw (e, further_at)
          (leaves_wider (joined_left o l d j (length u) (expression f d (suc (level o)) u) (omega arith)
          (expression_left d (suc (level o)) u (omega arith))) (omega arith))
      go false e = rw (e, further_at) (some_left {p = (l, t)} (omega arith))
  further_left d j l t (done (opens, u)) w h = some_left {p = (l, t)} (omega arith)
  further_left d j l t (done (query, u)) (lex_more w) h = go (leb j choice_level) refl
    where
      go : (x : Bool) → leb j choice_level ≡ x → Leaves (length t) (further_at f d j l t (query, u))
      go true e = rw (e, further_at) (leaves_wider (choice_left d l u (omega arith)) (omega arith))
      go false e = rw (e, further_at) (some_left {p = (l, t)} (omega arith))
  further_left d j l t (done (gets o, u)) w h = some_left {p = (l, t)} (omega arith)

  step_left : (a : Task × ℕ × Text) → grow_size a ≤ k → Leaves (grow_size a) (grow_step f a)
  unfolding grow_step
  step_left (operand b, d, t) h = operand_left (length t) b d (token t) (token_left t) h
  step_left (further j l, d, t) h = further_left d j l t (token t) (token_left t) h

abbrev shorter : ℕ → Grow
shorter k a = below grow_size (refused 0) k grow a

shorter_ok : (k : ℕ) (a : Task × ℕ × Text) → grow_size a < k → shorter k a ≡ grow a
shorter_ok k a h = below_ok grow_size (refused 0) k grow a h

grow_below : (a : Task × ℕ × Text) → grow a ≡ grow_step (shorter (grow_size a)) a
unfolding grow
grow_below a = fix_eq grow_size (refused 0) grow_step a

pub grow_left : (a : Task × ℕ × Text) → Leaves (grow_size a) (grow a)
grow_left a = by_size grow_size (λ b. Leaves (grow_size b) (grow b)) one a
  where
    one : (a : Task × ℕ × Text) → ((b : Task × ℕ × Text) → grow_size b < grow_size a → Leaves (grow_size b) (grow b)) → Leaves (grow_size a) (grow a)
    one a h = rw (grow_below a) (step_left (grow_size a) (shorter (grow_size a)) (λ b l. rw (shorter_ok (grow_size a) b l) (h b l)) a (omega arith))

-- Two readers that agree on what is shorter take the same step.
module _ (k : ℕ) (f g : Grow) (same : (a : Task × ℕ × Text) → grow_size a < k → f a ≡ g a)
    (good : (a : Task × ℕ × Text) → grow_size a < k → Leaves (grow_size a) (g a)) where
  bind_same : (n : ℕ) (task : Tree → Task) (d : ℕ) (r : Grown) → n < k → Leaves n r
      → (r >>= λ p. f (task p.0, d, p.1)) ≡ (r >>= λ p. g (task p.0, d, p.1))
  bind_same n task d (demands _) h l = elim l [ ]
  bind_same n task d (refused e) h l = refl
  bind_same n task d (done p) h (some_left l) = same (task p.0, d, p.1) (omega arith)

  expression_same : (d j : ℕ) (t : Text) → length t < k → expression f d j t ≡ expression g d j t
  expression_same d j t h =
      ap (λ (r : Grown). r >>= λ p. f (further j p.0, d, p.1)) (same (operand (leb j whole_level), d, t) h)
      ∙ bind_same (length t) (λ x. further j x) d (g (operand (leb j whole_level), d, t)) h (good (operand (leb j whole_level), d, t) h)

  up_to_same : (e : End) (d : ℕ) (t : Text) → length t < k → up_to e f d t ≡ up_to e g d t
  unfolding up_to
  up_to_same e d t h = ap (λ (r : Grown). r >>= λ q. token q.1 >>= λ s. ended e q.0 s) (expression_same d whole_level t h)

  enclosed_same : (d : ℕ) (t : Text) → length t < k → enclosed f d t ≡ enclosed g d t
  unfolding enclosed
  enclosed_same zero t h = refl
  enclosed_same (suc d) t h = up_to_same shuts d t h

  sign_same : (x : Bool) (o : Op) (d : ℕ) (t : Text) → length t < k → sign f x o d t ≡ sign g x o d t
  unfolding sign
  sign_same false o d t h = refl
  sign_same true o zero t h = refl
  sign_same true o (suc d) t h = ap (grown (unary o)) (same (operand false, d, t) h)

  target_same : (d : ℕ) (x t : Text) (o : Lexed) → Lexes (length t) o → length t < k → (o >>= λ p. target_at f d x t p) ≡ (o >>= λ p. target_at g d x t p)
  unfolding target_at
  target_same d x t (demands _) w h = elim w [ ]
  target_same d x t (refused e) w h = refl
  target_same d x t (done (ends e, u)) w h = refl
  target_same d x t (done (num z, u)) w h = refl
  target_same d x t (done (name y, u)) w h = refl
  target_same d x t (done (op o, u)) w h = refl
  target_same d x t (done (opens, u)) w h = refl
  target_same d x t (done (query, u)) w h = refl
  target_same d x t (done (gets o, u)) (lex_more w) h = ap (grown (assign o x)) (expression_same d whole_level u (omega arith))

  operand_same : (n : ℕ) (first : Bool) (d : ℕ) (o : Lexed) → Lexes n o → n ≤ k → (o >>= λ p. operand_at f first d p) ≡ (o >>= λ p. operand_at g first d p)
  unfolding operand_at
  operand_same n b d (demands _) l h = elim l [ ]
  operand_same n b d (refused e) l h = refl
  operand_same n b d (done (ends e, u)) l h = refl
  operand_same n b d (done (num z, u)) l h = refl
  operand_same n false d (done (name x, u)) l h = refl
  operand_same n true d (done (name x, u)) (lex_more l) h = target_same d x u (token u) (token_left u) (omega arith)
  operand_same n b d (done (op o, u)) (lex_more l) h = sign_same (is_sign o) o d u (omega arith)
  operand_same n b d (done (opens, u)) (lex_more l) h = enclosed_same d u (omega arith)
  operand_same n b d (done (query, u)) l h = refl
  operand_same n b d (done (gets o, u)) l h = refl

  other_same : (d n : ℕ) (l : Tree) (r : Grown) → n < k → Leaves n r
      → (r >>= λ a. grown (choice l a.0) (expression f d choice_level a.1)) ≡ (r >>= λ a. grown (choice l a.0) (expression g d choice_level a.1))
  other_same d n l (demands _) h w = elim w [ ]
  other_same d n l (refused e) h w = refl
  other_same d n l (done p) h (some_left w) = ap (grown (choice l p.0)) (expression_same d choice_level p.1 (omega arith))

  choice_same : (d : ℕ) (l : Tree) (t : Text) → length t < k → choice_at f d l t ≡ choice_at g d l t
  unfolding choice_at
  choice_same d l t h =
      ap (λ (r : Grown). r >>= λ a. grown (choice l a.0) (expression f d choice_level a.1)) (up_to_same colon d t h)
      ∙ other_same d (length t) l (up_to colon g d t) h (up_to_left k g good colon d t h)

  further_same : (n d j : ℕ) (l : Tree) (t : Text) (o : Lexed) → Lexes n o → n ≤ k → (o >>= λ p. further_at f d j l t p) ≡ (o >>= λ p. further_at g d j l t p)
  unfolding further_at
  further_same n d j l t (demands _) w h = elim w [ ]
  further_same n d j l t (refused e) w h = refl
  further_same n d j l t (done (ends e, u)) w h = refl
  further_same n d j l t (done (num z, u)) w h = refl
  further_same n d j l t (done (name x, u)) w h = refl
  further_same n d j l t (done (op o, u)) (lex_more w) h = go (leb j (level o)) refl
    where
      on : expression f d (suc (level o)) u ≡ expression g d (suc (level o)) u
      on = expression_same d (suc (level o)) u (omega arith)

      left : Leaves (length u) (expression g d (suc (level o)) u)
      left = expression_left k g good d (suc (level o)) u (omega arith)

      go : (x : Bool) → leb j (level o) ≡ x → further_at f d j l t (op o, u) ≡ further_at g d j l t (op o, u)
      go true e =
          rw (e, further_at)
          (ap (λ (r : Grown). r >>= λ q. f (further j (binary o l q.0), d, q.1)) on
          ∙ bind_same (length u) (λ x. further j (binary o l x)) d (expression g d (suc (level o)) u) (omega arith) left)
      go false e = rw (e, further_at)
  further_same n d j l t (done (opens, u)) w h = refl
  further_same n d j l t (done (query, u)) (lex_more w) h = go (leb j choice_level) refl
    where
      go : (x : Bool) → leb j choice_level ≡ x → further_at f d j l t (query, u) ≡ further_at g d j l t (query, u)
      go true e = rw (e, further_at) (choice_same d l u (omega arith))
      go false e = rw (e, further_at)
  further_same n d j l t (done (gets o, u)) w h = refl

  step_same : (a : Task × ℕ × Text) → grow_size a ≤ k → grow_step f a ≡ grow_step g a
  unfolding grow_step
  step_same (operand b, d, t) h = operand_same (length t) b d (token t) (token_left t) h
  step_same (further j l, d, t) h = further_same (length t) d j l t (token t) (token_left t) h

-- THE LAW: the reader is its step, and itself for all that is read inside.
pub grow_eq : (a : Task × ℕ × Text) → grow a ≡ grow_step grow a
grow_eq a = grow_below a ∙ step_same (grow_size a) (shorter (grow_size a)) grow (shorter_ok (grow_size a)) (λ b l. grow_left b) a (omega arith)

-- the value of a reader that is stuck is no answer
refusal_numbered : {n : ℕ} {r : Grown} → Leaves n r → r ≡ refused 0 → ⊥
refusal_numbered (none_left {e = e} w) q = let z : e ≡ 0 = cc in no (rw z at w)
refusal_numbered (some_left l) q = let z : ◌≡◌ {A = ℕ} 0 1 = cc in omega arith

pub grow_never_stuck : (a : Task × ℕ × Text) → grow a ≡ refused 0 → ⊥
grow_never_stuck a q = refusal_numbered (grow_left a) q
