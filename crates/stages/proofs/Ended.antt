-- Document 02, E6 and E10: a reader that has ended stays ended, so that behind an assignment there is nothing more to read; and a whole expression that is no
-- assignment is one of the two storeys.
use Prim.Native.Nat.{ℕ, suc, ◌<◌}
use native.Mathlib.Omega.{arith}
use mathlib.Core.Path.{◌≡◌, refl, sym, ap, ◌∙◌, subst}
use mathlib.Core.Bool.{Bool, true, false}
use mathlib.Core.Option.{Option}
use lib.Dec.{leb}
use lib.ListN.{length}
use Rattle.stages.specs.Recur.{by_size}
use Rattle.stages.specs.Bytes.{Text}
use Rattle.stages.specs.Outcome.{refused, demands, done, ◌>>=◌}
use Rattle.stages.specs.Arith.{Op, level, whole_level, choice_level, colon, Token, ends, num, name, op, opens, query, gets, Lexed, token}
use Rattle.stages.specs.Arith.{Tree, name_of, binary, choice, assign, Grown, grown, operand, further, expression, up_to, choice_at}
use Rattle.stages.specs.Arith.{target_at, operand_at, further_at, grow_step, grow}
use Rattle.stages.proofs.Bools.{apart}
use Rattle.stages.proofs.Outcomes.{done_same, never, never_asks}
use Rattle.stages.proofs.Arith.{Lexes, lex_more, token_left, Leaves, some_left, expression_left, up_to_left, grow_left, grow_eq}
use Rattle.stages.proofs.Storeys.{lowest, upstairs, whole_storeys, choice_storeys}

-- no `=` at a text, with an operator before it or without; no name there with one behind it
abbrev pub NoGets : Text → Type 0
NoGets v = (o : Option Op) (u : Text) → token v ≡ done (gets o, u) → ⊥

abbrev pub NoTarget : Text → Type 0
NoTarget t = (x v : Text) → token t ≡ done (name x, v) → NoGets v

-- how it is seen by tokens
abbrev pub is_named : Token → Bool
is_named (ends e) = false
is_named (num z) = false
is_named (name x) = true
is_named (op o) = false
is_named opens = false
is_named query = false
is_named (gets o) = false

abbrev pub is_gets : Token → Bool
is_gets (ends e) = false
is_gets (num z) = false
is_gets (name x) = false
is_gets (op o) = false
is_gets opens = false
is_gets query = false
is_gets (gets o) = true

other_token : (f : Token → Bool) (t u v : Text) (k j : Token) → f k ≡ false → f j ≡ true → token t ≡ done (k, u) → token t ≡ done (j, v) → ⊥
other_token f t u v k j n y e q = let h : k ≡ j = ap (λ (p : Token × Text). p.0) (done_same (sym e ∙ q)) in apart n (rw (← h) at y)

pub gets_other : (v u : Text) (k : Token) → token v ≡ done (k, u) → is_gets k ≡ false → NoGets v
gets_other v u k e n o w q = other_token is_gets v u w k (gets o) n refl e q

pub gets_refused : (v : Text) (e : ℕ) → token v ≡ refused e → NoGets v
gets_refused v e h o w q = never (sym q ∙ h)

pub target_other : (t u : Text) (k : Token) → token t ≡ done (k, u) → is_named k ≡ false → NoTarget t
target_other t u k e n x v q = absurd (other_token is_named t u v k (name x) n refl e q)

pub target_refused : (t : Text) (e : ℕ) → token t ≡ refused e → NoTarget t
target_refused t e h x v q = absurd (never (sym q ∙ h))

pub target_name : (t v x : Text) → token t ≡ done (name x, v) → NoGets v → NoTarget t
target_name t v x e n y w q = let h : v ≡ w = ap (λ (p : Token × Text). p.1) (done_same (sym e ∙ q)) in subst NoGets h n

module _ (d : ℕ) where
  -- nothing more of a conditional at a text
  abbrev Over : Text → Type 0
  Over w = (n : Tree) → grow (further choice_level n, d, w) ≡ done (n, w)

  abbrev Ended : Text → Type 0
  Ended t = (l m : Tree) (w : Text) → grow (further choice_level l, d, t) ≡ done (m, w) → Over w

  stays : (l m : Tree) (t w : Text) → Over t → ◌≡◌ {A = Grown} (done (l, t)) (done (m, w)) → Over w
  stays l m t w h q = subst (λ (u : Text). Over u) (ap (λ (p : Tree × Text). p.1) (done_same q)) h

  again : (t : Text) (k : Token × Text) → token t ≡ done k → ((n : Tree) → further_at grow d choice_level n t k ≡ done (n, t)) → Over t
  unfolding grow_step
  again t k e h n = grow_eq (further choice_level n, d, t) ∙ ap (λ (o : Lexed). o >>= λ p. further_at grow d choice_level n t p) e ∙ h n

  module _ (k : ℕ) (ih : (u : Text) → length u < k → Ended u) (m : Tree) (w : Text) where
    joined : (o : Op) (l : Tree) (i : ℕ) (r : Grown) → i < k → Leaves i r
        → (r >>= λ q. grow (further choice_level (binary o l q.0), d, q.1)) ≡ done (m, w) → Over w
    joined o l i (demands _) h s q = elim s [ ]
    joined o l i (refused e) h s q = absurd (never (sym q))
    joined o l i (done r) h (some_left s) q = ih r.1 (omega arith) (binary o l r.0) m w q

    last : (f : Tree → Tree) (p : Tree × Text) → length p.1 < k → (g : Grown) → grow (further choice_level p.0, d, p.1) ≡ g
        → grown f g ≡ done (m, w) → Over w
    last f p h (refused e) c q = absurd (never (sym q))
    last f p h (demands t) c q = absurd (never_asks q)
    last f p h (done s) c q = stays (f s.0) m s.1 w (ih p.1 h p.0 s.0 s.1 c) q

    behind_colon_lem : (f : Tree → Tree) (i : ℕ) (r : Grown) → i < k → Leaves i r
        → grown f (r >>= λ p. grow (further choice_level p.0, d, p.1)) ≡ done (m, w) → Over w
    behind_colon_lem f i (demands _) h s q = elim s [ ]
    behind_colon_lem f i (refused e) h s q = absurd (never (sym q))
    behind_colon_lem f i (done p) h (some_left s) q = last f p (omega arith) (grow (further choice_level p.0, d, p.1)) refl q

    middle : (l : Tree) (i : ℕ) (r : Grown) → i < k → Leaves i r
        → (r >>= λ a. grown (choice l a.0) (expression grow d choice_level a.1)) ≡ done (m, w) → Over w
    middle l i (demands _) h s q = elim s [ ]
    middle l i (refused e) h s q = absurd (never (sym q))
    middle l i (done a) h (some_left s) q =
        behind_colon_lem (choice l a.0) (length a.1) (grow (operand false, d, a.1)) (omega arith) (grow_left (operand false, d, a.1)) q

  here : (t : Text) → ((u : Text) → length u < length t → Ended u) → (l m : Tree) (w : Text) (o : Lexed) → token t ≡ o → Lexes (length t) o
      → (o >>= λ p. further_at grow d choice_level l t p) ≡ done (m, w) → Over w
  unfolding further_at choice_at
  here t ih l m w (demands _) c s q = elim s [ ]
  here t ih l m w (refused e) c s q = absurd (never (sym q))
  here t ih l m w (done (ends e, u)) c s q = stays l m t w (again t (ends e, u) c (λ n. refl)) q
  here t ih l m w (done (num z, u)) c s q = stays l m t w (again t (num z, u) c (λ n. refl)) q
  here t ih l m w (done (name x, u)) c s q = stays l m t w (again t (name x, u) c (λ n. refl)) q
  here t ih l m w (done (opens, u)) c s q = stays l m t w (again t (opens, u) c (λ n. refl)) q
  here t ih l m w (done (gets o, u)) c s q = stays l m t w (again t (gets o, u) c (λ n. refl)) q
  here t ih l m w (done (query, u)) c (lex_more s) q =
      middle (length t) ih m w l (length u) (up_to colon grow d u) (omega arith)
      (up_to_left (suc (length u)) grow (λ a _. grow_left a) colon d u (omega arith)) q
  here t ih l m w (done (op o, u)) c (lex_more s) q = go (leb choice_level (level o)) refl
    where
      go : (x : Bool) → leb choice_level (level o) ≡ x → Over w
      go true e =
          joined (length t) ih m w o l (length u) (expression grow d (suc (level o)) u) (omega arith)
          (expression_left (suc (length u)) grow (λ a _. grow_left a) d (suc (level o)) u (omega arith)) (sym (rw (e, further_at)) ∙ q)
      go false e = stays l m t w (again t (op o, u) c (λ n. rw (e, further_at))) (sym (rw (e, further_at)) ∙ q)

  pub choice_ended : (t : Text) (l m : Tree) (w : Text) → grow (further choice_level l, d, t) ≡ done (m, w)
      → (n : Tree) → grow (further choice_level n, d, w) ≡ done (n, w)
  unfolding grow_step
  choice_ended t = by_size (λ (u : Text). length u) Ended one t
    where
      one : (u : Text) → ((y : Text) → length y < length u → Ended y) → Ended u
      one u ih l m w q = here u ih l m w (token u) refl (token_left u) (sym (grow_eq (further choice_level l, d, u)) ∙ q)

  -- both storeys' readers go on alike
  pub whole_choice : (t : Text) (l : Tree) → grow (further whole_level l, d, t) ≡ grow (further choice_level l, d, t)
  whole_choice t l = whole_storeys d t l ∙ sym (choice_storeys d t l)

  pub whole_ended : (t : Text) (l m : Tree) (w : Text) → grow (further whole_level l, d, t) ≡ done (m, w)
      → (n : Tree) → grow (further whole_level n, d, w) ≡ done (n, w)
  whole_ended t l m w q n = whole_choice w n ∙ choice_ended t l m w (sym (whole_choice t l) ∙ q) n

  -- THE LAW: an assignment is its right side, a whole expression, and nothing behind it
  module _ (o : Option Op) (x : Text) where
    ends_there : (p : Tree × Text) (g : Grown) → grow (further whole_level p.0, d, p.1) ≡ g
        → (grown (assign o x) g >>= λ r. grow (further whole_level r.0, d, r.1)) ≡ grown (assign o x) g
    ends_there p (refused e) c = refl
    ends_there p (demands m) c = refl
    ends_there p (done s) c = whole_ended p.1 p.0 s.0 s.1 c (assign o x s.0)

    right_side : (r : Grown)
        → (grown (assign o x) (r >>= λ p. grow (further whole_level p.0, d, p.1)) >>= λ s. grow (further whole_level s.0, d, s.1))
        ≡ grown (assign o x) (r >>= λ p. grow (further whole_level p.0, d, p.1))
    right_side (refused e) = refl
    right_side (demands m) = refl
    right_side (done p) = ends_there p (grow (further whole_level p.0, d, p.1)) refl

    pub assignment : (t v u : Text) → token t ≡ done (name x, v) → token v ≡ done (gets o, u)
        → expression grow d whole_level t ≡ grown (assign o x) (expression grow d whole_level u)
    unfolding grow_step operand_at target_at
    assignment t v u e f =
        ap (λ (r : Grown). r >>= λ p. grow (further whole_level p.0, d, p.1))
        (grow_eq (operand true, d, t) ∙ ap (λ (q : Lexed). q >>= λ p. operand_at grow true d p) e
        ∙ ap (λ (q : Lexed). q >>= λ p. target_at grow d x v p) f)
        ∙ right_side (grow (operand true, d, u))

  -- where no assignment begins

  -- a conditional is always one of the two storeys
  pub choice_above : (t : Text) → expression grow d choice_level t ≡ (expression grow d lowest t >>= upstairs d)
  choice_above t = go (grow (operand false, d, t))
    where
      go : (r : Grown) → (r >>= λ p. grow (further choice_level p.0, d, p.1)) ≡ ((r >>= λ p. grow (further lowest p.0, d, p.1)) >>= upstairs d)
      go (refused e) = refl
      go (demands m) = refl
      go (done p) = choice_storeys d p.1 p.0

  -- the name there is read alike whether an assignment might begin with it or not
  name_alone : (x v : Text) → NoGets v → (q : Lexed) → token v ≡ q
      → ((q >>= λ p. target_at grow d x v p) >>= λ p. grow (further choice_level p.0, d, p.1)) ≡ grow (further choice_level (name_of x), d, v)
  unfolding target_at grow_step
  name_alone x v bare (refused e) c = sym (grow_eq (further choice_level (name_of x), d, v) ∙ rw c)
  name_alone x v bare (demands m) c = sym (grow_eq (further choice_level (name_of x), d, v) ∙ rw c)
  name_alone x v bare (done (ends e, u)) c = refl
  name_alone x v bare (done (num z, u)) c = refl
  name_alone x v bare (done (name y, u)) c = refl
  name_alone x v bare (done (op o, u)) c = refl
  name_alone x v bare (done (opens, u)) c = refl
  name_alone x v bare (done (query, u)) c = refl
  name_alone x v bare (done (gets o, u)) c = absurd (bare o u c)

  first_alone : (t : Text) → NoTarget t → (q : Lexed) → token t ≡ q
      → ((q >>= λ p. operand_at grow true d p) >>= λ p. grow (further choice_level p.0, d, p.1))
      ≡ ((q >>= λ p. operand_at grow false d p) >>= λ p. grow (further choice_level p.0, d, p.1))
  unfolding operand_at
  first_alone t bare (refused e) c = refl
  first_alone t bare (demands m) c = refl
  first_alone t bare (done (ends e, u)) c = refl
  first_alone t bare (done (num z, u)) c = refl
  first_alone t bare (done (name x, v)) c = name_alone x v (bare x v c) (token v) refl
  first_alone t bare (done (op o, u)) c = refl
  first_alone t bare (done (opens, u)) c = refl
  first_alone t bare (done (query, u)) c = refl
  first_alone t bare (done (gets o, u)) c = refl

  as_choice : (r : Grown) → (r >>= λ p. grow (further whole_level p.0, d, p.1)) ≡ (r >>= λ p. grow (further choice_level p.0, d, p.1))
  as_choice (refused e) = refl
  as_choice (demands m) = refl
  as_choice (done p) = whole_choice p.1 p.0

  -- THE LAW: a whole expression that begins with no such name is a conditional, and so one of the two storeys
  pub no_assignment : (t : Text) → NoTarget t → expression grow d whole_level t ≡ expression grow d choice_level t
  unfolding grow_step
  no_assignment t bare =
      as_choice (grow (operand true, d, t))
      ∙ ap (λ (r : Grown). r >>= λ p. grow (further choice_level p.0, d, p.1)) (grow_eq (operand true, d, t))
      ∙ first_alone t bare (token t) refl
      ∙ ap (λ (r : Grown). r >>= λ p. grow (further choice_level p.0, d, p.1)) (sym (grow_eq (operand false, d, t)))

  pub whole_above : (t : Text) → NoTarget t → expression grow d whole_level t ≡ (expression grow d lowest t >>= upstairs d)
  whole_above t bare = no_assignment t bare ∙ choice_above t
