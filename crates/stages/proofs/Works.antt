-- Document 02, E6 and E10: what stands around an expression that is worked out, for a loop in the place of a stack. Behind a name and its `=` the loop goes on
-- with the right side, behind a `?` with the side that is needed. What stands around then is a list of assignments, whose stores come when all else is worked
-- out, the innermost first.
use Prim.Native.Nat.{ℕ}
use mathlib.Core.Path.{◌≡◌, refl, sym, ap, ◌∙◌}
use mathlib.Core.Bool.{Bool, true, false}
use mathlib.Core.List.{List, [], ◌∷◌}
use mathlib.Core.Option.{Option}
use lib.Dec.{eqb}
use lib.IntN.{ℤ}
use Rattle.stages.specs.Bytes.{Text}
use Rattle.stages.specs.Outcome.{Outcome, refused, demands, done, ◌>>=◌, choose}
use Rattle.stages.specs.Images.{Pairs}
use Rattle.stages.specs.Params.{Lent}
use Rattle.stages.specs.Arith.{Op, is_true, whole_level, choice_level, End, colon, Token, ends, num, name, op, opens, query, gets, Lexed, token}
use Rattle.stages.specs.Arith.{Tree, choice, assign, Grown, grown, expression, rank, ended, up_to, choice_at, grow, Evaluated, storing, evaluate}
use Rattle.stages.proofs.Outcomes.{done_same, never, never_asks}
use Rattle.stages.proofs.Storeys.{lowest, asked, upstairs}
use Rattle.stages.proofs.Ended.{assignment, NoTarget, choice_above, whole_above}
use Rattle.stages.proofs.Sums.{unneeded_second, unneeded_first}

-- OUTCOMES

-- what is bound to a result was worked out
record Bound {A B : Type 0} (r : Outcome A) (f : A → Outcome B) (b : B) : Type 0 where
  from : A
  first : r ≡ done from
  behind : f from ≡ done b

bound : {A B : Type 0} (r : Outcome A) (f : A → Outcome B) (b : B) → (r >>= f) ≡ done b → Bound r f b
bound (refused e) f b q = absurd (never (sym q))
bound (demands t) f b q = absurd (never_asks q)
bound (done a) f b q = record { from = a; first = refl; behind = q }

bind_done : (r : Grown) → r ≡ (r >>= λ p. done p)
bind_done (refused e) = refl
bind_done (demands t) = refl
bind_done (done p) = refl

bind_grown : (f : Tree → Tree) (g : Tree × Text → Grown) (r : Grown) → (grown f r >>= g) ≡ (r >>= λ p. g (f p.0, p.1))
bind_grown f g (refused e) = refl
bind_grown f g (demands t) = refl
bind_grown f g (done p) = refl

bind_twice : (f g h : Tree × Text → Grown) (r : Grown) → (((r >>= f) >>= g) >>= h) ≡ (r >>= λ p. (f p >>= g) >>= h)
bind_twice f g h (refused e) = refl
bind_twice f g h (demands t) = refl
bind_twice f g h (done p) = refl

-- an end leaves the tree before it as it is
ended_tree : (e : End) (l : Tree) (s : Token × Text) (p : Tree × Text) → ended e l s ≡ done p → p.0 ≡ l
unfolding ended
ended_tree e l (ends f, u) p q = go (eqb (rank e) (rank f)) refl
  where
    go : (x : Bool) → eqb (rank e) (rank f) ≡ x → p.0 ≡ l
    go true h = ap (λ (r : Tree × Text). r.0) (done_same (sym (rw (h, ended) at q)))
    go false h = absurd (never (sym (rw (h, ended) at q)))
ended_tree e l (num z, u) p q = absurd (never (sym q))
ended_tree e l (name x, u) p q = absurd (never (sym q))
ended_tree e l (op o, u) p q = absurd (never (sym q))
ended_tree e l (opens, u) p q = absurd (never (sym q))
ended_tree e l (query, u) p q = absurd (never (sym q))
ended_tree e l (gets o, u) p q = absurd (never (sym q))

-- STORES THAT WAIT

-- the assignments around an expression, the innermost first
abbrev pub Waiting : Type 0
Waiting = List (Option Op × Text)

unfoldable pub storing_all : Lent → Waiting → Evaluated → Evaluated
storing_all a [] r = r
storing_all a (g ∷ gs) r = storing_all a gs (r >>= λ p. storing a g.0 g.1 p)

pub storing_refused : (a : Lent) (gs : Waiting) (e : ℕ) → storing_all a gs (refused e) ≡ refused e
unfolding storing_all
storing_refused a [] e = refl
storing_refused a (g ∷ gs) e = storing_refused a gs e

-- What is read as `all` comes, under the variables `first`, to what the expression `here` comes to under v, and then those stores.
pub record Works (a : Lent) (first : Pairs) (all : Grown) (gs : Waiting) (v : Pairs) (here : Grown) : Type 0 where
  pub around : Tree × Text → Grown
  pub is : all ≡ (here >>= around)
  pub same : (q y : Tree × Text) → around q ≡ done y → evaluate a first y.0 ≡ storing_all a gs (evaluate a v q.0)

-- THE LOOP'S START
pub works_all : (a : Lent) (v : Pairs) (all : Grown) → Works a v all [] v all
unfolding storing_all
works_all a v all = record { around = λ p. done p; is = bind_done all; same = λ q y e. ap (λ (p : Tree × Text). evaluate a v p.0) (sym (done_same e)) }

module _ (a : Lent) (first : Pairs) (all : Grown) (gs : Waiting) (v : Pairs) where
  -- the same expression, read in another way
  pub works_as : {here there : Grown} → here ≡ there → Works a first all gs v here → Works a first all gs v there
  works_as e k = record { around = k.around; is = k.is ∙ ap (λ (r : Grown). r >>= k.around) e; same = k.same }

  -- where it is refused or read, so is all
  pub works_refused : {here : Grown} (e : ℕ) → here ≡ refused e → Works a first all gs v here → all ≡ refused e
  works_refused e h k = k.is ∙ ap (λ (r : Grown). r >>= k.around) h

  pub works_done : {here : Grown} (q y : Tree × Text) → here ≡ done q → Works a first all gs v here → all ≡ done y
      → evaluate a first y.0 ≡ storing_all a gs (evaluate a v q.0)
  works_done q y h k e = k.same q y (sym (ap (λ (r : Grown). r >>= k.around) h) ∙ sym k.is ∙ e)

  module _ (d : ℕ) where
    -- a name and `=`: its right side, and one store more that waits
    pub works_gets : (o : Option Op) (x t u w : Text) → token t ≡ done (name x, u) → token u ≡ done (gets o, w)
        → Works a first all gs v (expression grow d whole_level t) → Works a first all ((o, x) ∷ gs) v (expression grow d whole_level w)
    unfolding storing_all evaluate
    works_gets o x t u w e f k = record {
      around = λ q. k.around (assign o x q.0, q.1);
      is =
          k.is ∙ ap (λ (r : Grown). r >>= k.around) (assignment d o x t u w e f)
          ∙ bind_grown (assign o x) k.around (expression grow d whole_level w);
      same = λ q y h. k.same (assign o x q.0, q.1) y h;
    }

    -- no name with a `=`: a lower storey, and what stands above it
    pub works_above : (t : Text) → NoTarget t → Works a first all gs v (expression grow d whole_level t)
        → Works a first all gs v (expression grow d lowest t >>= upstairs d)
    works_above t n k = works_as (whole_above d t n) k

    pub works_choice : (t : Text) → Works a first all gs v (expression grow d choice_level t)
        → Works a first all gs v (expression grow d lowest t >>= upstairs d)
    works_choice t k = works_as (choice_above d t) k

    -- behind a lower storey c, before the text u
    module _ (t u : Text) (c : Tree) (lower : expression grow d lowest t ≡ done (c, u)) where
      storey_is : (expression grow d lowest t >>= upstairs d) ≡ upstairs d (c, u)
      storey_is = ap (λ (r : Grown). r >>= upstairs d) lower

      -- what is above it fails where it does
      above_fails : (e : ℕ) → evaluate a v c ≡ refused e → (s : Token × Text) (q : Tree × Text) → asked d c u s ≡ done q → evaluate a v q.0 ≡ refused e
      unfolding asked choice_at
      above_fails e b (ends i, w) q h = ap (λ (p : Tree × Text). evaluate a v p.0) (sym (done_same h)) ∙ b
      above_fails e b (num z, w) q h = ap (λ (p : Tree × Text). evaluate a v p.0) (sym (done_same h)) ∙ b
      above_fails e b (name x, w) q h = ap (λ (p : Tree × Text). evaluate a v p.0) (sym (done_same h)) ∙ b
      above_fails e b (op o, w) q h = ap (λ (p : Tree × Text). evaluate a v p.0) (sym (done_same h)) ∙ b
      above_fails e b (opens, w) q h = ap (λ (p : Tree × Text). evaluate a v p.0) (sym (done_same h)) ∙ b
      above_fails e b (gets o, w) q h = ap (λ (p : Tree × Text). evaluate a v p.0) (sym (done_same h)) ∙ b
      above_fails e b (query, w) q h =
          let i = bound (up_to colon grow d w) (λ m. grown (choice c m.0) (expression grow d choice_level m.1)) q h in
          let j = bound (expression grow d choice_level i.from.1) (λ r. done (choice c i.from.0 r.0, r.1)) q i.behind in
          ap (λ (p : Tree × Text). evaluate a v p.0) (sym (done_same j.behind)) ∙ condition i.from.0 j.from.0
        where
          condition : (l r : Tree) → evaluate a v (choice c l r) ≡ refused e
          condition l r =
              unfold evaluate in ap (λ (o : Evaluated). o >>= λ p. choose (is_true p.0) (λ _. evaluate a p.1 l) (λ _. evaluate a p.1 r)) b

      pub works_fails : (e : ℕ) → evaluate a v c ≡ refused e → Works a first all gs v (expression grow d lowest t >>= upstairs d) → (y : Tree × Text)
          → all ≡ done y → evaluate a first y.0 ≡ refused e
      works_fails e b k y h =
          let i = bound (expression grow d lowest t >>= upstairs d) k.around y (sym k.is ∙ h) in
          let j = bound (token u) (λ s. asked d c u s) i.from (sym storey_is ∙ i.first) in
          k.same i.from y i.behind ∙ ap (storing_all a gs) (above_fails e b j.from i.from j.behind) ∙ storing_refused a gs e

      -- `?` behind it
      module _ (w : Text) (asks : token u ≡ done (query, w)) (z : ℤ) (after : Pairs) (worth : evaluate a v c ≡ done (z, after)) where
        choice_is : (expression grow d lowest t >>= upstairs d) ≡ choice_at grow d c w
        unfolding asked
        choice_is = storey_is ∙ ap (λ (o : Lexed). o >>= λ s. asked d c u s) asks

        -- its first side is needed: the colon and the other side stand around it
        close : Tree × Text → Grown
        close q = token q.1 >>= λ s. ended colon q.0 s

        second : Tree × Text → Grown
        second m = grown (choice c m.0) (expression grow d choice_level m.1)

        second_same : is_true z ≡ true → (q x : Tree × Text) → (close q >>= second) ≡ done x → evaluate a v x.0 ≡ evaluate a after q.0
        unfolding close second
        second_same n q x h =
            let i = bound (close q) second x h in
            let j = bound (expression grow d choice_level i.from.1) (λ r. done (choice c i.from.0 r.0, r.1)) x i.behind in
            let s = bound (token q.1) (λ s. ended colon q.0 s) i.from i.first in
            ap (λ (p : Tree × Text). evaluate a v p.0) (sym (done_same j.behind))
            ∙ unneeded_second a v after z c i.from.0 j.from.0 worth n
            ∙ ap (evaluate a after) (ended_tree colon q.0 s.from i.from s.behind)

        pub works_first : is_true z ≡ true → Works a first all gs v (expression grow d lowest t >>= upstairs d)
            → Works a first all gs after (expression grow d whole_level w)
        unfolding close second choice_at up_to
        works_first n k = record {
          around = λ q. (close q >>= second) >>= k.around;
          is = k.is ∙ ap (λ (r : Grown). r >>= k.around) choice_is ∙ bind_twice close second k.around (expression grow d whole_level w);
          same = λ q y h.
              let x = bound (close q >>= second) k.around y h in
              k.same x.from y x.behind ∙ ap (storing_all a gs) (second_same n q x.from x.first);
        }

        -- its second side is needed: the first one is read up to the colon
        module _ (m : Tree) (s r : Text) (side : expression grow d whole_level w ≡ done (m, s)) (shut : token s ≡ done (ends colon, r)) where
          passed : (expression grow d lowest t >>= upstairs d) ≡ grown (choice c m) (expression grow d choice_level r)
          unfolding choice_at up_to ended
          passed =
              choice_is
              ∙ ap (λ (o : Grown). ((o >>= λ q. token q.1 >>= λ s. ended colon q.0 s) >>= λ b.
              grown (choice c b.0) (expression grow d choice_level b.1))) side
              ∙ ap (λ (o : Lexed). (o >>= λ s. ended colon m s) >>= λ b. grown (choice c b.0) (expression grow d choice_level b.1)) shut

          pub works_second : is_true z ≡ false → Works a first all gs v (expression grow d lowest t >>= upstairs d)
              → Works a first all gs after (expression grow d choice_level r)
          works_second n k = record {
            around = λ q. k.around (choice c m q.0, q.1);
            is =
                k.is ∙ ap (λ (r : Grown). r >>= k.around) passed
                ∙ bind_grown (choice c m) k.around (expression grow d choice_level r);
            same = λ q y h.
                k.same (choice c m q.0, q.1) y h ∙ ap (storing_all a gs) (unneeded_first a v after z c m q.0 worth n);
          }
