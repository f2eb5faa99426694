-- Laws of expressions: an operand and the operators behind it, and the state of the loop over these.
use Prim.Native.Nat.{ℕ, suc, ◌+◌, ◌≤◌, ◌<◌}
use native.Mathlib.Omega.{arith}
use native.Mathlib.Numerals.{add-one}
use mathlib.Core.Path.{◌≡◌, refl, sym, ap, ◌∙◌, subst}
use mathlib.Core.Bool.{Bool, true, false, ◌&&◌}
use mathlib.Core.Option.{Option, none, some}
use lib.IntN.{ℤ}
use lib.ListN.{length, drop}
use borrow.Author.Tests.{le-leb, lt-leb}
use Rattle.stages.specs.Bytes.{Text}
use Rattle.stages.specs.Outcome.{refused, done, ◌>>=◌}
use Rattle.stages.specs.Images.{Pairs}
use Rattle.stages.specs.Params.{Lent}
use Rattle.stages.specs.Arith.{choice_level, early, apply, Lexed, token, level, Tree, binary, Grown, operand, further, expression, further_at}
use Rattle.stages.specs.Arith.{grow_step, grow, with_variables, evaluate}
use Rattle.stages.proofs.Bools.{no}
use Rattle.stages.proofs.Outcomes.{done_same}
use Rattle.stages.proofs.Arith.{grow_eq}
use Rattle.stages.proofs.Storeys.{lowest}
use Rattle.stages.proofs.Sums.{unneeded_right}
use Rattle.text.specs.Places.{Behind}
use Rattle.std.specs.Prelude.{Some, None, Result, Ok, Err}
use Rattle.text.specs.Refusals.{refusal_number}
use Rattle.text.specs.declared.refusal.Refusal.{Refusal}
use Rattle.arith_int.specs.Answers.{op_of}
use Rattle.arith_int.specs.declared.Op.{Op}
use Rattle.arith_token.specs.Tokens.{level_of, lexed, TokenAt}
use Rattle.arith_token.specs.declared.Token.{Token}
use Rattle.arith_token.specs.declared.Token.TheVariants as code
use Rattle.arith_token.proofs.Lexing.{level_is}
use Rattle.arith_eval.specs.Climbs.{inside, climbed, unless_decided, Joins, is_none, Fails, Worth, Kept, Says, Continues, Turns}
use Rattle.arith_eval.specs.declared.answers.Climbed.{Climbed}
use Rattle.arith_eval.proofs.Trees.{never, bound, right_refused, both_done, left_fails}
use Rattle.arith_eval.proofs.Operands.{fault, work_fault, fails_same, fails_first, kept_on}

module _ (lent : Lent) (text : Text) (vars : Text) (used : ℕ) (counts : Bool) where
  abbrev before : Pairs
  before = inside vars used

  -- An expression: an operand, and what is behind it.
  module _ (at d k : ℕ) (high : lowest ≤ k) where
    -- an operand of the table's levels begins no whole expression
    first_operand : expression grow d k (drop at text) ≡ (grow (operand false, d, drop at text) >>= λ p. grow (further k p.0, d, p.1))
    first_operand = rw (lt-leb k 1 (omega arith))

    abbrev all_here : Grown
    all_here = expression grow d k (drop at text)

    pub expression_fails : (e : ℕ) → Fails lent before counts (grow (operand false, d, drop at text)) e → Fails lent before counts all_here e
    expression_fails e f =
        fails_same lent before counts first_operand
        (fails_first lent before counts (λ p. grow (further k p.0, d, p.1)) f λ q p h b. left_fails lent before d k q.0 q.1 high p h e b)

    module _ (mid : Text) (z : ℤ) (next now : ℕ)
        (c : Says lent text at vars used counts (grow (operand false, d, drop at text)) mid (Ok (climbed z next now))) where
      then_further : all_here ≡ grow (further k c.0.tree, d, drop next text)
      then_further = first_operand ∙ ap (λ (o : Grown). o >>= λ p. grow (further k p.0, d, p.1)) c.0.is

      pub expression_says : (left : Text) (r : Result Climbed Refusal) → Continues lent text next mid now counts d k z left r
          → Says lent text at vars used counts all_here left r
      expression_says left (Err e) h = fails_same lent before counts then_further (h before c.0.tree c.0.worth)
      expression_says left (Ok r) h =
          let g = h before c.0.tree c.0.worth in
          let a = c.0.onward in
          let b = g.0.onward in (
            record { tree = g.0.tree; is = then_further ∙ g.0.is; worth = g.0.worth; onward = omega arith; within = g.0.within },
            kept_on c.1 g.1,
          )

  -- One operator, and its right side.
  module _ (at d k : ℕ) (y : ℤ) where
    abbrev behind_left : Tree → Grown
    behind_left l = grow (further k l, d, drop at text)

    by_operator : (t : Token) → TokenAt text at t → (l : Tree) → behind_left l ≡ (lexed text t >>= λ p. further_at grow d k l (drop at text) p)
    unfolding grow_step
    by_operator t w l = grow_eq (further k l, d, drop at text) ∙ ap (λ (o : Lexed). o >>= λ p. further_at grow d k l (drop at text) p) w.is

    pub turn_refused : (left : Text) (e : Refusal) → token (drop at text) ≡ refused (refusal_number e)
        → Turns lent text at vars used counts d k y left (Err e)
    unfolding grow_step
    turn_refused left e t v l w =
        fault lent v counts (grow_eq (further k l, d, drop at text) ∙ ap (λ (o : Lexed). o >>= λ p. further_at grow d k l (drop at text) p) t)

    -- a token that is no operator
    pub last_none : lowest ≤ k → (r : Token) → TokenAt text at r → ((o : Op) (n : ℕ) → r ≡ code.Op o n → ⊥)
        → Turns lent text at vars used counts d k y vars (Ok None)
    unfolding further_at
    last_none h code.Stop t x = (λ l. by_operator code.Stop t l, refl)
    last_none h (code.Number z n) t x = (λ l. by_operator (code.Number z n) t l, refl)
    last_none h (code.Name a b) t x = (λ l. by_operator (code.Name a b) t l, refl)
    last_none h (code.Op o n) t x = absurd (x o n refl)
    last_none h (code.Opens n) t x = (λ l. by_operator (code.Opens n) t l, refl)
    last_none h (code.Shuts n) t x = (λ l. by_operator (code.Shuts n) t l, refl)
    last_none h (code.Query n) t x = (λ l. by_operator (code.Query n) t l ∙ rw (lt-leb k choice_level (omega arith), further_at), refl)
    last_none h (code.Colon n) t x = (λ l. by_operator (code.Colon n) t l, refl)
    last_none h (code.Gets s n) t x = (λ l. by_operator (code.Gets s n) t l, refl)

    module _ (o : Op) (next : ℕ) (t : TokenAt text at (code.Op o next)) where
      pub last_loose : level_of o < k → Turns lent text at vars used counts d k y vars (Ok None)
      unfolding further_at
      last_loose h = (λ l. by_operator (code.Op o next) t l ∙ rw (lt-leb k (level (op_of o)) (rw (level_is o) at h), further_at), refl)

      right : Grown
      right = expression grow d (level_of o + 1) (drop next text)

      module _ (h : k ≤ level_of o) where
        tight : (l : Tree) → behind_left l ≡ (right >>= λ r. grow (further k (binary (op_of o) l r.0), d, r.1))
        unfolding further_at right
        tight l =
            by_operator (code.Op o next) t l ∙ rw (le-leb k (level (op_of o)) (rw (level_is o) at h), further_at)
            (ap (λ (i : ℕ). expression grow d i (drop next text) >>= λ r. grow (further k (binary (op_of o) l r.0), d, r.1))
            (ap suc (sym (level_is o)) ∙ sym (add-one (level_of o))))

        reads_fails : (left : Text) (e : Refusal) → expression grow d (level_of o + 1) (drop next text) ≡ refused (refusal_number e)
            → Turns lent text at vars used counts d k y left (Err e)
        unfolding right
        reads_fails left e q v l w =
            fault lent v counts (tight l ∙ ap (λ (r : Grown). r >>= λ r. grow (further k (binary (op_of o) l r.0), d, r.1)) q)

        works_fails : (high : lowest ≤ k) (left : Text) (e : Refusal) → counts ≡ true → early (op_of o) y ≡ none
            → Fails lent before true (expression grow d (level_of o + 1) (drop next text)) (refusal_number e)
            → Turns lent text at vars used counts d k y left (Err e)
        unfolding right
        works_fails high left e c i f v l w =
            fails_same lent v counts (tight l)
            (work_fault lent v counts c λ p h.
            let b = bound right (λ r. grow (further k (binary (op_of o) l r.0), d, r.1)) p h in
            left_fails lent v d k (binary (op_of o) l b.from.0) b.from.1 high p b.then_is (refusal_number e)
            (right_refused lent v (op_of o) l b.from.0 y before (w c) i (refusal_number e) (f.works b.from b.first)))

        pub right_fails : (high : lowest ≤ k) (left : Text) (e : Refusal) (b : Bool) (u : Option ℤ) → counts ≡ b → early (op_of o) y ≡ u
            → Fails lent before (b && is_none u) (expression grow d (level_of o + 1) (drop next text)) (refusal_number e)
            → Turns lent text at vars used counts d k y left (Err e)
        right_fails high left e true none c i f = works_fails high left e c i f
        right_fails high left e true (some z) c i f = reads_fails left e (f.reads refl)
        right_fails high left e false u c i f = reads_fails left e (f.reads refl)

        module _ (high : lowest ≤ k) (b : Bool) (u : Option ℤ) (counted : counts ≡ b) (decides : early (op_of o) y ≡ u) (left : Text) (z : ℤ) (n now : ℕ)
            (c : Says lent text next vars used (b && is_none u) (expression grow d (level_of o + 1) (drop next text)) left (Ok (climbed z n now))) where
          abbrev after : Pairs
          after = inside left now

          abbrev second : Tree
          second = c.0.tree

          grown_on : (l : Tree) → behind_left l ≡ grow (further k (binary (op_of o) l second), d, drop n text)
          unfolding right
          grown_on l = tight l ∙ ap (λ (r : Grown). r >>= λ r. grow (further k (binary (op_of o) l r.0), d, r.1)) c.0.is

          next_behind : Behind text at n
          next_behind = let a = t.ends.onward in let b = c.0.onward in record { onward = omega arith; within = c.0.within }

          -- the tree with its right side, whatever is known of it
          next_turns : (x : ℤ) → Kept lent vars used counts left now
              → ((v : Pairs) (l : Tree) → Worth lent v counts l y before → Worth lent v counts (binary (op_of o) l second) x after)
              → Turns lent text at vars used counts d k y left (Ok (Some (climbed x n now)))
          next_turns x s h = (next_behind, s, λ v l w. record { tree = binary (op_of o) l second; is = grown_on l; worth = h v l w })

          -- what both sides come to
          both_fails : counts ≡ true → ((v : Pairs) (l : Tree) → Worth lent v counts l y before → evaluate lent v (binary (op_of o) l second)
              ≡ with_variables after (apply (op_of o) y z)) → (e : Refusal) → apply (op_of o) y z ≡ refused (refusal_number e)
              → Turns lent text at vars used counts d k y left (Err e)
          both_fails q h e a v l w =
              work_fault lent v counts q λ p s.
              left_fails lent v d k (binary (op_of o) l second) (drop n text) high p (sym (grown_on l) ∙ s) (refusal_number e)
              (h v l w ∙ ap (with_variables after) a)

        -- the variables where the right side decided nothing are those before it
        stays : {left : Text} {now : ℕ} → Kept lent vars used false left now → inside left now ≡ before
        stays {left} {now} m = ap (λ (x : Text). inside x now) (m.bytes refl) ∙ ap (inside vars) (m.length refl)

        held_on : {left : Text} {now : ℕ} → Kept lent vars used false left now → Kept lent vars used counts left now
        held_on m = record { holds = m.holds; bytes = λ _. m.bytes refl; length = λ _. m.length refl }

        module _ (high : lowest ≤ k) (left : Text) (z : ℤ) (n now : ℕ) where
          pub joined_fails : (b : Bool) (u : Option ℤ) → counts ≡ b → early (op_of o) y ≡ u
              → Says lent text next vars used (b && is_none u) (expression grow d (level_of o + 1) (drop next text)) left (Ok (climbed z n now))
              → (e : Refusal) → Joins o y z b (Err e) → Turns lent text at vars used counts d k y left (Err e)
          joined_fails true none q i c e s =
              both_fails high true none q i left z n now c q (λ v l w. both_done lent v (op_of o) l c.0.tree y before (w q) i z (inside left now)
              (c.0.worth refl)) e
              (sym (s ∙ ap (λ (e : Option ℤ). unless_decided e (apply (op_of o) y z)) i))
          joined_fails true (some x) q i c e s =
              absurd (never (s ∙ ap (λ (e : Option ℤ). unless_decided e (apply (op_of o) y z)) i))
          joined_fails false u q i c e s = cc

          pub turn_says : (b : Bool) (u : Option ℤ) → counts ≡ b → early (op_of o) y ≡ u
              → Says lent text next vars used (b && is_none u) (expression grow d (level_of o + 1) (drop next text)) left (Ok (climbed z n now))
              → (x : ℤ) → Joins o y z b (Ok x) → Turns lent text at vars used counts d k y left (Ok (Some (climbed x n now)))
          turn_says true none q i c x s =
              let a : apply (op_of o) y z ≡ done x = sym (s ∙ ap (λ (e : Option ℤ). unless_decided e (apply (op_of o) y z)) i) in
              next_turns high true none q i left z n now c x (subst (λ (b : Bool). Kept lent vars used b left now) (sym q) c.1)
              (λ v l w _. both_done lent v (op_of o) l c.0.tree y before (w q) i z (inside left now) (c.0.worth refl) ∙ ap
              (with_variables (inside left now)) a)
          turn_says true (some x') q i c x s =
              let a : x' ≡ x = done_same (sym (s ∙ ap (λ (e : Option ℤ). unless_decided e (apply (op_of o) y z)) i)) in
              subst (λ (w : ℤ). Turns lent text at vars used counts d k y left (Ok (Some (climbed w n now)))) a
              (next_turns high true (some x') q i left z n now c x' (held_on c.1)
              (λ v l w _. unneeded_right lent v before y (op_of o) l c.0.tree x' (w q) i ∙ ap (λ (p : Pairs). done (x', p)) (sym (stays c.1))))
          turn_says false u q i c x s =
              let a : y ≡ x = cc in
              subst (λ (w : ℤ). Turns lent text at vars used counts d k y left (Ok (Some (climbed w n now)))) a
              (next_turns high false u q i left z n now c y (held_on c.1) (λ v l w p. absurd (no (sym q ∙ p))))

  -- All operators behind a left side.
  pub record Climbs (at d k : ℕ) (v : Pairs) (l : Tree) (z : ℤ) (i : ℕ) (w : Pairs) : Type 0 where
    pub tree : Tree
    pub is : grow (further k l, d, drop at text) ≡ grow (further k tree, d, drop i text)
    pub worth : Worth lent v counts tree z w

  pub record Going (at d k : ℕ) (y z : ℤ) (i : ℕ) (left : Text) (now : ℕ) : Type 0 where
    pub onward : at ≤ i
    pub within : i ≤ length text
    pub kept : Kept lent vars used counts left now
    pub climbs : (v : Pairs) (l : Tree) → Worth lent v counts l y before → Climbs at d k v l z i (inside left now)

  module _ (at d k : ℕ) (y : ℤ) where
    module _ (z : ℤ) (i : ℕ) (mid : Text) (now : ℕ) (g : Going at d k y z i mid now) where
      pub going_refused : (left : Text) (e : Refusal) → Turns lent text i mid now counts d k z left (Err e)
          → Continues lent text at vars used counts d k y left (Err e)
      going_refused left e h v l w = let c = g.climbs v l w in fails_same lent v counts c.is (h v c.tree c.worth)

      pub going_last : (left : Text) → Turns lent text i mid now counts d k z left (Ok None)
          → Continues lent text at vars used counts d k y left (Ok (climbed z i now))
      going_last left h v l w =
          let c = g.climbs v l w in
          let m = g.kept in (
            record {
              tree = c.tree;
              is = c.is ∙ h.0 c.tree;
              worth = subst (λ (x : Text). Worth lent v counts c.tree z (inside x now)) (sym h.1) c.worth;
              onward = g.onward;
              within = g.within;
            },
            subst (λ (x : Text). Kept lent vars used counts x now) (sym h.1) m,
          )

      pub going_next : (left : Text) (x : ℤ) (n last : ℕ) → Turns lent text i mid now counts d k z left (Ok (Some (climbed x n last)))
          → Going at d k y x n left last
      going_next left x n last h =
          let a = g.onward in
          let b = h.0.onward in
          record { onward = omega arith; within = h.0.within; kept = kept_on g.kept h.1; climbs = λ v l w. more (g.climbs v l w) }
        where
          more : {v : Pairs} {l : Tree} → Climbs at d k v l z i (inside mid now) → Climbs at d k v l x n (inside left last)
          more {v} c = let s = h.2 v c.tree c.worth in record { tree = s.tree; is = c.is ∙ s.is; worth = s.worth }
