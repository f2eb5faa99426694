-- Laws of `?:` and assignments where nothing counts: reading by turns, with a count of the colons that are still to come. And what is behind a value that
-- counts, by the same turns.
use Prim.Native.Nat.{ℕ, zero, suc, ◌+◌, ◌-◌, ◌≤◌}
use native.Mathlib.Omega.{arith}
use native.Mathlib.Numerals.{add-one}
use mathlib.Core.Path.{◌≡◌, refl, sym, ap, ◌∙◌, subst}
use mathlib.Core.Bool.{Bool, true, false}
use lib.IntN.{ℤ, pos}
use lib.ListN.{length, drop}
use Rattle.stages.specs.Numbers.{arithmetic_syntax}
use Rattle.stages.specs.Bytes.{Text, part}
use Rattle.stages.specs.Outcome.{Outcome, refused, demands, done, ◌>>=◌}
use Rattle.stages.specs.Images.{Pairs}
use Rattle.stages.specs.Params.{Lent}
use Rattle.stages.specs.Arith.{whole_level, is_true, stop, shuts, colon, Token, ends, num, name, op, opens, query, gets, Lexed, token, Tree}
use Rattle.stages.specs.Arith.{Grown, expression, grow}
use Rattle.stages.proofs.Bools.{no}
use Rattle.stages.proofs.Outcomes.{done_same, never_asks}
use Rattle.stages.proofs.Ended.{NoTarget, target_name, choice_above, whole_above}
use Rattle.stages.proofs.Storeys.{lowest, asked, upstairs}
use Rattle.stages.proofs.Turns.{rest, other, pending, pending_refused, turn_query, turn_colon, turn_gets}
use Rattle.table_store.specs.Holding.{Holds}
use Rattle.arith_token.specs.Tokens.{setting_of, TokenAt}
use Rattle.std.specs.Prelude.{Option, Some, None, Ok, Err}
use Rattle.text.specs.Refusals.{refusal_number}
use Rattle.text.specs.declared.refusal.Refusal.{Refusal}
use Rattle.text.specs.declared.refusal.Refusal.TheVariants.{ArithmeticSyntax}
use Rattle.arith_eval.specs.declared.marks.Mark.{Mark}
use Rattle.arith_eval.specs.declared.marks.Mark.TheVariants as mark
use Rattle.arith_int.specs.declared.Op as code-op
use Rattle.arith_token.specs.declared.Token.TheVariants as code
use Rattle.arith_eval.specs.Climbs.{inside, climbed, Fails, Comes, Says}
use Rattle.arith_eval.specs.Wholes.{is_aside, is_query, Aside, Stands, Marks, Beyond, IsTarget, Sets, Targets, level_at, to_read, Skips, Steps}
use Rattle.arith_eval.specs.declared.answers.Step.TheVariants as step
use Rattle.arith_eval.specs.declared.marks.Target.{Target}
use Rattle.arith_eval.proofs.Trees.{never}
use Rattle.arith_eval.proofs.Operands.{fault}

-- a name that begins a whole expression, by what is behind it
pub targets_by : (text : Text) (at : ℕ) (first : Bool) → first ≡ true → {from to : ℕ} → TokenAt text at (code.Name from to) → (r : Option Target)
    → Sets text from to r → Targets text at first r
targets_by text at first e {from} {to} t None h = λ _. target_name (drop at text) (drop to text) (part text from to) t.is h
targets_by text at first e {from} {to} t (Some r) h =
    rw (h.0, h.1)
    (e, record { names = record { is = t.is; behind = t.ends.behind }; sets = h.2; named = t.ends.named; rising = t.ends.rising })

-- what is behind a tree tells whether there is one
pub rest_refused : (o : Grown) (e : ℕ) → rest o ≡ refused e → o ≡ refused e
rest_refused (refused n) e q = cc
rest_refused (demands t) e q = absurd (let z : ◌≡◌ {A = ℕ} 0 1 = cc in omega arith)
rest_refused (done p) e q = absurd (never (sym q))

pub record Has (o : Grown) (u : Text) : Type 0 where
  pub tree : Tree
  pub is : o ≡ done (tree, u)

pub rest_done : (o : Grown) (u : Text) → rest o ≡ done u → Has o u
rest_done (refused n) u q = absurd (never q)
rest_done (demands t) u q = absurd (never_asks q)
rest_done (done (l, t)) u q = record { tree = l; is = ap (λ (x : Text). done (l, x)) (done_same q) }

-- a token that is no `?`, and one that is no `:` either
bare_asked : (d : ℕ) (l : Tree) (t : Text) (s : Token × Text) → is_query s.0 ≡ false → asked d l t s ≡ done (l, t)
unfolding asked
bare_asked d l t (ends e, u) h = refl
bare_asked d l t (num z, u) h = refl
bare_asked d l t (name x, u) h = refl
bare_asked d l t (op o, u) h = refl
bare_asked d l t (opens, u) h = refl
bare_asked d l t (query, u) h = absurd (no (sym h))
bare_asked d l t (gets o, u) h = refl

aside_bare : (k : Token) → is_aside k ≡ true → is_query k ≡ false
aside_bare (ends e) h = refl
aside_bare (num z) h = refl
aside_bare (name x) h = refl
aside_bare (op o) h = refl
aside_bare opens h = refl
aside_bare query h = absurd (no h)
aside_bare (gets o) h = refl

aside_other : (d : ℕ) (s : Token × Text) → is_aside s.0 ≡ true → other d s ≡ refused arithmetic_syntax
unfolding other
aside_other d (ends stop, u) h = refl
aside_other d (ends shuts, u) h = refl
aside_other d (ends colon, u) h = absurd (no h)
aside_other d (num z, u) h = refl
aside_other d (name x, u) h = refl
aside_other d (op o, u) h = refl
aside_other d (opens, u) h = refl
aside_other d (query, u) h = absurd (no h)
aside_other d (gets o, u) h = refl

-- a side that is not needed ends at its `:`
pub beyond_query : (text : Text) (at n : ℕ) → Stands text at query n → Beyond text at (Err ArithmeticSyntax)
unfolding other
beyond_query text at n h d = ap (λ (o : Lexed). o >>= λ s. other d s) h.is

pub beyond_aside : (text : Text) (at : ℕ) → Aside text at → Beyond text at (Err ArithmeticSyntax)
beyond_aside text at h d = ap (λ (o : Lexed). o >>= λ s. other d s) h.is ∙ aside_other d h.here h.other

-- .. behind no mark that is no `:`
pub beyond_none : (text : Text) (at : ℕ) (m : Mark) → Marks text at (Ok m) → ((n : ℕ) → m ≡ mark.Colon n → ⊥) → Beyond text at (Err ArithmeticSyntax)
beyond_none text at (mark.Query n) h x = beyond_query text at n h
beyond_none text at (mark.Colon n) h x = absurd (x n refl)
beyond_none text at mark.Other h x = beyond_aside text at h

module _ (d : ℕ) where
  -- what begins with no assignment is a storey, and perhaps a `?`
  pub storey_above : (first : Bool) (t : Text) → (first ≡ true → NoTarget t) →
      expression grow d (level_at first) t ≡ (expression grow d lowest t >>= upstairs d)
  storey_above true t bare = whole_above d t (bare refl)
  storey_above false t bare = choice_above d t

  -- one less to come, as the code counts
  pending_less : (p : ℕ) (t : Text) → (p ≡ 0 → ⊥) → pending d p (done t) ≡ pending d (p - 1) (token t >>= λ s. other d s)
  unfolding pending
  pending_less zero t n = absurd (n refl)
  pending_less (suc p) t n = let h : p ≡ suc p - 1 = omega arith in ap (λ (i : ℕ). pending d i (token t >>= λ s. other d s)) h

  pending_fails : (p : ℕ) {o : Outcome Text} {e : ℕ} → o ≡ refused e → pending d p o ≡ refused e
  pending_fails p {e = e} q = ap (pending d p) q ∙ pending_refused d p e

  colon_turn : (p : ℕ) (l : Tree) (t u : Text) → (p ≡ 0 → ⊥) → token t ≡ done (ends colon, u)
      → pending d p (rest (upstairs d (l, t))) ≡ pending d (p - 1) (rest (expression grow d (level_at false) u))
  colon_turn zero l t u n q = absurd (n refl)
  colon_turn (suc p) l t u n q =
      let h : p ≡ suc p - 1 = omega arith in
      turn_colon d p l t u q ∙ ap (λ (i : ℕ). pending d i (rest (expression grow d (level_at false) u))) h

  no_colon_lem : (p : ℕ) (text : Text) (at : ℕ) → (p ≡ 0 → ⊥) → Aside text at → pending d p (done (drop at text)) ≡ refused arithmetic_syntax
  no_colon_lem p text at n h =
      pending_less p (drop at text) n
      ∙ pending_fails (p - 1) (ap (λ (o : Lexed). o >>= λ s. other d s) h.is ∙ aside_other d h.here h.other)

  pub bare_up : (l : Tree) (t : Text) (s : Token × Text) → token t ≡ done s → is_query s.0 ≡ false → upstairs d (l, t) ≡ done (l, t)
  bare_up l t s q h = ap (λ (o : Lexed). o >>= λ s. asked d l t s) q ∙ bare_asked d l t s h

  refused_up : (p : ℕ) (l : Tree) (t : Text) (e : ℕ) → token t ≡ refused e → pending d p (rest (upstairs d (l, t))) ≡ refused e
  refused_up p l t e q = pending_fails p (ap (λ (o : Lexed). rest (o >>= λ s. asked d l t s)) q)

  none_pending : (p : ℕ) (o : Outcome Text) → p ≡ 0 → pending d p o ≡ o
  unfolding pending
  none_pending p o z = ap (λ (i : ℕ). pending d i o) z

-- WHERE NOTHING COUNTS: what is still to be read, of what was to be read at first
pub record Skipping (text : Text) (at d p : ℕ) (begins : Bool) (q i : ℕ) (first : Bool) : Type 0 where
  pub is : to_read text at d p begins ≡ to_read text i d q first
  pub onward : at ≤ i
  pub within : i ≤ length text
  pub few : q ≤ i

module _ (text : Text) (at d p : ℕ) (begins : Bool) where
  -- a name and its `=` are passed
  pub skip_target : (q i : ℕ) (first : Bool) → Skipping text at d p begins q i first → {from to : ℕ} {setting : Option code-op.Op} {n : ℕ} → first ≡ true
      → IsTarget text i from to setting n → Skipping text at d p begins q n first
  skip_target q i true s {from} {to} {setting} {n} e h =
      let a = h.names.behind.onward in
      let b = h.sets.behind.onward in
      let f = s.few in
      let g = s.onward in
      record {
        is = s.is ∙ turn_gets d q (setting_of setting) _ (drop i text) (drop to text) (drop n text) h.names.is h.sets.is;
        onward = omega arith;
        within = h.sets.behind.within;
        few = omega arith;
      }
  skip_target q i false s e h = absurd (no e)

  module _ (q i : ℕ) (first : Bool) (s : Skipping text at d p begins q i first) (bare : first ≡ true → NoTarget (drop i text)) where
    pub skip_fails : (lent : Lent) (v : Pairs) (vars left : Text) (e : Refusal)
        → Fails lent v false (expression grow d lowest (drop i text)) (refusal_number e) → Skips text at d p begins vars left (Err e)
    skip_fails lent v vars left e f =
        s.is ∙ pending_fails d q (ap rest (storey_above d first (drop i text) bare ∙ ap (λ (o : Grown). o >>= upstairs d) (f.reads refl)))

    module _ {lent : Lent} {v w : Pairs} {z : ℤ} {n : ℕ} (c : Comes lent text (suc i) v false (expression grow d lowest (drop i text)) z n w) where
      at_storey : to_read text i d q first ≡ pending d q (rest (upstairs d (c.tree, drop n text)))
      at_storey =
          ap (λ (o : Grown). pending d q (rest o)) (storey_above d first (drop i text) bare ∙ ap (λ (o : Grown). o >>= upstairs d) c.is)

      pub skip_refused : (vars left : Text) (e : Refusal) → token (drop n text) ≡ refused (refusal_number e) → Skips text at d p begins vars left (Err e)
      skip_refused vars left e h = s.is ∙ at_storey ∙ refused_up d q c.tree (drop n text) (refusal_number e) h

      pub skip_query : (m : ℕ) → Stands text n query m → Skipping text at d p begins (q + 1) m true
      skip_query m h =
          let a = c.onward in
          let b = h.behind.onward in
          let f = s.few in
          let g = s.onward in
          record {
            is =
                s.is ∙ at_storey ∙ turn_query d q c.tree (drop n text) (drop m text) h.is
                ∙ ap (λ (j : ℕ). to_read text m d j true) (sym (add-one q));
            onward = omega arith;
            within = h.behind.within;
            few = omega arith;
          }

      pub skip_colon : (m : ℕ) → (q ≡ 0 → ⊥) → Stands text n (ends colon) m → Skipping text at d p begins (q - 1) m false
      skip_colon m k h =
          let a = c.onward in
          let b = h.behind.onward in
          let f = s.few in
          let g = s.onward in
          record {
            is = s.is ∙ at_storey ∙ colon_turn d q c.tree (drop n text) (drop m text) k h.is;
            onward = omega arith;
            within = h.behind.within;
            few = omega arith;
          }

      skip_last : (vars left : Text) → left ≡ vars → q ≡ 0 → (k : Token × Text) → token (drop n text) ≡ done k → is_query k.0 ≡ false
          → Skips text at d p begins vars left (Ok n)
      skip_last vars left stay z k h b =
          let a = c.onward in
          let g = s.onward in (
            s.is ∙ at_storey ∙ ap (λ (o : Grown). pending d q (rest o)) (bare_up d c.tree (drop n text) k h b) ∙ none_pending d q _ z,
            record { onward = omega arith; within = c.within },
            stay,
          )

      pub skip_end_colon : (vars left : Text) → left ≡ vars → (m : ℕ) → q ≡ 0 → Stands text n (ends colon) m
          → Skips text at d p begins vars left (Ok n)
      skip_end_colon vars left stay m z h = skip_last vars left stay z (ends colon, drop m text) h.is refl

      pub skip_end : (vars left : Text) → left ≡ vars → q ≡ 0 → Aside text n → Skips text at d p begins vars left (Ok n)
      skip_end vars left stay z h = skip_last vars left stay z h.here h.is (aside_bare h.here.0 h.other)

      pub skip_lacks : (vars left : Text) → (q ≡ 0 → ⊥) → Aside text n → Skips text at d p begins vars left (Err ArithmeticSyntax)
      skip_lacks vars left k h =
          s.is ∙ at_storey
          ∙ ap (λ (o : Grown). pending d q (rest o)) (bare_up d c.tree (drop n text) h.here h.is (aside_bare h.here.0 h.other))
          ∙ no_colon_lem d q text n k h

-- a whole expression that does not count
module _ (lent : Lent) (text : Text) (at d : ℕ) (vars : Text) (used : ℕ) (left : Text) where
  pub whole_skipped : (e : Refusal) → Skips text at d 0 true vars left (Err e)
      → Says lent text at vars used false (expression grow d whole_level (drop at text)) left (Err e)
  unfolding pending
  whole_skipped e h = fault lent (inside vars used) false (rest_refused (expression grow d whole_level (drop at text)) (refusal_number e) h)

  pub whole_read : Holds lent.room vars used → (n : ℕ) → Skips text at d 0 true vars left (Ok n)
      → Says lent text at vars used false (expression grow d whole_level (drop at text)) left (Ok (climbed (pos 0) n used))
  unfolding pending
  whole_read holds n h =
      let t = rest_done (expression grow d whole_level (drop at text)) (drop n text) h.0 in (
        record { tree = t.tree; is = t.is; worth = λ c. absurd (no c); onward = h.1.onward; within = h.1.within },
        record { holds = subst (λ (x : Text). Holds lent.room x used) (sym h.2) holds; bytes = λ _. h.2; length = λ _. refl },
      )

-- BEHIND A VALUE THAT COUNTS
module _ (text : Text) (at d : ℕ) (z : ℤ) (p : ℕ) (vars left : Text) where
  pub step_refused : (e : Refusal) → token (drop at text) ≡ refused (refusal_number e) → Steps text at d z p vars left (Err e)
  step_refused e q l = refused_up d p l (drop at text) (refusal_number e) q

  pub step_lacks : (p ≡ 0 → ⊥) → Aside text at → Steps text at d z p vars left (Err ArithmeticSyntax)
  step_lacks k h l =
      ap (λ (o : Grown). pending d p (rest o)) (bare_up d l (drop at text) h.here h.is (aside_bare h.here.0 h.other))
      ∙ no_colon_lem d p text at k h

  pub step_end : left ≡ vars → at ≤ length text → p ≡ 0 → Aside text at → Steps text at d z p vars left (Ok (step.Last at))
  step_end stay w k h = (
    record {
      here = h.here;
      is = h.is;
      bare = aside_bare h.here.0 h.other;
      reads = none_pending d p _ k;
      onward = omega arith;
      within = w;
    },
    stay,
  )

  module _ (n : ℕ) (h : Stands text at (ends colon) n) where
    pub step_end_colon : left ≡ vars → p ≡ 0 → Steps text at d z p vars left (Ok (step.Last at))
    step_end_colon stay k =
        let a = h.behind.onward in
        let b = h.behind.within in (
          record {
            here = (ends colon, drop n text);
            is = h.is;
            bare = refl;
            reads = none_pending d p _ k;
            onward = omega arith;
            within = omega arith;
          },
          stay,
        )

    module _ (k : p ≡ 0 → ⊥) where
      pub step_side_fails : (e : Refusal) → Skips text n d (p - 1) false vars left (Err e) → Steps text at d z p vars left (Err e)
      step_side_fails e q l = colon_turn d p l (drop at text) (drop n text) k h.is ∙ q

      pub step_closed : (m : ℕ) → Skips text n d (p - 1) false vars left (Ok m) → Steps text at d z p vars left (Ok (step.Last m))
      unfolding other
      step_closed m q =
          let a = h.behind.onward in
          let b = q.1.onward in (
            record {
              here = (ends colon, drop n text);
              is = h.is;
              bare = refl;
              reads = pending_less d p (drop at text) k ∙ ap (λ (o : Lexed). pending d (p - 1) (o >>= λ s. other d s)) h.is ∙ q.0;
              onward = omega arith;
              within = q.1.within;
            },
            q.2,
          )

  module _ (n : ℕ) (h : Stands text at query n) where
    query_turn : (l : Tree) → pending d p (rest (upstairs d (l, drop at text))) ≡ pending d (suc p) (rest (expression grow d whole_level (drop n text)))
    query_turn l = turn_query d p l (drop at text) (drop n text) h.is

    pub step_middle_fails : (e : Refusal) → Skips text n d 0 true vars left (Err e) → Steps text at d z p vars left (Err e)
    unfolding pending
    step_middle_fails e q l = query_turn l ∙ pending_fails d (suc p) q

    module _ (m : ℕ) (q : Skips text n d 0 true vars left (Ok m)) where
      pub step_beyond_fails : (e : Refusal) → Beyond text m (Err e) → Steps text at d z p vars left (Err e)
      unfolding pending
      step_beyond_fails e b l = query_turn l ∙ ap (pending d (suc p)) q.0 ∙ pending_fails d p (b d)

      pub step_beyond : is_true z ≡ false → (k : ℕ) → Beyond text m (Ok k) → Steps text at d z p vars left (Ok (step.Behind k))
      unfolding pending
      step_beyond f k b =
          let x = h.behind.onward in
          let y = q.1.onward in
          let w = b.behind.onward in (
            f,
            record {
              from = n;
              to = m;
              asks = h.is;
              side = q.0;
              shuts = b.is;
              behind = record { onward = omega arith; within = b.behind.within };
            },
            q.2,
          )
