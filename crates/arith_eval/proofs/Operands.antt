-- Laws of operands: for each way through the functions on one operand, what their callees' answers say of their own.
use Prim.Native.Nat.{ℕ, suc, ◌-◌, ◌≤◌}
use native.Mathlib.Omega.{arith}
use mathlib.Core.Path.{◌≡◌, refl, sym, ap, ◌∙◌, subst}
use mathlib.Core.Bool.{Bool, true, false}
use lib.Dec.{eqb}
use lib.IntN.{ℤ}
use lib.ListN.{drop}
use Rattle.stages.specs.Numbers.{too_deep, arithmetic_syntax}
use Rattle.stages.specs.Bytes.{Text, part}
use Rattle.stages.specs.Outcome.{refused, demands, done, ◌>>=◌}
use Rattle.stages.specs.Images.{Pairs}
use Rattle.stages.specs.Params.{Lent}
use Rattle.stages.specs.Arith.{whole_level, is_sign, End, stop, shuts, Lexed, ends, num, name, op, opens, query, gets, token, Tree, constant_of}
use Rattle.stages.specs.Arith.{name_of, unary, Grown, grown, operand, expression, rank, ended, up_to, enclosed, sign, operand_at, grow_step, grow, evaluate}
use Rattle.stages.specs.Arith.{with_variables}
use Rattle.stages.proofs.Bools.{no}
use Rattle.stages.proofs.Arith.{grow_eq}
use Rattle.stages.proofs.Outcomes.{done_same, never_asks}
use Rattle.table_store.specs.Holding.{Holds}
use Rattle.std.specs.Prelude.{Result, Ok, Err}
use Rattle.text.specs.Refusals.{refusal_number}
use Rattle.text.specs.declared.refusal.Refusal.{Refusal}
use Rattle.arith_int.specs.Answers.{op_of}
use Rattle.arith_int.specs.declared.Op.{Op}
use Rattle.arith_token.specs.Tokens.{lexed, TokenAt}
use Rattle.arith_token.specs.declared.Token.{Token}
use Rattle.arith_token.specs.declared.Token.TheVariants as code
use Rattle.arith_eval.specs.Climbs.{inside, climbed, Names, Turned, sign_of, Fails, Worth, Kept, Says}
use Rattle.arith_eval.specs.Wholes.{Closes}
use Rattle.arith_eval.specs.declared.answers.Climbed.{Climbed}
use Rattle.arith_eval.proofs.Trees.{never, bound, unary_refused, unary_done, name_is, constant_is}

-- An enum's answer, once its case is known.

pub token_shown : {text : Text} {at : ℕ} {r s : Token} → TokenAt text at r → r ≡ s → TokenAt text at s
token_shown {text} {at} h e = subst (TokenAt text at) e h

-- What stands behind a value, by its token.

pub ended_by : (text : Text) (at : ℕ) (e : End) (k : Token) → TokenAt text at k → (l : Tree)
    → (token (drop at text) >>= λ s. ended e l s) ≡ (lexed text k >>= λ s. ended e l s)
ended_by text at e k t l = ap (λ (o : Lexed). o >>= λ s. ended e l s) t.is

-- a token that is not the end
pub not_ended : (text : Text) (at : ℕ) (k : Token) → TokenAt text at k → (k ≡ code.Stop → ⊥) → (l : Tree)
    → (token (drop at text) >>= λ s. ended stop l s) ≡ refused arithmetic_syntax
unfolding ended
not_ended text at code.Stop t y l = absurd (y refl)
not_ended text at (code.Number z n) t y l = ended_by text at stop (code.Number z n) t l
not_ended text at (code.Name a b) t y l = ended_by text at stop (code.Name a b) t l
not_ended text at (code.Op o n) t y l = ended_by text at stop (code.Op o n) t l
not_ended text at (code.Opens n) t y l = ended_by text at stop (code.Opens n) t l
not_ended text at (code.Shuts n) t y l = ended_by text at stop (code.Shuts n) t l
not_ended text at (code.Query n) t y l = ended_by text at stop (code.Query n) t l
not_ended text at (code.Colon n) t y l = ended_by text at stop (code.Colon n) t l
not_ended text at (code.Gets x n) t y l = ended_by text at stop (code.Gets x n) t l

-- a token that is no `)`
pub not_closed : (text : Text) (at : ℕ) (k : Token) → TokenAt text at k → ((n : ℕ) → k ≡ code.Shuts n → ⊥) → (l : Tree)
    → (token (drop at text) >>= λ s. ended shuts l s) ≡ refused arithmetic_syntax
unfolding ended
not_closed text at code.Stop t y l = ended_by text at shuts code.Stop t l
not_closed text at (code.Number z n) t y l = ended_by text at shuts (code.Number z n) t l
not_closed text at (code.Name a b) t y l = ended_by text at shuts (code.Name a b) t l
not_closed text at (code.Op o n) t y l = ended_by text at shuts (code.Op o n) t l
not_closed text at (code.Opens n) t y l = ended_by text at shuts (code.Opens n) t l
not_closed text at (code.Shuts n) t y l = absurd (y n refl)
not_closed text at (code.Query n) t y l = ended_by text at shuts (code.Query n) t l
not_closed text at (code.Colon n) t y l = ended_by text at shuts (code.Colon n) t l
not_closed text at (code.Gets x n) t y l = ended_by text at shuts (code.Gets x n) t l

-- Refusals.

module _ (lent : Lent) (v : Pairs) (counts : Bool) where
  -- of reading
  pub fault : {o : Grown} {e : ℕ} → o ≡ refused e → Fails lent v counts o e
  fault q = record { reads = λ c. q; works = λ p h. absurd (never (sym q ∙ h)) }

  -- of working out, where it counts
  pub work_fault : {o : Grown} {e : ℕ} → counts ≡ true → ((p : Tree × Text) → o ≡ done p → evaluate lent v p.0 ≡ refused e)
      → Fails lent v counts o e
  work_fault c w = record { reads = λ f. absurd (no (sym f ∙ c)); works = w }

  pub fails_same : {o q : Grown} {e : ℕ} → o ≡ q → Fails lent v counts q e → Fails lent v counts o e
  fails_same s f = record { reads = λ c. s ∙ f.reads c; works = λ p h. f.works p (sym s ∙ h) }

  -- of what a text begins with
  pub fails_first : (f : Tree × Text → Grown) {o : Grown} {e : ℕ} → Fails lent v counts o e
      → ((q p : Tree × Text) → f q ≡ done p → evaluate lent v q.0 ≡ refused e → evaluate lent v p.0 ≡ refused e)
      → Fails lent v counts (o >>= f) e
  fails_first f {o} {e} w on = record {
    reads = λ c. ap (λ (r : Grown). r >>= f) (w.reads c);
    works = λ p h. let b = bound o f p h in on b.from p b.then_is (w.works b.from b.first);
  }

-- a tree before its end is that tree
pub ended_tree : (e : End) (o : Lexed) (l : Tree) (p : Tree × Text) → (o >>= λ s. ended e l s) ≡ done p → p.0 ≡ l
unfolding ended
ended_tree e (refused n) l p h = absurd (never h)
ended_tree e (demands t) l p h = absurd (never_asks h)
ended_tree e (done (ends f, u)) l p h = go (eqb (rank e) (rank f)) refl
  where
    go : (x : Bool) → eqb (rank e) (rank f) ≡ x → p.0 ≡ l
    go true q = ap (λ (x : Tree × Text). x.0) (sym (done_same (rw (q, ended) at h)))
    go false q = absurd (never (rw (q, ended) at h))
ended_tree e (done (num z, u)) l p h = absurd (never h)
ended_tree e (done (name x, u)) l p h = absurd (never h)
ended_tree e (done (op o, u)) l p h = absurd (never h)
ended_tree e (done (opens, u)) l p h = absurd (never h)
ended_tree e (done (query, u)) l p h = absurd (never h)
ended_tree e (done (gets o, u)) l p h = absurd (never h)

-- Variables that stay.

pub kept_all : (lent : Lent) (vars : Text) (used : ℕ) (counts : Bool) → Holds lent.room vars used → Kept lent vars used counts vars used
kept_all lent vars used counts h = record { holds = h; bytes = λ _. refl; length = λ _. refl }

-- those of a part that follows another
pub kept_on : {lent : Lent} {vars mid left : Text} {used now last : ℕ} {counts : Bool} → Kept lent vars used counts mid now → Kept lent mid now counts
    left last
    → Kept lent vars used counts left last
kept_on k m = record { holds = m.holds; bytes = λ c. m.bytes c ∙ k.bytes c; length = λ c. m.length c ∙ k.length c }

module _ (lent : Lent) (text : Text) (vars : Text) (used : ℕ) (counts : Bool) where
  abbrev before : Pairs
  before = inside vars used

  pub says_same : (at next : ℕ) (o q : Grown) (left : Text) (r : Result Climbed Refusal) → o ≡ q → at ≤ next → Says lent text next vars used counts q left r
      → Says lent text at vars used counts o left r
  says_same at next o q left (Err e) s l f = fails_same lent before counts s f
  says_same at next o q left (Ok r) s l c =
      let a = c.0.onward in
      (record { tree = c.0.tree; is = s ∙ c.0.is; worth = c.0.worth; onward = omega arith; within = c.0.within }, c.1)

  -- An operand, by its token.
  module _ (at d : ℕ) where
    abbrev here : Grown
    here = grow (operand false, d, drop at text)

    by_token : (k : Token) → TokenAt text at k → here ≡ (lexed text k >>= λ p. operand_at grow false d p)
    unfolding grow_step
    by_token k t = grow_eq (operand false, d, drop at text) ∙ ap (λ (o : Lexed). o >>= λ p. operand_at grow false d p) t.is

    pub operand_refused : (e : ℕ) → token (drop at text) ≡ refused e → Fails lent before counts here e
    unfolding grow_step
    operand_refused e t =
        fault lent before counts (grow_eq (operand false, d, drop at text) ∙ ap (λ (o : Lexed). o >>= λ p. operand_at grow false d p) t)

    -- a token that begins no operand
    pub operand_none : (k : Token) → TokenAt text at k → ((z : ℤ) (n : ℕ) → k ≡ code.Number z n → ⊥) → ((a b : ℕ) → k ≡ code.Name a b → ⊥)
        → ((o : Op) (n : ℕ) → k ≡ code.Op o n → ⊥) → ((n : ℕ) → k ≡ code.Opens n → ⊥) → Fails lent before counts here arithmetic_syntax
    unfolding operand_at
    operand_none code.Stop t x y w u = fault lent before counts (by_token code.Stop t)
    operand_none (code.Number z n) t x y w u = absurd (x z n refl)
    operand_none (code.Name a b) t x y w u = absurd (y a b refl)
    operand_none (code.Op o n) t x y w u = absurd (w o n refl)
    operand_none (code.Opens n) t x y w u = absurd (u n refl)
    operand_none (code.Shuts n) t x y w u = fault lent before counts (by_token (code.Shuts n) t)
    operand_none (code.Query n) t x y w u = fault lent before counts (by_token (code.Query n) t)
    operand_none (code.Colon n) t x y w u = fault lent before counts (by_token (code.Colon n) t)
    operand_none (code.Gets s n) t x y w u = fault lent before counts (by_token (code.Gets s n) t)

    pub operand_sign : (o : Op) (next : ℕ) (left : Text) (r : Result Climbed Refusal) → TokenAt text at (code.Op o next)
        → Says lent text next vars used counts (sign_of o d (drop next text)) left r → Says lent text at vars used counts here left r
    unfolding operand_at
    operand_sign o next left r t h = let l = t.ends.onward in says_same at next here _ left r (by_token (code.Op o next) t) (omega arith) h

    pub operand_opens : (next : ℕ) (left : Text) (r : Result Climbed Refusal) → TokenAt text at (code.Opens next)
        → Says lent text next vars used counts (enclosed grow d (drop next text)) left r → Says lent text at vars used counts here left r
    unfolding operand_at
    operand_opens next left r t h = let l = t.ends.onward in says_same at next here _ left r (by_token (code.Opens next) t) (omega arith) h

    module _ (holds : Holds lent.room vars used) where
      pub operand_number : (z : ℤ) (next : ℕ) → TokenAt text at (code.Number z next) → Says lent text at vars used counts here vars (Ok (climbed z next used))
      unfolding operand_at
      operand_number z next t = (
        record {
          tree = constant_of z;
          is = by_token (code.Number z next) t;
          worth = λ c. constant_is lent before z;
          onward = t.ends.onward;
          within = t.ends.within;
        },
        kept_all lent vars used counts holds,
      )

      module _ (from to : ℕ) (t : TokenAt text at (code.Name from to)) where
        name_here : here ≡ done (name_of (part text from to), drop to text)
        unfolding operand_at
        name_here = by_token (code.Name from to) t

        value_comes : (z : ℤ) → Worth lent before counts (name_of (part text from to)) z before
            → Says lent text at vars used counts here vars (Ok (climbed z to used))
        value_comes z w = (
          record {
            tree = name_of (part text from to);
            is = name_here;
            worth = w;
            onward = t.ends.behind.onward;
            within = t.ends.behind.within;
          },
          kept_all lent vars used counts holds,
        )

      pub name_fails : (from to : ℕ) (e : Refusal) → TokenAt text at (code.Name from to) → (b : Bool) → counts ≡ b
          → Names (part text from to) before lent.shouts b (Err e) → Fails lent before counts here (refusal_number e)
      name_fails from to e t true c h =
          work_fault lent before counts c λ p q.
          ap (λ (x : Tree × Text). evaluate lent before x.0) (done_same (sym q ∙ name_here from to t))
          ∙ name_is lent before (part text from to) ∙ ap (with_variables before) (sym h)
      name_fails from to e t false c h = cc

      pub name_says : (from to : ℕ) (z : ℤ) → TokenAt text at (code.Name from to) → (b : Bool) → counts ≡ b
          → Names (part text from to) before lent.shouts b (Ok z) → Says lent text at vars used counts here vars (Ok (climbed z to used))
      name_says from to z t true c h =
          value_comes from to t z (λ _. name_is lent before (part text from to) ∙ ap (with_variables before) (sym h))
      name_says from to z t false c h = value_comes from to t z (λ k. absurd (no (sym c ∙ k)))

  -- A sign and its operand.
  module _ (at d : ℕ) (o : Op) where
    abbrev sign_here : Grown
    sign_here = sign_of o d (drop at text)

    pub no_sign : is_sign (op_of o) ≡ false → Fails lent before counts sign_here arithmetic_syntax
    unfolding sign
    no_sign e = fault lent before counts (rw (e, sign))

    module _ (may : is_sign (op_of o) ≡ true) where
      pub sign_deep : d ≡ 0 → Fails lent before counts sign_here too_deep
      unfolding sign
      sign_deep z = fault lent before counts (ap (λ (i : ℕ). sign grow (is_sign (op_of o)) (op_of o) i (drop at text)) z ∙ rw (may, sign))

      module _ (n : d ≡ 0 → ⊥) where
        sign_is : sign_here ≡ grown (unary (op_of o)) (grow (operand false, d - 1, drop at text))
        unfolding sign
        sign_is =
            let e : d ≡ suc (d - 1) = omega arith in
            ap (λ (i : ℕ). sign grow (is_sign (op_of o)) (op_of o) i (drop at text)) e ∙ rw (may, sign)

        pub sign_fails : (e : ℕ) → Fails lent before counts (grow (operand false, d - 1, drop at text)) e → Fails lent before counts sign_here e
        sign_fails e f =
            fails_same lent before counts sign_is
            (fails_first lent before counts (λ p. done (unary (op_of o) p.0, p.1)) f λ q p h b.
            ap (λ (x : Tree × Text). evaluate lent before x.0) (sym (done_same h)) ∙ unary_refused lent before (op_of o) q.0 e b)

        module _ (left : Text) (z : ℤ) (next now : ℕ)
            (c : Says lent text at vars used counts (grow (operand false, d - 1, drop at text)) left (Ok (climbed z next now))) where
          abbrev behind : Pairs
          behind = inside left now

          abbrev inner : Tree
          inner = c.0.tree

          signed_is : sign_here ≡ done (unary (op_of o) inner, drop next text)
          signed_is = sign_is ∙ ap (grown (unary (op_of o))) c.0.is

          sign_comes : (y : ℤ) → Worth lent before counts (unary (op_of o) inner) y behind
              → Says lent text at vars used counts sign_here left (Ok (climbed y next now))
          sign_comes y w =
              (record { tree = unary (op_of o) inner; is = signed_is; worth = w; onward = c.0.onward; within = c.0.within }, c.1)

          pub turn_fails : (e : Refusal) (b : Bool) → counts ≡ b → Turned o z b (Err e) → Fails lent before counts sign_here (refusal_number e)
          turn_fails e true k q =
              work_fault lent before counts k λ p h.
              ap (λ (x : Tree × Text). evaluate lent before x.0) (done_same (sym h ∙ signed_is))
              ∙ unary_done lent before (op_of o) inner z behind (c.0.worth k) ∙ ap (with_variables behind) (sym q)
          turn_fails e false k q = cc

          pub sign_says : (y : ℤ) (b : Bool) → counts ≡ b → Turned o z b (Ok y)
              → Says lent text at vars used counts sign_here left (Ok (climbed y next now))
          sign_says y true k q =
              sign_comes y (λ _. unary_done lent before (op_of o) inner z behind (c.0.worth k) ∙ ap (with_variables behind) (sym q))
          sign_says y false k q = sign_comes y (λ t. absurd (no (sym k ∙ t)))

  -- Parentheses.
  module _ (at d : ℕ) where
    abbrev enclosed_here : Grown
    enclosed_here = enclosed grow d (drop at text)

    pub enclosed_deep : d ≡ 0 → Fails lent before counts enclosed_here too_deep
    unfolding enclosed
    enclosed_deep z = fault lent before counts (rw z)

    within : Grown
    within = expression grow (d - 1) whole_level (drop at text)

    close : Tree × Text → Grown
    close q = token q.1 >>= λ s. ended shuts q.0 s

    enclosed_is : (d ≡ 0 → ⊥) → enclosed_here ≡ (within >>= close)
    unfolding enclosed up_to within close
    enclosed_is n = let e : d ≡ suc (d - 1) = omega arith in ap (λ (i : ℕ). enclosed grow i (drop at text)) e

    pub enclosed_fails : (e : ℕ) → (d ≡ 0 → ⊥) → Fails lent before counts (expression grow (d - 1) whole_level (drop at text)) e
        → Fails lent before counts enclosed_here e
    unfolding within close
    enclosed_fails e n f =
        fails_same lent before counts (enclosed_is n)
        (fails_first lent before counts close f λ q p h b. rw (ended_tree shuts (token q.1) q.0 p h) b)

    module _ (left : Text) (z : ℤ) (next now : ℕ) (n : d ≡ 0 → ⊥)
        (c : Says lent text at vars used counts (expression grow (d - 1) whole_level (drop at text)) left (Ok (climbed z next now))) where
      pub unclosed : (e : Refusal) → Closes text next (Err e) → Fails lent before counts enclosed_here (refusal_number e)
      unfolding within close
      unclosed e h = fault lent before counts (enclosed_is n ∙ ap (λ (o : Grown). o >>= close) c.0.is ∙ h c.0.tree)

      pub enclosed_says : (end : ℕ) → Closes text next (Ok end) → Says lent text at vars used counts enclosed_here left (Ok (climbed z end now))
      unfolding within close
      enclosed_says end h =
          let a = c.0.onward in
          let b = h.0.onward in (
            record {
              tree = c.0.tree;
              is = enclosed_is n ∙ ap (λ (o : Grown). o >>= close) c.0.is ∙ h.1 c.0.tree;
              worth = c.0.worth;
              onward = omega arith;
              within = h.0.within;
            },
            c.1,
          )
