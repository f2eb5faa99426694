-- Laws of a whole text: what one run says of its tree, and what two runs say together.
use Prim.Native.Nat.{ℕ, ◌≤◌}
use native.Mathlib.Omega.{arith}
use mathlib.Core.Path.{◌≡◌, refl, sym, ap, ◌∙◌, subst}
use mathlib.Core.Bool.{Bool, true, false}
use mathlib.Core.List.{[], ◌∷◌}
use lib.IntN.{ℤ}
use lib.ListN.{length, set}
use Rattle.stages.specs.Numbers.{open_limit, image_limit}
use Rattle.stages.specs.Bytes.{Text}
use Rattle.stages.specs.Outcome.{Outcome, refused, demands, done, ◌>>=◌}
use Rattle.stages.specs.Images.{Pairs, texts, texts_in, pairs_of, sized, pairs_checked, variables_of}
use Rattle.stages.specs.Params.{Lent}
use Rattle.stages.specs.Constants.{signed}
use Rattle.stages.specs.Arith.{whole_level, stop, token, Tree, Grown, expression, grow, ended, up_to, tree, evaluate, arithmetic_of}
use Rattle.stages.proofs.Outcomes.{done_same}
use Rattle.table_store.specs.Holding.{Holds}
use Rattle.arith_eval.specs.Climbs.{inside, climbed, Fails, Says}
use Rattle.arith_eval.specs.Answers.{Errs, Answers, Finishes, comes_to, Prevails, ComesTo}
use Rattle.arith_eval.specs.declared.Worked.{Worked}
use Rattle.std.specs.Prelude.{Result, Ok, Err}
use Rattle.text.specs.Refusals.{refusal_number}
use Rattle.text.specs.declared.refusal.Refusal.{Refusal}
use Rattle.arith_eval.proofs.Trees.{never, bound, evaluate_alike}
use Rattle.arith_eval.proofs.Operands.{ended_tree}

module _ (lent : Lent) (text : Text) (vars : Text) (used : ℕ) (counts : Bool) where
  abbrev all_of : Grown
  all_of = expression grow open_limit whole_level text

  behind : Tree × Text → Grown
  behind p = token p.1 >>= λ s. ended stop p.0 s

  only_tree : Tree × Text → Outcome Tree
  only_tree p = done p.0

  tree_is : tree text ≡ ((all_of >>= behind) >>= only_tree)
  unfolding tree up_to behind only_tree
  tree_is = refl

  pub once_fails : (e : ℕ) → Fails lent (inside vars used) counts all_of e → Errs lent (inside vars used) counts (tree text) e
  unfolding behind only_tree
  once_fails e f = record {
    reads = λ c. tree_is ∙ ap (λ (o : Grown). (o >>= behind) >>= only_tree) (f.reads c);
    works = λ l h.
        let a = bound (all_of >>= behind) only_tree l (sym tree_is ∙ h) in
        let b = bound all_of behind a.from a.first in
        ap (evaluate lent (inside vars used))
        (sym (done_same a.then_is) ∙ ended_tree stop (token b.from.1) b.from.0 a.from b.then_is)
        ∙ f.works b.from b.first;
  }

  module _ (left : Text) (z : ℤ) (next now : ℕ) (c : Says lent text 0 vars used counts all_of left (Ok (climbed z next now))) where
    pub once_ends : (e : Refusal) → Finishes text next (Err e) → Errs lent (inside vars used) counts (tree text) (refusal_number e)
    unfolding behind only_tree
    once_ends e h =
        let q : tree text ≡ refused (refusal_number e) =
        tree_is ∙ ap (λ (o : Grown). (o >>= behind) >>= only_tree) c.0.is ∙ ap (λ (o : Grown). o >>= only_tree) (h c.0.tree) in
        record { reads = λ _. q; works = λ l k. absurd (never (sym q ∙ k)) }

    pub once_says : (u : Unit {0}) → Finishes text next (Ok u) → Answers lent vars used counts (tree text) left (Ok (record { value = z; vars_used = now }))
    unfolding behind only_tree
    once_says u h = (
      record {
        tree = c.0.tree;
        is = tree_is ∙ ap (λ (o : Grown). (o >>= behind) >>= only_tree) c.0.is ∙ ap (λ (o : Grown). o >>= only_tree) (h c.0.tree);
        worth = c.0.worth;
      },
      c.1,
    )

-- the run that counts, and where it is refused the run that does not
module _ (lent : Lent) (v : Pairs) (text : Text) where
  comes : (l : Tree) → tree text ≡ done l → comes_to lent v text ≡ evaluate lent v l
  unfolding comes_to
  comes l q = ap (λ (o : Outcome Tree). o >>= λ l. evaluate lent v l) q

  not_read : (e : ℕ) → tree text ≡ refused e → comes_to lent v text ≡ refused e
  unfolding comes_to
  not_read e q = ap (λ (o : Outcome Tree). o >>= λ l. evaluate lent v l) q

pub counted_says : (lent : Lent) (text : Text) (vars : Text) (used : ℕ) (left : Text) (r : Worked)
    → Answers lent vars used true (tree text) left (Ok r) → ComesTo lent text vars used left (Ok r)
counted_says lent text vars used left r s = (comes lent (inside vars used) text s.0.tree s.0.is ∙ s.0.worth refl, s.1.holds)

-- reading faults come first
module _ (lent : Lent) (text : Text) (vars : Text) (used : ℕ) (left : Text) (e : Refusal) where
  pub read_refused : (f : Refusal) → Answers lent vars used false (tree text) left (Err f) → Prevails text e f
  read_refused f r = λ a v h. not_read a v text (refusal_number f) (r.reads refl)

  pub read_done : (w : Worked) → Answers lent vars used false (tree text) left (Ok w) → Prevails text e e
  read_done w r = λ a v h. comes a v text r.0.tree r.0.is ∙ h.works r.0.tree r.0.is

-- a version and no record
pub none_held : (vars : Text) → image_limit ≤ length vars → Holds 1 (set vars 0 1) 1
unfolding variables_of sized pairs_checked pairs_of texts texts_in
none_held [] l = absurd (omega arith)
none_held (b ∷ t) l = record { formed = refl; inside = omega arith; fits = omega arith; long = l }

-- what is lent beside the room and the switch is not asked for
module _ (a b : Lent) (same : a.room ≡ b.room) (alike : a.shouts ≡ b.shouts) (text : Text) (vars : Text) (used : ℕ) where
  comes_alike : comes_to a (inside vars used) text ≡ comes_to b (inside vars used) text
  unfolding comes_to
  comes_alike = go (tree text)
    where
      go : (o : Outcome Tree) → (o >>= λ l. evaluate a (inside vars used) l) ≡ (o >>= λ l. evaluate b (inside vars used) l)
      go (refused e) = refl
      go (demands t) = refl
      go (done l) = evaluate_alike a b same alike l (inside vars used)

  pub lent_alike : (left : Text) (r : Result Worked Refusal) → ComesTo a text vars used left r → ComesTo b text vars used left r
  lent_alike left (Err e) h = sym comes_alike ∙ h
  lent_alike left (Ok r) h = (sym comes_alike ∙ h.0, subst (λ (n : ℕ). Holds n left r.vars_used) same h.1)

-- the stage's text is that of the number
pub arithmetic_is : (a : Lent) (v : Pairs) (t : Text) → arithmetic_of a v t ≡ (comes_to a v t >>= λ p. done (signed p.0, p.1))
unfolding arithmetic_of comes_to
arithmetic_is a v t = go (tree t)
  where
    go : (o : Outcome Tree)
        → ◌≡◌ {A = Outcome (Text × Pairs)} (o >>= λ l. evaluate a v l >>= λ p. done (signed p.0, p.1))
        ((o >>= λ l. evaluate a v l) >>= λ p. done (signed p.0, p.1))
    go (refused e) = refl
    go (demands m) = refl
    go (done l) = refl
