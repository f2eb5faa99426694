-- Laws of `?:` and assignments where it counts: what stands around the expression that is worked out, and the names that wait for its value.
use Prim.Native.Nat.{ℕ, zero, suc, ◌+◌, ◌-◌, ◌*◌, ◌≤◌, ◌<◌}
use native.Mathlib.Omega.{arith}
use native.Mathlib.Numerals.{add-one}
use mathlib.Core.Path.{◌≡◌, refl, sym, ap, ◌∙◌, subst}
use mathlib.Core.Bool.{Bool, true, false}
use mathlib.Core.List.{List, [], ◌∷◌}
use mathlib.Core.Option as maybe
use lib.IntN.{ℤ}
use lib.Dec.{eqb}
use lib.ListN.{length, take, drop, get_or, set}
use lib.Seq.{get_or-take, get_or-set_same, get_or-set_other}
use borrow.Author.Tests.{eqb-true, eqb-false}
use borrow.Rule.Slice.PartMut.{mid_of, put_mid, take_put, same_len_mid}
use Rattle.stages.specs.Bytes.{Text, part}
use Rattle.stages.specs.Outcome.{refused, done, ◌>>=◌}
use Rattle.stages.specs.Images.{Pairs}
use Rattle.stages.specs.Params.{Lent}
use Rattle.stages.specs.Arith.{Op, whole_level, is_true, query, Lexed, Tree, Grown, expression, grow, evaluate}
use Rattle.stages.proofs.Bools.{no}
use Rattle.stages.proofs.Ended.{NoTarget}
use Rattle.stages.proofs.Storeys.{lowest, upstairs}
use Rattle.stages.proofs.Turns.{rest, other, pending, turn_query, turn_gets}
use Rattle.stages.proofs.Works.{Waiting, storing_all, Works, works_all, works_as, works_done, works_gets, works_fails, works_first, works_second}
use Rattle.arith_token.specs.Tokens.{setting_of}
use Rattle.std.specs.Prelude.{Option, Ok, Err}
use Rattle.text.specs.Refusals.{refusal_number}
use Rattle.text.specs.declared.refusal.Refusal.{Refusal}
use Rattle.arith_int.specs.declared.Op as code-op
use Rattle.arith_eval.specs.declared.Worked.{Worked}
use Rattle.arith_eval.specs.Climbs.{inside, climbed, Ready, Fails, Comes, Says}
use Rattle.arith_eval.specs.Wholes.{Stands, IsTarget, level_at, to_read, Last, Passes, Steps, SetsAt, Stacked, bottom, above, Stores}
use Rattle.arith_eval.proofs.Trees.{bound}
use Rattle.arith_eval.proofs.Operands.{fault, work_fault}
use Rattle.arith_eval.proofs.Reading.{rest_refused, Has, rest_done, storey_above, bare_up}

-- THE PLACES

-- places that are the same below a count hold the same names
pub stacked_same : (text : Text) (ps qs : List ℕ) (k : ℕ) (gs : Waiting) → ((j : ℕ) → j < k → get_or ps j 0 ≡ get_or qs j 0) → Stacked text ps k gs
    → Stacked text qs k gs
stacked_same text ps qs zero [] same bottom = bottom
stacked_same text ps qs zero (g ∷ gs) same x4 = elim x4 [ ]
stacked_same text ps qs (suc k) [] same x4 = elim x4 [ ]
stacked_same text ps qs (suc k) (g ∷ gs) same (above h s) =
    above (subst (λ (p : ℕ). SetsAt text p g) (same k (omega arith)) h) (stacked_same text ps qs k gs (λ j l. same j (omega arith)) s)

pub stacked_within : (text : Text) (ps : List ℕ) (k : ℕ) (gs : Waiting) → Stacked text ps k gs → (j : ℕ) → j < k → get_or ps j 0 ≤ length text
stacked_within text ps zero [] bottom j l = absurd (omega arith)
stacked_within text ps zero (g ∷ gs) x4 j l = elim x4 [ ]
stacked_within text ps (suc k) [] x4 j l = elim x4 [ ]
stacked_within text ps (suc k) (g ∷ gs) (above h s) j l = go (λ i. stacked_within text ps k gs s j i) (eqb j k) refl
  where
    go : (j < k → get_or ps j 0 ≤ length text) → (x : Bool) → eqb j k ≡ x → get_or ps j 0 ≤ length text
    go lower true e = rw (eqb-true j k e) h.within
    go lower false e = lower (let n = eqb-false j k e in omega arith)

-- what is lent behind them changes none
pub stacked_take : (text : Text) (ps qs : List ℕ) (k : ℕ) (gs : Waiting) → take k qs ≡ take k ps → Stacked text ps k gs → Stacked text qs k gs
stacked_take text ps qs k gs e s =
    stacked_same text ps qs k gs (λ j l. sym (get_or-take k ps j 0 l) ∙ ap (λ (x : List ℕ). get_or x j 0) (sym e) ∙ get_or-take k qs j 0 l) s

-- one more
pub stacked_more : (text : Text) (ps : List ℕ) (k p : ℕ) (g : maybe.Option Op × Text) (gs : Waiting) → k < length ps → SetsAt text p g → Stacked text ps k gs
    → Stacked text (set ps k p) (k + 1) (g ∷ gs)
stacked_more text ps k p g gs l h s =
    subst (λ (n : ℕ). Stacked text (set ps k p) n (g ∷ gs)) (sym (add-one k))
    (above (subst (λ (q : ℕ). SetsAt text q g) (sym (get_or-set_same ps k p 0 l)) h)
    (stacked_same text ps (set ps k p) k gs (λ j i. sym (get_or-set_other ps k j p 0 (λ e. absurd (omega arith)))) s))

-- THE LOOP: the whole comes to what the expression here comes to, and the stores of the names that wait
pub record Working (lent : Lent) (text : Text) (v : Pairs) (at d p i : ℕ) (first : Bool) (waiting : ℕ) (places : List ℕ) (w : Pairs) : Type 0 where
  pub names : Waiting
  pub works : Works lent v (expression grow d whole_level (drop at text)) names w (expression grow d (level_at first) (drop i text))
  pub reads : rest (expression grow d whole_level (drop at text)) ≡ to_read text i d p first
  pub stacked : Stacked text places waiting names
  pub onward : at ≤ i
  pub within : i ≤ length text
  pub few : p ≤ i
  pub deep : at + 2 * waiting ≤ i

module _ (lent : Lent) (text : Text) (v : Pairs) (at d : ℕ) where
  abbrev all_here : Grown
  all_here = expression grow d whole_level (drop at text)

  pub working_start : (places : List ℕ) → at ≤ length text → Working lent text v at d 0 at true 0 places v
  unfolding pending
  working_start places h = record {
    names = [];
    works = works_all lent v all_here;
    reads = refl;
    stacked = bottom;
    onward = omega arith;
    within = h;
    few = omega arith;
    deep = omega arith;
  }

  -- places that were lent behind those of the names
  pub working_take : {p i : ℕ} {first : Bool} {waiting : ℕ} {places : List ℕ} {w : Pairs} → Working lent text v at d p i first waiting places w
      → (qs : List ℕ) → take waiting qs ≡ take waiting places → Working lent text v at d p i first waiting qs w
  working_take {waiting = waiting} {places = places} k qs e = record {
    names = k.names;
    works = k.works;
    reads = k.reads;
    stacked = stacked_take text places qs waiting k.names e k.stacked;
    onward = k.onward;
    within = k.within;
    few = k.few;
    deep = k.deep;
  }

  -- a name and its `=`
  pub work_target : (p i : ℕ) (first : Bool) (waiting : ℕ) (places : List ℕ) (w : Pairs) → Working lent text v at d p i first waiting places w
      → {from to : ℕ} {setting : Option code-op.Op} {n : ℕ} → first ≡ true → IsTarget text i from to setting n → waiting < length places
      → Working lent text v at d p n first (waiting + 1) (set places waiting i) w
  work_target p i true waiting places w k {from} {to} {setting} {n} e h l =
      let a = h.names.behind.onward in
      let b = h.sets.behind.onward in
      let c = k.onward in
      let f = k.few in
      let g = k.deep in
      record {
        names = (setting_of setting, part text from to) ∷ k.names;
        works =
            works_gets lent v all_here k.names w d (setting_of setting) (part text from to) (drop i text) (drop to text) (drop n text)
            h.names.is h.sets.is k.works;
        reads =
            k.reads
            ∙ turn_gets d p (setting_of setting) (part text from to) (drop i text) (drop to text) (drop n text) h.names.is h.sets.is;
        stacked =
            stacked_more text places waiting i (setting_of setting, part text from to) k.names l
            (record { behind = drop to text; rest = drop n text; names = h.names.is; sets = h.sets.is; within = k.within }) k.stacked;
        onward = omega arith;
        within = h.sets.behind.within;
        few = omega arith;
        deep = omega arith;
      }
  work_target p i false waiting places w k e h l = absurd (no e)

  module _ (p i : ℕ) (first : Bool) (waiting : ℕ) (places : List ℕ) (w : Pairs) (k : Working lent text v at d p i first waiting places w)
      (bare : first ≡ true → NoTarget (drop i text)) where
    abbrev storey : Grown
    storey = expression grow d lowest (drop i text)

    at_storey : Works lent v all_here k.names w (storey >>= upstairs d)
    at_storey = works_as lent v all_here k.names w (storey_above d first (drop i text) bare) k.works

    pub work_fails : (e : ℕ) → Fails lent w true storey e → Fails lent v true all_here e
    work_fails e f =
        work_fault lent v true refl λ y h.
        let a = bound (storey >>= upstairs d) at_storey.around y (sym at_storey.is ∙ h) in
        let s = bound storey (upstairs d) a.from a.first in
        works_fails lent v all_here k.names w d (drop i text) s.from.1 s.from.0 s.first e (f.works s.from s.first) at_storey y h

    module _ (z : ℤ) (n : ℕ) (u : Pairs) (c : Comes lent text (suc i) w true storey z n u) where
      storey_is : (storey >>= upstairs d) ≡ upstairs d (c.tree, drop n text)
      storey_is = ap (λ (o : Grown). o >>= upstairs d) c.is

      reads_on : rest all_here ≡ pending d p (rest (upstairs d (c.tree, drop n text)))
      reads_on = k.reads ∙ ap (λ (o : Grown). pending d p (rest o)) (storey_above d first (drop i text) bare ∙ storey_is)

      pub work_refused : (vars left : Text) (e : Refusal) → Steps text n d z p vars left (Err e) → Fails lent v true all_here (refusal_number e)
      work_refused vars left e h = fault lent v true (rest_refused all_here (refusal_number e) (reads_on ∙ h c.tree))

      -- the end: what is read behind it, and the stores
      module _ (m : ℕ) (h : Last text n d p m) where
        up : upstairs d (c.tree, drop n text) ≡ done (c.tree, drop n text)
        up = bare_up d c.tree (drop n text) h.here h.is h.bare

        all_read : Has all_here (drop m text)
        all_read = rest_done all_here (drop m text) (reads_on ∙ ap (λ (o : Grown). pending d p (rest o)) up ∙ h.reads)

        comes_to_lem : (y : Tree × Text) → all_here ≡ done y → evaluate lent v y.0 ≡ storing_all lent k.names (done (z, u))
        comes_to_lem y q =
            works_done lent v all_here k.names w (c.tree, drop n text) y (storey_is ∙ up) at_storey q
            ∙ ap (storing_all lent k.names) (c.worth refl)

        pub store_fails : (e : ℕ) → storing_all lent k.names (done (z, u)) ≡ refused e → Fails lent v true all_here e
        store_fails e s = work_fault lent v true refl λ y q. comes_to_lem y q ∙ s

        pub store_comes : (x : ℤ) (t : Pairs) → storing_all lent k.names (done (z, u)) ≡ done (x, t)
            → Comes lent text (suc at) v true all_here x m t
        store_comes x t s =
            let a = c.onward in
            let b = h.onward in
            let g = k.onward in
            record {
              tree = all_read.tree;
              is = all_read.is;
              worth = λ _. comes_to_lem (all_read.tree, drop m text) all_read.is ∙ s;
              onward = omega arith;
              within = h.within;
            }

      -- its `?`: the middle is needed
      pub work_middle : (m : ℕ) → is_true z ≡ true → Stands text n query m → Working lent text v at d (p + 1) m true waiting places u
      work_middle m t h =
          let a = c.onward in
          let b = h.behind.onward in
          let f = k.few in
          let g = k.onward in
          let e = k.deep in
          record {
            names = k.names;
            works =
                works_first lent v all_here k.names w d (drop i text) (drop n text) c.tree c.is (drop m text) h.is z u (c.worth refl) t
                at_storey;
            reads =
                reads_on ∙ turn_query d p c.tree (drop n text) (drop m text) h.is
                ∙ ap (λ (j : ℕ). to_read text m d j true) (sym (add-one p));
            stacked = k.stacked;
            onward = omega arith;
            within = h.behind.within;
            few = omega arith;
            deep = omega arith;
          }

      -- the middle is not needed
      module _ (m : ℕ) (h : Passes text n d m) where
        side : Has (expression grow d whole_level (drop h.from text)) (drop h.to text)
        side = rest_done (expression grow d whole_level (drop h.from text)) (drop h.to text) h.side

        passed_reads : rest all_here ≡ to_read text m d p false
        unfolding pending other
        passed_reads =
            reads_on ∙ turn_query d p c.tree (drop n text) (drop h.from text) h.asks
            ∙ ap (pending d (suc p)) h.side
            ∙ ap (λ (o : Lexed). pending d p (o >>= λ s. other d s)) h.shuts

        pub work_behind : is_true z ≡ false → Working lent text v at d p m false waiting places u
        work_behind t =
            let a = c.onward in
            let b = h.behind.onward in
            let f = k.few in
            let g = k.onward in
            let e = k.deep in
            record {
              names = k.names;
              works =
                  works_second lent v all_here k.names w d (drop i text) (drop n text) c.tree c.is (drop h.from text) h.asks z u
                  (c.worth refl) side.tree (drop h.to text) (drop m text) side.is h.shuts t at_storey;
              reads = passed_reads;
              stacked = k.stacked;
              onward = omega arith;
              within = h.behind.within;
              few = omega arith;
              deep = omega arith;
            }

-- what the stores make of the answer
module _ (lent : Lent) (text : Text) (vars : Text) (used : ℕ) (at d p i : ℕ) (first : Bool) (waiting : ℕ) (places : List ℕ) (w : Pairs)
    (k : Working lent text (inside vars used) at d p i first waiting places w) (bare : first ≡ true → NoTarget (drop i text)) (z : ℤ) (n : ℕ) (mid : Text)
    (now : ℕ) (c : Comes lent text (suc i) w true (expression grow d lowest (drop i text)) z n (inside mid now)) (m : ℕ) (h : Last text n d p m)
    (left : Text) where
  pub work_last_fails : (e : Refusal) → Stores lent text z waiting places mid now left (Err e)
      → Fails lent (inside vars used) true (expression grow d whole_level (drop at text)) (refusal_number e)
  work_last_fails e s =
      store_fails lent text (inside vars used) at d p i first waiting places w k bare z n (inside mid now) c m h (refusal_number e)
      (s k.names k.stacked)

  pub work_last : (r : Worked) → Stores lent text z waiting places mid now left (Ok r)
      → Says lent text at vars used true (expression grow d whole_level (drop at text)) left (Ok (climbed r.value m r.vars_used))
  work_last r s = (
    store_comes lent text (inside vars used) at d p i first waiting places w k bare z n (inside mid now) c m h r.value (inside left r.vars_used)
        (s.0 k.names k.stacked),
    record { holds = s.1; bytes = λ q. absurd (no (sym q)); length = λ q. absurd (no (sym q)) },
  )

-- THE PLACES THAT ARE LENT: those behind the names that wait

module _ {lent : Lent} {text : Text} {at : ℕ} {vars : Text} {used : ℕ} {places : List ℕ} (r : Ready lent text at vars used places) (i waiting : ℕ)
    (d : at + 2 * waiting ≤ i) (w : i ≤ length text) (others : List ℕ) (e : length others ≡ length places) where
  pub waiting_fits : waiting ≤ length others
  waiting_fits = let p = r.deep in omega arith

pub working_lent : {lent : Lent} {text : Text} {v : Pairs} {at d p i : ℕ} {first : Bool} {waiting : ℕ} {places : List ℕ} {w : Pairs}
    → Working lent text v at d p i first waiting places w → waiting ≤ length places → (k : ℕ) (ys : List ℕ)
    → Working lent text v at d p i first waiting (put_mid waiting k places ys) w
working_lent {lent} {text} {v} {at} {d} {waiting = waiting} {places = places} s h k ys =
    working_take lent text v at d s (put_mid waiting k places ys) (take_put waiting k places ys h)

-- .. as they are behind a call, with their length
module _ {lent : Lent} {text : Text} {at : ℕ} {vars : Text} {used : ℕ} {all : List ℕ} (r : Ready lent text at vars used all) where
  abbrev pub Lent_on : Pairs → ℕ → ℕ → ℕ → Bool → ℕ → Pairs → List ℕ → Type 0
  Lent_on v d p i first waiting w places = Working lent text v at d p i first waiting places w × (length places ≡ length all)

  pub lent_on : {v : Pairs} {d p i : ℕ} {first : Bool} {waiting : ℕ} {w : Pairs} {places : List ℕ} → Working lent text v at d p i first waiting places w
      → length places ≡ length all → (ys : List ℕ) → length ys ≡ length (mid_of waiting (length places - waiting) places)
      → Lent_on v d p i first waiting w (put_mid waiting (length places - waiting) places ys)
  lent_on {i = i} {waiting = waiting} {places = places} k e ys same = (
    working_lent k (waiting_fits r i waiting k.deep k.within places e) (length places - waiting) ys,
    same_len_mid waiting (length places - waiting) places ys same ∙ e,
  )
