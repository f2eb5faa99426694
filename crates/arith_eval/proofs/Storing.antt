-- Laws of stores: what is put under one name, and under all that wait.
use Prim.Native.Nat.{ℕ, zero, suc, ◌-◌, ◌≤◌, ◌<◌}
use native.Mathlib.Omega.{arith}
use mathlib.Core.Path.{◌≡◌, refl, sym, ap, ◌∙◌, subst}
use mathlib.Core.Bool.{true}
use mathlib.Core.List.{List, [], ◌∷◌}
use mathlib.Core.Option as maybe
use lib.IntN.{ℤ}
use lib.ListN.{take, drop, get_or}
use Rattle.stages.specs.Bytes.{Text, part, all, not_zero}
use Rattle.stages.specs.Outcome.{Outcome, done, ◌>>=◌}
use Rattle.stages.specs.Images.{Pairs, is_name}
use Rattle.stages.specs.Params.{Lent, store_in, holding}
use Rattle.stages.specs.Constants.{signed}
use Rattle.stages.specs.Arith.{Op, name, gets, Token, token, Evaluated, value_of, updated, keeping, storing}
use Rattle.stages.proofs.Outcomes.{done_same}
use Rattle.stages.proofs.SafeSums.{signed_safe}
use Rattle.stages.proofs.Works.{Waiting, storing_all, storing_refused}
use Rattle.text.specs.Putting as Written
use Rattle.text.proofs.Filling.{puts_front}
use Rattle.table_store.specs.Holding.{Holds, Settable, StoresIn}
use Rattle.table_store.specs.declared.NoRoom.{NoRoom}
use Rattle.arith_token.specs.Tokens.{setting_of}
use Rattle.std.specs.Result.{result_or}
use Rattle.std.specs.Prelude.{Option, None, Result, Ok, Err}
use Rattle.text.specs.Refusals.{refusal_number}
use Rattle.text.specs.declared.refusal.Refusal.{Refusal}
use Rattle.text.specs.declared.refusal.Refusal.TheVariants.{VariableRoom}
use Rattle.arith_int.specs.declared.Op as code-op
use Rattle.arith_int.specs.Answers.{numbered}
use Rattle.arith_eval.specs.Climbs.{inside}
use Rattle.arith_eval.specs.Wholes.{IsTarget, Targets, SetsAt, Stacked, bottom, above, updated_in, Puts, Assigns, Stores}
use Rattle.arith_eval.specs.declared.Worked.{Worked}

-- the decimal text that was written
pub number_told : {x : ℤ} {old left : Text} {n : ℕ} → Written.Puts (signed x) old left n → {z : ℤ} → x ≡ z → take n left ≡ signed z
number_told p e = puts_front p ∙ ap signed e

-- a name and the decimal text of a number
pub number_settable : (x : Text) (z : ℤ) {t : Text} → is_name x ≡ true → t ≡ signed z → Settable x t
number_settable x z n e = record { named = n; clean = ap (all not_zero) e ∙ signed_safe z }

module _ (room : ℕ) (x : Text) (z : ℤ) {t : Text} (e : t ≡ signed z) (v : Pairs) (left : Text) where
  pub put_kept : (r : Result ℕ NoRoom) → StoresIn room x t v left r → Puts room x z v left (result_or r (Err VariableRoom))
  unfolding keeping store_in
  put_kept (Ok n) h = (rw (← e) (rw h.0), h.1)
  put_kept (Err q) h = rw (← e) (rw h)

-- ONE NAME

-- what stands at a place is one thing
same_target : (text : Text) (p : ℕ) (g : maybe.Option Op × Text) {from to : ℕ} {setting : Option code-op.Op} {next : ℕ} → IsTarget text p from to setting
    next → SetsAt text p g
    → (g.0 ≡ setting_of setting) × (g.1 ≡ part text from to)
same_target text p g {from} {to} {setting} {next} h s = (operator, named)
  where
    first : ◌≡◌ {A = Token × Text} (name g.1, s.behind) (name (part text from to), drop to text)
    first = done_same (sym s.names ∙ h.names.is)

    named : g.1 ≡ part text from to
    named = name_same (ap (λ (q : Token × Text). q.0) first)
      where
        name_same : {x y : Text} → name x ≡ name y → x ≡ y
        name_same e = cc

    operator : g.0 ≡ setting_of setting
    operator =
        gets_same (ap (λ (q : Token × Text). q.0) (done_same (sym s.sets ∙ ap token (ap (λ (q : Token × Text). q.1) first) ∙ h.sets.is)))
      where
        gets_same : {x y : maybe.Option Op} → gets x ≡ gets y → x ≡ y
        gets_same e = cc

pub no_target : (text : Text) (p : ℕ) (g : maybe.Option Op × Text) → Targets text p true None → SetsAt text p g → ⊥
no_target text p g h s = h refl g.1 s.behind s.names g.0 s.rest s.sets

storing_by : (lent : Lent) (o : maybe.Option Op) (x : Text) (z : ℤ) (v : Pairs)
    → storing lent o x (z, v) ≡ (updated_in lent.shouts v o x z >>= λ y. keeping lent x v y)
unfolding storing updated value_of holding
storing_by lent maybe.none x z v = refl
storing_by lent (maybe.some o) x z v = refl

module _ (lent : Lent) (text : Text) (place : ℕ) (z : ℤ) (v : Pairs) (left : Text) {from to : ℕ} {setting : Option code-op.Op} {next : ℕ}
    (h : IsTarget text place from to setting next) where
  as_told : (k : Result ℤ Refusal) → numbered k ≡ updated_in lent.shouts v (setting_of setting) (part text from to) z
      → (g : maybe.Option Op × Text) → SetsAt text place g → storing lent g.0 g.1 (z, v) ≡ (numbered k >>= λ y. keeping lent (part text from to) v y)
  as_told k e g s =
      let t = same_target text place g h s in
      ap (λ (o : maybe.Option Op). storing lent o g.1 (z, v)) t.0
      ∙ ap (λ (x : Text). storing lent (setting_of setting) x (z, v)) t.1
      ∙ storing_by lent (setting_of setting) (part text from to) z v
      ∙ ap (λ (o : Outcome ℤ). o >>= λ y. keeping lent (part text from to) v y) (sym e)

  pub assign_refused : (e : Refusal) → numbered (Err e) ≡ updated_in lent.shouts v (setting_of setting) (part text from to) z
      → Assigns lent text place z v left (Err e)
  assign_refused e q g s = as_told (Err e) q g s

  module _ (y : ℤ) (q : numbered (Ok y) ≡ updated_in lent.shouts v (setting_of setting) (part text from to) z) where
    pub assign_full : (e : Refusal) → Puts lent.room (part text from to) y v left (Err e) → Assigns lent text place z v left (Err e)
    unfolding keeping store_in
    assign_full e p g s = as_told (Ok y) q g s ∙ p

    pub assign_puts : (now : ℕ) → Puts lent.room (part text from to) y v left (Ok now)
        → Assigns lent text place z v left (Ok (record { value = y; vars_used = now }))
    unfolding keeping store_in
    assign_puts now p = (λ g s. as_told (Ok y) q g s ∙ p.0, p.1)

-- ALL NAMES THAT WAIT

record Popped (text : Text) (places : List ℕ) (k : ℕ) (gs : Waiting) : Type 0 where
  first : maybe.Option Op × Text
  others : Waiting
  is : gs ≡ first ∷ others
  sets : SetsAt text (get_or places (k - 1) 0) first
  stacked : Stacked text places (k - 1) others

popped : (text : Text) (places : List ℕ) (k : ℕ) (gs : Waiting) → 0 < k → Stacked text places k gs → Popped text places k gs
popped text places zero [] h bottom = absurd (omega arith)
popped text places zero (g ∷ gs) h x4 = elim x4 [ ]
popped text places (suc k) [] h x4 = elim x4 [ ]
popped text places (suc k) (g ∷ gs) h (above s t) =
    let e : k ≡ suc k - 1 = omega arith in
    record {
      first = g;
      others = gs;
      is = refl;
      sets = subst (λ (j : ℕ). SetsAt text (get_or places j 0) g) e s;
      stacked = subst (λ (j : ℕ). Stacked text places j gs) e t;
    }

none_stacked : (text : Text) (places : List ℕ) (gs : Waiting) → Stacked text places 0 gs → gs ≡ []
none_stacked text places [] bottom = refl
none_stacked text places (_ ∷ _) x3 = elim x3 [ ]

-- what is still to be stored, of what was to be stored at first
pub record Unwound (lent : Lent) (text : Text) (places : List ℕ) (e : Evaluated) (k : ℕ) (z : ℤ) (w : Pairs) : Type 0 where
  pub names : Waiting
  pub stacked : Stacked text places k names
  pub is : e ≡ storing_all lent names (done (z, w))

pub record Unwinding (lent : Lent) (text : Text) (places : List ℕ) (waiting : ℕ) (y : ℤ) (v : Pairs) (k : ℕ) (z : ℤ) (vars : Text) (used : ℕ) : Type 0 where
  pub few : k ≤ waiting
  pub holds : Holds lent.room vars used
  pub unwinds : (gs : Waiting) → Stacked text places waiting gs → Unwound lent text places (storing_all lent gs (done (y, v))) k z (inside vars used)

module _ (lent : Lent) (text : Text) (places : List ℕ) (waiting : ℕ) (y : ℤ) (vars : Text) (used : ℕ) where
  module _ (k : ℕ) (z : ℤ) (mid : Text) (now : ℕ) (u : Unwinding lent text places waiting y (inside vars used) k z mid now) where
    pub unwind_refused : (left : Text) (e : Refusal) → 0 < k → Assigns lent text (get_or places (k - 1) 0) z (inside mid now) left (Err e)
        → Stores lent text y waiting places vars used left (Err e)
    unfolding storing_all
    unwind_refused left e h a gs s =
        let i = u.unwinds gs s in
        let p = popped text places k i.names h i.stacked in
        i.is ∙ ap (λ (x : Waiting). storing_all lent x (done (z, inside mid now))) p.is
        ∙ ap (storing_all lent p.others) (a p.first p.sets) ∙ storing_refused lent p.others (refusal_number e)

    pub unwind_next : (left : Text) (r : Worked) → 0 < k → Assigns lent text (get_or places (k - 1) 0) z (inside mid now) left (Ok r)
        → Unwinding lent text places waiting y (inside vars used) (k - 1) r.value left r.vars_used
    unfolding storing_all
    unwind_next left r h a =
        let f = u.few in
        record { few = omega arith; holds = a.1; unwinds = λ gs s. one (u.unwinds gs s) }
      where
        one : {e : Evaluated} → Unwound lent text places e k z (inside mid now) → Unwound lent text places e (k - 1) r.value (inside left r.vars_used)
        one i =
            let p = popped text places k i.names h i.stacked in
            record {
              names = p.others;
              stacked = p.stacked;
              is =
                  i.is ∙ ap (λ (q : Waiting). storing_all lent q (done (z, inside mid now))) p.is
                  ∙ ap (storing_all lent p.others) (a.0 p.first p.sets);
            }

    pub unwind_last : k ≤ 0 → Stores lent text y waiting places vars used mid (Ok (record { value = z; vars_used = now }))
    unfolding storing_all
    unwind_last h = (
      λ gs s.
          let i = u.unwinds gs s in
          let e : k ≡ 0 = omega arith in
          i.is
          ∙ ap (λ (q : Waiting). storing_all lent q (done (z, inside mid now)))
          (none_stacked text places i.names (subst (λ (j : ℕ). Stacked text places j i.names) e i.stacked)),
      u.holds,
    )
