-- Laws of the short way: its operators and constants by their tokens, the state of its loop, and a whole text.
use Prim.Native.Nat.{ℕ, ◌+◌, ◌≤◌, ◌<◌}
use native.Mathlib.Omega.{arith}
use mathlib.Core.Path.{◌≡◌, refl, sym, ap, ◌∙◌}
use mathlib.Core.Bool.{true}
use mathlib.Core.List.{[], ◌∷◌}
use mathlib.Core.Option.{none, some}
use mathlib.Core.Option as maybe
use lib.IntN.{ℤ}
use lib.ListN.{length, drop, get_or}
use Rattle.stages.specs.Numbers.{open_limit}
use Rattle.stages.specs.Bytes.{Text, is_blank, is_digit, is_name_start, is_letter}
use Rattle.stages.specs.Outcome.{done, ◌>>=◌, choose}
use Rattle.stages.specs.Params.{Lent}
use Rattle.stages.specs.Arith.{mul, div, rem, add, sub, apply, whole_level, stop, op, gets, written, behind, spelled, token, Tree, Grown}
use Rattle.stages.specs.Arith.{expression, ended, grow}
use Rattle.stages.proofs.Ended.{target_other, whole_above}
use Rattle.stages.proofs.Storeys.{lowest, upstairs}
use Rattle.table_store.specs.Holding.{Holds}
use Rattle.arith_int.specs.Answers.{numbered, op_of}
use Rattle.arith_int.specs.declared.Op.{Op}
use Rattle.arith_token.specs.Tokens.{level_of, TokenAt, paired_by}
use Rattle.std.specs.Prelude.{Some, Result, Ok, Err}
use Rattle.std.specs.Result.{result_ok}
use Rattle.text.specs.declared.refusal.Refusal.{Refusal}
use Rattle.arith_token.specs.declared.Token.TheVariants as code
use Rattle.arith_token.proofs.Lexing.{here, next_place, last_place, without_second}
use Rattle.arith_eval.specs.Climbs.{climbed, unless_decided, Joins, Says}
use Rattle.arith_eval.specs.Answers.{ComesTo}
use Rattle.arith_eval.specs.Plains.{Between, Reaches}
use Rattle.arith_eval.proofs.Operands.{ended_by, operand_number}
use Rattle.arith_eval.proofs.Climbing.{expression_says, last_none, last_loose, turn_says, Going, going_last, going_next}
use Rattle.arith_eval.proofs.Reading.{bare_up}
use Rattle.arith_eval.proofs.Texts.{once_says, counted_says}

-- The five operators, by their byte and the one behind it.

pub times_first : (u : Text) → token (42 ∷ u) ≡ paired_by 61 (done (op mul, u)) (gets (some mul)) u
unfolding token choose spelled written behind is_blank is_digit is_name_start is_letter paired_by
times_first u = refl

pub over_first : (u : Text) → token (47 ∷ u) ≡ paired_by 61 (done (op div, u)) (gets (some div)) u
unfolding token choose spelled written behind is_blank is_digit is_name_start is_letter paired_by
over_first u = refl

pub rest_first : (u : Text) → token (37 ∷ u) ≡ paired_by 61 (done (op rem, u)) (gets (some rem)) u
unfolding token choose spelled written behind is_blank is_digit is_name_start is_letter paired_by
rest_first u = refl

pub plus_first : (u : Text) → token (43 ∷ u) ≡ paired_by 61 (done (op add, u)) (gets (some add)) u
unfolding token choose spelled written behind is_blank is_digit is_name_start is_letter paired_by
plus_first u = refl

pub minus_first : (u : Text) → token (45 ∷ u) ≡ paired_by 61 (done (op sub, u)) (gets (some sub)) u
unfolding token choose spelled written behind is_blank is_digit is_name_start is_letter paired_by
minus_first u = refl

pub lone_sign : (text : Text) (at b : ℕ) (o : Op) → at + 1 < length text → get_or text at 0 ≡ b → (get_or text (at + 1) 0 ≡ 61 → ⊥)
    → ((u : Text) → token (b ∷ u) ≡ paired_by 61 (done (op (op_of o), u)) (gets (some (op_of o))) u) → TokenAt text at (code.Op o (at + 1))
lone_sign text at b o h e n t =
    let w : at < length text = omega arith in
    let p =
    without_second text at 61 (code.Op o (at + 1)) (code.Gets (Some o) (at + 2))
    (record { within = w; one = next_place text at w; two = last_place text at }) h n in
    record {
      is =
          ap token (here text at w ∙ ap (λ (x : ℕ). x ∷ drop (at + 1) text) e) ∙ t (drop (at + 1) text)
          ∙ sym (p.is (gets (some (op_of o))) refl);
      ends = next_place text at w;
    }

not_stop : (o : Op) (n : ℕ) → code.Stop ≡ code.Op o n → ⊥
not_stop o n e = cc

-- a number that is given
pub given_is : (r : Result ℤ Refusal) (x : ℤ) → Some x ≡ result_ok r → numbered r ≡ done x
given_is (Ok y) x e = cc
given_is (Err q) x e = cc

-- Behind a left side of the value y.

module _ (text : Text) (at k : ℕ) (y : ℤ) where
  -- so far the value is z, whatever the variables are
  pub record Plods (z : ℤ) (i : ℕ) : Type 0 where
    pub onward : at ≤ i
    pub within : i ≤ length text
    pub going : (lent : Lent) (vars : Text) (used d : ℕ) → Holds lent.room vars used → Going lent text vars used true at d k y z i vars used

  module _ {z : ℤ} {i : ℕ} (p : Plods z i) where
    pub plods_stop : lowest ≤ k → TokenAt text i code.Stop → Reaches text at k y z i
    plods_stop h t = record {
      onward = p.onward;
      within = p.within;
      goes = λ lent vars used d w.
          going_last lent text vars used true at d k y z i vars used (p.going lent vars used d w) vars
          (last_none lent text vars used true i d k z h code.Stop t (λ o n. not_stop o n));
    }

    module _ {o : Op} {next : ℕ} (b : Between text i o next) where
      pub plods_loose : level_of o < k → Reaches text at k y z i
      plods_loose l = record {
        onward = p.onward;
        within = p.within;
        goes = λ lent vars used d w.
            going_last lent text vars used true at d k y z i vars used (p.going lent vars used d w) vars
            (last_loose lent text vars used true i d k z o next b.token l);
      }

      pub plods_next : lowest ≤ k → k ≤ level_of o → {a : ℤ} {n : ℕ} → TokenAt text next (code.Number a n) → {c : ℤ} {m : ℕ}
          → Reaches text n (level_of o + 1) a c m → {x : ℤ} → apply (op_of o) z c ≡ done x → Plods x m
      plods_next high l {a} {n} t {c} {m} r {x} q =
          let f = p.onward in
          let g = b.token.ends.onward in
          let h = t.ends.onward in
          let j = r.onward in
          record { onward = omega arith; within = r.within; going = goes }
        where
          joins : Joins o z c true (Ok x)
          joins = sym (ap (λ (e : maybe.Option ℤ). unless_decided e (apply (op_of o) z c)) (b.both z) ∙ q)

          goes : (lent : Lent) (vars : Text) (used d : ℕ) → Holds lent.room vars used → Going lent text vars used true at d k y x m vars used
          goes lent vars used d w =
              going_next lent text vars used true at d k y z i vars used (p.going lent vars used d w) vars x m used
              (turn_says lent text vars used true i d k z o next b.token l high vars c m used true none refl (b.both z)
              (expression_says lent text vars used true next d (level_of o + 1) (omega arith) vars a n used
              (operand_number lent text vars used true next d w a n t) vars (Ok (climbed c m used)) (r.goes lent vars used d w))
              x joins)

-- A whole text: a constant, what is behind it, and the end.

module _ (text : Text) {a : ℤ} {n : ℕ} (t : TokenAt text 0 (code.Number a n)) {z : ℤ} {m : ℕ} (r : Reaches text n lowest a z m)
    (s : TokenAt text m code.Stop) where
  module _ (lent : Lent) (vars : Text) (used : ℕ) (w : Holds lent.room vars used) where
    storey : Says lent text 0 vars used true (expression grow open_limit lowest text) vars (Ok (climbed z m used))
    storey =
        expression_says lent text vars used true 0 open_limit lowest (omega arith) vars a n used
        (operand_number lent text vars used true 0 open_limit w a n t) vars (Ok (climbed z m used)) (r.goes lent vars used open_limit w)

    all_of : expression grow open_limit whole_level text ≡ done (storey.0.tree, drop m text)
    all_of =
        whole_above open_limit text (target_other _ _ _ t.is refl) ∙ ap (λ (o : Grown). o >>= upstairs open_limit) storey.0.is
        ∙ bare_up open_limit storey.0.tree (drop m text) _ s.is refl

    nothing_behind : (l : Tree) → (token (drop m text) >>= λ k. ended stop l k) ≡ done (l, [])
    unfolding ended
    nothing_behind l = ended_by text m stop code.Stop s l

    pub plain_comes : ComesTo lent text vars used vars (Ok (record { value = z; vars_used = used }))
    plain_comes =
        counted_says lent text vars used vars (record { value = z; vars_used = used })
        (once_says lent text vars used true vars z m used (
          record {
            tree = storey.0.tree;
            is = all_of;
            worth = storey.0.worth;
            onward = storey.0.onward;
            within = storey.0.within;
          },
          storey.1,
        ) tt nothing_behind)
