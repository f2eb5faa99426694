-- What the contracts of `put_field`, `put_own` and `put_text` allow for one input is one answer, and where it accepts or refuses a class, one output.
-- Their exceptions: after 21 the bytes of the output from `used` on, and the spent field in every case.
use Prim.Native.Nat.{ℕ}
use native.Mathlib.Omega.{arith}
use mathlib.Core.Path.{◌≡◌, refl, sym, ap, ◌∙◌, subst}
use mathlib.Core.List.{List}
use Rattle.stages.specs.Numbers.{bracket_class, output_room}
use Rattle.stages.specs.Bytes.{Text}
use Rattle.stages.specs.Outcome.{Outcome, refused}
use Rattle.stages.specs.Images.{written}
use Rattle.stages.proofs.Outcomes.{done_same, never}
use Rattle.table_store.specs.Splice.{placed}
use Rattle.table_store.specs.declared.NoRoom as store
use Rattle.split_field.specs.Answers.{written_outcome, answered, Says, Spares, PutsOne}
use Rattle.std.specs.Prelude.{Result, Ok, Err}
use Rattle.split_field.specs.declared.WriteError.{WriteError}
use Rattle.split_field.specs.declared.WriteError.TheVariants.{BadClass, NoRoom}
use Rattle.split_field.proofs.Placing.{says_answers}
use Rattle.split_field.proofs.Filling.{Given, says_len}

other_number : ◌≡◌ {A = Outcome ℕ} (refused bracket_class) (refused output_room) → ⊥
other_number e = let n : bracket_class ≡ output_room = cc in omega arith

-- one outcome is that of one answer
written_one : (r s : Result ℕ WriteError) → written_outcome r ≡ written_outcome s → r ≡ s
written_one (Ok n) (Ok m) e = ap Ok (done_same e)
written_one (Ok n) (Err BadClass) e = absurd (never e)
written_one (Ok n) (Err NoRoom) e = absurd (never e)
written_one (Err BadClass) (Ok m) e = absurd (never (sym e))
written_one (Err BadClass) (Err BadClass) e = refl
written_one (Err BadClass) (Err NoRoom) e = absurd (other_number e)
written_one (Err NoRoom) (Ok m) e = absurd (never (sym e))
written_one (Err NoRoom) (Err BadClass) e = absurd (other_number (sym e))
written_one (Err NoRoom) (Err NoRoom) e = refl

-- every writer of fields
module _ {o : Outcome (List Text)} {used : ℕ} {old left left' : Text} {r s : Result ℕ WriteError} (p : Says o used old left r)
    (q : Says o used old left' s) where
  pub says_determined : r ≡ s
  says_determined = written_one r s (says_answers p ∙ sym (says_answers q))

  -- every byte of the output where it is accepted
  pub says_output : {n : ℕ} → r ≡ Ok n → left ≡ left'
  says_output {n} e =
      let a : Given o used old left n = says_len p e in
      let b : Given o used old left' n = says_len q (sym says_determined ∙ e) in
      a.filled.is ∙ ap (λ (l : List Text). placed used (written l) old) (done_same (sym a.gives ∙ b.gives)) ∙ sym b.filled.is

answered_one : (r s : Result ℕ store.NoRoom) → answered r ≡ answered s → r ≡ s
answered_one (Ok n) (Ok m) e = ap Ok (let k : n ≡ m = cc in k)
answered_one (Ok n) (Err d) e = absurd (let z : ◌≡◌ {A = ℕ} 0 1 = cc in omega arith)
answered_one (Err d) (Ok m) e = absurd (let z : ◌≡◌ {A = ℕ} 0 1 = cc in omega arith)
answered_one (Err d) (Err f) e = refl

pub put_text_determined : {o : Outcome (List Text)} {used : ℕ} {old left left' : Text} (r s : Result ℕ store.NoRoom) → Says o used old left (answered r)
    → Says o used old left' (answered s) → r ≡ s
put_text_determined r s p q = answered_one r s (says_determined p q)

pub put_own_determined : {o : Outcome (List Text)} {used : ℕ} {old left left' : Text} (r s : Result ℕ store.NoRoom) → Says o used old left (answered r)
    → Says o used old left' (answered s) → r ≡ s
put_own_determined = put_text_determined

-- one field: of the output also where a class refuses it
module _ {o : Outcome (List Text)} {used : ℕ} {old left left' : Text} {r s : Result ℕ WriteError}
    (p : PutsOne o used old left r) (q : PutsOne o used old left' s) where
  pub put_field_determined : r ≡ s
  put_field_determined = says_determined p.puts.says q.puts.says

  pub put_field_output : {n : ℕ} → r ≡ Ok n → left ≡ left'
  put_field_output e = says_output p.puts.says q.puts.says e

  pub put_field_spared : r ≡ Err BadClass → left ≡ left'
  put_field_spared e =
      let a : left ≡ old = subst (λ (x : Result ℕ WriteError). Spares x old left) e p.spares in
      let b : left' ≡ old = subst (λ (x : Result ℕ WriteError). Spares x old left') (sym put_field_determined ∙ e) q.spares in
      a ∙ sym b
