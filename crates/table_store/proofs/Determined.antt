-- The contracts determine every answer and every byte: two outcomes that a contract allows for one input are equal. Open are the bytes that a store within
-- a room leaves behind the image, and all of them where it is refused.
use Prim.Native.Nat.{ℕ}
use mathlib.Core.Path.{◌≡◌, refl, sym, ap, ◌∙◌}
use lib.ListN.{length, take}
use Rattle.stages.specs.Bytes.{Text}
use Rattle.stages.specs.Outcome.{Outcome, refused, done}
use Rattle.stages.specs.Numbers.{output_room, variable_room}
use Rattle.stages.specs.Images.{Pairs, is_name, held, flat, image, image_length}
use Rattle.stages.specs.Params.{store}
use Rattle.stages.proofs.Images.{Bytes}
use Rattle.stages.proofs.Tables.{table_canonical}
use Rattle.stages.proofs.Outcomes.{done_same, never}
use Rattle.table_store.specs.Answers.{outcome_by, put_outcome, stored_outcome, record_in, image_in, Writes}
use Rattle.table_store.specs.Holding.{StoresIn}
use Rattle.std.specs.Prelude.{Result, Ok, Err}
use Rattle.table_store.specs.declared.NoRoom.{NoRoom}
use Rattle.table_store.proofs.Holding.{vars_held, vars_used_is}

-- what is written for one stage's bytes over one buffer is one answer and one buffer
pub writes_once : {o : Outcome Text} {old left left' : Text} {a a' : Outcome ℕ} → Writes o old left a → Writes o old left' a' →
    (a ≡ a') × (left ≡ left')
writes_once w w' = (w.answers ∙ sym w'.answers, w.leaves ∙ sym w'.leaves)

-- one outcome is that of one answer
one_result : (k : ℕ) (r s : Result ℕ NoRoom) → outcome_by k r ≡ outcome_by k s → r ≡ s
one_result k (Ok n) (Ok m) e = ap Ok (done_same e)
one_result k (Ok n) (Err x) e = absurd (never e)
one_result k (Err x) (Ok m) e = absurd (never (sym e))
one_result k (Err x) (Err y) e = refl

pub put_record_determined : (text out left left' : Text) (r s : Result ℕ NoRoom) → Writes (record_in (length out) text) out left (put_outcome r)
    → Writes (record_in (length out) text) out left' (put_outcome s) → (r ≡ s) × (left ≡ left')
put_record_determined text out left left' r s w w' = (one_result output_room r s (writes_once w w').0, (writes_once w w').1)

pub store_determined : (vars name value left left' : Text) (used limit : ℕ) (r s : Result ℕ NoRoom)
    → Writes (image_in limit name value (held (take used vars))) vars left (stored_outcome r)
    → Writes (image_in limit name value (held (take used vars))) vars left' (stored_outcome s)
    → (r ≡ s) × (left ≡ left')
store_determined vars name value left left' used limit r s w w' = (one_result variable_room r s (writes_once w w').0, (writes_once w w').1)

-- a store within a room: its answer, and the image that it leaves
module _ (varsRoom : ℕ) (x t : Text) (v : Pairs) (vars vars' : Text) where
  one_store : (n n' : ℕ) → store varsRoom x t v ≡ done (held (take n vars)) → store varsRoom x t v ≡ done (held (take n' vars'))
      → held (take n vars) ≡ held (take n' vars')
  one_store n n' h h' = cc

  store_clash : {e : ℕ} {u : Pairs} → store varsRoom x t v ≡ refused e → store varsRoom x t v ≡ done u → ⊥
  store_clash h h' = cc

  pub store_within_determined : (r s : Result ℕ NoRoom) → StoresIn varsRoom x t v vars r → StoresIn varsRoom x t v vars' s → r ≡ s
  store_within_determined (Ok n) (Ok n') h h' =
      ap Ok
      (vars_used_is varsRoom vars n h.1 ∙ ap (λ (u : Pairs). image_length (flat u)) (one_store n n' h.0 h'.0)
      ∙ sym (vars_used_is varsRoom vars' n' h'.1))
  store_within_determined (Ok n) (Err e) h h' = absurd (store_clash h' h.0)
  store_within_determined (Err e) (Ok n') h h' = absurd (store_clash h h'.0)
  store_within_determined (Err e) (Err f) h h' = refl

  pub store_within_image : (n n' : ℕ) → StoresIn varsRoom x t v vars (Ok n) → StoresIn varsRoom x t v vars' (Ok n')
      → Bytes (take n vars) → Bytes (take n' vars') → take n vars ≡ take n' vars'
  store_within_image n n' h h' b b' =
      table_canonical is_name (take n vars) (vars_held varsRoom vars n h.1) b
      ∙ ap (λ (u : Pairs). image (flat u)) (one_store n n' h.0 h'.0)
      ∙ sym (table_canonical is_name (take n' vars') (vars_held varsRoom vars' n' h'.1) b')
