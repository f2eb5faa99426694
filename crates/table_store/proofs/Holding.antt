-- Variables that stand in their bytes, and a store there: the value goes into the image as the stage stores it, within the lesser of the room and 8,192.
use Prim.Native.Nat.{ℕ, ◌≤◌}
use native.Mathlib.Omega.{arith}
use mathlib.Core.Path.{◌≡◌, refl, sym, ap, ◌∙◌, subst}
use mathlib.Core.Bool.{Bool, ◌&&◌}
use borrow.Author.Tests.{leb-true, leb-false, le-leb}
use lib.Dec.{leb}
use lib.ListN.{length, take}
use lib.Seq.{length-take-le}
use Rattle.stages.specs.Numbers.{image_limit}
use Rattle.stages.specs.Bytes.{Text}
use Rattle.stages.specs.Outcome.{done}
use Rattle.stages.specs.Images.{Pairs, is_name, held, stored, flat, image_length}
use Rattle.stages.specs.Params.{store}
use Rattle.stages.proofs.Bools.{either, same_tests, and_left, and_right, and_both}
use Rattle.stages.proofs.Tables.{Vars, vars_of, variables_are, is_some_lem, table_length}
use Rattle.table.specs.Places as places
use Rattle.table_store.specs.Answers.{image_in, stored_outcome, Writes}
use Rattle.table_store.specs.Holding.{Holds, Settable, limit_of, StoresIn}
use Rattle.std.specs.Prelude.{min, Result, Ok, Err}
use Rattle.table_store.specs.declared.NoRoom.{NoRoom}
use Rattle.table_store.proofs.StoredImages.{store_by}
use Rattle.table_store.proofs.Callers.{store_used, store_full, store_held, store_vars}

-- the variables that stand there

pub vars_held : (varsRoom : ℕ) (vars : Text) (vars_used : ℕ) → Holds varsRoom vars vars_used → Vars (take vars_used vars)
vars_held varsRoom vars vars_used w = vars_of (take vars_used vars) w.formed

pub table_held : (varsRoom : ℕ) (vars : Text) (vars_used : ℕ) → Holds varsRoom vars vars_used → places.Table (take vars_used vars)
table_held varsRoom vars vars_used w = let t = vars_held varsRoom vars vars_used w in record { pairs = t.table; rises = t.rises }

pub vars_used_is : (varsRoom : ℕ) (vars : Text) (vars_used : ℕ) → Holds varsRoom vars vars_used
    → vars_used ≡ image_length (flat (held (take vars_used vars)))
vars_used_is varsRoom vars vars_used w =
    sym (length-take-le vars_used vars w.inside) ∙ table_length is_name (take vars_used vars) (vars_held varsRoom vars vars_used w)

-- the lesser of the room and 8,192

limit_room : (varsRoom : ℕ) → limit_of varsRoom ≤ varsRoom
limit_room varsRoom = either (leb varsRoom image_limit) (λ e. rw e (omega arith)) (λ e. rw e (omega (arith, leb-false varsRoom image_limit e)))

limit_image : (varsRoom : ℕ) → limit_of varsRoom ≤ image_limit
limit_image varsRoom = either (leb varsRoom image_limit) (λ e. rw e (leb-true varsRoom image_limit e)) (λ e. rw e (omega arith))

limit_least : (varsRoom n : ℕ) → n ≤ varsRoom → n ≤ image_limit → n ≤ limit_of varsRoom
limit_least varsRoom n a b = either (leb varsRoom image_limit) (λ e. rw e a) (λ e. rw e b)

pub limit_min : (varsRoom : ℕ) → min varsRoom image_limit ≡ limit_of varsRoom
limit_min varsRoom = either (leb varsRoom image_limit) (λ e. rw e (omega (arith, leb-true varsRoom image_limit e)))
    (λ e. rw e (omega (arith, leb-false varsRoom image_limit e)))

store_limit : (varsRoom : ℕ) (x t : Text) (v : Pairs) → store (limit_of varsRoom) x t v ≡ store varsRoom x t v
store_limit varsRoom x t v = go (leb n varsRoom && leb n image_limit) refl
  where
    n : ℕ
    n = image_length (flat (stored x t v))

    same : (leb n (limit_of varsRoom) && leb n image_limit) ≡ (leb n varsRoom && leb n image_limit)
    same =
        same_tests (leb n (limit_of varsRoom) && leb n image_limit) (leb n varsRoom && leb n image_limit)
        (λ e. and_both (le-leb n varsRoom (le_trans_limit (leb-true n (limit_of varsRoom) (and_left (leb n (limit_of varsRoom)) (leb n image_limit) e))))
        (and_right (leb n (limit_of varsRoom)) (leb n image_limit) e))
        (λ e. and_both (le-leb n (limit_of varsRoom)
        (limit_least varsRoom n (leb-true n varsRoom (and_left (leb n varsRoom) (leb n image_limit) e))
        (leb-true n image_limit (and_right (leb n varsRoom) (leb n image_limit) e))))
        (and_right (leb n varsRoom) (leb n image_limit) e))
      where
        le_trans_limit : n ≤ limit_of varsRoom → n ≤ varsRoom
        le_trans_limit h = omega (arith, limit_room varsRoom)

    go : (b : Bool) → (leb n varsRoom && leb n image_limit) ≡ b → store (limit_of varsRoom) x t v ≡ store varsRoom x t v
    go b e = store_by x t v (limit_of varsRoom) b (same ∙ e) ∙ sym (store_by x t v varsRoom b e)

-- the image within the limit that the code has, which fits into the buffer

pub record Limited (limit vars_used size : ℕ) : Type 0 where
  pub holds : vars_used ≤ limit
  pub inside : limit ≤ size
  pub least : limit ≤ image_limit

pub limited : {varsRoom : ℕ} {vars : Text} {vars_used : ℕ} → Holds varsRoom vars vars_used → {limit : ℕ} → limit ≡ limit_of varsRoom
    → Limited limit vars_used (length vars)
limited {varsRoom} {vars} {vars_used} w {limit} e =
    let few : vars_used ≤ image_limit = omega (arith, (vars_held varsRoom vars vars_used w).small, length-take-le vars_used vars w.inside) in
    let most = limit_image varsRoom in
    let long = w.long in
    record { holds = omega (arith, limit_least varsRoom vars_used w.fits few); inside = omega arith; least = omega arith }

module _ (varsRoom vars_used : ℕ) (x t : Text) (vars left : Text) (w : Holds varsRoom vars vars_used) (n : Settable x t)
    (r : Result ℕ NoRoom) (s : Writes (image_in (limit_of varsRoom) x t (held (take vars_used vars))) vars left (stored_outcome r)) where
  stores_in : length left ≡ length vars → StoresIn varsRoom x t (held (take vars_used vars)) left r
  unfolding store
  stores_in len = go r refl
    where
      go : (k : Result ℕ NoRoom) → r ≡ k → StoresIn varsRoom x t (held (take vars_used vars)) left k
      go (Err z) e =
          sym (store_limit varsRoom x t (held (take vars_used vars))) ∙ (store_full (limit_of varsRoom) x t (held (take vars_used vars)) vars left r s e).0
      go (Ok k) e =
          let g = store_used (limit_of varsRoom) x t (held (take vars_used vars)) vars left r s k e in
          let u = vars_held varsRoom vars vars_used w in
          let a = g.small in
          let b = w.long in (
            sym (store_limit varsRoom x t (held (take vars_used vars))) ∙ g.gives
                ∙ ap done (sym (store_held (limit_of varsRoom) x t vars left vars_used k g u n.named n.clean)),
            record {
              formed = is_some_lem (variables_are (take k left) (store_vars (limit_of varsRoom) x t vars left vars_used k g u n.named n.clean));
              inside = omega (arith, limit_image varsRoom);
              fits = omega (arith, limit_room varsRoom);
              long = omega arith;
            },
          )

-- within the limit as the code has it
pub stores_within : (varsRoom vars_used : ℕ) (x t vars left : Text) → Holds varsRoom vars vars_used → Settable x t → {limit : ℕ} → limit ≡ limit_of varsRoom
    → (r : Result ℕ NoRoom) → Writes (image_in limit x t (held (take vars_used vars))) vars left (stored_outcome r) → length left ≡ length vars
    → StoresIn varsRoom x t (held (take vars_used vars)) left r
stores_within varsRoom vars_used x t vars left w n e r s len =
    stores_in varsRoom vars_used x t vars left w n r
    (subst (λ (k : ℕ). Writes (image_in k x t (held (take vars_used vars))) vars left (stored_outcome r)) e s) len

-- what a store answers, once its case is known
pub stored_known : (varsRoom : ℕ) (x t : Text) (v : Pairs) (vars : Text) {r k : Result ℕ NoRoom} → StoresIn varsRoom x t v vars r → r ≡ k
    → StoresIn varsRoom x t v vars k
stored_known varsRoom x t v vars h e = subst (λ (k : Result ℕ NoRoom). StoresIn varsRoom x t v vars k) e h
