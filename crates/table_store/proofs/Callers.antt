-- What callers learn from an answer. The record writer: the text's record stands at the front, or had no room. The store: the new image holds what the
-- stage's store gives, is again an image of variables, and is looked up as the stage's.
use Prim.Native.Nat.{ℕ, ◌+◌, ◌≤◌, ◌<◌}
use native.Mathlib.Omega.{arith}
use mathlib.Core.Path.{◌≡◌, refl, sym, ap, ◌∙◌}
use mathlib.Core.Bool.{Bool, true, false, ◌&&◌}
use mathlib.Core.List.{[], ◌∷◌}
use mathlib.Core.Option.{some}
use lib.Dec.{leb}
use lib.ListN.{length, take, set}
use lib.Seq.{take_at}
use borrow.Author.Tests.{leb-true, leb-false, le-leb}
use Rattle.stages.specs.Numbers.{variable_room, output_room, image_limit}
use Rattle.stages.specs.Bytes.{Text, all, not_zero, eq_text}
use Rattle.stages.specs.Outcome.{Outcome, refused, demands, done}
use Rattle.stages.specs.Images.{Pairs, is_name, framed, written, image, image_length, flat, lookup, stored, held}
use Rattle.stages.specs.Params.{store}
use Rattle.stages.specs.Call.{over}
use Rattle.stages.proofs.Bools.{and_left, and_right}
use Rattle.stages.proofs.Images.{length_image}
use Rattle.stages.proofs.Tables.{Vars}
use Rattle.stages.proofs.Stores.{held_stored, vars_stored, lookup_stored, lookup_other}
use Rattle.stages.proofs.Outcomes.{done_same, never}
use Rattle.table_store.specs.Answers.{put_outcome, stored_outcome, text_limit, record_in, image_in, Writes}
use Rattle.std.specs.Prelude.{Result, Ok, Err}
use Rattle.table_store.specs.declared.NoRoom.{NoRoom}
use Rattle.table_store.proofs.StoredImages.{store_by, image_by}

-- bytes that were written, where the answer is a length: they are the stage's
pub record Wrote (o : Outcome Text) (old left : Text) (n : ℕ) : Type 0 where
  pub new : Text
  pub gives : o ≡ done new
  pub long : n ≡ length new
  pub leaves : left ≡ over new old

pub wrote : (o : Outcome Text) (old left : Text) (n : ℕ) → Writes o old left (done n) → Wrote o old left n
wrote (done t) old left n w = record { new = t; gives = refl; long = done_same w.answers; leaves = w.leaves }
wrote (refused k) old left n w = absurd (never w.answers)
wrote (demands t) old left n w = cc w.answers

-- and where it is a number: nothing was written
pub unwritten : (o : Outcome Text) (old left : Text) (k : ℕ) → Writes o old left (refused k) → (o ≡ refused k) × (left ≡ old)
unwritten (done t) old left k w = absurd (never (sym w.answers))
unwritten (demands t) old left k w = cc w.answers
unwritten (refused j) old left k w = (refusal w.answers, w.leaves)
  where
    refusal : ◌≡◌ {A = Outcome ℕ} (refused k) (refused j) → ◌≡◌ {A = Outcome Text} (refused j) (refused k)
    refusal e = let z : j ≡ k = cc in ap refused z

-- `put_record`

module _ (room : ℕ) (t : Text) where
  pub record_given : (new : Text) → record_in room t ≡ done new → (framed t ≡ new) × (length t ≤ text_limit) × (length t + 2 ≤ room)
  unfolding record_in
  record_given new e = go (leb (length t) text_limit) refl (leb (length (framed t)) room) refl
    where
      same : done (framed t) ≡ done new → framed t ≡ new
      same e = cc

      small : leb (length (framed t)) room ≡ true → length t + 2 ≤ room
      small q = omega (arith, leb-true (length (framed t)) room q)

      go : (a : Bool) → leb (length t) text_limit ≡ a → (b : Bool) → leb (length (framed t)) room ≡ b → (framed t ≡ new) ×
          (length t ≤ text_limit) × (length t + 2 ≤ room)
      go true p true q = (same (rw (p, q) at e), leb-true (length t) text_limit p, small q)
      go true p false q = absurd (never (sym (rw (p, q) at e)))
      go false p b q = absurd (never (sym (rw p at e)))

  pub record_refused : (k : ℕ) → record_in room t ≡ refused k → length t ≤ text_limit → room < length t + 2
  unfolding record_in
  record_refused k e h = go (leb (length (framed t)) room) refl
    where
      large : leb (length (framed t)) room ≡ false → room < length t + 2
      large q = omega (arith, leb-false (length (framed t)) room q)

      go : (b : Bool) → leb (length (framed t)) room ≡ b → room < length t + 2
      go true q = absurd (never (rw (le-leb (length t) text_limit h, q) at e))
      go false q = large q

module _ (t out left : Text) (r : Result ℕ NoRoom) (w : Writes (record_in (length out) t) out left (put_outcome r)) where
  pub put_len : (n : ℕ) → r ≡ Ok n → (n ≡ length t + 2) × (left ≡ over (framed t) out) × (length t + 2 ≤ length out)
  put_len n e =
      let d : Wrote (record_in (length out) t) out left n = wrote (record_in (length out) t) out left n (rw e at w) in
      let g : (framed t ≡ d.new) × (length t ≤ text_limit) × (length t + 2 ≤ length out) = record_given (length out) t d.new d.gives in
      let k : length (framed t) ≡ length d.new = ap length g.0 in
      (omega (arith, d.long, k), d.leaves ∙ ap (λ (x : Text). over x out) (sym g.0), g.2)

  pub put_none : {e : NoRoom} → r ≡ Err e → (left ≡ out) × (length t ≤ text_limit → length out < length t + 2)
  put_none e =
      let d : (record_in (length out) t ≡ refused output_room) × (left ≡ out) = unwritten (record_in (length out) t) out left output_room (rw e at w) in
      (d.1, record_refused (length out) t output_room d.0)

-- the version byte alone is the image of no texts
pub version_first : (old : Text) → 1 ≤ length old → set old 0 1 ≡ over (image []) old
unfolding image written over
version_first [] h = absurd (omega arith)
version_first (b ∷ t) h = refl

-- `store`

-- the stage's store is made, and its image stands at the front
pub record Grown (limit : ℕ) (x t : Text) (v : Pairs) (old left : Text) (n : ℕ) : Type 0 where
  pub gives : store limit x t v ≡ done (stored x t v)
  pub long : n ≡ image_length (flat (stored x t v))
  pub small : n ≤ limit
  pub smaller : n ≤ image_limit
  pub leaves : left ≡ over (image (flat (stored x t v))) old

module _ (limit : ℕ) (x t : Text) (v : Pairs) (old left : Text) (r : Result ℕ NoRoom) (w : Writes (image_in limit x t v) old left (stored_outcome r)) where
  abbrev bytes : ℕ
  bytes = image_length (flat (stored x t v))

  abbrev new : Text
  new = image (flat (stored x t v))

  pub store_used : (n : ℕ) → r ≡ Ok n → Grown limit x t v old left n
  store_used n e = go (leb bytes limit && leb bytes image_limit) refl
    where
      told : Wrote (image_in limit x t v) old left n
      told = wrote (image_in limit x t v) old left n (rw e at w)

      same : {a b : Text} → done a ≡ done b → a ≡ b
      same e = cc

      grown : (leb bytes limit && leb bytes image_limit) ≡ true → new ≡ told.new → Grown limit x t v old left n
      grown d k =
          let m : n ≡ bytes = told.long ∙ ap length (sym k) ∙ length_image (flat (stored x t v)) in
          record {
            gives = store_by x t v limit true d;
            long = m;
            small = rw m (leb-true bytes limit (and_left (leb bytes limit) (leb bytes image_limit) d));
            smaller = rw m (leb-true bytes image_limit (and_right (leb bytes limit) (leb bytes image_limit) d));
            leaves = told.leaves ∙ ap (λ (y : Text). over y old) (sym k);
          }

      go : (b : Bool) → (leb bytes limit && leb bytes image_limit) ≡ b → Grown limit x t v old left n
      go true d = grown d (same (sym (image_by x t v limit true d) ∙ told.gives))
      go false d = absurd (never (sym told.gives ∙ image_by x t v limit false d))

  pub store_full : {e : NoRoom} → r ≡ Err e → (store limit x t v ≡ refused variable_room) × (left ≡ old)
  store_full e = go (leb bytes limit && leb bytes image_limit) refl
    where
      told : (image_in limit x t v ≡ refused variable_room) × (left ≡ old)
      told = unwritten (image_in limit x t v) old left variable_room (rw e at w)

      go : (b : Bool) → (leb bytes limit && leb bytes image_limit) ≡ b → (store limit x t v ≡ refused variable_room) × (left ≡ old)
      go true d = absurd (never (sym (image_by x t v limit true d) ∙ told.0))
      go false d = (store_by x t v limit false d, told.1)

-- the variables behind a store: the first n bytes that are left
module _ (limit : ℕ) (x t : Text) (old left : Text) (used n : ℕ) (g : Grown limit x t (held (take used old)) old left n) where
  pub store_image : take n left ≡ image (flat (stored x t (held (take used old))))
  unfolding over
  store_image =
      ap (take n) g.leaves
      ∙ take_at (image (flat (stored x t (held (take used old))))) _ n (length_image (flat (stored x t (held (take used old)))) ∙ sym g.long)

  module _ (h : Vars (take used old)) (name : is_name x ≡ true) (fine : all not_zero t ≡ true) where
    pub store_held : held (take n left) ≡ stored x t (held (take used old))
    store_held = ap held store_image ∙ held_stored (take used old) x t h name fine

    pub store_vars : Vars (take n left)
    store_vars = rw store_image (vars_stored (take used old) x t h name fine (rw (← g.long) g.smaller))

    pub store_lookup : lookup x (held (take n left)) ≡ some t
    store_lookup = ap (lookup x) store_held ∙ lookup_stored x t (held (take used old))

    pub store_others : (y : Text) → eq_text y x ≡ false → lookup y (held (take n left)) ≡ lookup y (held (take used old))
    store_others y e = ap (lookup y) store_held ∙ lookup_other x y t (held (take used old)) e
