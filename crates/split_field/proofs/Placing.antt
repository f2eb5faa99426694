-- Records behind the used part of an output, on plain lists: two written one behind the other are both written, a record in the lent free part is
-- written behind what was used, and what each answer of a writer says.
use Prim.Native.Nat.{ℕ, ◌+◌, ◌-◌, ◌≤◌, ◌<◌}
use native.Mathlib.Omega.{arith}
use mathlib.Core.Path.{◌≡◌, refl, sym, ap, ◌∙◌}
use mathlib.Core.Bool.{Bool, true, false}
use mathlib.Core.List.{List, [], ◌∷◌, ◌++◌, append_assoc, append-nil}
use lib.Dec.{leb}
use lib.ListN.{length, take, drop, length-append, length-drop, take-append-drop}
use lib.Seq.{length-take-le, take_at, drop_at, drop-drop}
use borrow.Rule.Slice.PartMut.{put_mid, mid_of}
use borrow.Author.Tests.{le-leb, lt-leb, leb-true, leb-false}
use Rattle.stages.specs.Numbers.{image_limit}
use Rattle.stages.specs.Bytes.{Text}
use Rattle.stages.specs.Outcome.{Outcome, done}
use Rattle.stages.specs.Units.{bytes}
use Rattle.stages.specs.Images.{framed, written, record_bytes}
use Rattle.stages.specs.Call.{over}
use Rattle.text.specs.Rows.{row_of}
use Rattle.text.proofs.Parts.{rest_is, rest_length, rest_back}
use Rattle.row.specs.Stands.{Stripped}
use Rattle.row.proofs.Laws.{bytes_half}
use Rattle.stages.proofs.Outcomes.{never}
use Rattle.table_store.specs.Answers.{put_outcome, text_limit, record_in, Writes}
use Rattle.table_store.specs.declared.NoRoom as store
use Rattle.table_store.proofs.Callers.{put_len, put_none}
use Rattle.table_store.specs.Splice.{placed}
use Rattle.split_field.specs.Answers.{written_outcome, length_with, Says, len, class, no_room, Spares, Puts}
use Rattle.std.specs.Prelude.{Result, Ok, Err}
use Rattle.split_field.specs.declared.WriteError.{WriteError}
use Rattle.split_field.specs.declared.WriteError.TheVariants.{NoRoom}

-- a text in its place

pub placed_none : (at : ℕ) (old : Text) → placed at [] old ≡ old
unfolding placed
placed_none at old = let e : at + 0 ≡ at = omega arith in rw e (take-append-drop at old)

module _ (at : ℕ) (a b old : Text) (h : at + length a ≤ length old) where
  front : length (take at old ++ a) ≡ at + length a
  front = length-append (take at old) a ∙ ap (λ (n : ℕ). n + length a) (length-take-le at old (omega arith))

  regrouped : placed at a old ≡ (take at old ++ a) ++ drop (at + length a) old
  unfolding placed
  regrouped = sym (append_assoc (take at old) a (drop (at + length a) old))

  pub placed_then : placed (at + length a) b (placed at a old) ≡ placed at (a ++ b) old
  placed_then =
      let k : at + length a + length b ≡ at + length (a ++ b) = omega (arith, length-append a b) in
      let f : take (at + length a) (placed at a old) ≡ take at old ++ a =
      ap (take (at + length a)) regrouped ∙ take_at (take at old ++ a) (drop (at + length a) old) (at + length a) front in
      let g : drop (at + length a) (placed at a old) ≡ drop (at + length a) old =
      ap (drop (at + length a)) regrouped ∙ drop_at (take at old ++ a) (drop (at + length a) old) (at + length a) front in
      let m : drop (at + length a + length b) (placed at a old) ≡ drop (at + length (a ++ b)) old =
      sym (drop-drop (length b) (at + length a) (placed at a old)) ∙ ap (drop (length b)) g ∙ drop-drop (length b) (at + length a) old ∙ ap
      (λ (n : ℕ). drop n old) k in
      joined f m
    where
      joined : take (at + length a) (placed at a old) ≡ take at old ++ a → drop (at + length a + length b) (placed at a old) ≡ drop
          (at + length (a ++ b)) old
          → placed (at + length a) b (placed at a old) ≡ placed at (a ++ b) old
      joined f m =
          unfold placed in
          ap (λ (u : Text). u ++ (b ++ drop (at + length a + length b) (placed at a old))) f
          ∙ ap (λ (u : Text). (take at old ++ a) ++ (b ++ u)) m
          ∙ simp append_assoc

-- the free part of the output, lent

lent : (used : ℕ) (old t ys : Text) → ys ≡ over t (mid_of used (length old - used) old) → put_mid used (length old - used) old ys ≡ placed used t old
unfolding over placed
lent used old t ys e =
    let y : ys ≡ t ++ drop (used + length t) old =
    e ∙ ap (λ (x : Text). t ++ drop (length t) x) (rest_is used old) ∙ ap (λ (x : Text). t ++ x) (drop-drop (length t) used old) in
    rw (rest_back used old ys, y)

-- `put_text`

module _ (t : Text) (used : ℕ) (old ys : Text) (r : Result ℕ store.NoRoom) (h : used ≤ length old) (small : length old ≤ image_limit)
    (w : Writes (record_in (length (mid_of used (length old - used) old)) t) (mid_of used (length old - used) old) ys (put_outcome r)) where
  abbrev after : Text
  after = put_mid used (length old - used) old ys

  pub text_fits : {n : ℕ} → r ≡ Ok n → used + n ≤ length old
  text_fits {n} e =
      let d : (n ≡ length t + 2) × (ys ≡ over (framed t) (mid_of used (length old - used) old)) ×
      (length t + 2 ≤ length (mid_of used (length old - used) old)) =
      put_len t (mid_of used (length old - used) old) ys r w n e in
      omega (arith, d.0, d.2, rest_length used old)

  pub text_put : {n : ℕ} → r ≡ Ok n → Says (done (t ∷ [])) used old after (Ok (used + n))
  unfolding written record_bytes
  text_put {n} e =
      let d : (n ≡ length t + 2) × (ys ≡ over (framed t) (mid_of used (length old - used) old)) ×
      (length t + 2 ≤ length (mid_of used (length old - used) old)) =
      put_len t (mid_of used (length old - used) old) ys r w n e in
      len {n = used + n} (t ∷ []) refl (omega (arith, d.0)) (text_fits e)
      (lent used old (framed t) ys d.1 ∙ ap (λ (x : Text). placed used x old) (sym (append-nil (framed t))))

  pub text_full : {e : store.NoRoom} → r ≡ Err e → Says (done (t ∷ [])) used old after (Err NoRoom)
  unfolding record_bytes
  text_full e = no_room (t ∷ []) refl (go (leb (length t) text_limit) refl)
    where
      long : length t ≤ text_limit → length old < used + (2 + length t + 0)
      long k = omega (arith, (put_none t (mid_of used (length old - used) old) ys r w e).1 k, rest_length used old)

      go : (x : Bool) → leb (length t) text_limit ≡ x → length old < used + (2 + length t + 0)
      go true q = long (leb-true (length t) text_limit q)
      go false q = omega (arith, leb-false (length t) text_limit q)

-- what is answered, in document 01's numbers

-- where a stage gives texts, 19 is not answered
pub spares_done : {l : List Text} {used : ℕ} {old left : Text} {r : Result ℕ WriteError} → Says (done l) used old left r → Spares r old left
spares_done (len l e m h q) = tt
spares_done (class e) = absurd (never e)
spares_done (no_room l e h) = tt

pub says_answers : {o : Outcome (List Text)} {used : ℕ} {old left : Text} {r : Result ℕ WriteError} → Says o used old left r → written_outcome r ≡
    length_with (length old) used o
unfolding length_with
says_answers {o} {used} {old} (len l e m h q) = sym (rw (e, le-leb (used + record_bytes l) (length old) (omega (arith, m)), m))
says_answers (class e) = sym (rw e)
says_answers {o} {used} {old} (no_room l e h) = sym (rw (e, lt-leb (used + record_bytes l) (length old) h))

pub puts_says : {o : Outcome (List Text)} {used : ℕ} {old left : Text} {r : Result ℕ WriteError} → Says o used old left r → Puts o used old left r
puts_says h = record { answers = says_answers h; says = h }

-- `put_own`: a field's bytes without marks stand at its front

module _ {field left : Text} {n : ℕ} (s : Stripped field left n) where
  left_length : length left ≡ length field
  left_length = ap length s.leaves ∙ length-append (bytes (row_of field)) _ ∙ simp length-drop (omega (arith, bytes_half field))
