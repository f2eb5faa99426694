-- The record writer, on plain lists: the two bytes of the length and the text behind them are the record, and the bytes behind it stay.
use Prim.Native.Nat.{ℕ, suc, ◌+◌, ◌-◌, ◌/◌, ◌%◌, ◌≤◌, ◌<◌}
use native.Mathlib.Omega.{arith}
use mathlib.Core.Path.{◌≡◌, refl, sym, ap, ◌∙◌}
use mathlib.Core.Bool.{Bool, true, false, ◌&&◌}
use mathlib.Core.List.{[], ◌∷◌, ◌++◌, append-nil}
use lib.Dec.{leb}
use lib.ListN.{length, drop, set}
use lib.Seq.{take_all, drop-length}
use borrow.Rule.Slice.PartMut.{put_mid, mid_of}
use borrow.Author.Tests.{le-leb, lt-leb}
use Rattle.stages.specs.Numbers.{output_room}
use Rattle.stages.specs.Bytes.{Text}
use Rattle.stages.specs.Outcome.{Outcome, refused, done}
use Rattle.stages.specs.Images.{framed}
use Rattle.stages.specs.Call.{over}
use Rattle.stages.proofs.Bools.{and_both}
use Rattle.stages.proofs.Outcomes.{never}
use Rattle.std.specs.Prelude.{Result, Ok, Err}
use Rattle.std.specs.Result.{is_ok}
use Rattle.std.specs.Int.{to_be_bytes}
use Rattle.std.proofs.Common.{w16, get_or, List}
use Rattle.table_store.specs.declared.NoRoom.{NoRoom}
use Rattle.table_store.specs.Answers.{put_outcome, text_limit, record_in, length_of, left_by, Writes}

-- what is written where a stage gives bytes, and where it refuses
pub writes_done : {o : Outcome Text} (t old : Text) {left : Text} {n : ℕ} → o ≡ done t → n ≡ length t → left ≡ over t old → Writes o
    old left (done n)
writes_done t old e k l = record { answers = ap done k ∙ sym (ap length_of e); leaves = l ∙ sym (ap (λ (o : Outcome Text). left_by o old) e) }

pub writes_refused : {o : Outcome Text} (n : ℕ) (old : Text) → o ≡ refused n → Writes o old old (refused n)
writes_refused n old e = record { answers = sym (ap length_of e); leaves = sym (ap (λ (o : Outcome Text). left_by o old) e) }

-- the record where there is room
pub record_fits : (room : ℕ) (t : Text) → length t ≤ text_limit → length t + 2 ≤ room → record_in room t ≡ done (framed t)
unfolding record_in
record_fits room t h k = rw (and_both (le-leb (length t) text_limit h) (le-leb (length (framed t)) room (omega arith)))

pub record_long : (room : ℕ) (t : Text) → text_limit < length t → record_in room t ≡ refused output_room
unfolding record_in
record_long room t h = rw (lt-leb (length t) text_limit h)

pub record_full : (room : ℕ) (t : Text) → room < length t + 2 → record_in room t ≡ refused output_room
unfolding record_in
record_full room t h = rw (lt-leb (length (framed t)) room (omega arith)) (go (leb (length t) text_limit))
  where
    go : (x : Bool) → Rattle.stages.specs.Outcome.pick (x && false) (done (framed t)) (refused output_room) ≡ refused output_room
    go true = refl
    go false = refl

-- where there is room the record writer answers a length
pub put_fits : (room : ℕ) (t : Text) {old left : Text} (r : Result ℕ NoRoom) → length t ≤ text_limit → length t + 2 ≤ room
    → Writes (record_in room t) old left (put_outcome r) → is_ok r ≡ true
put_fits room t (Ok n) h k w = refl
put_fits room t (Err e) h k w = absurd (never (sym (ap length_of (record_fits room t h k)) ∙ sym w.answers))

-- `put_record`: the length's two bytes stand, and the text is copied behind them
module _ (t : Text) (high low : ℕ) (a : high ≡ length t / 256) (b : low ≡ length t % 256) where
  abbrev headed : Text → Text
  headed out = set (set out 0 high) 1 low

  put_is : (out ys : Text) → 2 ≤ length out → ys ≡ t ++ drop (length t) (mid_of 2 (length (headed out) - 2) (headed out))
      → put_mid 2 (length (headed out) - 2) (headed out) ys ≡ over (framed t) out
  unfolding over
  put_is [] ys h e = absurd (omega arith)
  put_is (x ∷ []) ys h e = absurd (omega arith)
  put_is (x ∷ y ∷ o) ys h e =
      let k : suc (suc (length o)) - 2 ≡ length o = omega arith in
      let q : ys ≡ t ++ drop (length t) o = e ∙ rw (k, take_all (length o) o (omega arith)) in
      rw (k, drop-length o, append-nil ys, q, a, b)

  pub put_wrote : (out ys : Text) → length t ≤ text_limit → length t + 2 ≤ length out → ys ≡ t ++ drop (length t)
      (mid_of 2 (length (headed out) - 2) (headed out))
      → Writes (record_in (length out) t) out (put_mid 2 (length (headed out) - 2) (headed out) ys) (done (length t + 2))
  put_wrote out ys h k e = writes_done (framed t) out (record_fits (length out) t h k) (omega arith) (put_is out ys (omega arith) e)

-- the two bytes of a length
pub high_byte : (n : ℕ) {bytes : List ℕ} → n ≤ text_limit → bytes ≡ to_be_bytes w16 n → get_or bytes 0 0 ≡ n / 256
high_byte n h e = rw e (omega arith)

pub low_byte : (n : ℕ) {bytes : List ℕ} → n ≤ text_limit → bytes ≡ to_be_bytes w16 n → get_or bytes 1 0 ≡ n % 256
low_byte n h e = rw e (omega arith)
