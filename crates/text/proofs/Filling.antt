-- A text that is written piece by piece at the front of a lent buffer: what is written stands over the old bytes, what is left has room behind it.
use Prim.Native.Nat.{ℕ, suc, ◌+◌, ◌-◌, ◌≤◌, ◌<◌}
use native.Mathlib.Omega.{arith}
use mathlib.Core.Path.{◌≡◌, refl, sym, ap, ◌∙◌}
use mathlib.Core.List.{[], ◌∷◌, ◌++◌, append_assoc, append-nil}
use lib.ListN.{length, take, drop, get_or, set, length-append, length-drop, take-append-drop}
use lib.Seq.{take_at, drop_at, drop-drop, drop-cons, set_at}
use borrow.Rule.Slice.PartMut.{put_mid, mid_of}
use Rattle.stages.specs.Bytes.{Text}
use Rattle.stages.specs.Call.{over}
use Rattle.stages.proofs.Rooms.{over_length}
use Rattle.text.specs.Putting.{Puts}
use Rattle.text.proofs.Determined.{one_answer}
use Rattle.text.proofs.Parts.{rest_is, rest_back}

-- the same text over the same bytes is one length and one buffer
pub puts_once : {t old left left' : Text} {r s : ℕ} → Puts t old left r → Puts t old left' s → (r ≡ s) × (left ≡ left')
puts_once p q = (one_answer p.counts q.counts, one_answer p.leaves q.leaves)

-- a text that is copied to the front is put
pub puts_copied : (t old left : Text) → left ≡ t ++ drop (length t) old → Puts t old left (length t)
unfolding over
puts_copied t old left e = record { counts = refl; leaves = e }

-- what was put stands at the front
pub puts_front : {t old left : Text} {n : ℕ} → Puts t old left n → take n left ≡ t
unfolding over
puts_front {t} {old} {left} {n} p = ap (take n) p.leaves ∙ take_at t (drop (length t) old) n (sym p.counts)

-- `rest` is still to be written of the whole; `used` bytes stand at the front of a buffer that held `old`
pub record Filling (whole rest old out : Text) (used : ℕ) : Type 0 where
  pub front : Text
  pub splits : whole ≡ front ++ rest
  pub long : used ≡ length front
  pub is : out ≡ over front old
  pub fits : length whole ≤ length old

pub fill_starts : (whole old : Text) → length whole ≤ length old → Filling whole whole old old 0
unfolding over
fill_starts whole old h = record { front = []; splits = refl; long = refl; is = refl; fits = h }

module _ {whole rest old out : Text} {used : ℕ} (f : Filling whole rest old out used) where
  pub fill_room : used + length rest ≤ length old
  fill_room = omega (arith, f.long, f.fits, ap length f.splits, length-append f.front rest)

  pub fill_length : length out ≡ length old
  fill_length = ap length f.is ∙ over_length f.front old (omega (arith, fill_room, f.long))

  -- the lent part behind what is written
  fill_free : mid_of used (length out - used) out ≡ drop used old
  unfolding over
  fill_free =
      rest_is used out
      ∙ ap (drop used) f.is
      ∙ drop_at f.front (drop (length f.front) old) used (sym f.long)
      ∙ ap (λ (k : ℕ). drop k old) (sym f.long)

  pub fill_free_length : length (mid_of used (length out - used) out) ≡ length old - used
  fill_free_length = ap length fill_free ∙ length-drop used old

  -- the piece that comes next has room there
  module _ (piece more : Text) (e : rest ≡ piece ++ more) where
    pub fill_next : used + length piece ≤ length old
    fill_next = omega (arith, fill_room, ap length e, length-append piece more)

    pub fill_fits : length piece ≤ length (mid_of used (length out - used) out)
    fill_fits = omega (arith, fill_next, fill_free_length)

  -- what is written grows by a piece
  grown : (piece more left : Text) (next : ℕ) → rest ≡ piece ++ more → next ≡ used + length piece → left ≡ over (f.front ++ piece) old
      → Filling whole more old left next
  grown piece more left next e n k = record {
    front = f.front ++ piece;
    splits = f.splits ∙ ap (λ (x : Text). f.front ++ x) e ∙ sym (append_assoc f.front piece more);
    long = omega (arith, n, f.long, length-append f.front piece);
    is = k;
    fits = f.fits;
  }

  pub fill_byte : (b : ℕ) (more : Text) (next : ℕ) → rest ≡ b ∷ more → next ≡ used + 1 → Filling whole more old (set out used b) next
  unfolding over
  fill_byte b more next e n =
      let h : length f.front < length old = omega (arith, fill_room, f.long, ap length e) in
      let k : length (f.front ++ (b ∷ [])) ≡ suc (length f.front) = simp length-append (omega arith) in
      grown (b ∷ []) more (set out used b) next e (omega (arith, n))
      (ap (λ (x : Text). set x used b) f.is
      ∙ ap (λ (x : Text). set (f.front ++ x) used b) (drop-cons old (length f.front) 0 h)
      ∙ set_at f.front (get_or old (length f.front) 0) (drop (suc (length f.front)) old) b used (sym f.long)
      ∙ sym (rw k (append_assoc f.front (b ∷ []) (drop (suc (length f.front)) old))))

  -- `put(&mut out[used..])`
  pub fill_piece : (piece more ys : Text) (n next : ℕ) → rest ≡ piece ++ more → Puts piece (mid_of used (length out - used) out) ys n → next
      ≡ used + n
      → Filling whole more old (put_mid used (length out - used) out ys) next
  unfolding over
  fill_piece piece more ys n next e p q =
      let k : length f.front + length piece ≡ length (f.front ++ piece) = sym (length-append f.front piece) in
      let m : drop (length piece) (drop used old) ≡ drop (length (f.front ++ piece)) old =
      drop-drop (length piece) used old ∙ ap (λ (j : ℕ). drop (j + length piece) old) f.long ∙ ap (λ (j : ℕ). drop j old) k in
      let y : ys ≡ piece ++ drop (length (f.front ++ piece)) old =
      p.leaves ∙ ap (λ (x : Text). piece ++ drop (length piece) x) fill_free ∙ ap (λ (x : Text). piece ++ x) m in
      let a : take used out ≡ f.front = ap (take used) f.is ∙ take_at f.front (drop (length f.front) old) used (sym f.long) in
      grown piece more (put_mid used (length out - used) out ys) next e (omega (arith, q, p.counts))
      (rw (rest_back used out ys, a, y) (sym (append_assoc f.front piece (drop (length (f.front ++ piece)) old))))

  -- a piece that stands there already
  pub fill_kept : (piece more : Text) (next : ℕ) → rest ≡ piece ++ more → take (length piece) (drop used old) ≡ piece → next ≡ used + length piece
      → Filling whole more old out next
  unfolding over
  fill_kept piece more next e k n =
      grown piece more out next e n
      (f.is
      ∙ ap (λ (j : ℕ). f.front ++ drop j old) (sym f.long)
      ∙ ap (λ (x : Text). f.front ++ x) (sym (take-append-drop (length piece) (drop used old)))
      ∙ ap (λ (x : Text). f.front ++ (x ++ drop (length piece) (drop used old))) k
      ∙ sym (append_assoc f.front piece (drop (length piece) (drop used old)))
      ∙ ap (λ (x : Text). (f.front ++ piece) ++ x) (drop-drop (length piece) used old)
      ∙ ap (λ (j : ℕ). (f.front ++ piece) ++ drop (j + length piece) old) f.long
      ∙ ap (λ (j : ℕ). (f.front ++ piece) ++ drop j old) (sym (length-append f.front piece)))

  pub fill_ends : rest ≡ [] → Puts whole old out used
  fill_ends e =
      let k : whole ≡ f.front = f.splits ∙ ap (λ (x : Text). f.front ++ x) e ∙ append-nil f.front in
      record { counts = f.long ∙ ap length (sym k); leaves = f.is ∙ ap (λ (x : Text). over x old) (sym k) }
