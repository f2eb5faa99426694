-- Texts behind the used part of an output: those written and then more are all written. What each answer of a writer says is taken out of it here, and
-- put together again.
use Prim.Native.Nat.{ℕ, ◌+◌, ◌≤◌, ◌<◌}
use native.Mathlib.Omega.{arith}
use mathlib.Core.Path.{◌≡◌, sym, ap, ◌∙◌}
use mathlib.Core.List.{List, [], ◌++◌}
use lib.ListN.{length}
use Rattle.stages.specs.Numbers.{bracket_class}
use Rattle.stages.specs.Bytes.{Text}
use Rattle.stages.specs.Outcome.{Outcome, refused, done}
use Rattle.stages.specs.Images.{written, record_bytes}
use Rattle.stages.proofs.Images.{length_written, written_append, record_bytes_append}
use Rattle.table_store.specs.Splice.{placed}
use Rattle.split_field.specs.Answers.{Says, len, class, no_room}
use Rattle.std.specs.Prelude.{Result, Ok, Err}
use Rattle.split_field.specs.declared.WriteError.{WriteError}
use Rattle.split_field.specs.declared.WriteError.TheVariants.{BadClass, NoRoom}
use Rattle.table_store.proofs.Placed.{placed_length}
use Rattle.split_field.proofs.Placing.{placed_none, placed_then}

-- the records of these texts stand behind the first `used` bytes, and end at n
pub record Filled (used : ℕ) (old : Text) (l : List Text) (n : ℕ) (out : Text) : Type 0 where
  pub long : n ≡ used + record_bytes l
  pub room : n ≤ length old
  pub is : out ≡ placed used (written l) old

pub filled_start : (used : ℕ) (old : Text) → used ≤ length old → Filled used old [] used old
unfolding written record_bytes
filled_start used old h = record { long = omega arith; room = h; is = sym (placed_none used old) }

module _ {used : ℕ} {old : Text} {a : List Text} {n : ℕ} {out : Text} (f : Filled used old a n out) where
  fits : used + length (written a) ≤ length old
  fits = omega (arith, f.long, f.room, length_written a)

  pub filled_length : length out ≡ length old
  filled_length = ap length f.is ∙ placed_length used (written a) old fits

  pub filled_then : {b : List Text} {m : ℕ} {after : Text} → Filled n out b m after → Filled used old (a ++ b) m after
  filled_then {b} {m} {after} g =
      let e : n ≡ used + length (written a) = omega (arith, f.long, length_written a) in
      record {
        long = omega (arith, f.long, g.long, record_bytes_append a b);
        room = omega (arith, g.room, filled_length);
        is =
            g.is
            ∙ ap (λ (k : ℕ). placed k (written b) out) e
            ∙ ap (λ (x : Text). placed (used + length (written a)) (written b) x) f.is
            ∙ placed_then used (written a) (written b) old fits
            ∙ ap (λ (x : Text). placed used x old) (sym (written_append a b));
      }

-- what an answer says

pub record Given (o : Outcome (List Text)) (used : ℕ) (old left : Text) (n : ℕ) : Type 0 where
  pub texts : List Text
  pub gives : o ≡ done texts
  pub filled : Filled used old texts n left

pub record Lacks (o : Outcome (List Text)) (used : ℕ) (old : Text) : Type 0 where
  pub texts : List Text
  pub gives : o ≡ done texts
  pub short : length old < used + record_bytes texts

given_of : {o : Outcome (List Text)} {used : ℕ} {old left : Text} {n : ℕ} → Says o used old left (Ok n) → Given o used old left n
given_of (len l e k h q) = record { texts = l; gives = e; filled = record { long = k; room = h; is = q } }

class_of : {o : Outcome (List Text)} {used : ℕ} {old left : Text} → Says o used old left (Err BadClass) → o ≡ refused bracket_class
class_of (class e) = e

lacks_of : {o : Outcome (List Text)} {used : ℕ} {old left : Text} → Says o used old left (Err NoRoom) → Lacks o used old
lacks_of (no_room l e h) = record { texts = l; gives = e; short = h }

module _ {o : Outcome (List Text)} {used : ℕ} {old left : Text} {r : Result ℕ WriteError} (s : Says o used old left r) where
  pub says_len : {n : ℕ} → r ≡ Ok n → Given o used old left n
  says_len e = given_of (rw e at s)

  pub says_class : r ≡ Err BadClass → o ≡ refused bracket_class
  says_class e = class_of (rw e at s)

  pub says_full : r ≡ Err NoRoom → Lacks o used old
  says_full e = lacks_of (rw e at s)

pub says_filled : {o : Outcome (List Text)} {used : ℕ} {old : Text} {l : List Text} {n : ℕ} {out : Text} → o ≡ done l → Filled used old l n
    out → Says o used old out (Ok n)
says_filled {o} {used} {old} {l} {n} e f = len {n = n} l e f.long f.room f.is
