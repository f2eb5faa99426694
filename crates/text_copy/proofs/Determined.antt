-- The contracts determine every byte: two outcomes that a contract allows for one input are equal.
use Prim.Native.Nat.{ℕ}
use mathlib.Core.Path.{◌≡◌}
use mathlib.Core.List.{◌++◌}
use lib.ListN.{length, drop, replicate}
use lib.Seq.{paste}
use Rattle.stages.specs.Bytes.{Text}
use Rattle.text.proofs.Determined.{one_answer}

pub copy_in_determined : (from to r s : Text) → r ≡ from ++ drop (length from) to → s ≡ from ++ drop (length from) to → r ≡ s
copy_in_determined from to r s = one_answer

pub shift_determined : (area : Text) (from to count : ℕ) (r s : Text) → r ≡ paste area to (drop from area) count → s ≡ paste area to
    (drop from area) count → r ≡ s
shift_determined area from to count r s = one_answer

pub fill_zero_determined : (area r s : Text) → r ≡ replicate (length area) 0 → s ≡ replicate (length area) 0 → r ≡ s
fill_zero_determined area r s = one_answer
