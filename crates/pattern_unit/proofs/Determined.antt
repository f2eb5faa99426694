-- Whatever two outcomes a contract of this crate allows for one input, they are equal: each answer is equal to the same definition.
use Prim.Native.Nat.{ℕ}
use mathlib.Core.Path.{◌≡◌}
use mathlib.Core.Bool.{Bool}
use lib.ListN.{drop}
use Rattle.stages.specs.Bytes.{Text}
use Rattle.stages.specs.Pattern.{begin}
use Rattle.text.proofs.Determined.{one_answer}
use Rattle.pattern_unit.specs.Widths.{size, signs_by}
use Rattle.pattern_unit.specs.Heads.{begins}
use Rattle.pattern_unit.specs.declared.Width.{Width}

pub unit_size_determined : (w : Width) {r q : ℕ} → r ≡ size w → q ≡ size w → r ≡ q
unit_size_determined w = one_answer

pub is_live_determined : (units : Text) (at c : ℕ) (w : Width) {r q : Bool} →
    r ≡ begins c (signs_by w (drop at units)) → q ≡ begins c (signs_by w (drop at units)) → r ≡ q
is_live_determined units at c w = one_answer

pub begins_with_determined : (units : Text) (at : ℕ) (text : Text) (w : Width) {r q : Bool} →
    r ≡ begin text (signs_by w (drop at units)) → q ≡ begin text (signs_by w (drop at units)) → r ≡ q
begins_with_determined units at text w = one_answer
