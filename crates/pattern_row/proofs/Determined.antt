-- Whatever two outcomes a contract of this crate allows for one input, they are equal: each is equal to the same stage.
use Prim.Native.Nat.{ℕ}
use mathlib.Core.Path.{◌≡◌}
use mathlib.Core.Bool.{Bool}
use Rattle.stages.specs.Bytes.{Text}
use Rattle.text.proofs.Determined.{one_answer}
use Rattle.pattern_row.specs.Kept.{Dropped}
use Rattle.pattern_row.specs.Plain.{plain}

pub drop_empty_determined : (entry : Text) {exit end : Text} {r q : ℕ} → Dropped entry exit r → Dropped entry end q → (exit ≡ end) × (r ≡ q)
drop_empty_determined entry d e = (one_answer d.stands e.stands, one_answer d.counts e.counts)

pub is_plain_determined : (row : Text) {r q : Bool} → r ≡ plain row → q ≡ plain row → r ≡ q
is_plain_determined row = one_answer
