-- What the public contracts allow is determined: the answer and every byte of the slice that is said to hold a text.
use Prim.Native.Nat.{ℕ}
use mathlib.Core.Path.{◌≡◌}
use lib.IntN.{ℤ}
use Rattle.stages.specs.Bytes.{Text}
use Rattle.stages.specs.Units.{decimal}
use Rattle.stages.specs.Constants.{signed}
use Rattle.text.specs.Putting.{Puts}
use Rattle.text.proofs.Filling.{puts_once}

pub put_decimal_determined : (n : ℕ) {entry x y : Text} {r s : ℕ} → Puts (decimal n) entry x r → Puts (decimal n) entry y s → (r ≡ s) × (x ≡ y)
put_decimal_determined n p q = puts_once p q

pub put_signed_determined : (z : ℤ) {entry x y : Text} {r s : ℕ} → Puts (signed z) entry x r → Puts (signed z) entry y s → (r ≡ s) × (x ≡ y)
put_signed_determined z p q = puts_once p q
