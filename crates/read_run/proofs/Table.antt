-- The numbers that hold a mode's runs as bits: by one computed test over all bytes and modes.
use Prim.Native.Nat.{ℕ, ◌<◌}
use mathlib.Core.Path.{◌≡◌, refl}
use mathlib.Core.Bool.{Bool, true, false}
use Rattle.stages.specs.Bytes.{is_blank, is_operator}
use Rattle.stages.specs.Items.{sort, begins_tilde}
use Rattle.text.specs.Bits.{has_bit}
use Rattle.text.proofs.Every.{every, every_at}
use Rattle.text.proofs.ClassTable.{same_bool, same_bools}
use Rattle.read_mode.specs.Modes.{mode_of}
use Rattle.read_mode.specs.declared.Mode.{Mode}
use Rattle.read_mode.specs.declared.Mode.TheVariants.{Word, Value, Bare, Single, Double, Operand, Arith}
use Rattle.read_run.specs.Literals.{is_literal, opens_tilde, literal_in, literal_words}

right : Mode → ℕ → Bool
unfolding same_bool literal_in is_literal opens_tilde sort begins_tilde is_blank is_operator
right mode b = same_bool (has_bit (literal_words mode) b) (literal_in (mode_of mode) b)

tested : (mode : Mode) → every (right mode) 0 256 ≡ true
unfolding right
tested (Word true) = refl
tested (Word false) = refl
tested (Value true) = refl
tested (Value false) = refl
tested (Bare true l) = refl
tested (Bare false l) = refl
tested (Single true) = refl
tested (Single false) = refl
tested (Double l) = refl
tested (Operand l) = refl
tested (Arith n) = refl

pub bit_is : (mode : Mode) (b : ℕ) → b < 256 → has_bit (literal_words mode) b ≡ literal_in (mode_of mode) b
unfolding right
bit_is mode b h = same_bools (has_bit (literal_words mode) b) (literal_in (mode_of mode) b) (every_at (right mode) 256 (tested mode) b h)
