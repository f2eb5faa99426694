-- The code's mode behind an item is the stage's, and has as many open parentheses.
use Prim.Native.Nat.{ℕ}
use Prim.Native.Char.{code}
use mathlib.Core.Path.{◌≡◌, refl, ap}
use mathlib.Core.Bool.{Bool, true, false}
use lib.Dec.{eqb}
use Rattle.stages.specs.Outcome.{pick}
use Rattle.stages.specs.Syntax.{fresh, begun, value}
use Rattle.stages.specs.Items.{onward, start_behind, behind_byte}
use Rattle.text.specs.Cases.{escape_of, start_of}
use Rattle.read_mode.specs.Modes.{mode_of, open_in, mode_onward, opens_tilde, mode_behind}
use Rattle.read_mode.specs.declared.Mode.{Mode}
use Rattle.read_mode.specs.declared.Mode.TheVariants.{Word, Value, Bare, Single, Double, Operand, Arith}

pub onward_mode : (m : Mode) → onward (mode_of m) ≡ mode_of (mode_onward m)
unfolding onward
onward_mode (Word s) = refl
onward_mode (Value s) = refl
onward_mode (Bare s l) = refl
onward_mode (Single e) = refl
onward_mode (Double l) = refl
onward_mode (Operand l) = refl
onward_mode (Arith n) = refl

pub onward_open : (m : Mode) → open_in (mode_onward m) ≡ open_in m
onward_open (Word s) = refl
onward_open (Value s) = refl
onward_open (Bare s l) = refl
onward_open (Single e) = refl
onward_open (Double l) = refl
onward_open (Operand l) = refl
onward_open (Arith n) = refl

start_of_lem : (x : Bool) → pick x fresh begun ≡ start_of x
start_of_lem true = refl
start_of_lem false = refl

start_behind_lem : (q : Bool) (b : ℕ) → start_behind (escape_of q) b ≡ start_of (opens_tilde q b)
unfolding start_behind
start_behind_lem true b = refl
start_behind_lem false b = start_of_lem (eqb b (code ":"))

pub behind_mode : (m : Mode) (q : Bool) (b : ℕ) → behind_byte (mode_of m) (escape_of q) b ≡ mode_of (mode_behind m q b)
unfolding behind_byte onward
behind_mode (Word s) q b = refl
behind_mode (Value s) q b = ap value (start_behind_lem q b)
behind_mode (Bare s l) q b = refl
behind_mode (Single e) q b = refl
behind_mode (Double l) q b = refl
behind_mode (Operand l) q b = refl
behind_mode (Arith n) q b = refl

pub behind_open : (m : Mode) (q : Bool) (b : ℕ) → open_in (mode_behind m q b) ≡ open_in m
behind_open (Word s) q b = refl
behind_open (Value s) q b = refl
behind_open (Bare s l) q b = refl
behind_open (Single e) q b = refl
behind_open (Double l) q b = refl
behind_open (Operand l) q b = refl
behind_open (Arith n) q b = refl
