-- What the answers of this crate say in document 01's terms: the number that a case refuses with, or the value that it gives.
use Rattle.std.specs.Prelude.{ℕ, ◌≡◌, Bool, true, false, ltb, ℤ, pos, negsuc, Option, Some, None, Result, Ok, Err}
use Rattle.std.proofs.Math.Option as stage
use Rattle.std.specs.Int.Signed.{quot_z}
use Rattle.std.specs.Int.{w64}
use Rattle.std.proofs.Common.{SFits}
use Rattle.stages.specs.Outcome.{Outcome, refused, done}
use Rattle.stages.specs.Constants.{minus_of}
use Rattle.stages.specs.Arith as arith
use Rattle.text.specs.Refusals.{refusal_number}
use Rattle.text.specs.declared.refusal.Refusal.{Refusal}
use Rattle.arith_int.specs.declared.Op.{Op}
use Rattle.arith_int.specs.declared.Op.TheVariants.{Mul, Div, Rem, Add, Sub, Shl, Shr, Lt, Le, Gt, Ge, Eq, Ne, BitAnd, BitXor, BitOr}
use Rattle.arith_int.specs.declared.Op.TheVariants.{LogAnd, LogOr, LogNot, BitNot}

abbrev pub numbered : Result ℤ Refusal → Outcome ℤ
numbered (Ok z) = done z
numbered (Err e) = refused (refusal_number e)

-- what is known of two numbers to divide, whichever of the two answers is asked for
abbrev pub Divides : ℤ → ℤ → Result Unit Refusal → Type 0
Divides a b (Ok u) = (b ≡ pos 0 → ⊥) × SFits w64 (quot_z a b)
Divides a b (Err e) = (f : ℤ → ℤ → ℤ) → refused (refusal_number e) ≡ arith.divided f a b

-- the number at this distance from zero, below it or not
abbrev pub of_sign : Bool → ℕ → ℤ
of_sign true n = minus_of n
of_sign false n = pos n

-- a shift count that is served
abbrev pub is_count : ℤ → Bool
is_count (pos n) = ltb n 64
is_count (negsuc n) = false

-- what a left operand decides
abbrev pub known : Option ℤ → stage.Option ℤ
known (Some z) = stage.some z
known None = stage.none

abbrev pub op_of : Op → arith.Op
op_of Mul = arith.mul
op_of Div = arith.div
op_of Rem = arith.rem
op_of Add = arith.add
op_of Sub = arith.sub
op_of Shl = arith.shl
op_of Shr = arith.shr
op_of Lt = arith.lt
op_of Le = arith.le
op_of Gt = arith.gt
op_of Ge = arith.ge
op_of Eq = arith.eq
op_of Ne = arith.ne
op_of BitAnd = arith.bit_and
op_of BitXor = arith.bit_xor
op_of BitOr = arith.bit_or
op_of LogAnd = arith.log_and
op_of LogOr = arith.log_or
op_of LogNot = arith.log_not
op_of BitNot = arith.bit_not
