-- A refusal is told by its number.
use Prim.Native.Nat.{◌+◌}
use native.Mathlib.Omega.{arith}
use mathlib.Core.Path.{◌≡◌, refl}
use denote.Enum.Declared.{tag_of}
use denote.Enum.Bare.{tag_one}
use Rattle.text.specs.Refusals.{refusal_number}
use Rattle.text.specs.declared.refusal.Refusal.{Refusal}
use Rattle.text.specs.declared.refusal.Refusal.TheVariants.{WorkTooSmall, BadVariables, BadHomes, BadPaths, LineTooLong, ZeroByte, Unended, BareOperator}
use Rattle.text.specs.declared.refusal.Refusal.TheVariants.{Substitution, Unserved, BadSyntax, TooDeep, Demanded, TooManyUnits, NotNumber}
use Rattle.text.specs.declared.refusal.Refusal.TheVariants.{ArithmeticSyntax, Overflow, ZeroDivisor, BracketClass, VariableRoom, OutputRoom}
use Rattle.text.specs.declared.refusal.Refusal.TheVariants.{BadFields, BadParameters, BadPath, UnsetName}
use Rattle.text.specs.contracts.refusal.Refusal.{the_type}

number_of_tag : (a : Refusal) → refusal_number a ≡ tag_of the_type a + 1
number_of_tag WorkTooSmall = refl
number_of_tag BadVariables = refl
number_of_tag BadHomes = refl
number_of_tag BadPaths = refl
number_of_tag LineTooLong = refl
number_of_tag ZeroByte = refl
number_of_tag Unended = refl
number_of_tag BareOperator = refl
number_of_tag Substitution = refl
number_of_tag Unserved = refl
number_of_tag BadSyntax = refl
number_of_tag TooDeep = refl
number_of_tag Demanded = refl
number_of_tag TooManyUnits = refl
number_of_tag NotNumber = refl
number_of_tag ArithmeticSyntax = refl
number_of_tag Overflow = refl
number_of_tag ZeroDivisor = refl
number_of_tag BracketClass = refl
number_of_tag VariableRoom = refl
number_of_tag OutputRoom = refl
number_of_tag BadFields = refl
number_of_tag BadParameters = refl
number_of_tag BadPath = refl
number_of_tag UnsetName = refl

pub refusal_same : (a b : Refusal) → refusal_number a ≡ refusal_number b → a ≡ b
refusal_same a b e = tag_one the_type tt a b (omega (arith, number_of_tag a, number_of_tag b, e))
