-- What operators of a kind have in common, by their tags: those that stand before one operand, and those that a left operand can decide.
use mathlib.Core.Path.{◌≡◌, refl}
use mathlib.Core.Bool.{true, false}
use mathlib.Core.List.{List, [], ◌∷◌}
use mathlib.Core.Option.{Option, none, some}
use Prim.Native.Nat.{ℕ}
use lib.IntN.{ℤ}
use denote.Enum.Declared.{tag_of}
use types.Run.{OneOf, miss}
use Rattle.stages.specs.Numbers.{arithmetic_syntax}
use Rattle.stages.specs.Outcome.{Outcome, refused}
use Rattle.stages.specs.Images.{is_some}
use Rattle.stages.specs.Arith as arith
use Rattle.stages.proofs.Bools.{no}
use Rattle.arith_int.specs.Answers.{op_of}
use Rattle.arith_int.specs.declared.Op.{Op}
use Rattle.arith_int.specs.declared.Op.TheVariants.{Mul, Div, Rem, Add, Sub, Shl, Shr, Lt, Le, Gt, Ge, Eq, Ne, BitAnd, BitXor, BitOr}
use Rattle.arith_int.specs.declared.Op.TheVariants.{LogAnd, LogOr, LogNot, BitNot}
use Rattle.arith_int.specs.contracts.Op as op-type

abbrev signs : List ℕ
signs = 3 ∷ 4 ∷ 18 ∷ 19 ∷ []

abbrev between : List ℕ
between = 0 ∷ 1 ∷ 2 ∷ 5 ∷ 6 ∷ 7 ∷ 8 ∷ 9 ∷ 10 ∷ 11 ∷ 12 ∷ 13 ∷ 14 ∷ 15 ∷ 16 ∷ 17 ∷ []

abbrev undecided : List ℕ
undecided = 0 ∷ 1 ∷ 2 ∷ 3 ∷ 4 ∷ 5 ∷ 6 ∷ 7 ∷ 8 ∷ 9 ∷ 10 ∷ 11 ∷ 12 ∷ 13 ∷ 14 ∷ 15 ∷ 18 ∷ 19 ∷ []

-- each operator is a sign or stands between two alone
pub is_sign_lem : (o : Op) → OneOf signs (tag_of op-type.the_type o) → true ≡ arith.is_sign (op_of o)
unfolding arith.is_sign
is_sign_lem Mul k = absurd (miss signs 0 tt k)
is_sign_lem Div k = absurd (miss signs 1 tt k)
is_sign_lem Rem k = absurd (miss signs 2 tt k)
is_sign_lem Add k = refl
is_sign_lem Sub k = refl
is_sign_lem Shl k = absurd (miss signs 5 tt k)
is_sign_lem Shr k = absurd (miss signs 6 tt k)
is_sign_lem Lt k = absurd (miss signs 7 tt k)
is_sign_lem Le k = absurd (miss signs 8 tt k)
is_sign_lem Gt k = absurd (miss signs 9 tt k)
is_sign_lem Ge k = absurd (miss signs 10 tt k)
is_sign_lem Eq k = absurd (miss signs 11 tt k)
is_sign_lem Ne k = absurd (miss signs 12 tt k)
is_sign_lem BitAnd k = absurd (miss signs 13 tt k)
is_sign_lem BitXor k = absurd (miss signs 14 tt k)
is_sign_lem BitOr k = absurd (miss signs 15 tt k)
is_sign_lem LogAnd k = absurd (miss signs 16 tt k)
is_sign_lem LogOr k = absurd (miss signs 17 tt k)
is_sign_lem LogNot k = refl
is_sign_lem BitNot k = refl

pub no_sign : (o : Op) → OneOf between (tag_of op-type.the_type o) → false ≡ arith.is_sign (op_of o)
unfolding arith.is_sign
no_sign Mul k = refl
no_sign Div k = refl
no_sign Rem k = refl
no_sign Add k = absurd (miss between 3 tt k)
no_sign Sub k = absurd (miss between 4 tt k)
no_sign Shl k = refl
no_sign Shr k = refl
no_sign Lt k = refl
no_sign Le k = refl
no_sign Gt k = refl
no_sign Ge k = refl
no_sign Eq k = refl
no_sign Ne k = refl
no_sign BitAnd k = refl
no_sign BitXor k = refl
no_sign BitOr k = refl
no_sign LogAnd k = refl
no_sign LogOr k = refl
no_sign LogNot k = absurd (miss between 18 tt k)
no_sign BitNot k = absurd (miss between 19 tt k)

pub no_alone : (o : Op) (a : ℤ) → OneOf between (tag_of op-type.the_type o) → refused arithmetic_syntax ≡ arith.apply_alone (op_of o) a
unfolding arith.apply_alone arith.is_sign
no_alone o a k = go (arith.operator (op_of o)).alone (no_sign o k)
  where
    go : (f : Option (ℤ → Outcome ℤ)) → false ≡ is_some f → refused arithmetic_syntax ≡ arith.made f a
    go none e = refl
    go (some f) e = absurd (no e)

pub no_early : (o : Op) (a : ℤ) → OneOf undecided (tag_of op-type.the_type o) → none ≡ arith.early (op_of o) a
unfolding arith.early
no_early Mul a k = refl
no_early Div a k = refl
no_early Rem a k = refl
no_early Add a k = refl
no_early Sub a k = refl
no_early Shl a k = refl
no_early Shr a k = refl
no_early Lt a k = refl
no_early Le a k = refl
no_early Gt a k = refl
no_early Ge a k = refl
no_early Eq a k = refl
no_early Ne a k = refl
no_early BitAnd a k = refl
no_early BitXor a k = refl
no_early BitOr a k = refl
no_early LogAnd a k = absurd (miss undecided 16 tt k)
no_early LogOr a k = absurd (miss undecided 17 tt k)
no_early LogNot a k = refl
no_early BitNot a k = refl
