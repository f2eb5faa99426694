-- What the short way's answers say: of a text of constants with `* / % + -` between them, what the climber says of it. Where it answers nothing that is
-- known, it says nothing.
use Rattle.std.specs.Prelude.{ℕ, ◌≤◌, ◌≡◌, true, ℤ, length, Option, Some, None, Ok}
use Rattle.std.proofs.Math.Option.{none}
use Rattle.stages.specs.Bytes.{Text}
use Rattle.stages.specs.Params.{Lent}
use Rattle.stages.specs.Arith.{early}
use Rattle.table_store.specs.Holding.{Holds}
use Rattle.arith_int.specs.Answers.{op_of}
use Rattle.arith_int.specs.declared.Op.{Op}
use Rattle.arith_token.specs.Tokens.{TokenAt}
use Rattle.arith_token.specs.declared.Token.TheVariants as code
use Rattle.arith_eval.specs.declared.plain.Plain.{Plain}
use Rattle.arith_eval.specs.declared.plain.Sign.{Sign}
use Rattle.arith_eval.specs.declared.plain.Sign.TheVariants as sign
use Rattle.arith_eval.specs.Climbs.{climbed, Continues}
use Rattle.arith_eval.specs.Answers.{ComesTo}

-- an operator whose left side alone decides nothing
pub record Between (text : Text) (at : ℕ) (o : Op) (next : ℕ) : Type 0 where
  pub token : TokenAt text at (code.Op o next)
  pub both : (y : ℤ) → early (op_of o) y ≡ none

abbrev pub Signs : Text → ℕ → Option Sign → Type 0
Signs text at None = Unit {0}
Signs text at (Some sign.Stop) = TokenAt text at code.Stop
Signs text at (Some (sign.Op o next)) = Between text at o next

abbrev pub IsConstant : Text → ℕ → Option Plain → Type 0
IsConstant text at None = Unit {0}
IsConstant text at (Some r) = TokenAt text at (code.Number r.value r.next)

-- operators of at least a level k behind a left side of this value, whatever the variables are: they stay
pub record Reaches (text : Text) (at k : ℕ) (y z : ℤ) (next : ℕ) : Type 0 where
  pub onward : at ≤ next
  pub within : next ≤ length text
  pub goes : (lent : Lent) (vars : Text) (used d : ℕ) → Holds lent.room vars used
      → Continues lent text at vars used true d k y vars (Ok (climbed z next used))

abbrev pub PlainFrom : Text → ℕ → ℕ → ℤ → Option Plain → Type 0
PlainFrom text at k y None = Unit {0}
PlainFrom text at k y (Some r) = Reaches text at k y r.value r.next

-- a whole text
abbrev pub PlainText : Text → Option ℤ → Type 0
PlainText text None = Unit {0}
PlainText text (Some z) = (lent : Lent) (vars : Text) (used : ℕ) → Holds lent.room vars used
    → ComesTo lent text vars used vars (Ok (record { value = z; vars_used = used }))
