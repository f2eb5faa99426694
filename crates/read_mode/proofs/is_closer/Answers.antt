-- By the cases of the mode.
use Rattle.std.proofs.Common.{inl, inr, refl}
use Rattle.read_mode.proofs.Closing.{closer_known}
use Rattle.read_mode.proofs.is_closer.Goals as goal

pub returns-in-Word : goal.returns-in-Word
returns-in-Word c = closer_known c.args.mode c.args.b c.in-Word.is c.in_class.ensures

pub returns-in-Value : goal.returns-in-Value
returns-in-Value c = closer_known c.args.mode c.args.b c.in-Value.is c.in_class-in-Value.ensures

pub returns-in-Bare : goal.returns-in-Bare
returns-in-Bare c =
    elim c.in-Bare.is [
      | inl w ↦ closer_known c.args.mode c.args.b w.2 refl
      | inr w ↦ closer_known c.args.mode c.args.b w.1 refl
    ]

pub returns-in-Single : goal.returns-in-Single
returns-in-Single c = closer_known c.args.mode c.args.b c.in-Single.is refl

pub returns-in-Double : goal.returns-in-Double
returns-in-Double c = closer_known c.args.mode c.args.b c.in-Double.is refl

pub returns-in-Arith : goal.returns-in-Arith
returns-in-Arith c = closer_known c.args.mode c.args.b c.in-Arith.is refl
