-- Behind the blanks one of the five operators, with no `=` behind it, or the end.
use Prim.Native.Nat.{◌<◌, ◌+◌}
use native.Mathlib.Omega.{arith}
use mathlib.Core.Path.{refl}
use lib.ListN.{length}
use Rattle.stages.specs.Arith.{early, operator}
use Rattle.arith_int.specs.declared.Op.TheVariants.{Mul, Div, Rem, Add, Sub}
use Rattle.arith_token.proofs.Lexing.{nothing_left, behind_blanks}
use Rattle.arith_eval.proofs.Plainly.{lone_sign, times_first, over_first, rest_first, plus_first, minus_first}
use Rattle.arith_eval.proofs.plain.sign_at.Goals as goal

pub returns-then-i-text : goal.returns-then-i-text
returns-then-i-text c = nothing_left c.args.text.now c.args.at c.run_end-i.result c.run_end-i.ensures c.if-i-text.true

pub returns-in-42 : goal.returns-in-42
unfolding early operator
returns-in-42 c =
    let short : c.run_end-i.result + 1 < length c.args.text.now = omega (arith, c.run_end-i.ensures.within) in
    record {
      token =
          behind_blanks c.args.text.now c.args.at c.run_end-i.result c.run_end-i.ensures _
          (lone_sign c.args.text.now c.run_end-i.result 42 Mul short c.in-42.is c.if-text-next-eq61.false times_first);
      both = λ y. refl;
    }

pub returns-in-47 : goal.returns-in-47
unfolding early operator
returns-in-47 c =
    let short : c.run_end-i.result + 1 < length c.args.text.now = omega (arith, c.run_end-i.ensures.within) in
    record {
      token =
          behind_blanks c.args.text.now c.args.at c.run_end-i.result c.run_end-i.ensures _
          (lone_sign c.args.text.now c.run_end-i.result 47 Div short c.in-47.is c.if-text-next-eq61.false over_first);
      both = λ y. refl;
    }

pub returns-in-37 : goal.returns-in-37
unfolding early operator
returns-in-37 c =
    let short : c.run_end-i.result + 1 < length c.args.text.now = omega (arith, c.run_end-i.ensures.within) in
    record {
      token =
          behind_blanks c.args.text.now c.args.at c.run_end-i.result c.run_end-i.ensures _
          (lone_sign c.args.text.now c.run_end-i.result 37 Rem short c.in-37.is c.if-text-next-eq61.false rest_first);
      both = λ y. refl;
    }

pub returns-in-43 : goal.returns-in-43
unfolding early operator
returns-in-43 c =
    let short : c.run_end-i.result + 1 < length c.args.text.now = omega (arith, c.run_end-i.ensures.within) in
    record {
      token =
          behind_blanks c.args.text.now c.args.at c.run_end-i.result c.run_end-i.ensures _
          (lone_sign c.args.text.now c.run_end-i.result 43 Add short c.in-43.is c.if-text-next-eq61.false plus_first);
      both = λ y. refl;
    }

pub returns-in-45 : goal.returns-in-45
unfolding early operator
returns-in-45 c =
    let short : c.run_end-i.result + 1 < length c.args.text.now = omega (arith, c.run_end-i.ensures.within) in
    record {
      token =
          behind_blanks c.args.text.now c.args.at c.run_end-i.result c.run_end-i.ensures _
          (lone_sign c.args.text.now c.run_end-i.result 45 Sub short c.in-45.is c.if-text-next-eq61.false minus_first);
      both = λ y. refl;
    }
