-- A count that is served makes a power of 2, which the magnitude is multiplied by.
use mathlib.Core.Path.{◌≡◌, sym, ◌∙◌}
use mathlib.Core.Bool.{true}
use Prim.Native.Nat.{◌^◌}
use lib.IntN.{pos, nat_abs, ◌*ℤ◌}
use Rattle.stages.specs.Constants.{ranged}
use Rattle.arith_int.specs.Answers.{is_count}
use Rattle.arith_int.proofs.Ranges.{held}
use Rattle.arith_int.proofs.Shifts.{count_lt, shift_served, shift_refused, power, times_power}
use Rattle.arith_int.proofs.shift_left.Goals as goal

pub returns-then-not-is_count : goal.returns-then-not-is_count
returns-then-not-is_count c = shift_refused _ c.args.a c.args.b
    (sym (c.is_count.ensures ∙ rw (held c.args.b c.ranges.b)) ∙ c.if-not-is_count.true)

pub returns : goal.returns
returns c =
    let served : is_count c.args.b ≡ true = sym (c.is_count.ensures ∙ rw (held c.args.b c.ranges.b)) ∙ c.if-not-is_count.false in
    c.multiplied.ensures
    ∙ rw (
      c.magnitude.ensures,
      held c.args.a c.ranges.a,
      held c.args.b c.ranges.b,
      power (nat_abs c.args.b) (count_lt c.args.b served),
      times_power c.args.a (nat_abs c.args.b),
    ) (shift_served (λ z n. ranged (z *ℤ pos (2 ^ n))) c.args.a c.args.b served)
