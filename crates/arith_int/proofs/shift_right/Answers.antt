-- A count that is served is its own bits, and a number that is shifted right stays in range.
use mathlib.Core.Path.{◌≡◌, sym, ◌∙◌}
use mathlib.Core.Bool.{true}
use Prim.Native.Nat.{◌^◌}
use lib.IntN.{nat_abs}
use lib.Signed.{shr_z}
use Rattle.stages.specs.Outcome.{done}
use Rattle.arith_int.specs.Answers.{is_count}
use Rattle.arith_int.proofs.Ranges.{held}
use Rattle.arith_int.proofs.Shifts.{count_bits, shift_served, shift_refused, shr_fits}
use Rattle.arith_int.proofs.shift_right.Goals as goal

pub returns-then-not-is_count : goal.returns-then-not-is_count
returns-then-not-is_count c = shift_refused _ c.args.a c.args.b
    (sym (c.is_count.ensures ∙ rw (held c.args.b c.ranges.b)) ∙ c.if-not-is_count.true)

pub returns : goal.returns
returns c =
    let served : is_count c.args.b ≡ true = sym (c.is_count.ensures ∙ rw (held c.args.b c.ranges.b)) ∙ c.if-not-is_count.false in
    rw (
      held c.args.a c.ranges.a,
      count_bits c.args.b served,
      held (shr_z c.args.a (2 ^ nat_abs c.args.b)) (shr_fits c.args.a (2 ^ nat_abs c.args.b) c.ranges.a),
    ) (shift_served (λ z n. done (shr_z z (2 ^ n))) c.args.a c.args.b served)
