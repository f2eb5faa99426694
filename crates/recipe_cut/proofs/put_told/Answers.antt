-- Its test is the stage's.
use Rattle.std.proofs.Common.{◌≡◌, arith}
use Rattle.stages.specs.Numbers.{demanded}
use Rattle.recipe_cut.proofs.Telling.{told_demand, tells_nothing}
use Rattle.recipe_cut.proofs.put_told.Goals as goal

pub returns-then-is_demand : goal.returns-then-is_demand
returns-then-is_demand c =
    let e : c.args.number ≡ demanded = omega arith in
    rw (told_demand c.args.number c.args.line c.args.message.now e) c.put_demand.ensures

pub returns-else-is_demand : goal.returns-else-is_demand
returns-else-is_demand c =
    let e : c.args.number ≡ demanded → ⊥ = λ k. c.if-is_demand.false (omega (arith, k)) in
    tells_nothing c.args.number c.args.line c.args.message.now c.args.out.now e
