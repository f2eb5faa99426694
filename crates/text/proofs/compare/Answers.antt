use Rattle.std.proofs.Common.{arith, ◌≡◌, ◌∙◌, refl}
use Rattle.text.proofs.Orders.{order_rest}
use Rattle.text.proofs.compare.Goals as goal

pub returns : goal.returns
returns c =
    let e : c.min-near.result ≡ c.loop-i.i = omega (arith, c.loop-i-test.false) in
    c.cmp-2.ensures ∙ rw e (order_rest c.args.a.now c.args.b.now c.loop-i.i c.loop-i.invariant _ _ refl refl)
