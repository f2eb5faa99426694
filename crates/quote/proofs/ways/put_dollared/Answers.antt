-- `quote::ways::put_dollared` meets its contract: a sign behind a backslash, a byte as it is, or a backslash and its three octal digits.
use native.Mathlib.Omega.{arith}
use mathlib.Core.Path.{sym, ap, ◌∙◌}
use lib.ListN.{length, length-set}
use Rattle.quote.proofs.Lengths.{byte_sign, byte_plain, byte_control}
use Rattle.quote.proofs.Writing.{sign_put, plain_put, control_put}
use Rattle.quote.proofs.ways.put_dollared.Goals as goal

pub bounds-out-0 : goal.bounds-out-0
bounds-out-0 c =
    let e = sym c.is_in.ensures ∙ c.if-is_in.true in
    omega (arith, ap length (byte_sign c.args.b e), c.requires)

pub bounds-out-1 : goal.bounds-out-1
bounds-out-1 c =
    let e = sym c.is_in.ensures ∙ c.if-is_in.true in
    simp length-set (omega (arith, ap length (byte_sign c.args.b e), c.requires))

pub returns-then-is_in : goal.returns-then-is_in
returns-then-is_in c =
    let e = sym c.is_in.ensures ∙ c.if-is_in.true in
    sign_put c.args.b c.args.out.now e (omega (arith, ap length (byte_sign c.args.b e), c.requires))

pub bounds-out-0-then-in_class : goal.bounds-out-0-then-in_class
bounds-out-0-then-in_class c =
    let e = sym c.is_in.ensures ∙ c.if-is_in.false in
    let h = sym c.in_class.ensures ∙ c.if-in_class.true in
    omega (arith, ap length (byte_plain c.args.b e h), c.requires)

pub returns-then-in_class : goal.returns-then-in_class
returns-then-in_class c =
    let e = sym c.is_in.ensures ∙ c.if-is_in.false in
    let h = sym c.in_class.ensures ∙ c.if-in_class.true in
    plain_put c.args.b c.args.out.now e h (omega (arith, ap length (byte_plain c.args.b e h), c.requires))

pub bounds-out-0-2 : goal.bounds-out-0-2
bounds-out-0-2 c =
    let e = sym c.is_in.ensures ∙ c.if-is_in.false in
    let h = sym c.in_class.ensures ∙ c.if-in_class.false in
    omega (arith, ap length (byte_control c.args.b e h), c.requires)

pub bounds-out-1-2 : goal.bounds-out-1-2
bounds-out-1-2 c =
    let e = sym c.is_in.ensures ∙ c.if-is_in.false in
    let h = sym c.in_class.ensures ∙ c.if-in_class.false in
    simp length-set (omega (arith, ap length (byte_control c.args.b e h), c.requires))

pub bounds-out-2 : goal.bounds-out-2
bounds-out-2 c =
    let e = sym c.is_in.ensures ∙ c.if-is_in.false in
    let h = sym c.in_class.ensures ∙ c.if-in_class.false in
    simp length-set (omega (arith, ap length (byte_control c.args.b e h), c.requires))

pub bounds-out-3 : goal.bounds-out-3
bounds-out-3 c =
    let e = sym c.is_in.ensures ∙ c.if-is_in.false in
    let h = sym c.in_class.ensures ∙ c.if-in_class.false in
    simp length-set (omega (arith, ap length (byte_control c.args.b e h), c.requires))

pub returns : goal.returns
returns c =
    let e = sym c.is_in.ensures ∙ c.if-is_in.false in
    let h = sym c.in_class.ensures ∙ c.if-in_class.false in
    control_put c.args.b c.args.out.now e h (omega (arith, ap length (byte_control c.args.b e h), c.requires))
