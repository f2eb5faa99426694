-- Behind the blanks, the first byte's class tells which token stands there.
use Prim.Native.Nat.{◌<◌}
use native.Mathlib.Omega.{arith}
use lib.ListN.{length}
use mathlib.Core.Path.{sym, ◌∙◌}
use Rattle.arith_token.proofs.Lexing.{nothing_left, behind_blanks, lexes_behind, not_blank, name_at_lem}
use Rattle.arith_token.proofs.token_at.Goals as goal

pub returns-then-i-text : goal.returns-then-i-text
returns-then-i-text c = nothing_left c.args.text.now c.args.at c.run_end-i.result c.run_end-i.ensures c.if-i-text.true

pub constant_at-requires : goal.constant_at-requires
constant_at-requires c =
    let short : c.run_end-i.result < length c.args.text.now = omega (arith, c.run_end-i.ensures.within) in
    record {
      within = short;
      bare = not_blank c.args.text.now c.args.at _ c.run_end-i.ensures short;
      is = sym c.in_class.ensures ∙ c.if-in_class.true;
    }

pub returns-then-in_class : goal.returns-then-in_class
returns-then-in_class c = lexes_behind c.args.text.now c.args.at _ c.run_end-i.ensures c.constant_at.result c.constant_at.ensures

pub returns-then-in_class-2 : goal.returns-then-in_class-2
returns-then-in_class-2 c =
    let text = c.args.text.now in
    let short : c.run_end-i.result < length text = omega (arith, c.run_end-i.ensures.within) in
    behind_blanks text c.args.at _ c.run_end-i.ensures _
    (name_at_lem text _ c.run_end-to.result short c.run_end-to.ensures (not_blank text c.args.at _ c.run_end-i.ensures short)
    (sym c.in_class.ensures ∙ c.if-in_class.false) (sym c.in_class-2.ensures ∙ c.if-in_class-2.true))

pub symbol_at-requires : goal.symbol_at-requires
symbol_at-requires c =
    let short : c.run_end-i.result < length c.args.text.now = omega (arith, c.run_end-i.ensures.within) in
    record {
      within = short;
      bare = not_blank c.args.text.now c.args.at _ c.run_end-i.ensures short;
      digit = sym c.in_class.ensures ∙ c.if-in_class.false;
      start = sym c.in_class-2.ensures ∙ c.if-in_class-2.false;
    }

pub returns : goal.returns
returns c = lexes_behind c.args.text.now c.args.at _ c.run_end-i.ensures c.symbol_at.result c.symbol_at.ensures
