-- A name, and a `=` behind it, where a whole expression begins.
use Prim.Native.Nat.{◌<◌}
use native.Mathlib.Omega.{arith}
use mathlib.Core.Path.{◌≡◌, refl, sym, ◌∙◌}
use mathlib.Core.Bool.{true}
use lib.ListN.{length, get_or}
use Rattle.stages.specs.Bytes.{is_name_start}
use Rattle.stages.proofs.Ended.{target_other}
use Rattle.arith_token.proofs.Lexing.{nothing_left, behind_blanks, not_blank, start_no_digit, no_name_at, name_at_lem}
use Rattle.arith_eval.proofs.Reading.{targets_by}
use Rattle.arith_eval.proofs.marks.target_at.Goals as goal

pub returns-then-from-text : goal.returns-then-from-text
returns-then-from-text c =
    λ _. target_other _ _ _ (nothing_left c.args.text.now c.args.at c.run_end-from.result c.run_end-from.ensures c.if-from-text.true).is refl

pub returns-then-not-in_class : goal.returns-then-not-in_class
returns-then-not-in_class c =
    let short : c.run_end-from.result < length c.args.text.now = omega (arith, c.run_end-from.ensures.within) in
    λ _ x v q. absurd (no_name_at c.args.text.now c.args.at c.run_end-from.result c.run_end-from.ensures short
    (sym c.in_class.ensures ∙ c.if-not-in_class.true) x v q)

pub returns : goal.returns
returns c =
    let text = c.args.text.now in
    let from = c.run_end-from.result in
    let short : from < length text = omega (arith, c.run_end-from.ensures.within) in
    let begins : is_name_start (get_or text from 0) ≡ true = sym c.in_class.ensures ∙ c.if-not-in_class.false in
    targets_by text c.args.at c.args.first (c.if-not-first.false)
    (behind_blanks text c.args.at from c.run_end-from.ensures _
    (name_at_lem text from c.run_end-to.result short c.run_end-to.ensures (not_blank text c.args.at from c.run_end-from.ensures short)
    (start_no_digit _ begins) begins))
    c.setting_at.result c.setting_at.ensures
