-- Behind the blanks a digit above `0` begins a run of digits that comes to a number in range.
use Prim.Native.Nat.{ℕ, ◌<◌, ◌≤◌}
use native.Mathlib.Omega.{arith}
use mathlib.Core.Path.{◌≡◌, sym, ◌∙◌, subst}
use mathlib.Core.Bool.{true}
use lib.ListN.{length, drop, get_or, drop_of_length-le}
use mir.Syntax.{w64}
use mir.Val.{to_z}
use Rattle.stages.specs.Bytes.{Text, is_digit, is_name_byte}
use Rattle.stages.proofs.Texts.{Stops}
use Rattle.text.specs.Classes.{Runs}
use Rattle.text.specs.declared.Class.TheVariants.{Blank}
use Rattle.arith_int.proofs.Ranges.{held_pos}
use Rattle.arith_token.specs.Tokens.{TokenAt}
use Rattle.arith_token.specs.declared.Token.TheVariants as code
use Rattle.arith_token.proofs.Lexing.{here, behind_blanks, not_blank}
use Rattle.arith_eval.proofs.Decimals.{digit_bounds, Tells, tells_start, tells_number, tells_more}
use Rattle.arith_eval.proofs.plain.constant_at.Goals as goal

-- the token, where the run ends
number : (text : Text) (at from n i : ℕ) → Runs text at Blank from → from < length text → 49 ≤ get_or text from 0 → get_or text from 0 ≤ 57
    → Tells text from n i → Stops is_name_byte (drop i text) → TokenAt text at (code.Number (to_z w64 n) i)
number text at from n i r short low high t ends =
    let s = t.small in
    rw (held_pos n (omega arith)) (behind_blanks text at from r _ (tells_number text from short low high t ends (not_blank text at from r short)))

pub loop-i-init : goal.loop-i-init
loop-i-init c =
    let short : c.run_end-from.result < length c.args.text.now = omega (arith, c.run_end-from.ensures.within) in
    tells_start c.args.text.now c.run_end-from.result short c.if-first-lt49.false c.if-first-gt57.false

pub returns-then-not-in_class : goal.returns-then-not-in_class
returns-then-not-in_class c =
    let text = c.args.text.now in
    let short : c.run_end-from.result < length text = omega (arith, c.run_end-from.ensures.within) in
    number text c.args.at c.run_end-from.result c.loop-i.n c.loop-i.i c.run_end-from.ensures short c.if-first-lt49.false c.if-first-gt57.false
    c.loop-i.invariant
    (subst (Stops is_name_byte) (sym (here text c.loop-i.i c.loop-i-test.true)) (sym c.in_class-then-not-in_class.ensures ∙ c.if-in_class.false))

pub overflow_sub-n-in-loop-i : goal.overflow_sub-n-in-loop-i
overflow_sub-n-in-loop-i c =
    let d : is_digit (get_or c.args.text.now c.loop-i.i 0) ≡ true = sym c.in_class.ensures ∙ c.if-not-in_class.false in
    let w = digit_bounds _ d in omega (arith, w)

pub loop-i-preserved : goal.loop-i-preserved
loop-i-preserved c =
    tells_more c.args.text.now c.run_end-from.result c.loop-i.invariant c.loop-i-test.true
    (sym c.in_class.ensures ∙ c.if-not-in_class.false) c.if-n-gt-ENOUGH.false

pub returns : goal.returns
returns c =
    let text = c.args.text.now in
    let short : c.run_end-from.result < length text = omega (arith, c.run_end-from.ensures.within) in
    let n : length text ≤ c.loop-i.i = omega (arith, c.loop-i-test.false) in
    let e : c.loop-i.i ≡ length text = omega (arith, c.loop-i.invariant.within) in
    subst (λ (i : ℕ). TokenAt text c.args.at (code.Number (to_z w64 c.loop-i.n) i)) e
    (number text c.args.at c.run_end-from.result c.loop-i.n c.loop-i.i c.run_end-from.ensures short c.if-first-lt49.false c.if-first-gt57.false
    c.loop-i.invariant (subst (Stops is_name_byte) (sym (drop_of_length-le text n)) tt))
