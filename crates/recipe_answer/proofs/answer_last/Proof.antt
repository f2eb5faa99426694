-- What is kept is answered if it is a line.
use borrow.Author.Rules.{rules}
use Prim.Native.Nat.{◌≤◌}
use native.Mathlib.Omega.{arith}
use mathlib.Core.Path.{sym, ◌∙◌}
use lib.ListN.{length, take}
use lib.Seq.{length-take-le}
use Rattle.recipe_answer.specs.Says.{variables}
use Rattle.recipe_answer.proofs.Turns.{last_said, last_unsaid, last_cleared, last_kept}
use Rattle.recipe_answer.proofs.answer_last.Statement.{statement}
use Rattle.recipe_answer.proofs.answer_last.Tie as tie

inside : (c : tie.Start) → c.args.carried.kept ≤ length c.args.line.now
inside c = omega (arith, c.requires.0.most, c.requires.0.room)

slice-aggregate-is-last-line : tie.Need-slice_bounds-is_last_line-end
slice-aggregate-is-last-line c =
    let a = c.before.before.before.before.before.before.before in
    sym (length-take-le _ a.args.line.now (omega (arith, inside a)))

is-last-line-requires : tie.Need-is_last_line-requires
is-last-line-requires c κs = search rules

slice-aggregate-say : tie.Need-slice_bounds-say-end
slice-aggregate-say c =
    let a = c.before.before.before.before.before.before.before.before.before in
    sym (length-take-le _ a.args.line.now (omega (arith, inside a)))

say-requires : tie.Need-say-requires
say-requires c κs = search rules

same_length : tie.Need-shape_of-vars-then-is_last_line
same_length c = search rules

same-length-2 : tie.Need-shape_of-work-then-is_last_line
same-length-2 c = search rules

same-length-3 : tie.Need-shape_of-said-then-is_last_line
same-length-3 c = search rules

returns : tie.Need-returns-then-is_last_line
returns c =
    let s = c.before.before.before.before.before.before in
    let i = s in
    let a = i.args in
    let l = take a.carried.kept a.line.now in
    let e = sym i.is_last_line.ensures ∙ i.if-is_last_line.true in (
      last_said a.homes.now a.paths.now a.params.now (variables a.vars.now a.carried.vars_used a.carried.shouts) a.carried.line
          l e s.say.ensures.0,
      s.say.ensures.1 ∙ last_cleared l a.work.now e,
    )

returns-2 : tie.Need-returns
returns-2 c =
    let a = c.args in
    let l = take a.carried.kept a.line.now in
    let e = sym c.is_last_line.ensures ∙ c.if-is_last_line.false in (
      last_unsaid a.homes.now a.paths.now a.params.now (variables a.vars.now a.carried.vars_used a.carried.shouts) a.carried.line
          l a.said.now e,
      last_kept l a.work.now e,
    )

pub answer_last_spec : {M : Type 1} → statement M
answer_last_spec =
    tie.close
    (tie.spec
    slice-aggregate-is-last-line
    is-last-line-requires
    slice-aggregate-say
    say-requires
    same_length
    same-length-2
    same-length-3
    returns
    returns-2)
