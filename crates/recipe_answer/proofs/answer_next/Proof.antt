-- What was taken of the line is kept, or answered where it ended.
use borrow.Author.Rules.{rules}
use Prim.Native.Nat.{◌≤◌}
use mathlib.Core.Path.{refl, sym}
use lib.ListN.{length}
use lib.Seq.{length-take-le}
use Rattle.recipe_cut.proofs.Callers.{ended_inside}
use Rattle.recipe_answer.specs.Turns.{stays, tells}
use Rattle.recipe_answer.proofs.Turns.{turn_open, turn_ended}
use Rattle.recipe_answer.proofs.answer_next.Statement.{statement}
use Rattle.recipe_answer.proofs.answer_next.Tie as tie

-- where a line ended: what is kept of it lies within its buffer
inside : (c : tie.In-Ended) → c.in-Ended.kept ≤ length c.take_in-taken.new.line
inside c =
    let t = c.before.before.before in
    let a = t in
    ended_inside t.take_in-taken.ensures c.in-Ended.is a.requires.0.room

take-in-requires : tie.Need-take_in-taken-requires
take-in-requires c κs = search rules

enum-known-taken : tie.Need-enum_known-taken
enum-known-taken c = search rules

enum-known-taken-2 : tie.Need-enum_known-taken-in-Ended-1
enum-known-taken-2 c = search rules

slice-reshare-prefix-say : tie.Need-slice_bounds-say-end
slice-reshare-prefix-say c = inside c

slice-aggregate-say : tie.Need-slice_bounds-say-end-in-Ended
slice-aggregate-say c = sym (length-take-le _ _ (inside c))

say-requires : tie.Need-say-spoken-requires
say-requires c κs = search rules

same_length : tie.Need-shape_of-line-in-Open
same_length c = search rules

returns : tie.Need-returns-in-Open
returns c =
    let t = c in
    let a = c.args in
    (stays (turn_open a.begun.carried t.take_in-taken.ensures a.vars.now a.said.now c.in-Open.is), refl)

same-length-2 : tie.Need-shape_of-line-in-Ended
same-length-2 c = search rules

same-length-3 : tie.Need-shape_of-vars
same-length-3 c = search rules

same-length-4 : tie.Need-shape_of-work
same-length-4 c = search rules

same-length-5 : tie.Need-shape_of-said
same-length-5 c = search rules

returns-2 : tie.Need-returns-in-Ended
returns-2 c =
    let s = c.before.before.before.before.before.before in
    let t = s in
    let a = t.args in (
      tells (turn_ended a.begun.carried t.take_in-taken.ensures a.homes.now a.paths.now a.params.now a.vars.now s.say-spoken.new.vars
          a.said.now s.say-spoken.new.said s.say-spoken.result s.in-Ended.is
          s.say-spoken.ensures.0),
      s.say-spoken.ensures.1,
    )

pub answer_next_spec : {M : Type 1} → statement M
answer_next_spec =
    tie.close
    (tie.spec
    take-in-requires
    enum-known-taken
    enum-known-taken-2
    slice-reshare-prefix-say
    slice-aggregate-say
    say-requires
    same_length
    returns
    same-length-2
    same-length-3
    same-length-4
    same-length-5
    returns-2)
