-- The normaliser's answer, put in words around the quoted line, is what the stage says of the line, and what is told behind the words what the stage tells
-- of it.
use Prim.Native.Nat.{◌+◌, ◌≤◌}
use native.Mathlib.Omega.{arith}
use mathlib.Core.Path.{◌≡◌, refl, sym}
use lib.ListN.{length}
use lib.Seq.{length-take-le}
use borrow.Author.Rules.{rules}
use borrow.Rule.Slice.PartMut.{mid_of}
use Rattle.stages.specs.Numbers.{line_limit}
use Rattle.stages.specs.Bytes.{Text}
use Rattle.stages.specs.Call.{Given}
use Rattle.text.specs.Putting.{Puts}
use Rattle.call_check.specs.Calls.{given}
use Rattle.recipe_cut.specs.Said.{said_by, answer_room, told_room}
use Rattle.recipe_answer.proofs.Saying.{out_inside, message_inside, quoted, area_cleared, lent_long, lined_length, puts_around, said_inside}
use Rattle.recipe_answer.proofs.Saying.{told_fits, said_so}
use Rattle.recipe_answer.proofs.say_in.Statement.{statement}
use Rattle.recipe_answer.proofs.say_in.Tie as tie

-- where the normaliser has answered: the call's entry, what it was given, and the message's buffer after it
module _ (c : tie.After-normalise-answer) where
  abbrev entry : tie.Start
  entry = c.before.before.before.before.before.before.before.before.before.before.before.before.before

  abbrev asked : Given
  asked =
      let a = entry.args in
      given a.line.now a.vars.now a.carried.vars_used a.carried.shouts a.homes.now a.params.now a.paths.now
      a.work.now (mid_of 3 line_limit a.said.now)
      a.message.now

  abbrev message : Text
  message = c.normalise-answer.new.message

  text_inside : c.normalise-answer.result.message_len ≤ length message
  text_inside = message_inside asked c.normalise-answer.ensures

  long : length (mid_of 3 line_limit entry.args.said.now) ≡ line_limit
  long = lent_long asked c.normalise-answer.ensures entry.args.said.now refl entry.requires.1

  room : length (mid_of 3 line_limit entry.args.said.now) + answer_room + (length entry.args.message.now + told_room) ≤ length entry.args.said.now
  room = omega (arith, long, entry.requires.0.row, entry.requires.1)

-- where the words are written
module _ (c : tie.After-put_answer-len) where
  abbrev answered : tie.After-normalise-answer
  answered = c.before.before.before.before.before.before.before.before.before.before

  words_put : Puts
      (said_by answered.normalise-answer.result.number answered.normalise-answer.result.place (quoted (asked answered) answered.normalise-answer.ensures))
      (entry answered).args.said.now c.put_answer-len.new.out c.put_answer-len.result
  words_put =
      puts_around (asked answered) answered.normalise-answer.ensures (entry answered).args.said.now refl (entry answered).requires.1 c.put_answer-len.ensures

  words_inside : c.put_answer-len.result ≤ length c.put_answer-len.new.out
  words_inside = said_inside (asked answered) answered.normalise-answer.ensures (entry answered).args.carried.line (room answered) words_put

sub-normalise : tie.Need-slice_bounds-normalise-count
sub-normalise c = search rules

part-normalise-start : tie.Need-slice_bounds-normalise-start
part-normalise-start c = search rules

part-normalise-end : tie.Need-slice_bounds-normalise-end
part-normalise-end c = search rules

normalise-requires : tie.Need-normalise-answer-requires
normalise-requires c κs = search rules

put-answer-requires : tie.Need-put_answer-len-requires
put-answer-requires c κs =
    let n = c.before.before.before.before.before.before.before.before.before in
    let g = n.normalise-answer.ensures in
    let a = entry n in
    omega (arith, out_inside (asked n) g, long n, room n, lined_length (asked n) g a.args.said.now refl a.requires.1)

slice-reshare-prefix-put-told : tie.Need-slice_bounds-put_told-end
slice-reshare-prefix-put-told c = omega (arith, text_inside (answered c.before.before))

slice-aggregate-put-told : tie.Need-slice_bounds-put_told-end-2
slice-aggregate-put-told c =
    let n = answered c.before.before in
    sym (length-take-le _ (message n) (omega (arith, text_inside n)))

sub-put-told : tie.Need-slice_bounds-put_told-count
sub-put-told c = omega (arith, words_inside c.before.before)

part-put-told-start : tie.Need-slice_bounds-put_told-start
part-put-told-start c = omega (arith, words_inside c.before.before)

part-put-told-end : tie.Need-slice_bounds-put_told-end-3
part-put-told-end c = search rules

put-told-requires : tie.Need-put_told-told-requires
put-told-requires c κs =
    let p = c.before.before.before in
    let n = answered p in
    told_fits (asked n) n.normalise-answer.ensures (entry n).args.carried.line (room n) (words_put p)

same_length : tie.Need-shape_of-vars
same_length c = search rules

same-length-2 : tie.Need-shape_of-work
same-length-2 c = search rules

same-length-3 : tie.Need-shape_of-message
same-length-3 c = search rules

same-length-4 : tie.Need-shape_of-said
same-length-4 c = search rules

returns : tie.Need-returns
returns c =
    let t = c.before.before in
    let p = t.before.before.before.before in
    let n = answered p in
    let a = (entry n).args in (
      said_so a.line.now a.vars.now a.carried.vars_used a.carried.shouts a.homes.now a.params.now a.paths.now
          a.work.now (mid_of 3 line_limit a.said.now)
          a.message.now a.carried.line (entry n).requires.0 (long n) (entry n).requires.1 n.normalise-answer.ensures (words_put p) t.put_told-told.ensures,
      area_cleared (asked n) n.normalise-answer.ensures,
    )

pub say_in_spec : {M : Type 1} → statement M
say_in_spec =
    tie.close
    (tie.spec
    sub-normalise
    part-normalise-start
    part-normalise-end
    normalise-requires
    put-answer-requires
    slice-reshare-prefix-put-told
    slice-aggregate-put-told
    sub-put-told
    part-put-told-start
    part-put-told-end
    put-told-requires
    same_length
    same-length-2
    same-length-3
    same-length-4
    returns)
