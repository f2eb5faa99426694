-- There are none where no text stands at the image's first place.
use Rattle.std.proofs.Common.{◌≡◌, None, Ok, ap, ◌∙◌, rules}
use Rattle.table.proofs.Pieces.{ahead_first, ahead_end, ahead_bad, ahead_text}
use Rattle.stages.specs.Images.{held_texts}
use Rattle.expand_list.proofs.Gaps.{none_joint, none_apart, some_apart}
use Rattle.expand_list.proofs.is_of_none.Goals as goal
use Rattle.expand_list.proofs.is_of_none.Goals.{in-Ok-Some, in_default, in_default-2}

pub returns-after-matches : goal.returns-after-matches
returns-after-matches c =
    let all = ahead_first _ _ c.requires in
    elim c.match-matches.branch [
      | in-Ok-Some w ↦ rw w.matches-is
          (some_apart c.args.apart c.if-apart.true
          (ahead_text all c.text_at.ensures (w.in-Ok-Some.is ∙ ap Ok w.in-Ok-Some.field-0-is)).is)
      | in_default w ↦
          let n : w.in_default.field-0 ≡ None = search rules in
          rw w.matches-is (none_apart c.args.apart c.if-apart.true (ahead_end all c.text_at.ensures (w.in_default.is ∙ ap Ok n)))
      | in_default-2 w ↦ absurd (ahead_bad all c.text_at.ensures w.in_default.is)
    ]

pub returns-else-apart : goal.returns-else-apart
returns-else-apart c = c.if-apart.false ∙ none_joint c.args.apart (held_texts c.args.params.now) c.if-apart.false
