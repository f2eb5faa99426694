-- The byte behind is the second one, another, or none.
use Rattle.arith_token.proofs.Lexing.{with_second, without_second, at_the_end}
use Rattle.arith_token.proofs.paired.Goals.{else-next-text-via-then-next-text+else-text-next, else-next-text-via-else-next-text}
use Rattle.arith_token.proofs.paired.Goals as goal

pub returns-then-text-next : goal.returns-then-text-next
returns-then-text-next c =
    let a = c.args in
    with_second a.text.now a.at a.second a.alone a.both c.requires c.if-next-text.true c.if-text-next.true

pub returns-else-next-text : goal.returns-else-next-text
returns-else-next-text c =
    let a = c.args in
    elim c.else-next-text.branch [
      | else-next-text-via-then-next-text+else-text-next w ↦
          without_second a.text.now a.at a.second a.alone a.both c.requires w.if-next-text.true w.if-text-next.false
      | else-next-text-via-else-next-text w ↦ at_the_end a.text.now a.at a.second a.alone a.both c.requires w.if-next-text.false
    ]
