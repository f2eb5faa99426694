-- The first byte decides, then the piece is read as what it is.
use Rattle.std.proofs.Common.{sym, ◌∙◌}
use Rattle.read_line.proofs.Lines.{kind_operator, kind_hash, word_read, assignment_read}
use Rattle.read_line.proofs.read_piece.Goals as goal
use Rattle.read_line.proofs.read_piece.Goals.{then-in_class-via-then-in_class, then-in_class-via-else-in_class+then-b-eq35}

pub returns-then-in_class : goal.returns-then-in_class
returns-then-in_class c =
    let a = c.args in
    elim c.then-in_class.branch [
      | then-in_class-via-then-in_class w ↦
          kind_operator a.line.now a.place c.requires.0 c.requires.1 a.pieces (sym c.in_class.ensures ∙ w.if-in_class.true)
      | then-in_class-via-else-in_class+then-b-eq35 w ↦
          kind_hash a.line.now a.place c.requires.0 c.requires.1 (sym c.in_class.ensures ∙ w.if-in_class.false) a.pieces w.if-b-eq35.true
    ]

pub returns-in-Words : goal.returns-in-Words
returns-in-Words c =
    let a = c.args in
    word_read a.line.now a.place c.requires.0 c.requires.1 (sym c.in_class.ensures ∙ c.if-in_class.false) c.if-b-eq35.false c.in-Words.is
    c.read_word.result c.read_word.ensures

pub returns-in-Assignments : goal.returns-in-Assignments
returns-in-Assignments c =
    let a = c.args in
    assignment_read a.line.now a.place c.requires.0 c.requires.1 (sym c.in_class.ensures ∙ c.if-in_class.false) c.if-b-eq35.false c.in-Assignments.is
    c.read_assignment.result c.read_assignment.ensures
