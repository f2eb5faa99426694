-- A byte that begins no name, then the end of the run of name bytes, then the byte there: each decides as in the stage.
use Rattle.std.proofs.Common.{sym, ◌∙◌}
use Rattle.read_line.proofs.Naming.{no_start, no_end, no_equals, is_named_lem}
use Rattle.read_line.proofs.assignment_at.Goals as goal
use Rattle.read_line.proofs.assignment_at.Goals.{then-equals-line-via-then-equals-line, then-equals-line-via-else-equals-line+then-line-equals-ne61}

pub returns-then-not-in_class : goal.returns-then-not-in_class
returns-then-not-in_class c = no_start c.args.line.now c.args.place c.requires (sym c.in_class.ensures ∙ c.if-not-in_class.true)

pub returns-then-equals-line : goal.returns-then-equals-line
returns-then-equals-line c =
    let b = sym c.in_class.ensures ∙ c.if-not-in_class.false in
    let r = c.run_end-equals.ensures in
    elim c.then-equals-line.branch [
      | then-equals-line-via-then-equals-line w ↦ no_end c.args.line.now c.args.place c.requires b c.run_end-equals.result r w.if-equals-line.true
      | then-equals-line-via-else-equals-line+then-line-equals-ne61 w ↦
          no_equals c.args.line.now c.args.place c.requires b c.run_end-equals.result r w.if-equals-line.false w.if-line-equals-ne61.true
    ]

pub returns : goal.returns
returns c =
    is_named_lem c.args.line.now c.args.place c.requires (sym c.in_class.ensures ∙ c.if-not-in_class.false) c.run_end-equals.result c.run_end-equals.ensures
    c.if-equals-line.false c.if-line-equals-ne61.false
