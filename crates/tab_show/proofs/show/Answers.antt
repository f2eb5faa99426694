-- Its test is the stage's, and the lines of a good image are written.
use Rattle.std.proofs.Common.{sym}
use Rattle.tab_show.proofs.Answers.{texts_here, lines_room, none_shown, shown}
use Rattle.tab_show.proofs.show.Goals as goal

pub returns-then-not-well_formed : goal.returns-then-not-well_formed
returns-then-not-well_formed c = none_shown c.args.kind c.args.image.now c.args.out.now (sym c.if-not-well_formed.ensures)

pub put_texts-requires-clause-image_value : goal.put_texts-requires-clause-image_value
put_texts-requires-clause-image_value c = texts_here c.args.kind c.args.image.now (sym c.if-not-well_formed.ensures)

pub put_texts-requires-clause-image_in_bounds : goal.put_texts-requires-clause-image_in_bounds
put_texts-requires-clause-image_in_bounds c =
    let t = texts_here c.args.kind c.args.image.now (sym c.if-not-well_formed.ensures) in
    lines_room c.in_twos.result c.args.image.now _ t c.requires

pub returns : goal.returns
returns c =
    let p = c.put_texts in
    shown c.args.kind c.args.image.now c.args.out.now (sym c.if-not-well_formed.ensures) c.in_twos.result p.new.out p.result
    c.in_twos.ensures p.ensures
