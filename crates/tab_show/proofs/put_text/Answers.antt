-- A byte is written behind those before it, which have room with all that follow.
use Rattle.std.proofs.Common.{◌+◌, arith, drop, refl}
use Rattle.text.proofs.Filling.{fill_starts, fill_next, fill_fits, fill_piece, fill_ends}
use Rattle.tab_show.specs.Lines.{shown_text}
use Rattle.tab_show.proofs.Writing.{bytes_at, bytes_none}
use Rattle.tab_show.proofs.put_text.Goals as goal

pub loop-b-init : goal.loop-b-init
loop-b-init c = fill_starts (shown_text c.args.text.now) c.args.out.now c.requires

pub put_byte-used-requires : goal.put_byte-used-requires
put_byte-used-requires c =
    let l = c.loop-b in
    fill_fits l.invariant _ (shown_text (drop (l.b-index + 1) c.args.text.now)) (bytes_at c.args.text.now l.b-index (omega arith))

pub overflow_add-used : goal.overflow_add-used
overflow_add-used c =
    let l = c.loop-b in
    omega (
      arith,
      fill_next l.invariant _ (shown_text (drop (l.b-index + 1) c.args.text.now)) (bytes_at c.args.text.now l.b-index (omega arith)),
      c.put_byte-used.ensures.counts,
    )

pub loop-b-preserved : goal.loop-b-preserved
loop-b-preserved c =
    let l = c.loop-b in
    let p = c.put_byte-used in
    fill_piece l.invariant _ (shown_text (drop (l.b-index + 1) c.args.text.now)) p.new.out p.result _
    (bytes_at c.args.text.now l.b-index (omega arith)) p.ensures refl

pub returns : goal.returns
returns c = fill_ends c.loop-b.invariant (bytes_none c.args.text.now _ (omega arith))
