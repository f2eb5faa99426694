-- A text fits where its bytes are no more than the units that may still come.
use Rattle.std.proofs.Common.{◌≡◌, length, refl, arith}
use Rattle.stages.specs.Units.{marked}
use Rattle.row.specs.Marks.{mark_of}
use Rattle.expand_add.specs.Expanded.{row_on}
use Rattle.expand_add.proofs.Fitting.{measured_full, marked_count, fronted_fits}
use Rattle.expand_add.proofs.give_text.Goals as goal

pub returns-then-text-room : goal.returns-then-text-room
returns-then-text-room c =
    let a = c.args in
    record {
      adds = measured_full a.row.units (marked (mark_of a.row.mark) a.text.now) (omega (arith, marked_count (mark_of a.row.mark) a.text.now));
      leaves = refl;
    }

pub returns : goal.returns
returns c =
    let a = c.args in
    let e : c.row.result ≡ row_on a.on (length a.text.now) = c.row.ensures in
    rw e (record {
      adds = fronted_fits a.row.units a.on _ (marked (mark_of a.row.mark) a.text.now) a.area.now _ (marked_count (mark_of a.row.mark) a.text.now)
          (omega arith) c.put_marked.ensures;
      leaves = c.put_marked.ensures;
    })
