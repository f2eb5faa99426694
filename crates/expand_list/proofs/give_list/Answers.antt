-- The list fits where its units are no more than those that may still come.
use Rattle.std.proofs.Common.{◌≡◌, length, sym, ap, ◌∙◌, arith}
use Rattle.stages.specs.Images.{held, held_texts}
use Rattle.stages.specs.Units.{Row}
use Rattle.stages.specs.Expand.{list_row}
use Rattle.text.specs.Cases.{spread_of}
use Rattle.text.specs.Rows.{row_bytes}
use Rattle.row.specs.Marks.{mark_of}
use Rattle.row.specs.Stands.{fronted}
use Rattle.expand_add.specs.Expanded.{row_on}
use Rattle.expand_add.proofs.Fitting.{measured_full, fronted_fits}
use Rattle.expand_list.proofs.Gaps.{list_is}
use Rattle.expand_list.proofs.give_list.Goals as goal

pub returns-then-units-room : goal.returns-then-units-room
returns-then-units-room c =
    let a = c.args in
    let row : Row = list_row (spread_of a.apart) (mark_of a.row.mark) (held_texts a.params.now) (held a.vars.now) in
    let same = list_is (spread_of a.apart) (mark_of a.row.mark) (held_texts a.params.now) (held a.vars.now) c.expanded_mark-mark.ensures c.gap_of-gap.ensures in
    let counts : length row ≡ c.list_units-units.result = sym (c.list_units-units.ensures.is _ _ (sym c.gap_units.ensures) ∙ ap length same) in
    measured_full a.row.units row (omega arith)

pub returns : goal.returns
returns c =
    let a = c.args in
    let row : Row = list_row (spread_of a.apart) (mark_of a.row.mark) (held_texts a.params.now) (held a.vars.now) in
    let same = list_is (spread_of a.apart) (mark_of a.row.mark) (held_texts a.params.now) (held a.vars.now) c.expanded_mark-mark.ensures c.gap_of-gap.ensures in
    let counts : length row ≡ c.list_units-units.result = sym (c.list_units-units.ensures.is _ _ (sym c.gap_units.ensures) ∙ ap length same) in
    let e : c.row.result ≡ row_on a.on c.list_units-units.result = c.row.ensures in
    rw e
    (fronted_fits a.row.units a.on c.list_units-units.result row a.area.now _ counts (omega arith)
    (c.put_list.ensures ∙ ap (λ (r : Row). fronted (row_bytes r) a.area.now) same))
