-- `quote::changed_length` meets its contract: two quotes stand around the bytes, and a `$` before them in `$'...'`.
use native.Mathlib.Omega.{arith}
use mathlib.Core.Path.{ap}
use lib.ListN.{length}
use Rattle.quote.specs.Ways.{way_is}
use Rattle.quote.proofs.Fields.{field_singled, field_dollared}
use Rattle.quote.proofs.Lengths.{bytes_small, enclosed_length}
use Rattle.quote.proofs.changed_length.Goals as goal

pub overflow_add-result : goal.overflow_add-result
overflow_add-result c =
    omega (arith, c.bytes_length.ensures, bytes_small (way_is c.way_of-way.result) c.args.field.now, c.requires.0)

pub overflow_add-result-in-Dollared : goal.overflow_add-result-in-Dollared
overflow_add-result-in-Dollared c =
    omega (arith, c.bytes_length-in-Dollared.ensures, bytes_small (way_is c.way_of-way.result) c.args.field.now, c.requires.0)

pub returns-in-Singled : goal.returns-in-Singled
returns-in-Singled c =
    let t = c.args.field.now in
    omega (
      arith,
      c.bytes_length.ensures,
      ap length (field_singled t c.way_of-way.ensures c.in-Singled.is),
      enclosed_length (way_is c.way_of-way.result) t,
    )

pub returns-in-Dollared : goal.returns-in-Dollared
returns-in-Dollared c =
    let t = c.args.field.now in
    omega (
      arith,
      c.bytes_length-in-Dollared.ensures,
      ap length (field_dollared t c.way_of-way.ensures c.in-Dollared.is),
      enclosed_length (way_is c.way_of-way.result) t,
    )
