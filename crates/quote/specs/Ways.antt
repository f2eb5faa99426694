-- What the code tells of a field, and its quotes as the stages'.
use Rattle.std.specs.Prelude.{◌≡◌, false}
use Rattle.stages.specs.Bytes.{Text}
use Rattle.stages.specs.Quote.{singled, dollared, is_bare, quoted_bytes, enclosed, quoted_field}
use Rattle.stages.specs.Quote as quote
use Rattle.quote.specs.declared.ways.Look.{Look}
use Rattle.quote.specs.declared.ways.Look.TheVariants.{Bare, Plain, Changed}
use Rattle.quote.specs.declared.ways.Way.{Way}
use Rattle.quote.specs.declared.ways.Way.TheVariants.{Singled, Dollared}

-- E2: "all other fields as before"; E12: "in this form"
abbrev pub way_is : Way → quote.Way
way_is Singled = singled
way_is Dollared = dollared

-- how a field stands in a line
pub record Looks (field : Text) (r : Look) : Type 0 where
  pub leaves : r ≡ Bare → quoted_field field ≡ field
  pub encloses : r ≡ Plain → quoted_field field ≡ enclosed singled field
  pub keeps : r ≡ Plain → quoted_bytes singled field ≡ field
  pub changes : r ≡ Changed → is_bare field ≡ false
