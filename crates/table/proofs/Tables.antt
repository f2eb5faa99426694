-- An image that passes as variables or as homes is a table in which keys can be looked up.
use mathlib.Core.Path.{◌≡◌}
use mathlib.Core.Bool.{Bool, true}
use Rattle.stages.specs.Bytes.{Text}
use Rattle.stages.proofs.Tables as stage
use Rattle.table.specs.Kinds.{well_formed}
use Rattle.table.specs.Places.{Table}
use Rattle.table.specs.declared.Kind.TheVariants.{Variables, Homes}

pub keyed_table : (f : Text → Bool) (t : Text) → stage.Table f t → Table t
keyed_table f t w = record { pairs = w.table; rises = w.rises }

pub variables_table : (t : Text) → well_formed Variables t ≡ true → Table t
variables_table t e = keyed_table _ t (stage.vars_of t e)

pub homes_table : (t : Text) → well_formed Homes t ≡ true → Table t
homes_table t e = keyed_table _ t (stage.homes_of_lem t e)
