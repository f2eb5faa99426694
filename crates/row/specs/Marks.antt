-- The marks of the code as document 01's.
use Rattle.stages.specs.Units as units
use Rattle.row.specs.declared.Mark.{Mark}
use Rattle.row.specs.declared.Mark.TheVariants.{L, E, Q}

abbrev pub mark_of : Mark → units.Mark
mark_of L = units.L
mark_of E = units.E
mark_of Q = units.Q
