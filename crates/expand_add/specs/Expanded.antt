-- What expanding answers.
use Rattle.std.specs.Prelude.{ℕ, Result}
use Rattle.expand_add.specs.declared.answers.Onward.{Onward}
use Rattle.expand_add.specs.declared.answers.Row.{Row}
use Rattle.expand_add.specs.declared.answers.Stop.{Stop}

-- a row, or why there is none
abbrev pub Expanded : Type 0
Expanded = Result Row Stop

-- so many units, behind which the text goes on so
abbrev pub row_on : Onward → ℕ → Row
row_on on count = record { units = count; next = on.next; vars_used = on.vars_used; of_none = on.of_none }
