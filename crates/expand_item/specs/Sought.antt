-- E14: what a parameter that is looked up gives, or 25.
use Rattle.std.specs.Prelude.{Bool, List, length}
use Rattle.stages.specs.Bytes.{Text}
use Rattle.stages.specs.Outcome.{Outcome, done, ◌>>=◌}
use Rattle.stages.specs.Images.{Pairs}
use Rattle.stages.specs.Syntax.{Param}
use Rattle.stages.specs.Units.{Mark, Row, marked, expanded_mark, decimal}
use Rattle.expand_param.specs.Holding.{sought_in}

-- in its plain form: its value
abbrev pub value_row : Bool → List Text → Pairs → Param → Mark → Outcome Row
value_row shouts l v x m = sought_in shouts l v x >>= λ t. done (marked (expanded_mark m) t)

-- counted: its value's length
abbrev pub length_row : Bool → List Text → Pairs → Param → Mark → Outcome Row
length_row shouts l v x m = sought_in shouts l v x >>= λ t. done (marked (expanded_mark m) (decimal (length t)))
