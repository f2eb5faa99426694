-- What one field becomes, by the stages.
use Rattle.std.specs.Prelude.{List}
use Rattle.stages.specs.Bytes.{Text}
use Rattle.stages.specs.Outcome.{Outcome, done, ◌>>=◌}
use Rattle.stages.specs.Units.{Row}
use Rattle.stages.specs.Pattern.{for_paths, pattern}
use Rattle.stages.specs.Paths.{paths_for}

-- the texts of one field: 19, or "all matching paths in order, or its own bytes"
unfoldable pub field_texts : List Text → Row → Outcome (List Text)
unfolding pattern paths_for
field_texts paths r = pattern for_paths r >>= λ p. done (paths_for paths r p)
