-- How many paths a pattern matches.
use Rattle.std.specs.Prelude.{ℕ, true, List, length}
use Rattle.stages.specs.Bytes.{Text}
use Rattle.stages.specs.Outcome.{pick}
use Rattle.stages.specs.Pattern.{elements, has_class}
use Rattle.stages.specs.Paths.{chosen}
use Rattle.text.specs.Rows.{signs_of}

-- none where a class refuses it
unfoldable pub matching : Text → List Text → ℕ
unfolding has_class elements signs_of chosen
matching p paths = pick (has_class true 0 (signs_of p)) 0 (length (chosen (elements true 0 (signs_of p)) paths))
