-- The records of a table, of two texts or of one: a path is a key without a value.
use Rattle.std.specs.Prelude.{ℕ, Bool, true, false, List, [], ◌∷◌}
use Rattle.stages.specs.Numbers.{image_limit, paths_limit}
use Rattle.stages.specs.Bytes.{Text}
use Rattle.stages.specs.Images.{Pairs, keys, flat, held, held_texts}
use Rattle.table.specs.Places.{Table}
use Rattle.table_insert.specs.Added.{Column}

-- texts as keys without a value
abbrev pub alone : List Text → Pairs
alone [] = []
alone (t ∷ l) = (t, []) ∷ alone l

-- the texts of records, which are two texts each or one
abbrev pub texts_by : Bool → Pairs → List Text
texts_by true v = flat v
texts_by false v = keys v

-- the records of an image
abbrev pub records_by : Bool → Text → Pairs
records_by true t = held t
records_by false t = alone (held_texts t)

-- "An image has at most 8,192 bytes, that of paths 32,768."
abbrev pub limit_by : Bool → ℕ
limit_by true = image_limit
limit_by false = paths_limit

-- an image of records in rising order of their keys
abbrev pub TableBy : Bool → Text → Type 0
TableBy true t = Table t
TableBy false t = Column t
