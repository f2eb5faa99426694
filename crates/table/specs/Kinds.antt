-- The four kinds of table by the stage: how long an image may be, one text or two to a record, what a key must be, and when an image is well formed.
use Rattle.std.specs.Prelude.{ℕ, Bool, true, false, ◌&&◌, Some, Ok}
use Rattle.stages.specs.Numbers.{image_limit, paths_limit}
use Rattle.stages.specs.Bytes.{Text, lt_text}
use Rattle.stages.specs.Outcome.{pick}
use Rattle.stages.specs.Images.{is_name, is_login, is_some, variables_of, homes_of, paths_of, fields_of}
use Rattle.table.specs.Pieces.{Piece, frame_at, piece_at}
use Rattle.table.specs.declared.Kind.{Kind}
use Rattle.table.specs.declared.Kind.TheVariants.{Variables, Homes, Paths, Fields}

-- an image of the kind: numbers 2, 3, 4 and 22 are for one that is not
abbrev pub well_formed : Kind → Text → Bool
well_formed Variables t = is_some (variables_of t)
well_formed Homes t = is_some (homes_of t)
well_formed Paths t = is_some (paths_of t)
well_formed Fields t = is_some (fields_of t)

-- "An image has at most 8,192 bytes, that of paths 32,768."
abbrev pub limit_of : Kind → ℕ
limit_of Variables = image_limit
limit_of Homes = image_limit
limit_of Paths = paths_limit
limit_of Fields = image_limit

-- "variables, a name and a value; homes, a login and a directory; paths, one text, not empty; fields, one text"
abbrev pub in_twos : Kind → Bool
in_twos Variables = true
in_twos Homes = true
in_twos Paths = false
in_twos Fields = false

-- what a key must be behind the one before it, which is the empty text for the first: no key but a field's is empty
abbrev pub key_fits : Kind → Text → Text → Bool
key_fits Variables last key = is_name key && lt_text last key
key_fits Homes last key = is_login key && lt_text last key
key_fits Paths last key = lt_text last key
key_fits Fields last key = true

-- where a key ends that begins at a place: neither a name nor a login has a zero byte, so none is looked for
abbrev pub key_at : Kind → Text → ℕ → Piece
key_at kind t at = pick (in_twos kind) (frame_at t at) (piece_at t at)

-- where a record ends whose first text ends at a place
abbrev pub record_end : Kind → Text → ℕ → Piece
record_end kind t at = pick (in_twos kind) (piece_at t at) (Ok (Some at))
