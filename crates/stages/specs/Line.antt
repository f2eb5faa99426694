-- Document 01: a whole line to its fields, from its length on.
use Rattle.std.specs.Prelude.{ℕ, ◌+◌, Bool, ◌&&◌, not, List, [], ◌∷◌, ◌++◌, leb, length}
use Rattle.stages.specs.Numbers.{line_too_long, zero_byte, output_room, line_limit, image_limit}
use Rattle.stages.specs.Bytes.{Text, is_in}
use Rattle.stages.specs.Outcome.{Outcome, done, ◌>>=◌, Placed, done_at, placed_at, ◌then◌, require}
use Rattle.stages.specs.Images.{Pairs, record_bytes}
use Rattle.stages.specs.Syntax.{Parts, Word}
use Rattle.stages.specs.Read.{read_line}
use Rattle.stages.specs.Units.{L}
use Rattle.stages.specs.Params.{Lent}
use Rattle.stages.specs.Expand.{expand}
use Rattle.stages.specs.Split.{fields_of_row}
use Rattle.stages.specs.Paths.{texts_of_fields}

-- what a line is expanded among
pub record Around : Type 0 where
  pub lent : Lent
  pub out : ℕ  -- of the output
  pub paths : List Text

abbrev pub Fields : Type 0
Fields = List Text

-- the fields of one word, and the variables behind its stores
unfoldable pub word_fields : Around → Parts → Pairs → Outcome (Fields × Pairs)
unfolding expand fields_of_row texts_of_fields
word_fields a p v = expand a.lent p L 0 v >>= λ r. texts_of_fields a.paths (fields_of_row r.1 r.0) >>= λ l. done (l, r.1)

-- room in the output for an image of n bytes: "longer than the output or 8,192"
unfoldable pub out_fits : Around → ℕ → Bool
out_fits a n = leb n a.out && leb n image_limit

-- "then words are expanded left to right, first fault met"; the image is n bytes long before them. "Later 21 is met at the end of the word
-- whose fields make the image longer than the output or 8,192."
unfoldable pub expand_words : Around → List Word → ℕ → Pairs → Placed (Fields × Pairs)
unfolding word_fields out_fits record_bytes
expand_words a [] n v = done_at ([], v)
expand_words a (w ∷ ws) n v =
    placed_at w.place (word_fields a w.parts v) then λ r.
    require (out_fits a (n + record_bytes r.0)) output_room w.place then λ _.
    expand_words a ws (n + record_bytes r.0) r.1 then λ s.
    done_at (r.0 ++ s.0, s.1)

-- 5 and 6; "then the whole line is read"; "The empty fields image needs one byte: 21, place 0, after reading and before the first word."
unfoldable pub expand_line : Around → Text → Pairs → Placed (Fields × Pairs)
unfolding read_line expand_words out_fits
expand_line a t v =
    require (leb (length t) line_limit) line_too_long 0 then λ _.
    require (not (is_in 0 t)) zero_byte 0 then λ _.
    read_line t then λ ws.
    require (out_fits a 1) output_room 0 then λ _.
    expand_words a ws 1 v
