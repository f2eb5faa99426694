-- The quoter's answers in document 01's numbers and values.
use Rattle.std.specs.Prelude.{ℕ, Bool, ◌&&◌, List, leb, length, Result, Ok, Err}
use Rattle.stages.specs.Numbers.{accepted, output_room, bad_fields, line_limit}
use Rattle.stages.specs.Bytes.{Text}
use Rattle.stages.specs.Quote.{quoted_line}
use Rattle.stages.specs.Call.{Quoting}
use Rattle.text.specs.declared.refusal.Refusal.{Refusal}
use Rattle.text.specs.declared.refusal.Refusal.TheVariants.{BadFields, OutputRoom}
use Rattle.quote.specs.declared.QuoteError.{QuoteError}
use Rattle.quote.specs.declared.QuoteError.TheVariants.{Malformed, NoRoom}

-- not "Above 2,048 bytes or the buffer"
abbrev pub has_room : ℕ → List Text → Bool
has_room room l = leb (length (quoted_line l)) line_limit && leb (length (quoted_line l)) room

-- 22 "fields image malformed or too long", 21 "no room for output"
abbrev pub refusal_of : QuoteError → Refusal
refusal_of Malformed = BadFields
refusal_of NoRoom = OutputRoom

-- "0 accepted, place 0"; 22 "fields image malformed or too long", 21 "no room for output": the place "is 0 .. for 22, and for 21 from the quoter",
-- "On refusal the output length is 0"; and what the buffer holds then
abbrev pub quoting_of : Result ℕ QuoteError → Text → Quoting
quoting_of (Ok n) left = record { number = accepted; place = 0; out_length = n; out = left }
quoting_of (Err Malformed) left = record { number = bad_fields; place = 0; out_length = 0; out = left }
quoting_of (Err NoRoom) left = record { number = output_room; place = 0; out_length = 0; out = left }
