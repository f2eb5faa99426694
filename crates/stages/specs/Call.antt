-- Document 01, "What a call gives back", and document 02, E7, E9, E10 and E14: the four jobs, from all that is given to all that comes back.
use Rattle.std.specs.Prelude.{ℕ, ◌-◌, Bool, ◌&&◌, [], ◌++◌, leb, length, take, drop, replicate}
use Rattle.std.proofs.Math.Option.{Option, none, some}
use Rattle.stages.specs.Numbers.{accepted, work_too_small, bad_variables, bad_homes, bad_paths, demanded, output_room, bad_fields, bad_parameters, work_least}
use Rattle.stages.specs.Numbers.{line_limit, image_limit}
use Rattle.stages.specs.Bytes.{Text}
use Rattle.stages.specs.Outcome.{Placed, refused_at, demands_at, done_at, ◌then◌, require}
use Rattle.stages.specs.Images.{Pairs, flat, image, variables_of, homes_of, paths_of, fields_of}
use Rattle.stages.specs.Line.{Fields, expand_line}
use Rattle.stages.specs.Assign.{assign_line}
use Rattle.stages.specs.Quote.{quoted_line}

-- what an expander, a normaliser or an assigner is handed: the buffers with the bytes in them, and the variables' used length
pub record Given : Type 0 where
  pub work : Text
  pub vars : Text
  pub vars_used : ℕ
  pub homes : Text
  pub paths : Text
  pub params : Text  -- E5: "lent as a fields image"
  pub line : Text
  pub out : Text
  pub message : Text  -- E7: "Lend a message buffer."
  pub shouts : Bool  -- E14: "a switch, off by default"

-- "The answer is a number, a place, the output length and the variables' used length."; and what the buffers hold then
pub record Answer : Type 0 where
  pub number : ℕ
  pub place : ℕ
  pub out_length : ℕ
  pub vars_used : ℕ
  pub out : Text
  pub vars : Text
  pub work : Text
  pub message_length : ℕ  -- E7: "the answer gives the length written"
  pub message : Text

-- an image, or a line, at the front of a buffer: "bytes behind either new image are unchanged, so too behind a quoted line"
unfoldable pub over : Text → Text → Text
over t buffer = t ++ drop (length t) buffer

unfoldable pub or_refused : {A : Type 0} → ℕ → Option A → Placed A
or_refused n none = refused_at n 0
or_refused n (some a) = done_at a

-- 01: "Order: 1 to 6 as numbered"; E5: 23 is "checked after 4": the fields and the variables, for an output of so many bytes
unfoldable pub expanded : Given → ℕ → Placed (Fields × Pairs)
unfolding or_refused variables_of homes_of paths_of fields_of expand_line
expanded g out =
    require (leb work_least (length g.work)) work_too_small 0 then λ _.
    require (leb g.vars_used (length g.vars)) bad_variables 0 then λ _.
    or_refused bad_variables (variables_of (take g.vars_used g.vars)) then λ v.
    or_refused bad_homes (homes_of g.homes) then λ h.
    or_refused bad_paths (paths_of g.paths) then λ p.
    or_refused bad_parameters (fields_of g.params) then λ ps.
    expand_line (record { lent = record { room = length g.vars; homes = h; params = ps; shouts = g.shouts }; out = out; paths = p }) g.line v

-- "The work area is zero throughout after every call of expander or normaliser, number 1 included."
unfoldable pub cleared : Text → Text
cleared work = replicate (length work) 0

-- E7: the message, "cut to the buffer"
unfoldable pub shown : Given → Text → Text
shown g t = take (length g.message) t

-- 01: "bytes behind either new image are unchanged"; E9, and by E10 in every job: "bytes behind the new image are zero up to the old used length (the one
-- given), and kept beyond it": an image and these zeros
unfoldable pub padded : ℕ → Text → Text
padded used t = t ++ replicate (used - length t) 0

-- the answer, by what is to be written and the variables: "On refusal the output length is 0, the used length is the one given, and output
-- and variable buffers hold their old bytes." E7: "On every other answer the message length is 0 and the buffer keeps its bytes; on 13 the bytes behind
-- the message are kept." E10: "A store may now shorten a value, as in E9, with the same rule for the bytes behind it."
unfoldable pub answered : Given → Placed (Text × Pairs) → Answer
unfolding over padded image cleared shown
answered g (refused_at n place) = record {
  number = n;
  place = place;
  out_length = 0;
  vars_used = g.vars_used;
  out = g.out;
  vars = g.vars;
  work = cleared g.work;
  message_length = 0;
  message = g.message;
}
answered g (demands_at t place) = record {
  number = demanded;
  place = place;
  out_length = 0;
  vars_used = g.vars_used;
  out = g.out;
  vars = g.vars;
  work = cleared g.work;
  message_length = length (shown g t);
  message = over (shown g t) g.message;
}
answered g (done_at r) = record {
  number = accepted;
  place = 0;
  out_length = length r.0;
  vars_used = length (image (flat r.1));
  out = over r.0 g.out;
  vars = over (padded g.vars_used (image (flat r.1))) g.vars;
  work = cleared g.work;
  message_length = 0;
  message = g.message;
}

-- "the expander turns a line into fields"
unfoldable pub expander : Given → Answer
unfolding expanded answered image
expander g = answered g (expanded g (length g.out) then λ r. done_at (image r.0, r.1))

-- "Above 2,048 bytes or the buffer is 21.": place 0 "for 21 from the quoter"
unfoldable pub quoted_in : ℕ → Fields → Placed Text
unfolding quoted_line
quoted_in out l = require (leb (length (quoted_line l)) line_limit && leb (length (quoted_line l)) out) output_room 0 then λ _. done_at (quoted_line l)

-- "the normaliser does both in one call"; "In the normaliser the expander's output room is 8,192."
unfoldable pub normaliser : Given → Answer
unfolding expanded answered quoted_in
normaliser g = answered g (expanded g image_limit then λ r. quoted_in (length g.out) r.0 then λ t. done_at (t, r.1))

-- E9: "The job takes neither paths nor output: 4 and 21 do not arise": what is given of them is not looked at. 1 to 3, 23, and 5 and 6 in the line
unfoldable pub assigned : Given → Placed Pairs
unfolding or_refused variables_of homes_of fields_of assign_line
assigned g =
    require (leb work_least (length g.work)) work_too_small 0 then λ _.
    require (leb g.vars_used (length g.vars)) bad_variables 0 then λ _.
    or_refused bad_variables (variables_of (take g.vars_used g.vars)) then λ v.
    or_refused bad_homes (homes_of g.homes) then λ h.
    or_refused bad_parameters (fields_of g.params) then λ ps.
    assign_line (record { room = length g.vars; homes = h; params = ps; shouts = g.shouts }) g.line v

-- E9, the answer by the variables: "A refusal undoes all."; nothing is written, and the output is as it was
unfoldable pub settled : Given → Placed Pairs → Answer
unfolding answered
settled g o = answered g (o then λ v. done_at ([], v))

-- E9: "a job that reads a line whose every word is a name, a bare `=` and a value"
unfoldable pub assigner : Given → Answer
unfolding assigned settled
assigner g = settled g (assigned g)

-- "The quoter has neither variables nor work area."
pub record Quoting : Type 0 where
  pub number : ℕ
  pub place : ℕ
  pub out_length : ℕ
  pub out : Text

unfoldable pub quoting : Text → Placed Text → Quoting
unfolding over
quoting out (refused_at n place) = record { number = n; place = place; out_length = 0; out = out }
quoting out (demands_at t place) = record { number = demanded; place = place; out_length = 0; out = out }
quoting out (done_at t) = record { number = accepted; place = 0; out_length = length t; out = over t out }

-- "the quoter fields into a line"; "The check for 22 precedes it."
unfoldable pub quoter : Text → Text → Quoting
unfolding quoting fields_of quoted_in or_refused
quoter fields out = quoting out (or_refused bad_fields (fields_of fields) then λ l. quoted_in (length out) l)
