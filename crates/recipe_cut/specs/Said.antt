-- What the program writes for an answer: its words, by its number, its place and the quoted line, and what it tells, by the line's number and the message.
use Rattle.std.specs.Prelude.{ℕ, ◌+◌, [], ◌++◌, length, take, drop}
use Rattle.stages.specs.Numbers.{line_limit, row_limit}
use Rattle.stages.specs.Bytes.{Text, text}
use Rattle.stages.specs.Units.{decimal}
use Rattle.stages.specs.Call.{Answer}
use Rattle.stages.specs.Program.{said, told}

-- an answer with this number, place, output and message
abbrev pub answer_by : ℕ → ℕ → Text → Text → Answer
answer_by number place out message = record {
  number = number;
  place = place;
  out_length = length out;
  vars_used = 0;
  out = out;
  vars = [];
  work = [];
  message_length = length message;
  message = message;
}

-- the stage's words for an answer whose output is the line
unfoldable pub said_by : ℕ → ℕ → Text → Text
unfolding said
said_by number place line = said (answer_by number place line [])

-- and what it tells of an answer to a line with this message
unfoldable pub told_by : ℕ → ℕ → Text → Text
unfolding told
told_by number line message = told line (answer_by number 0 [] message)

-- "`ok `, the quoted line, newline"
abbrev pub ok_text : Text → Text
ok_text line = text "ok " ++ (line ++ text "\n")

-- the quoted line, so many bytes, where it stands among those words
abbrev pub line_in : ℕ → Text → Text
line_in len out = take len (drop 3 out)

-- "`no `, number, blank, place, newline"
abbrev pub no_text : ℕ → ℕ → Text
no_text number place = text "no " ++ (decimal number ++ (text " " ++ (decimal place ++ text "\n")))

-- the bytes of `no `, two numbers of at most 20 digits, a blank and a newline
abbrev pub answer_room : ℕ
answer_room = 45

-- E7: `line 3: no base file chosen`
abbrev pub demand_text : ℕ → Text → Text
demand_text line message = text "line " ++ (decimal line ++ (text ": " ++ (message ++ text "\n")))

-- the bytes of `line `, a number of at most 20 digits, `: ` and a newline
abbrev pub told_room : ℕ
told_room = 28

-- all that is written for a line: its words, and behind them what is told of it
abbrev pub written_room : ℕ
written_room = line_limit + answer_room + (row_limit + told_room)
