-- Document 01, "The program", and document 02, E7 and E14: what it writes for what it reads.
use Rattle.std.specs.Prelude.{ℕ, suc, ◌-◌, Bool, true, false, List, [], ◌∷◌, ◌++◌, eqb, leb, length, take, replicate}
use Prim.Native.Char.{code}
use Rattle.std.proofs.Math.Option.{Option, none, some}
use Rattle.stages.specs.Numbers.{work_least, image_limit, row_limit, count_limit, demanded}
use Rattle.stages.specs.Bytes.{Text, text}
use Rattle.stages.specs.Outcome.{pick}
use Rattle.stages.specs.Images.{image}
use Rattle.stages.specs.Units.{decimal}
use Rattle.stages.specs.Call.{Given, Answer, normaliser}

-- a byte in front of the first line
unfoldable pub longer_line : ℕ → List Text → List Text
longer_line b [] = (b ∷ []) ∷ []
longer_line b (l ∷ ls) = (b ∷ l) ∷ ls

-- "lines from standard input, an unended last one too if not empty"
unfoldable pub lines_of : Text → List Text
unfolding longer_line
lines_of [] = []
lines_of (b ∷ t) = elim (eqb b (code "\n")) [ true ↦ [] ∷ lines_of t | false ↦ longer_line b (lines_of t) ]

-- "(absent: no records)"
unfoldable pub table_or : Option Text → Text
unfolding image
table_or none = image []
table_or (some t) = t

-- "they and the output get 8,192 bytes": a file at the front of a buffer of zeros, as much of it as the buffer takes
unfoldable pub buffered : Text → Text
buffered t = take image_limit t ++ replicate (image_limit - length t) 0

-- the variables' buffer, its used length, and whether unset ones shout, which is the same for every line
pub record Variables : Type 0 where
  pub buffer : Text
  pub vars_used : ℕ
  pub shouts : Bool  -- E14: "a switch, off by default"

unfoldable pub given_line : Text → Text → Text → Text → Variables → Given
given_line homes paths params line v = record {
  work = replicate work_least 0;
  vars = v.buffer;
  vars_used = v.vars_used;
  homes = homes;
  paths = paths;
  params = params;
  line = line;
  out = replicate image_limit 0;
  message = replicate row_limit 0;  -- E7: so no message is cut
  shouts = v.shouts;
}

-- "it writes `ok `, the quoted line, newline, or `no `, number, blank, place, newline"
unfoldable pub said : Answer → Text
unfolding decimal
said a =
    elim (eqb a.number 0) [
      | true ↦ text "ok " ++ (take a.out_length a.out ++ text "\n")
      | false ↦ text "no " ++ (decimal a.number ++ (text " " ++ (decimal a.place ++ text "\n")))
    ]

-- E7, for standard error: the message that line n demands, `line 3: no base file chosen`, and nothing of any other line
unfoldable pub told : ℕ → Answer → Text
unfolding decimal
told n a =
    elim (eqb a.number demanded) [
      | true ↦ text "line " ++ (decimal n ++ (text ": " ++ (take a.message_length a.message ++ text "\n")))
      | false ↦ []
    ]

-- the number of the line behind line n
unfoldable pub next_number : ℕ → ℕ
next_number n = pick (leb (suc n) count_limit) (suc n) n

-- "Variables carry over": the variables after a line
unfoldable pub after_line : Text → Text → Text → Variables → Text → Variables
unfolding given_line normaliser
after_line homes paths params v l = record {
  buffer = (normaliser (given_line homes paths params l v)).vars;
  vars_used = (normaliser (given_line homes paths params l v)).vars_used;
  shouts = v.shouts;
}

-- and after lines, one by one
unfoldable pub after_lines : Text → Text → Text → Variables → List Text → Variables
unfolding after_line
after_lines homes paths params v [] = v
after_lines homes paths params v (l ∷ ls) = after_lines homes paths params (after_line homes paths params v l) ls

-- what is said of lines, of each one among the variables after those before it
unfoldable pub said_of : Text → Text → Text → Variables → List Text → Text
unfolding given_line normaliser said after_line
said_of homes paths params v [] = []
said_of homes paths params v (l ∷ ls) = said (normaliser (given_line homes paths params l v))
    ++ said_of homes paths params (after_line homes paths params v l) ls

-- what lines demand, the first of which has the number n
unfoldable pub told_of : Text → Text → Text → Variables → ℕ → List Text → Text
unfolding given_line normaliser told next_number after_line
told_of homes paths params v n [] = []
told_of homes paths params v n (l ∷ ls) =
    told n (normaliser (given_line homes paths params l v)) ++ told_of homes paths params (after_line homes paths params v l) (next_number n) ls

-- the number of the line behind lines
unfoldable pub number_after : ℕ → List Text → ℕ
unfolding next_number
number_after n [] = n
number_after n (l ∷ ls) = number_after (next_number n) ls

-- the variables before the first line, by the file `vars.tab`
unfoldable pub first_variables : Bool → Option Text → Variables
unfolding table_or buffered
first_variables shouts vars = record { buffer = buffered (table_or vars); vars_used = length (table_or vars); shouts = shouts }

-- what the program writes: the switch, the files `vars.tab`, `homes.tab`, `paths.tab` where they are there, the arguments that are positional parameters,
-- and standard input
unfoldable pub program : Bool → Option Text → Option Text → Option Text → List Text → Text → Text
unfolding table_or first_variables said_of lines_of image
program shouts vars homes paths arguments input =
    said_of (table_or homes) (table_or paths) (image arguments) (first_variables shouts vars) (lines_of input)

-- E7: and what it writes to standard error of what the lines demand, the first one being line 1
unfoldable pub demands_of : Bool → Option Text → Option Text → Option Text → List Text → Text → Text
unfolding table_or first_variables told_of lines_of image
demands_of shouts vars homes paths arguments input =
    told_of (table_or homes) (table_or paths) (image arguments) (first_variables shouts vars) 1 (lines_of input)
