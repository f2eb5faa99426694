-- What a call is given, and the two jobs that take a line as one: they differ in the expander's room and in what is written.
use Rattle.std.specs.Prelude.{ℕ, Bool, length}
use Rattle.stages.specs.Numbers.{image_limit}
use Rattle.stages.specs.Bytes.{Text}
use Rattle.stages.specs.Outcome.{Placed, done_at}
use Rattle.stages.specs.Images.{Pairs, image}
use Rattle.stages.specs.Line.{Fields}
use Rattle.stages.specs.Call as stage
use Rattle.call_check.specs.declared.Job.{Job}
use Rattle.call_check.specs.declared.Job.TheVariants.{Expander, Normaliser}

abbrev pub given : Text → Text → ℕ → Bool → Text → Text → Text → Text → Text → Text → stage.Given
given line vars used shouts homes params paths work out message = record {
  work = work;
  vars = vars;
  vars_used = used;
  homes = homes;
  paths = paths;
  params = params;
  line = line;
  out = out;
  message = message;
  shouts = shouts;
}

-- the stage of each job
abbrev pub answer_of : Job → stage.Given → stage.Answer
answer_of Expander g = stage.expander g
answer_of Normaliser g = stage.normaliser g

-- "In the normaliser the expander's output room is 8,192."
abbrev pub room_of : Job → ℕ → ℕ
room_of Expander out = out
room_of Normaliser out = image_limit

-- what is written of the fields to an output of so many bytes
abbrev pub output_of : Job → ℕ → Fields → Placed Text
output_of Expander out l = done_at (image l)
output_of Normaliser out l = stage.quoted_in out l

-- the fields and the variables that a job works out
abbrev pub worked : Job → stage.Given → Placed (Fields × Pairs)
worked job g = stage.expanded g (room_of job (length g.out))
