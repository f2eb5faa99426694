-- The number of what reading answers.
use Rattle.std.specs.Prelude.{ℕ}
use Rattle.stages.specs.Numbers.{accepted, demanded}
use Rattle.stages.specs.Outcome.{Placed, refused_at, demands_at, done_at}
use Rattle.stages.specs.Read.{Words}

abbrev pub number_in : {A : Type 0} → Placed A → ℕ
number_in (refused_at n place) = n
number_in (demands_at t place) = demanded
number_in (done_at a) = accepted

-- the number that refuses a line, or 0
unfoldable pub number_of : Words → ℕ
number_of w = number_in w
