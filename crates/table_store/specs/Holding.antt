-- Variables in a buffer in which their image may grow, and what a store of a name's value there answers.
use Rattle.std.specs.Prelude.{ℕ, ◌≤◌, ◌≡◌, true, leb, length, take, Result, Ok, Err}
use Rattle.stages.specs.Numbers.{image_limit, variable_room}
use Rattle.stages.specs.Bytes.{Text, all, not_zero}
use Rattle.stages.specs.Outcome.{refused, done, pick}
use Rattle.stages.specs.Images.{Pairs, is_name, variables_of, held, is_some}
use Rattle.stages.specs.Params.{store}
use Rattle.table_store.specs.declared.NoRoom.{NoRoom}

-- the first `vars_used` bytes are the image of variables, which may grow to `varsRoom`
pub record Holds (varsRoom : ℕ) (vars : Text) (vars_used : ℕ) : Type 0 where
  pub formed : is_some (variables_of (take vars_used vars)) ≡ true
  pub inside : vars_used ≤ length vars
  pub fits : vars_used ≤ varsRoom
  pub long : image_limit ≤ length vars

-- a name, and a value without a zero byte
pub record Settable (x t : Text) : Type 0 where
  pub named : is_name x ≡ true
  pub clean : all not_zero t ≡ true

-- "longer than its buffer or 8,192": the lesser of the two
abbrev pub limit_of : ℕ → ℕ
limit_of varsRoom = pick (leb varsRoom image_limit) varsRoom image_limit

-- the value is stored as the stage stores it, or refused
abbrev pub StoresIn : ℕ → Text → Text → Pairs → Text → Result ℕ NoRoom → Type 0
StoresIn varsRoom x t v vars (Err e) = store varsRoom x t v ≡ refused variable_room
StoresIn varsRoom x t v vars (Ok vars_used) = (store varsRoom x t v ≡ done (held (take vars_used vars))) × Holds varsRoom vars vars_used
