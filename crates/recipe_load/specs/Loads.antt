-- What the contracts on tables' files cite: what was fetched, and the table that it stands for.
use Rattle.std.specs.Prelude.{ℕ, ◌≤◌, ◌≡◌, eqb, length, take, replicate, ℤ, pos, negsuc, Result, Ok, Err, Option as Perhaps, Some, None}
use Rattle.std.proofs.Math.Option.{Option, none, some}
use Rattle.stages.specs.Bytes.{Text}
use Rattle.stages.specs.Outcome.{pick}
use Rattle.stages.specs.Call.{over}
use Rattle.stages.specs.Program.{table_or}
use Rattle.recipe_load.specs.declared.Unread.{Unread}

-- the only value of the error
abbrev pub unread : Unread
unread = record {}

-- so many bytes of a file were fetched, or there is none, or it cannot be read
abbrev pub Fetched : Type 0
Fetched = Result (Perhaps ℕ) Unread

-- what was fetched lies within a buffer of so many bytes
abbrev pub Fetches : ℕ → Fetched → Type 0
Fetches room (Ok (Some n)) = n ≤ room
Fetches room (Ok None) = Unit {0}
Fetches room (Err e) = Unit {0}

-- a read that gave no byte: a file of so many bytes ended, or the read failed
abbrev pub Ends : {E : Type 0} → Result ℕ E → ℕ → Result ℕ Unread → Type 0
Ends (Ok k) done r = r ≡ Ok done
Ends (Err e) done r = r ≡ Err unread

-- a file that cannot be opened, by C's number of the error, if it has one: 2 is that there is no such file
abbrev pub unopened_by : Perhaps ℤ → Fetched
unopened_by (Some (pos k)) = pick (eqb k 2) (Ok None) (Err unread)
unopened_by (Some (negsuc k)) = Err unread
unopened_by None = Err unread

-- the table of a file, or of none, stands at the front of zeros, and is counted
pub record Stands (file : Option Text) (room : ℕ) (left : Text) (r : Result ℕ Unread) : Type 0 where
  pub counts : r ≡ Ok (length (table_or file))
  pub leaves : left ≡ over (table_or file) (replicate room 0)

-- "(absent: no records)": what is made of a buffer by what was fetched to it
abbrev pub Settles : Fetched → Text → Text → Result ℕ Unread → Type 0
Settles (Ok (Some n)) old left r = Stands (some (take n old)) (length old) left r
Settles (Ok None) old left r = Stands none (length old) left r
Settles (Err e) old left r = (r ≡ Err unread) × (left ≡ old)

-- a table of n bytes stands in a buffer of so many: that of a file, or of none
pub record Held (room n : ℕ) (left : Text) : Type 0 where
  pub file : Option Text
  pub counts : n ≡ length (table_or file)
  pub leaves : left ≡ over (table_or file) (replicate room 0)
  pub within : n ≤ room

abbrev pub Loads : ℕ → Text → Result ℕ Unread → Type 0
Loads room left (Ok n) = Held room n left
Loads room left (Err e) = Unit {0}
