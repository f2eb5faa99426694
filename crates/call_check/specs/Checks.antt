-- What is known once a call has passed the checks before the first word, or before the first assignment.
use Rattle.std.specs.Prelude.{ℕ, ◌≤◌, ◌<◌, ◌≡◌, true, false, List, leb, length, take}
use Rattle.stages.specs.Numbers.{work_too_small, bad_variables, bad_homes, line_too_long, zero_byte, work_least, line_limit, image_limit}
use Rattle.stages.specs.Bytes.{Text, is_in, all, not_zero}
use Rattle.stages.specs.Outcome.{refused_at, done_at, pick}
use Rattle.stages.specs.Images.{is_some, held, variables_of, homes_of, paths_of, fields_of}
use Rattle.stages.specs.Syntax.{Word, Assignment}
use Rattle.stages.specs.Read.{read_line}
use Rattle.stages.specs.Line.{Around, expand_words}
use Rattle.stages.specs.Assign.{read_assignments, assign_all}
use Rattle.stages.specs.Call.{Given, assigned}
use Rattle.table.specs.Around.{lent_of, among}
use Rattle.call_check.specs.Calls.{room_of, worked}
use Rattle.call_check.specs.declared.Job.{Job}
use Rattle.std.specs.Prelude.{Result, Ok, Err}
use Rattle.text.specs.Refusals.{refusal_number}
use Rattle.text.specs.declared.refusal.Refused.{Refused}

-- "longer than the output or 8,192": the lesser of the two
abbrev pub room_in : Job → ℕ → ℕ
room_in job out = pick (leb (room_of job out) image_limit) (room_of job out) image_limit

-- what the call's line is expanded among
abbrev pub around : Given → ℕ → Around
around g out = among (length g.vars) g.shouts g.homes g.params g.paths out

-- 1 to 3, which every job that takes a line begins with: they are passed
pub record Lends (work vars : Text) (used : ℕ) (houses : Text) : Type 0 where
  pub area : work_least ≤ length work
  pub inside : used ≤ length vars
  pub formed : is_some (variables_of (take used vars)) ≡ true
  pub housed : is_some (homes_of houses) ≡ true

-- or the first that is not refuses the call
pub data Unlent (work vars : Text) (used : ℕ) (houses : Text) : ℕ → ℕ → Type 0 where
  small_area : length work < work_least → Unlent work vars used houses work_too_small 0
  used_beyond : work_least ≤ length work → length vars < used → Unlent work vars used houses bad_variables 0
  vars_bad : work_least ≤ length work → used ≤ length vars → is_some (variables_of (take used vars)) ≡ false → Unlent work vars used houses bad_variables 0
  homes_bad : work_least ≤ length work → used ≤ length vars → is_some (variables_of (take used vars)) ≡ true → is_some (homes_of houses) ≡ false
      → Unlent work vars used houses bad_homes 0

abbrev pub LendSays : Text → Text → ℕ → Text → Result (Unit {0}) Refused → Type 0
LendSays work vars used houses (Ok u) = Lends work vars used houses
LendSays work vars used houses (Err e) = Unlent work vars used houses (refusal_number e.why) e.place

-- 5 and 6 are passed
pub record Plain (line : Text) : Type 0 where
  pub short : length line ≤ line_limit
  pub whole : is_in 0 line ≡ false

-- or one of them refuses the line
pub data Unplain (line : Text) : ℕ → ℕ → Type 0 where
  too_long : line_limit < length line → Unplain line line_too_long 0
  has_zero : length line ≤ line_limit → is_in 0 line ≡ true → Unplain line zero_byte 0

abbrev pub PlainSays : Text → Result (Unit {0}) Refused → Type 0
PlainSays line (Ok u) = Plain line
PlainSays line (Err e) = Unplain line (refusal_number e.why) e.place

-- 1 to 4 and 23 are passed
pub record Tabled (g : Given) : Type 0 where
  pub area : work_least ≤ length g.work
  pub inside : g.vars_used ≤ length g.vars
  pub formed : is_some (variables_of (take g.vars_used g.vars)) ≡ true
  pub housed : is_some (homes_of g.homes) ≡ true
  pub listed : is_some (paths_of g.paths) ≡ true
  pub numbered : is_some (fields_of g.params) ≡ true

-- 5, 6, the reading and the empty image's 21 are passed too: the words are all that is left
pub record Passed (job : Job) (g : Given) : Type 0 where
  pub tables : Tabled g
  pub short : length g.line ≤ line_limit
  pub clean : all not_zero g.line ≡ true
  pub words : List Word
  pub read : read_line g.line ≡ done_at words
  pub byte : 1 ≤ room_in job (length g.out)
  pub is : worked job g ≡ expand_words (around g (room_in job (length g.out))) words 1 (held (take g.vars_used g.vars))

-- the call is refused, and by nothing that comes after the checks
pub record Stopped (job : Job) (g : Given) (n place : ℕ) : Type 0 where
  pub is : worked job g ≡ refused_at n place
  pub early : Passed job g → ⊥

abbrev pub Checks : Job → Given → Result (Unit {0}) Refused → Type 0
Checks job g (Ok u) = Passed job g
Checks job g (Err e) = Stopped job g (refusal_number e.why) e.place

-- E9: 1 to 3, 23, 5, 6 and the reading are passed: the assignments are all that is left
pub record AssignPassed (g : Given) : Type 0 where
  pub tables : Lends g.work g.vars g.vars_used g.homes
  pub numbered : is_some (fields_of g.params) ≡ true
  pub short : length g.line ≤ line_limit
  pub clean : all not_zero g.line ≡ true
  pub words : List Assignment
  pub read : read_assignments g.line ≡ done_at words
  pub is : assigned g ≡ assign_all (lent_of (length g.vars) g.shouts g.homes g.params) words (held (take g.vars_used g.vars))

pub record AssignStopped (g : Given) (n place : ℕ) : Type 0 where
  pub is : assigned g ≡ refused_at n place
  pub early : AssignPassed g → ⊥

abbrev pub AssignChecks : Given → Result (Unit {0}) Refused → Type 0
AssignChecks g (Ok u) = AssignPassed g
AssignChecks g (Err e) = AssignStopped g (refusal_number e.why) e.place
