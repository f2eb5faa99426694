-- What a parameter holds, by the images of the variables and of the positional parameters; where its value was found, and whether it is missing by that.
use Rattle.std.specs.Prelude.{ℕ, ◌≤◌, ◌≡◌, Bool, true, false, List, eqb, leb, length, Option as Perhaps, Some, None}
use Rattle.std.proofs.Math.Option.{Option, none, some}
use Rattle.stages.specs.Bytes.{Text, part}
use Rattle.stages.specs.Outcome.{Outcome, pick}
use Rattle.stages.specs.Images.{Pairs, lookup, held, held_texts}
use Rattle.stages.specs.Syntax.{Colon, with_colon, no_colon, Param, var, nth}
use Rattle.stages.specs.Params.{numbered, or_shout}
use Rattle.table.specs.Places.{found_in}
use Rattle.table.specs.declared.Part.{Part}
use Rattle.table_find.specs.Numbered.{numbered_in}

-- a number as the code counts: the greatest one stands for all beyond it
abbrev pub number_limit : ℕ
number_limit = 18446744073709551615

unfoldable pub capped : ℕ → ℕ
capped n = pick (leb n number_limit) n number_limit

-- what a parameter holds, if it is set: the stage's `holding`, where of what is lent the positional parameters alone are asked
unfoldable pub holding_in : List Text → Pairs → Param → Option Text
unfolding lookup numbered
holding_in l v (var x) = lookup x v
holding_in l v (nth k) = numbered k l

-- E14: the value that is looked up, or 25: the stage's `sought`
unfoldable pub sought_in : Bool → List Text → Pairs → Param → Outcome Text
unfolding or_shout holding_in
sought_in shouts l v x = or_shout shouts (holding_in l v x)

-- whether it is 25
abbrev pub is_shout : Bool → Option Text → Bool
is_shout false o = false
is_shout true none = true
is_shout true (some t) = false

-- the image where it is looked up
abbrev pub image_of : Text → Text → Param → Text
image_of vars params (var x) = vars
image_of vars params (nth k) = params

-- where its value is in that
unfoldable pub place_in : Text → Text → Param → Perhaps Part
unfolding found_in numbered_in
place_in vars params (var x) = found_in vars x
place_in vars params (nth k) = numbered_in params k

-- the bytes from `start` to `end` are what it holds
pub record Bears (vars params : Text) (x : Param) (start end : ℕ) : Type 0 where
  pub low : start ≤ end
  pub high : end ≤ length (image_of vars params x)
  pub gets : holding_in (held_texts params) (held vars) x ≡ some (part (image_of vars params x) start end)

-- what an answer says of the bytes
pub data Shown (vars params : Text) (x : Param) : Perhaps Part → Type 0 where
  shown : {p : Part} → Bears vars params x p.from p.to → Shown vars params x (Some p)
  absent : holding_in (held_texts params) (held vars) x ≡ none → Shown vars params x None

pub record Finds (vars params : Text) (x : Param) (r : Perhaps Part) : Type 0 where
  pub is : r ≡ place_in vars params x
  pub shows : Shown vars params x r

-- "missing", by where the value was found
abbrev pub missing_in : Perhaps Part → Colon → Bool
missing_in None c = true
missing_in (Some p) with_colon = eqb p.from p.to
missing_in (Some p) no_colon = false
