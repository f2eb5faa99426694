-- Document 01, "Units and expansion", and document 02, E5 and E14: what is lent to an expansion, what a parameter holds, and stores.
use Rattle.std.specs.Prelude.{ℕ, zero, suc, Bool, true, false, ◌&&◌, List, [], ◌∷◌, leb}
use Rattle.std.proofs.Math.Option.{Option, none, some}
use Rattle.stages.specs.Numbers.{unserved, variable_room, unset_name, image_limit}
use Rattle.stages.specs.Bytes.{Text}
use Rattle.stages.specs.Outcome.{Outcome, refused, done}
use Rattle.stages.specs.Images.{Pairs, lookup, stored, flat, image_length, or_empty}
use Rattle.stages.specs.Syntax.{Colon, with_colon, no_colon, Param, var, nth}

-- what is lent to the expansion of a line beside its variables
pub record Lent : Type 0 where
  pub room : ℕ  -- of the variables' buffer
  pub homes : Pairs
  pub params : List Text  -- E5: "positional parameters, lent as a fields image"
  pub shouts : Bool  -- E14: "a switch, off by default"

-- E5: the parameter of a number, from 1 on; beyond the list it is unset. Never asked of 0, which is 10 in reading
unfoldable pub numbered : ℕ → List Text → Option Text
numbered k [] = none
numbered zero (t ∷ l) = none
numbered (suc zero) (t ∷ l) = some t
numbered (suc (suc k)) (t ∷ l) = numbered (suc k) l

-- what a parameter holds, if it is set
unfoldable pub holding : Lent → Pairs → Param → Option Text
unfolding lookup numbered
holding a v (var x) = lookup x v
holding a v (nth k) = numbered k a.params

-- "the value, nothing if unset"
unfoldable pub value : Lent → Pairs → Param → Text
unfolding holding
value a v x = or_empty (holding a v x)

-- E14: what is looked up must be set, if the switch is on: "refused on an unset parameter with new number 25, at the moment it is looked up"
unfoldable pub or_shout : Bool → Option Text → Outcome Text
or_shout false o = done (or_empty o)
or_shout true none = refused unset_name
or_shout true (some t) = done t

-- E14: the value that "the plain form, the length, the four removals" look up
unfoldable pub sought : Lent → Pairs → Param → Outcome Text
unfolding or_shout holding
sought a v x = or_shout a.shouts (holding a v x)

-- "missing": "unset, or with the colon also empty"
unfoldable pub absent : Colon → Option Text → Bool
absent colon none = true
absent with_colon (some []) = true
absent no_colon (some []) = false
absent colon (some (b ∷ t)) = false

unfoldable pub missing : Lent → Colon → Param → Pairs → Bool
unfolding absent holding
missing a colon x v = absent colon (holding a v x)

-- "A store that makes the image longer than its buffer or 8,192 is 20."
unfoldable pub store : ℕ → Text → Text → Pairs → Outcome Pairs
unfolding stored image_length
store room x t v =
    elim (leb (image_length (flat (stored x t v))) room && leb (image_length (flat (stored x t v))) image_limit) [
      | true ↦ done (stored x t v)
      | false ↦ refused variable_room
    ]

-- E5: "`=` on one stays 10". Never asked of a number, which reading refuses
unfoldable pub store_in : Lent → Param → Text → Pairs → Outcome Pairs
unfolding store
store_in a (var x) t v = store a.room x t v
store_in a (nth k) t v = refused unserved
