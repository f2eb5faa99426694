-- What the program's arguments say: `recipe [--shout] [--] [PARAMETER]...`. Document 02, E14: "Add a switch, off by default."
use Prim.Native.Char.{code}
use Rattle.std.specs.Prelude.{Bool, true, false, ◌&&◌, not, List, [], ◌∷◌, ◌++◌, eqb}
use Rattle.stages.specs.Bytes.{Text, text, eq_text}
use Rattle.stages.specs.Outcome.{pick}
use Rattle.recipe_arguments.specs.declared.Word.{Word}
use Rattle.recipe_arguments.specs.declared.Word.TheVariants.{Shout, End, Unknown, Parameter}

abbrev pub is_empty : Text → Bool
is_empty [] = true
is_empty (b ∷ t) = false

-- a hyphen, and something behind it
abbrev pub is_hyphened : Text → Bool
is_hyphened [] = false
is_hyphened (b ∷ t) = eqb b (code "-") && not (is_empty t)

abbrev pub word_of : Text → Word
word_of t = pick (eq_text t (text "--shout")) Shout (pick (eq_text t (text "--")) End (pick (is_hyphened t) Unknown Parameter))

-- where options may come, and behind them
abbrev pub word_in : Bool → Text → Word
word_in true t = word_of t
word_in false t = Parameter

-- what arguments say: whether unset names shout, whether options may still come, whether all were known, and the parameters
pub record Hearing : Type 0 where
  pub shouts : Bool
  pub options : Bool
  pub known : Bool
  pub params : List Text

-- nothing is said yet
abbrev pub silent : Hearing
silent = record { shouts = false; options = true; known = true; params = [] }

abbrev pub heard_as : Hearing → Word → Text → Hearing
heard_as h Shout t = record { shouts = true; options = true; known = h.known; params = h.params }
heard_as h End t = record { shouts = h.shouts; options = false; known = h.known; params = h.params }
heard_as h Unknown t = record { shouts = h.shouts; options = true; known = false; params = h.params }
heard_as h Parameter t = record { shouts = h.shouts; options = false; known = h.known; params = h.params ++ t ∷ [] }

-- with an argument more
abbrev pub heard : Hearing → Text → Hearing
heard h t = heard_as h (word_in h.options t) t

abbrev pub heard_all : Hearing → List Text → Hearing
heard_all h [] = h
heard_all h (t ∷ ts) = heard_all (heard h t) ts
