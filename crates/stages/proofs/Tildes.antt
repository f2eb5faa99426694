-- Document 02, E1: a tilde inside an operand, by one statement over one table. Every row computes.
use Prim.Native.String.{String}
use mathlib.Core.Path.{◌≡◌, refl}
use mathlib.Core.Bool.{true}
use mathlib.Core.List.{List, [], ◌∷◌}
use Rattle.stages.specs.Bytes.{text}
use Rattle.stages.specs.Outcome.{done_at, demands_at}
use Rattle.stages.proofs.Recipes.{Settings, Case, all_pass}

-- what is set: a home with a blank and a pattern byte, and values that begin with it; `y` is unset
abbrev set : Settings
set = ("HOME", "/h *") ∷ ("n", "/h *7") ∷ ("x", "/h */a") ∷ []

abbrev houses : Settings
houses = ("crew", "/c d") ∷ []

-- a line among these that stores nothing, and its fields
abbrev gives : String → List String → Case
gives s fs = record { line = s; vars = set; homes = houses; paths = []; params = []; answer = done_at (fs, set) }

-- "a bare `~` that begins an operand read as bare text is looked at too, its login ending at the first `/` or the operand's end"
looked : List Case
looked =
    gives "${y-~}" ("/h *" ∷ [])
    ∷ gives "${y:-~/export}" ("/h */export" ∷ [])
    ∷ gives "${y-~crew}" ("/c d" ∷ [])
    ∷ gives "a${x+~crew/b}c" ("a/c d/bc" ∷ [])
    ∷ gives "${y-${y-~/a}}" ("/h */a" ∷ [])
    ∷ []

-- "This covers `-`, `=`, `+` and the four removals, where the directory counts as quoted."
covered : List Case
covered =
    record {
      line = "${y=~/a}";
      vars = set;
      homes = houses;
      paths = [];
      params = [];
      answer = done_at ("/h" ∷ "*/a" ∷ [], ("HOME", "/h *") ∷ ("n", "/h *7") ∷ ("x", "/h */a") ∷ ("y", "/h */a") ∷ []);
    }
    ∷ gives "${x#~}" ("/a" ∷ [])
    ∷ gives "${x##~/}" ("a" ∷ [])
    ∷ gives "${x%~*} ${x%%~*}" ("/h" ∷ "*/a" ∷ "/h" ∷ "*/a" ∷ [])
    ∷ gives "\"${x#~}\" $((${n#~}))" ("/a" ∷ "7" ∷ [])
    ∷ record { line = "${y?~}"; vars = set; homes = houses; paths = []; params = []; answer = demands_at (text "/h *") 0 }
    ∷ []

-- "Operands read as double-quoted text stay without it."; and a `:`, a blank, a quote, a backslash or something before the tilde leaves it literal
literal : List Case
literal =
    gives "\"${y-~}\" \"${x+~/a}\"" ("~" ∷ "~/a" ∷ [])
    ∷ gives "${y-~:a}" ("~:a" ∷ [])
    ∷ gives "${y-~ a}" ("~" ∷ "a" ∷ [])
    ∷ gives "${y-~\"a\"}" ("~a" ∷ [])
    ∷ gives "${y-\\~}" ("~" ∷ [])
    ∷ gives "${y-$z~}" ("~" ∷ [])
    ∷ gives "${y-~nobody/a}" ("~nobody/a" ∷ [])
    ∷ []

operands : all_pass looked ≡ true
unfolding all_pass looked
operands = refl

forms : all_pass covered ≡ true
unfolding all_pass covered
forms = refl

left_literal : all_pass literal ≡ true
unfolding all_pass literal
left_literal = refl
