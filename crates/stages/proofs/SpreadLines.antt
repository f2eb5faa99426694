-- Document 02, E5: lines with positional parameters, a table for each of its sentences. Every row computes.
use Prim.Native.Nat.{ℕ}
use Prim.Native.String.{String}
use mathlib.Core.Path.{◌≡◌, refl}
use mathlib.Core.Bool.{Bool, true, false, ◌&&◌}
use mathlib.Core.List.{List, [], ◌∷◌}
use lib.Dec.{eqb}
use lib.ListN.{replicate}
use Rattle.stages.specs.Bytes.{Text, text, eq_text}
use Rattle.stages.specs.Outcome.{Placed, refused_at, done_at, choose, demands_at}
use Rattle.stages.specs.Images.{Pairs}
use Rattle.stages.specs.Line.{Fields, expand_line}
use Rattle.stages.proofs.Recipes.{Settings, Case, all_pass}

-- a line with these parameters, what is set being kept, and its fields
abbrev under : Settings → String → List String → List String → Case
under set s ps fs = record { line = s; vars = set; homes = []; paths = []; params = ps; answer = done_at (fs, set) }

abbrev gives : String → List String → List String → Case
gives s ps fs = under [] s ps fs

-- a line that is refused, whatever the parameters
abbrev refuses : String → ℕ → Case
refuses s n = record { line = s; vars = []; homes = []; paths = []; params = "a" ∷ []; answer = refused_at n 0 }

abbrev two : List String
two = "a" ∷ "b c" ∷ []

-- "`$1` to `$9`, `${10}` and on .., `$#` .. are served, with the length and the operators of 01 on numbered parameters"
numbers : List Case
numbers =
    gives "$# ${#} ${#2} $10 ${10} ${2%% *} ${3-n} ${1:+z} ${1}0" two ("2" ∷ "2" ∷ "3" ∷ "a0" ∷ "b" ∷ "n" ∷ "z" ∷ "a0" ∷ [])
    ∷ gives "$((${#2}+$#))" two ("5" ∷ [])
    ∷ gives "${99999999999999999999-u}" two ("u" ∷ [])
    ∷ gives "\"$2\" $2 ${10}" ("1" ∷ "b c" ∷ "3" ∷ "4" ∷ "5" ∷ "6" ∷ "7" ∷ "8" ∷ "9" ∷ "ten" ∷ []) ("b c" ∷ "b" ∷ "c" ∷ "ten" ∷ [])
    ∷ []

-- "each parameter as its own field, text before joined to the first and text after to the last"; "`"$*"` joins with the first byte of IFS as it then stands, a
-- space if IFS is unset, nothing if empty"; "Bare `$@` and `$*` break between parameters, each part is split by itself"
lists : List Case
lists =
    gives "x\"$@\"y" two ("xa" ∷ "b cy" ∷ [])
    ∷ gives "\"x$@y\"" two ("xa" ∷ "b cy" ∷ [])
    ∷ gives "\"$@$@\"" two ("a" ∷ "b ca" ∷ "b c" ∷ [])
    ∷ gives "x$@y" two ("xa" ∷ "b" ∷ "cy" ∷ [])
    ∷ gives "x$*y" two ("xa" ∷ "b" ∷ "cy" ∷ [])
    ∷ gives "\"$*\" \"${*}\"" two ("a b c" ∷ "a b c" ∷ [])
    ∷ gives "\"${y-$@}\" ${y-\"${@}\"}" two ("a" ∷ "b c" ∷ "a" ∷ "b c" ∷ [])
    ∷ record {
      line = "${IFS:=:}$*\"$*\"";
      vars = [];
      homes = [];
      paths = [];
      params = two;
      answer = done_at ("" ∷ "a" ∷ "b ca:b c" ∷ [], ("IFS", ":") ∷ []);
    }
    ∷ under (("IFS", ":") ∷ []) "\"$*\"" two ("a:b c" ∷ [])
    ∷ under (("IFS", "") ∷ []) "\"$*\"" two ("ab c" ∷ [])
    ∷ under (("IFS", "") ∷ []) "$*" two ("a" ∷ "b c" ∷ [])
    ∷ under (("IFS", ":") ∷ []) "$@" ("a" ∷ ":" ∷ "b:" ∷ []) ("a" ∷ "" ∷ "b" ∷ [])
    ∷ []

-- "if there are none and nothing else came of those quotes, they give no field, not even an empty mark"; a bare one that is empty "gives nothing"
nothing : List Case
nothing =
    gives "\"$@\"" [] []
    ∷ gives "\"$e$@\"" [] []
    ∷ gives "\"${y-$@}\"" [] []
    ∷ gives "\"${y+$@}\"" [] ("" ∷ [])
    ∷ gives "\"$*\"" [] ("" ∷ [])
    ∷ gives "\"x$@\"" [] ("x" ∷ [])
    ∷ gives "a\"$@\"b" [] ("ab" ∷ [])
    ∷ gives "\"\"\"$@\"" [] ("" ∷ [])
    ∷ gives "\"$@\"\"\"" [] ("" ∷ [])
    ∷ gives "\"$@\"" ("" ∷ []) ("" ∷ [])
    ∷ gives "\"$@\"" ("" ∷ "" ∷ []) ("" ∷ "" ∷ [])
    ∷ gives "$@$*" ("" ∷ "" ∷ []) []
    ∷ []

-- "(a leading zero stays 10)"; "`=` on one stays 10"; "so do length and operators on them and on `#`"
refused : List Case
refused =
    refuses "$0" 10
    ∷ refuses "${0}" 10
    ∷ refuses "${01}" 10
    ∷ refuses "${#01}" 10
    ∷ refuses "${1=a}" 10
    ∷ refuses "${1:=`}" 10
    ∷ refuses "${1a}" 11
    ∷ refuses "${#1a}" 11
    ∷ refuses "${@-a}" 10
    ∷ refuses "${@:-a}" 10
    ∷ refuses "${@%a}" 10
    ∷ refuses "${@x}" 11
    ∷ refuses "${@:x}" 11
    ∷ refuses "${@" 7
    ∷ refuses "${@`" 9
    ∷ refuses "${##}" 10
    ∷ refuses "${#-a}" 10
    ∷ refuses "${#@}" 10
    ∷ []

-- "At any depth in operands of `=`, `?`, of removals and in arithmetic, `$@` and `$*` stay 10"
barred : List Case
barred =
    refuses "${y=$@}" 10
    ∷ refuses "${y?\"$*\"}" 10
    ∷ refuses "${1+${y=${z-$@}}}" 10
    ∷ refuses "${y%${z-$@}}" 10
    ∷ refuses "\"${1-${y#\"$@\"}}\"" 10
    ∷ refuses "$(($@))" 10
    ∷ refuses "$((${1-$*}))" 10
    ∷ []

numbers_hold : all_pass numbers ≡ true
unfolding all_pass numbers
numbers_hold = refl

lists_hold : all_pass lists ≡ true
unfolding all_pass lists
lists_hold = refl

nothing_holds : all_pass nothing ≡ true
unfolding all_pass nothing
nothing_holds = refl

refused_hold : all_pass refused ≡ true
unfolding all_pass refused
refused_hold = refl

barred_hold : all_pass barred ≡ true
unfolding all_pass barred
barred_hold = refl

-- LONG ROWS

-- a line with these parameters, v being so many bytes
record Edge : Type 0 where
  line : String
  size : ℕ
  params : List Text
  answer : Placed (List Text)

abbrev eq_texts : List Text → List Text → Bool
eq_texts [] [] = true
eq_texts [] (t ∷ l) = false
eq_texts (t ∷ l) [] = false
eq_texts (t ∷ l) (u ∷ m) = eq_text t u && eq_texts l m

same : Placed (Fields × Pairs) → Placed (List Text) → Bool
same (refused_at n o) (refused_at m p) = eqb n m && eqb o p
same (refused_at n o) (demands_at u p) = false
same (refused_at n o) (done_at b) = false
same (demands_at t o) (refused_at m p) = false
same (demands_at t o) (demands_at u p) = eq_text t u && eqb o p
same (demands_at t o) (done_at b) = false
same (done_at a) (refused_at m p) = false
same (done_at a) (demands_at u p) = false
same (done_at a) (done_at b) = eq_texts a.0 b

passes : Edge → Bool
unfolding same expand_line choose
passes e =
    same (expand_line (record { lent = record { room = 8192; homes = []; params = e.params; shouts = false }; out = 8192; paths = [] }) (text e.line)
    ((text "v", replicate e.size 97) ∷ [])) e.answer

edges_pass : List Edge → Bool
unfolding passes
edges_pass [] = true
edges_pass (e ∷ l) = passes e && edges_pass l

abbrev with_v : String → ℕ → Placed (List Text) → Edge
with_v s n r = record { line = s; size = n; params = []; answer = r }

abbrev two_of : String → ℕ → ℕ → Bool → Edge
two_of s m n true = record { line = s; size = 0; params = replicate m 97 ∷ replicate n 97 ∷ []; answer = done_at (replicate m 97 ∷ replicate n 97 ∷ []) }
two_of s m n false = record { line = s; size = 0; params = replicate m 97 ∷ replicate n 97 ∷ []; answer = refused_at 14 0 }

-- "each a unit": the empty mark of quotes needs room when they open, and gives it back when they close with nothing; all of `$@` is one expansion for 14
edges : List Edge
edges =
    with_v "$v\"$@\"" 2047 (done_at (replicate 2047 97 ∷ []))
    ∷ with_v "$v\"$@\"" 2048 (refused_at 14 0)
    ∷ with_v "$v\"$@\"a" 2047 (done_at (replicate 2048 97 ∷ []))
    ∷ with_v "$v\"$@\"aa" 2047 (refused_at 14 0)
    ∷ with_v "$v\"$*\"a" 2047 (refused_at 14 0)
    ∷ two_of "$@" 1024 1023 true
    ∷ two_of "$@" 1024 1024 false
    ∷ two_of "\"$@\"" 1024 1021 true
    ∷ two_of "\"$@\"" 1024 1022 false
    ∷ []

edges_hold : edges_pass edges ≡ true
unfolding edges_pass edges
edges_hold = refl
