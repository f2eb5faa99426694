-- Document 02, E14: lines with the switch off and on, a table for each of its sentences. Every row computes.
use Prim.Native.Nat.{ℕ}
use Prim.Native.String.{String}
use mathlib.Core.Path.{◌≡◌, refl}
use mathlib.Core.Bool.{Bool, true, false, ◌&&◌}
use mathlib.Core.List.{List, [], ◌∷◌}
use Rattle.stages.specs.Numbers.{unset_name}
use Rattle.stages.specs.Bytes.{text}
use Rattle.stages.specs.Outcome.{Placed, refused_at, demands_at, done_at, ◌then◌, choose}
use Rattle.stages.specs.Params.{Lent}
use Rattle.stages.specs.Line.{expand_line}
use Rattle.stages.specs.Assign.{assign_line}
use Rattle.stages.proofs.Recipes.{Settings, texts_of, pairs_of, same}

-- what is set: an empty value, a number, a value with a blank; neither IFS nor HOME, nor `u` and `w`
abbrev set : Settings
set = ("e", "") ∷ ("n", "7") ∷ ("x", "a b") ∷ []

-- `u` with this value beside them
abbrev setting : String → Settings
setting t = ("e", "") ∷ ("n", "7") ∷ ("u", t) ∷ ("x", "a b") ∷ []

abbrev Said : Type 0
Said = Placed (List String × Settings)

-- a line, the positional parameters, and the answers with the switch off and on
record Heard : Type 0 where
  line : String
  params : List String
  off : Said
  on : Said

lent : Heard → Bool → Lent
lent r s = record { room = 8192; homes = pairs_of (("jo", "/u/jo") ∷ []); params = texts_of r.params; shouts = s }

-- as a line of words, and as one of assignments
holds : Heard → Bool → Said → Bool
unfolding same lent expand_line choose
holds r s a = same (expand_line (record { lent = lent r s; out = 8192; paths = [] }) (text r.line) (pairs_of set)) a

assigns : Heard → Bool → Said → Bool
unfolding same lent assign_line choose
assigns r s a = same (assign_line (lent r s) (text r.line) (pairs_of set) then λ v. done_at ([], v)) a

all_hold : List Heard → Bool
unfolding holds
all_hold [] = true
all_hold (r ∷ l) = holds r false r.off && (holds r true r.on && all_hold l)

all_assign : List Heard → Bool
unfolding assigns
all_assign [] = true
all_assign (r ∷ l) = assigns r false r.off && (assigns r true r.on && all_assign l)

-- a line that is refused with 25 with the switch on, and else gives this
abbrev heard : String → ℕ → Said → Heard
heard s place off = record { line = s; params = "p" ∷ []; off = off; on = refused_at unset_name place }

abbrev shouts : String → List String → Heard
shouts s fs = heard s 0 (done_at (fs, set))

-- a line on which the switch changes nothing
abbrev either : String → Said → Heard
either s a = record { line = s; params = "p" ∷ []; off = a; on = a }

abbrev alike : String → List String → Heard
alike s fs = either s (done_at (fs, set))

-- "the plain form, the length, the four removals .. are refused on an unset parameter"; an empty value is set; numbers beyond the list are unset
forms : List Heard
forms =
    shouts "$u" []
    ∷ shouts "\"${u}\"" ("" ∷ [])
    ∷ heard "$x \"$u\"" 3 (done_at ("a" ∷ "b" ∷ "" ∷ [], set))
    ∷ shouts "$2${10}" []
    ∷ shouts "${#u}" ("0" ∷ [])
    ∷ shouts "${#2}" ("0" ∷ [])
    ∷ shouts "${u%a}" []
    ∷ shouts "${u%%a}" []
    ∷ shouts "\"${u#a}\"" ("" ∷ [])
    ∷ shouts "${u##a}" []
    ∷ shouts "${2%a}" []
    ∷ alike "$e\"$e\"${#e}${e%a}${e##*}" ("0" ∷ [])
    ∷ alike "$x$1${#x}${x%b}${1#q}" ("a" ∷ "bp3a" ∷ "p" ∷ [])
    ∷ alike "$#${#}" ("11" ∷ [])
    ∷ []

forms_hold : all_hold forms ≡ true
unfolding all_hold forms
forms_hold = refl

-- "The forms with `-`, `=`, `?`, `+` are exempt", and operands that are not used; what stands in one that is used is not
exempt : List Heard
exempt =
    alike "${u-x}${u:-y}${2-z}" ("xyz" ∷ [])
    ∷ either "${u=x}" (done_at ("x" ∷ [], setting "x"))
    ∷ either "${u:=x}$u${#u}" (done_at ("xx1" ∷ [], setting "x"))
    ∷ alike "\"${u+x}${u:+x}${2+x}\"" ("" ∷ [])
    ∷ either "${u?m}" (demands_at (text "m") 0)
    ∷ either "${u:?m}" (demands_at (text "m") 0)
    ∷ alike "${x-$u}${x=$u}${x?$u}${u+$w}" ("a" ∷ "ba" ∷ "ba" ∷ "b" ∷ [])
    ∷ shouts "${u-$w}" []
    ∷ shouts "${x+${#u}}" ("0" ∷ [])
    ∷ heard "${u=$w}" 0 (done_at ([], setting ""))
    ∷ heard "${u?$w}" 0 (demands_at [] 0)
    ∷ heard "${u?no ${#w}}" 0 (demands_at (text "no 0") 0)
    ∷ []

exempt_hold : all_hold exempt ≡ true
unfolding all_hold exempt
exempt_hold = refl

-- "and so are `$@`, `$*` and tilde"; nor does IFS shout where it splits or joins
lists : List Heard
lists =
    alike "\"$@\" \"$*\" $@ $*" ("p" ∷ "p" ∷ "p" ∷ "p" ∷ [])
    ∷ record { line = "$@ $* \"$*\" \"$@\""; params = []; off = done_at ("" ∷ [], set); on = done_at ("" ∷ [], set) }
    ∷ record { line = "\"$*\" $#"; params = "p" ∷ "q" ∷ []; off = done_at ("p q" ∷ "2" ∷ [], set); on = done_at ("p q" ∷ "2" ∷ [], set) }
    ∷ alike "~ ~/a ~jo ~nobody ${u-~}" ("~" ∷ "~/a" ∷ "/u/jo" ∷ "~nobody" ∷ "~" ∷ [])
    ∷ alike "$x" ("a" ∷ "b" ∷ [])
    ∷ shouts "$IFS" []
    ∷ shouts "$HOME" []
    ∷ []

lists_hold : all_hold lists ≡ true
unfolding all_hold lists
lists_hold = refl

-- "A removal is refused before its operand is expanded.": neither a store nor a fault of the operand comes first
removals : List Heard
removals =
    heard "${u%${u=1}}" 0 (done_at ([], setting "1"))
    ∷ heard "${u##$((u=1))}" 0 (done_at ([], setting "1"))
    ∷ heard "${u%$((1/0))}" 0 (refused_at 18 0)
    ∷ heard "${u#${w?m}}" 0 (demands_at (text "m") 0)
    ∷ heard "${u%[[.a.]]}" 0 (refused_at 19 0)
    ∷ shouts "${x%$u}" ("a" ∷ "b" ∷ [])
    ∷ either "${u=ab}${u%b}" (done_at ("aba" ∷ [], setting "ab"))
    ∷ either "${u%$@}" (refused_at 10 0)
    ∷ []

removals_hold : all_hold removals ≡ true
unfolding all_hold removals
removals_hold = refl

-- "a name read in arithmetic": `n=1` reads nothing, `n+=1` reads n behind the right side, a side that is not needed is not read
sums : List Heard
sums =
    shouts "$((u))" ("0" ∷ [])
    ∷ shouts "$((n+u))" ("7" ∷ [])
    ∷ alike "$((e))$((n))" ("07" ∷ [])
    ∷ either "$((u=1))$((u))" (done_at ("11" ∷ [], setting "1"))
    ∷ heard "$((u+=1))" 0 (done_at ("1" ∷ [], setting "1"))
    ∷ either "$((u+=u=2))" (done_at ("4" ∷ [], setting "4"))
    ∷ either "$((u+=1/0))" (refused_at 18 0)
    ∷ alike "$((0&&u))$((1||u))$((1?n:u))$((0?u:n))$((0&&(u+=1)))" ("01770" ∷ [])
    ∷ shouts "$((1&&u))" ("0" ∷ [])
    ∷ shouts "$((0?n:u))" ("0" ∷ [])
    ∷ heard "$((u+1/0))" 0 (refused_at 18 0)
    ∷ either "$((1/0+u))" (refused_at 18 0)
    ∷ either "$((u u))" (refused_at 16 0)
    ∷ shouts "$(($u 1))" ("1" ∷ [])
    ∷ []

sums_hold : all_hold sums ≡ true
unfolding all_hold sums
sums_hold = refl

-- in values of assignments, each seen by the next
values : List Heard
values =
    heard "u=$w" 0 (done_at ([], setting ""))
    ∷ either "u=${w-1}" (done_at ([], setting "1"))
    ∷ either "u=1 n=$u x=$((u+6)) n=7 x=a\\ b" (done_at ([], setting "1"))
    ∷ heard "n=7 u=$((w+1))" 4 (done_at ([], setting "1"))
    ∷ either "u=~/a:~" (done_at ([], setting "~/a:~"))
    ∷ heard "u=${#2}" 0 (done_at ([], setting "0"))
    ∷ either "u=$1$#" (done_at ([], setting "p1"))
    ∷ []

values_hold : all_assign values ≡ true
unfolding all_assign values
values_hold = refl
