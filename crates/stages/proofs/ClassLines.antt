-- Document 02, E3: lines with classes in brackets, a table for each of its sentences. Every row computes.
use Prim.Native.String.{String}
use mathlib.Core.Path.{◌≡◌, refl}
use mathlib.Core.Bool.{true}
use mathlib.Core.List.{List, [], ◌∷◌}
use Rattle.stages.specs.Outcome.{refused_at, done_at}
use Rattle.stages.proofs.Recipes.{Settings, Case, all_pass}

abbrev joined : String → String → String
joined String.[] t = t
joined (String.◌∷◌ c s) t = String.◌∷◌ c (joined s t)

-- what is left of a value when the shortest prefix that the pattern matches is dropped; `p` has a pattern with a class
abbrev set : String → Settings
set v = ("p", "[[:digit:]]") ∷ ("v", v) ∷ []

abbrev removal : String → String
removal p = joined "\"${v#" (joined p "}\"")

abbrev leaves : String → String → String → Case
leaves v p t = record { line = removal p; vars = set v; homes = []; paths = []; params = []; answer = done_at (t ∷ [], set v) }

-- the same pattern is 19, whatever the value
abbrev bad : String → Case
bad p = record { line = removal p; vars = []; homes = []; paths = []; params = []; answer = refused_at 19 0 }

-- "Add the twelve POSIX classes": one may stand anywhere in a bracket, from a value too; no other byte of the bracket means something else
members : List Case
members =
    leaves "7a" "[[:digit:]]" "a"
    ∷ leaves "7a" "$p" "a"
    ∷ leaves "[[:digit:]]a" "\"$p\"" "a"
    ∷ leaves "7a" "[![:alpha:]]" "a"
    ∷ leaves "aa" "[![:alpha:]]" "aa"
    ∷ leaves "]a" "[][:digit:]]" "a"
    ∷ leaves "7a" "[][:digit:]]" "a"
    ∷ leaves "_a" "[[:alpha:][:digit:]_]" "a"
    ∷ leaves "]a" "[[:alpha:]]" "]a"
    ∷ leaves "7a" "[[:xdigit:]-]" "a"
    ∷ []

-- "bytes from 128 are in none"
upper : List Case
upper = leaves "é" "[[:alpha:][:punct:][:cntrl:]]" "é" ∷ leaves "éa" "[![:print:][:cntrl:]]" "a" ∷ []

-- "The name is between active `[:` and `:]`, all its bytes active": an empty mark in it vanishes, a quoted byte of it is 19
name : List Case
name =
    leaves "7a" "[[:di''git:]]" "a"
    ∷ leaves "[a" "[a['[:digit:]']" "a"
    ∷ leaves "[d]a" "'['[:digit:]]" "a"
    ∷ bad "[[:d'i'git:]]"
    ∷ bad "[[:digit':']]"
    ∷ bad "[[:digit:']']"
    ∷ bad "[[:\\digit:]]"
    ∷ []

-- "An unknown name, or `[.` or `[=`, stays 19.": closed or not
unknown : List Case
unknown =
    bad "[[:digits:]]"
    ∷ bad "[[:Digit:]]"
    ∷ bad "[[:dig:]]"
    ∷ bad "[[::]]"
    ∷ bad "[[:]"
    ∷ bad "[[:digit"
    ∷ bad "[[:digit]"
    ∷ bad "[[:digit:"
    ∷ bad "[[:digit:][:x:]]"
    ∷ bad "[[.a.]]"
    ∷ bad "[[=a=]]"
    ∷ bad "[a[.]"
    ∷ []

-- a served class is passed over, and makes no 19 where its bracket has no end: `[` is itself then, and the class's `[` begins a bracket of its bytes
unended : List Case
unended = leaves "[d:" "[[:digit:]" ":" ∷ leaves "[[:" "[[:digit:]" "[[:" ∷ leaves "[g-x" "[[:digit:]-" "x" ∷ []

-- "A class as an end of a range is 19.": closed or not ..
ends : List Case
ends =
    bad "[[:digit:]-a]"
    ∷ bad "[[:digit:]-a"
    ∷ bad "[a-[:digit:]]"
    ∷ bad "[a-[:digit:]"
    ∷ bad "[--[:digit:]]"
    ∷ bad "[[:digit:]--]"
    ∷ bad "[[:digit:]-[:alpha:]]"
    ∷ bad "[]-[:digit:]]"
    ∷ bad "[a-c--[:digit:]]"
    ∷ bad "[[:digit:]-/x]"
    ∷ bad "[a-[.]"
    ∷ []

-- .. and a `-` that is no range's is a member
dashes : List Case
dashes =
    leaves "-a" "[[:digit:]-]" "a"
    ∷ leaves "-a" "[a-c-[:digit:]]" "a"
    ∷ leaves "7a" "[a-c-[:digit:]]" "a"
    ∷ leaves "-a" "[-[:digit:]]" "a"
    ∷ leaves "-a" "[[:digit:]'-'b]" "a"
    ∷ leaves "7a" "[a--[:digit:]]" "a"
    ∷ []

-- for paths: a slash ends the search behind a class, also where a `-` stands before it; in a class's name it makes the name unknown
abbrev finds : String → List String → Case
finds s l = record {
  line = s;
  vars = [];
  homes = [];
  paths = "-" ∷ ".a" ∷ "A" ∷ "[d-/x]" ∷ "a" ∷ "a-b" ∷ "a.b" ∷ "a/1" ∷ "a/b" ∷ "p1" ∷ "p12" ∷ "p2" ∷ "pq" ∷ [];
  params = [];
  answer = done_at (l, []);
}

abbrev bad_path : String → Case
bad_path s = record { line = s; vars = []; homes = []; paths = []; params = []; answer = refused_at 19 0 }

found : List Case
found =
    finds "p[[:digit:]]" ("p1" ∷ "p2" ∷ [])
    ∷ finds "p[[:alnum:]]*" ("p1" ∷ "p12" ∷ "p2" ∷ "pq" ∷ [])
    ∷ finds "[[:upper:]]" ("A" ∷ [])
    ∷ finds "[[:punct:]]*" ("-" ∷ [])
    ∷ finds "a[[:punct:]]b" ("a-b" ∷ "a.b" ∷ [])
    ∷ finds "a/[[:digit:]]" ("a/1" ∷ [])
    ∷ finds "[[:digit:]-/x]" ("[d-/x]" ∷ [])
    ∷ bad_path "[[:di/git:]]"
    ∷ bad_path "a[[:digit:]-[/x]"
    ∷ bad_path "[a-[:/x"
    ∷ []

members_hold : all_pass members ≡ true
unfolding all_pass members
members_hold = refl

upper_hold : all_pass upper ≡ true
unfolding all_pass upper
upper_hold = refl

name_hold : all_pass name ≡ true
unfolding all_pass name
name_hold = refl

unknown_hold : all_pass unknown ≡ true
unfolding all_pass unknown
unknown_hold = refl

unended_hold : all_pass unended ≡ true
unfolding all_pass unended
unended_hold = refl

ends_hold : all_pass ends ≡ true
unfolding all_pass ends
ends_hold = refl

dashes_hold : all_pass dashes ≡ true
unfolding all_pass dashes
dashes_hold = refl

found_hold : all_pass found ≡ true
unfolding all_pass found
found_hold = refl
