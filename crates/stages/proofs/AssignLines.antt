-- Document 02, E9: lines of assignments, a table for each of its sentences. Every row computes.
use Prim.Native.Nat.{ℕ}
use Prim.Native.String.{String}
use mathlib.Core.Path.{◌≡◌, refl}
use mathlib.Core.Bool.{Bool, true, false, ◌&&◌}
use mathlib.Core.List.{List, [], ◌∷◌, ◌++◌}
use lib.Dec.{eqb}
use lib.ListN.{length, replicate}
use Rattle.stages.specs.Numbers.{work_least}
use Rattle.stages.specs.Bytes.{Text, text, eq_text}
use Rattle.stages.specs.Outcome.{refused_at, demands_at, done_at, ◌then◌, choose}
use Rattle.stages.specs.Images.{flat, image}
use Rattle.stages.specs.Assign.{assign_line}
use Rattle.stages.specs.Call.{Given, Answer, over, assigner}
use Rattle.stages.proofs.Recipes.{Settings, Case, pairs_of, same, around}

-- LINES

-- a row as Recipes has it, whose line is one of assignments and gives no fields
passes : Case → Bool
unfolding same around assign_line choose
passes c = same (assign_line (around c).lent (text c.line) (pairs_of c.vars) then λ v. done_at ([], v)) c.answer

all_assign : List Case → Bool
unfolding passes
all_assign [] = true
all_assign (c ∷ l) = passes c && all_assign l

-- what is set; `a`, `b`, `out` and `x` are not
abbrev crew : Settings
crew = ("HOME", "/h *") ∷ ("base", "b  c") ∷ []

abbrev houses : Settings
houses = ("jo", "/u/jo") ∷ []

abbrev row : String → Settings → Settings → Case
row s before behind = record { line = s; vars = before; homes = houses; paths = "raw" ∷ []; params = "p q" ∷ []; answer = done_at ([], behind) }

-- a line that sets one more variable, behind these
abbrev sets : String → String → String → Case
sets s x t = row s crew (("HOME", "/h *") ∷ ("base", "b  c") ∷ (x, t) ∷ [])

abbrev refuses : String → ℕ → ℕ → Case
refuses s n place = record { line = s; vars = crew; homes = houses; paths = []; params = "p q" ∷ []; answer = refused_at n place }

-- "a name, a bare `=` and a value, perhaps empty"; "parameters, arithmetic and quote removal, but no splitting and no paths"
values : List Case
values =
    sets "out=~/jobs:$base" "out" "/h */jobs:b  c"
    ∷ sets "x=" "x" ""
    ∷ sets "x=\"x y\"" "x" "x y"
    ∷ sets "x=$base" "x" "b  c"
    ∷ sets "x=*[r]aw?" "x" "*[r]aw?"
    ∷ sets "x=r*" "x" "r*"
    ∷ sets "x=a=b" "x" "a=b"
    ∷ sets "x='a'\"$1\"\\ " "x" "ap q "
    ∷ sets "x=$((2+3))${#base}$#${base%c}" "x" "541b  "
    ∷ sets "x_1=\"\"''" "x_1" ""
    ∷ sets " \tx=y\n" "x" "y"
    ∷ row "" crew crew
    ∷ []

-- "tilde expansion after the `=` and after each bare literal `:` outside operands (the login then also ends at a `:`)"
tildes : List Case
tildes =
    sets "x=b:~:c" "x" "b:/h *:c"
    ∷ sets "x=~:~jo:~jo/a:~no:b~" "x" "/h *:/u/jo:/u/jo/a:~no:b~"
    ∷ sets "x=b=~" "x" "b=~"
    ∷ sets "x=::~" "x" "::/h *"
    ∷ sets "x=$y:~" "x" ":/h *"
    ∷ sets "x='':~" "x" ":/h *"
    ∷ sets "x=':'~" "x" ":~"
    ∷ sets "x=\":~\"" "x" ":~"
    ∷ sets "x=\\:~" "x" ":~"
    ∷ sets "x=:'~'" "x" ":~"
    ∷ sets "x=:\\~" "x" ":~"
    ∷ sets "x=~$y" "x" "~"
    ∷ sets "x=~'jo'" "x" "~jo"
    ∷ sets "x=${y-:~}:${y-~}" "x" ":~:/h *"
    ∷ sets "x=${y-~:a}" "x" "~:a"
    ∷ []

-- "Assignments take effect left to right, each seen by the next"
orders : List Case
orders =
    row "a=1 b=$a" [] (("a", "1") ∷ ("b", "1") ∷ [])
    ∷ row "a=1 b=$a$a a=$b" [] (("a", "11") ∷ ("b", "11") ∷ [])
    ∷ row "base=" crew (("HOME", "/h *") ∷ ("base", "") ∷ [])
    ∷ row "HOME=/x y=~" crew (("HOME", "/x") ∷ ("base", "b  c") ∷ ("y", "/x") ∷ [])
    ∷ row "a=${b:=~}" (("HOME", "/h *") ∷ []) (("HOME", "/h *") ∷ ("a", "/h *") ∷ ("b", "/h *") ∷ [])
    ∷ row "a=${a=1}2" [] (("a", "12") ∷ [])
    ∷ row "IFS=: a=$IFS" [] (("IFS", ":") ∷ ("a", ":") ∷ [])
    ∷ []

-- "else 11, met at the first byte that does not fit, before its other faults"; "an operator with no word open stays 8"
unfit : List Case
unfit =
    refuses "1a=x" 11 0 ∷ refuses "a =b" 11 0 ∷ refuses "a\\=b" 11 0 ∷ refuses "'a'=b" 11 0 ∷ refuses "a" 11 0 ∷ refuses "a=1 b" 11 4
    ∷ refuses "=a" 11 0 ∷ refuses "a'='b" 11 0 ∷ refuses "$a=1" 11 0 ∷ refuses "~=1" 11 0 ∷ refuses "a+=1" 11 0 ∷ refuses "a-b=1" 11 0
    ∷ refuses "`" 11 0 ∷ refuses "a`" 11 0 ∷ refuses "a\\" 11 0 ∷ refuses "a;" 11 0 ∷ refuses "'" 11 0 ∷ refuses "a=1 b `" 11 4
    ∷ refuses ";" 8 0 ∷ refuses "a=1 |" 8 4 ∷ refuses "#a=1" 8 0
    ∷ []

-- behind the `=` the usual faults; "`$@` and `$*` in values are 10"; "19 only from removals"
faults : List Case
faults =
    refuses "a=1;" 8 0 ∷ refuses "a=`" 9 0 ∷ refuses "a='" 7 0 ∷ refuses "a=\\" 7 0 ∷ refuses "a=$'\\c'" 11 0 ∷ refuses "a=${b!}" 11 0
    ∷ refuses "a=$@" 10 0 ∷ refuses "a=\"$*\"" 10 0 ∷ refuses "a=${y-$@}" 10 0 ∷ refuses "a=1 b=\"${1+$@}\"" 10 4
    ∷ refuses "a=1 b=$((a/0))" 18 4 ∷ refuses "a=1 b=$((base))" 15 4 ∷ refuses "a=${base%[[.b.]]}" 19 0 ∷ sets "x=[[.b.]]" "x" "[[.b.]]"
    ∷ record { line = "a=1 b=${y?no $a}"; vars = crew; homes = []; paths = []; params = []; answer = demands_at (text "no 1") 4 }
    ∷ []

values_hold : all_assign values ≡ true
unfolding all_assign values
values_hold = refl

tildes_hold : all_assign tildes ≡ true
unfolding all_assign tildes
tildes_hold = refl

orders_hold : all_assign orders ≡ true
unfolding all_assign orders
orders_hold = refl

unfit_holds : all_assign unfit ≡ true
unfolding all_assign unfit
unfit_holds = refl

faults_hold : all_assign faults ≡ true
unfolding all_assign faults
faults_hold = refl

-- CALLS

-- a call of the assigner, and what it leaves: number, used length, and the whole of the variables' buffer
record Called : Type 0 where
  given : Given
  number : ℕ
  used : ℕ
  left : Text

holds : Called → Answer → Bool
holds c a = eqb a.number c.number && (eqb a.vars_used c.used && eq_text a.vars c.left)

all_hold : List Called → Bool
unfolding holds assigner over choose
all_hold [] = true
all_hold (c ∷ l) = holds c (assigner c.given) && all_hold l

-- a line among these variables with so many bytes 90 behind their image, homes and paths that are malformed or not
abbrev call : String → Settings → ℕ → Text → Given
call s v more homes = record {
  work = replicate work_least 7;
  vars = image (flat (pairs_of v)) ++ replicate more 90;
  vars_used = length (image (flat (pairs_of v)));
  homes = homes;
  paths = [];
  params = 1 ∷ [];
  line = text s;
  out = [];
  message = [];
  shouts = false;
}

-- a call that leaves this image and these bytes behind it
abbrev leaves : String → Settings → ℕ → Settings → Text → Called
leaves s v more w rest = record {
  given = call s v more (1 ∷ []);
  number = 0;
  used = length (image (flat (pairs_of w)));
  left = image (flat (pairs_of w)) ++ rest;
}

-- a call that is refused and leaves all as it was
abbrev undoes : String → Settings → ℕ → Text → ℕ → Called
undoes s v more homes n = record {
  given = call s v more homes;
  number = n;
  used = length (image (flat (pairs_of v)));
  left = image (flat (pairs_of v)) ++ replicate more 90;
}

-- "the used length then falls, and bytes behind the new image are zero up to the old used length (the one given), and kept beyond it": by the last image alone
fills : List Called
fills =
    leaves "v=y" (("v", "abcde") ∷ []) 3 (("v", "y") ∷ []) (0 ∷ 0 ∷ 0 ∷ 0 ∷ 90 ∷ 90 ∷ 90 ∷ [])
    ∷ leaves "v=abcde" (("v", "y") ∷ []) 6 (("v", "abcde") ∷ []) (90 ∷ 90 ∷ [])
    ∷ leaves "v= v=abcdef" (("v", "abcde") ∷ []) 3 (("v", "abcdef") ∷ []) (90 ∷ 90 ∷ [])
    ∷ leaves "v=abcdefgh v=abc" (("v", "abcde") ∷ []) 3 (("v", "abc") ∷ []) (0 ∷ 0 ∷ 90 ∷ 90 ∷ 90 ∷ [])
    ∷ leaves "v= w=a" (("v", "abcdef") ∷ []) 0 (("v", "") ∷ ("w", "a") ∷ []) []
    ∷ []

-- "a store too long is 20"; "A refusal undoes all."; "The job takes neither paths nor output": those given are malformed or of no byte
undone : List Called
undone =
    undoes "v=abcdefghi" (("v", "abcde") ∷ []) 3 (1 ∷ []) 20
    ∷ undoes "v=abcdefghi v=a" (("v", "abcde") ∷ []) 3 (1 ∷ []) 20
    ∷ undoes "v= w=$((1/0))" (("v", "abcde") ∷ []) 3 (1 ∷ []) 18
    ∷ undoes "v= w=$@" (("v", "abcde") ∷ []) 3 (1 ∷ []) 10
    ∷ undoes "v= w" (("v", "abcde") ∷ []) 3 (1 ∷ []) 11
    ∷ undoes "v=" (("v", "abcde") ∷ []) 3 (2 ∷ []) 3
    ∷ []

fills_hold : all_hold fills ≡ true
unfolding all_hold fills
fills_hold = refl

undone_hold : all_hold undone ≡ true
unfolding all_hold undone
undone_hold = refl
