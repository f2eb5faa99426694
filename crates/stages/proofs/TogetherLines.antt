-- Document 02, E8: words that stay together and words that do not, by each clause of the test; why each clause stands in it; and two calls of which the law
-- speaks. Every row computes.
use Prim.Native.String.{String}
use mathlib.Core.Path.{◌≡◌, refl}
use mathlib.Core.Bool.{Bool, true, false, ◌&&◌, ◌||◌, not}
use mathlib.Core.List.{List, [], ◌∷◌}
use lib.ListN.{length, replicate}
use Rattle.stages.specs.Numbers.{accepted, work_least, image_limit}
use Rattle.stages.specs.Bytes.{text}
use Rattle.stages.specs.Outcome.{refused_at, demands_at, done_at, choose}
use Rattle.stages.specs.Images.{image, held}
use Rattle.stages.specs.Read.{Words, read_line}
use Rattle.stages.specs.Call.{Given, expander}
use Rattle.stages.specs.Together.{dollars_quoted, signs_quoted, everywhere, no_lists, no_ifs, plain_sums, together, but_ifs, Differ}
use Rattle.stages.proofs.Recipes.{Settings, Case, texts_of, all_pass}
use Rattle.stages.proofs.Demand.{output}
use Rattle.stages.proofs.Together.{IsImage, Stays, same_field}

-- WORDS

-- a line that is one word, and whether each clause holds of it, in the request's order
record Row : Type 0 where
  line : String
  clauses : List Bool

abbrev stays : String → Row
stays s = record { line = s; clauses = true ∷ true ∷ true ∷ true ∷ true ∷ [] }

-- a word that fails one clause alone
abbrev bare_dollar : String → Row
bare_dollar s = record { line = s; clauses = false ∷ true ∷ true ∷ true ∷ true ∷ [] }

abbrev bare_sign : String → Row
bare_sign s = record { line = s; clauses = true ∷ false ∷ true ∷ true ∷ true ∷ [] }

abbrev a_list : String → Row
a_list s = record { line = s; clauses = true ∷ true ∷ false ∷ true ∷ true ∷ [] }

abbrev a_mention : String → Row
a_mention s = record { line = s; clauses = true ∷ true ∷ true ∷ false ∷ true ∷ [] }

abbrev dollar_in_sum : String → Row
dollar_in_sum s = record { line = s; clauses = true ∷ true ∷ true ∷ true ∷ false ∷ [] }

clauses_of : Words → List Bool
unfolding dollars_quoted signs_quoted everywhere
clauses_of (refused_at n place) = []
clauses_of (demands_at t place) = []
clauses_of (done_at []) = []
clauses_of (done_at (w ∷ [])) =
    dollars_quoted w.parts ∷ signs_quoted w.parts ∷ everywhere no_lists w.parts ∷ everywhere no_ifs w.parts ∷ everywhere plain_sums w.parts ∷ []
clauses_of (done_at (w ∷ u ∷ ws)) = []

eq_bool : Bool → Bool → Bool
eq_bool true x = x
eq_bool false x = not x

eq_bools : List Bool → List Bool → Bool
unfolding eq_bool
eq_bools [] [] = true
eq_bools [] (y ∷ m) = false
eq_bools (x ∷ l) [] = false
eq_bools (x ∷ l) (y ∷ m) = eq_bool x y && eq_bools l m

every : List Bool → Bool
every [] = true
every (x ∷ l) = x && every l

holds : Row → Bool
unfolding clauses_of eq_bools every together read_line choose
holds r = eq_bools (clauses_of (read_line (text r.line))) r.clauses && eq_bool (together (text r.line)) (every r.clauses)

all_hold : List Row → Bool
unfolding holds
all_hold [] = true
all_hold (r ∷ l) = holds r && all_hold l

together_words : List Row
together_words =
    stays "\"$job\".raw" ∷ stays "a\"${b:-c d}\"'e f'" ∷ stays "~/x\"$y\"" ∷ stays "\"$((1+2))\"" ∷ stays "\"${x%.raw}\"" ∷ stays "a\\ b"
    ∷ stays "abc" ∷ stays "''" ∷ stays "\"\"" ∷ stays " \"$x\"\t" ∷ stays "~crew" ∷ stays "a]-!"
    ∷ stays "'*'" ∷ stays "\"$((n/2))\"" ∷ stays "\"$1\"" ∷ stays "\"$#\""
    ∷ stays "\"*?[\"" ∷ stays "'*?['" ∷ stays "\\*\\?\\[" ∷ stays "'$IFS'" ∷ stays "\\$IFS" ∷ stays "IFS=:" ∷ stays "a$"
    ∷ stays "\"$1${10}$#${#1}\"" ∷ stays "\"${#x}\"" ∷ stays "\"${x:=a b}\"" ∷ stays "\"${x?no $y}\"" ∷ stays "\"${x-$((n+1))}\"" ∷ stays "\"$((IFSX&&n?2:3))\""
    ∷ stays "\"$((n=n+1))\"" ∷ stays "\"${x-$((IFSX+=IFS_=2))}\""
    ∷ stays "\"${x%*}\"" ∷ stays "\"${x%%$y\"$z\"?}\"" ∷ stays "\"${x#~/}\"" ∷ []

other_words : List Row
other_words =
    bare_dollar "$job" ∷ bare_dollar "a${x}" ∷ bare_dollar "${#x}" ∷ bare_dollar "$1" ∷ bare_dollar "$#" ∷ bare_dollar "$((1))" ∷ bare_dollar "\"$x\"$y"
    ∷ bare_dollar "${x-\"$y\"}"
    ∷ bare_sign "*\"$x\"" ∷ bare_sign "a?" ∷ bare_sign "[a]" ∷ bare_sign "\"$x\"*" ∷ bare_sign "~*"
    ∷ a_list "\"$@\"" ∷ a_list "\"$*\"" ∷ a_list "\"${@}\"" ∷ a_list "\"${x-$@}\""
    ∷ a_mention "\"${IFS}\"" ∷ a_mention "\"${x:=$IFS}\"" ∷ a_mention "\"$IFS\"" ∷ a_mention "\"${IFS:=a}\"" ∷ a_mention "\"${#IFS}\""
    ∷ a_mention "\"${x%$IFS}\""
    ∷ a_mention "\"$((IFS))\"" ∷ a_mention "\"$((1?2:-IFS))\"" ∷ a_mention "\"$((IFS=1))\"" ∷ a_mention "\"$((n=IFS))\"" ∷ a_mention "\"$((n&&(IFS+=1)))\""
    ∷ dollar_in_sum "\"$(($n))\"" ∷ dollar_in_sum "\"$((${#n}))\"" ∷ dollar_in_sum "\"${x-$((1+$n))}\"" ∷ dollar_in_sum "\"$(($((1))))\""
    ∷ record { line = "$@"; clauses = false ∷ true ∷ false ∷ true ∷ true ∷ [] }
    ∷ []

stay_together : all_hold together_words ≡ true
unfolding all_hold together_words
stay_together = refl

others : all_hold other_words ≡ true
unfolding all_hold other_words
others = refl

-- lines that are not one word
not_one : (together (text "") || (together (text "a b") || together (text "\"a"))) ≡ false
unfolding together read_line choose
not_one = refl

-- WHY EACH CLAUSE: words that fail it alone, under two sets of tables that differ in IFS and in the paths

abbrev first : String → List String → Case
first s fs =
    let set : Settings = ("IFS", " ") ∷ ("n", "IFS") ∷ ("x", "1 2") ∷ [] in
    record { line = s; vars = set; homes = []; paths = []; params = "p q" ∷ "r" ∷ []; answer = done_at (fs, set) }

abbrev second : String → List String → Case
second s fs =
    let set : Settings = ("IFS", "1") ∷ ("n", "IFS") ∷ ("x", "1 2") ∷ [] in
    record { line = s; vars = set; homes = []; paths = "a" ∷ "b" ∷ []; params = "p q" ∷ "r" ∷ []; answer = done_at (fs, set) }

abbrev stores : String → String → Case
stores ifs s = record {
  line = s;
  vars = ("IFS", ifs) ∷ [];
  homes = [];
  paths = [];
  params = [];
  answer = done_at (ifs ∷ [], ("IFS", ifs) ∷ ("y", ifs) ∷ []);
}

abbrev counts : String → String → Case
counts ifs s =
    let set : Settings = ("IFS", ifs) ∷ ("n", "IFS") ∷ [] in
    record { line = s; vars = set; homes = []; paths = []; params = []; answer = done_at (ifs ∷ [], set) }

reasons : List Case
reasons =
    first "\"$x\"" ("1 2" ∷ [])
    ∷ second "\"$x\"" ("1 2" ∷ [])
    ∷ first "$x" ("1" ∷ "2" ∷ [])
    ∷ second "$x" ("" ∷ " 2" ∷ [])
    ∷ first "?" ("?" ∷ [])
    ∷ second "?" ("a" ∷ "b" ∷ [])
    ∷ first "\"$@\"" ("p q" ∷ "r" ∷ [])
    ∷ first "\"$*\"" ("p q r" ∷ [])
    ∷ second "\"$*\"" ("p q1r" ∷ [])
    ∷ first "\"$IFS\"" (" " ∷ [])
    ∷ second "\"$IFS\"" ("1" ∷ [])
    ∷ first "\"${x%\"${IFS#1}\"*}\"" ("1" ∷ [])
    ∷ second "\"${x%\"${IFS#1}\"*}\"" ("1 2" ∷ [])
    ∷ stores "7" "\"${y:=$IFS}\""
    ∷ stores "8" "\"${y:=$IFS}\""
    ∷ counts "7" "\"$((IFS))\""
    ∷ counts "8" "\"$((IFS))\""
    ∷ counts "7" "\"$((IFS+=0))\""
    ∷ counts "8" "\"$((IFS+=0))\""
    ∷ counts "7" "\"$(($n))\""
    ∷ counts "8" "\"$(($n))\""
    ∷ []

why : all_pass reasons ≡ true
unfolding all_pass reasons
why = refl

-- TWO CALLS

call : String → List String → Given
call ifs paths =
    let vars = image (text "IFS" ∷ text ifs ∷ text "job" ∷ text "north field" ∷ []) in
    record {
      work = replicate work_least 0;
      vars = vars;
      vars_used = length vars;
      homes = image [];
      paths = image (texts_of paths);
      params = image [];
      line = text "\"$job\".raw";
      out = replicate image_limit 0;
      message = [];
      shouts = false;
    }

differ : Differ (call " " []) (call "h:" ("north" ∷ "north field.raw" ∷ []))
unfolding call but_ifs held image
differ = record { line = refl; homes = refl; params = refl; vars = refl }

one_accepts : (expander (call " " [])).number ≡ accepted
unfolding expander call choose
one_accepts = refl

other_accepts : (expander (call "h:" ("north" ∷ "north field.raw" ∷ []))).number ≡ accepted
unfolding expander call choose
other_accepts = refl

job_stays : Stays IsImage (expander (call " " [])) (expander (call "h:" ("north" ∷ "north field.raw" ∷ [])))
unfolding call together choose
job_stays = same_field (call " " []) (call "h:" ("north" ∷ "north field.raw" ∷ [])) refl differ one_accepts other_accepts

job_field : output (expander (call " " [])) ≡ image (text "north field.raw" ∷ [])
unfolding expander call image choose
job_field = refl
