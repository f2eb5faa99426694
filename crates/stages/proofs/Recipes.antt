-- Document 01, "Spoiled recipes": C1 to C12 by one statement over one table, and the edges beside them. Every row computes.
use Prim.Native.Nat.{ℕ, ◌+◌}
use Prim.Native.String.{String}
use mathlib.Core.Path.{◌≡◌, refl}
use mathlib.Core.Bool.{Bool, true, false, ◌&&◌}
use mathlib.Core.List.{List, [], ◌∷◌}
use lib.Dec.{eqb}
use lib.ListN.{length, take, replicate}
use Rattle.stages.specs.Numbers.{work_least, image_limit, demanded}
use Rattle.stages.specs.Bytes.{Text, text, eq_text}
use Rattle.stages.specs.Outcome.{Placed, refused_at, done_at, choose, demands_at}
use Rattle.stages.specs.Images.{Pairs, flat, image}
use Rattle.stages.specs.Line.{Around, Fields, expand_line}
use Rattle.stages.specs.Quote.{quoted_line}
use Rattle.stages.specs.Call.{Given, over, expander}

-- what is set, in order of name
abbrev pub Settings : Type 0
Settings = List (String × String)

-- a row: the line, the variables, homes, paths and positional parameters that it meets, and the answer, with all variables as they are behind it
pub record Case : Type 0 where
  pub line : String
  pub vars : Settings
  pub homes : Settings
  pub paths : List String
  pub params : List String
  pub answer : Placed (List String × Settings)

abbrev pub texts_of : List String → List Text
texts_of [] = []
texts_of (s ∷ l) = text s ∷ texts_of l

abbrev pub pairs_of : Settings → Pairs
pairs_of [] = []
pairs_of (p ∷ l) = (text p.0, text p.1) ∷ pairs_of l

abbrev eq_texts : List Text → List Text → Bool
eq_texts [] [] = true
eq_texts [] (t ∷ l) = false
eq_texts (t ∷ l) [] = false
eq_texts (t ∷ l) (u ∷ m) = eq_text t u && eq_texts l m

abbrev pub eq_pairs : Pairs → Pairs → Bool
eq_pairs [] [] = true
eq_pairs [] (t ∷ l) = false
eq_pairs (t ∷ l) [] = false
eq_pairs (t ∷ l) (u ∷ m) = eq_text t.0 u.0 && (eq_text t.1 u.1 && eq_pairs l m)

unfoldable pub same : Placed (Fields × Pairs) → Placed (List String × Settings) → Bool
same (refused_at n o) (refused_at m p) = eqb n m && eqb o p
same (refused_at n o) (demands_at u p) = false
same (refused_at n o) (done_at b) = false
same (demands_at t o) (refused_at m p) = false
same (demands_at t o) (demands_at u p) = eq_text t u && eqb o p
same (demands_at t o) (done_at b) = false
same (done_at a) (refused_at m p) = false
same (done_at a) (demands_at u p) = false
same (done_at a) (done_at b) = eq_texts a.0 (texts_of b.0) && eq_pairs a.1 (pairs_of b.1)

unfoldable pub around : Case → Around
around c = record {
  lent = record { room = 8192; homes = pairs_of c.homes; params = texts_of c.params; shouts = false };
  out = 8192;
  paths = texts_of c.paths;
}

passes : Case → Bool
unfolding same around expand_line choose
passes c = same (expand_line (around c) (text c.line) (pairs_of c.vars)) c.answer

unfoldable pub all_pass : List Case → Bool
unfolding passes
all_pass [] = true
all_pass (c ∷ l) = passes c && all_pass l

-- "Set: `job` = `north field`, `note` empty, `tilt` unset, HOME = `/home/crew`, no homes, IFS unset, paths .."
abbrev season : Settings
season = ("HOME", "/home/crew") ∷ ("job", "north field") ∷ ("note", "") ∷ []

abbrev card : List String
card = ".hid.raw" ∷ "a b.raw" ∷ "n/p1.raw" ∷ "p1.raw" ∷ "p2.raw" ∷ []

-- a row among these tables whose line stores nothing
abbrev gives : String → List String → Case
gives s fs = record { line = s; vars = season; homes = []; paths = card; params = []; answer = done_at (fs, season) }

abbrev C1 : Case
C1 = gives "cp \"$job\" $job" ("cp" ∷ "north field" ∷ "north" ∷ "field" ∷ [])

abbrev C2 : Case
C2 = gives "*.raw" ("a b.raw" ∷ "p1.raw" ∷ "p2.raw" ∷ [])

abbrev C3 : Case
C3 = gives "\"*\".raw" ("*.raw" ∷ [])

abbrev C4 : Case
C4 = gives "$tilt \"$tilt\"" ("" ∷ [])

abbrev C5 : Case
C5 = gives "${tilt:-\"a b\" c}" ("a b" ∷ "c" ∷ [])

abbrev C6 : Case
C6 = record {
  line = "${tilt:=\"a b\"}";
  vars = season;
  homes = [];
  paths = card;
  params = [];
  answer = done_at ("a" ∷ "b" ∷ [], ("HOME", "/home/crew") ∷ ("job", "north field") ∷ ("note", "") ∷ ("tilt", "a b") ∷ []);
}

-- what is set for C7
abbrev colons : Settings
colons = ("HOME", "/home/crew") ∷ ("IFS", ":") ∷ ("job", "north field") ∷ ("note", "") ∷ ("x", ":a::b:") ∷ []

abbrev C7 : Case
C7 = record { line = "$x"; vars = colons; homes = []; paths = card; params = []; answer = done_at ("" ∷ "a" ∷ "" ∷ "b" ∷ [], colons) }

abbrev C8 : Case
C8 = gives "${job%% *} ${job##*o}" ("north" ∷ "rth" ∷ "field" ∷ [])

abbrev C9 : Case
C9 = gives "$((7/-2)) $((-7%3))" ("-3" ∷ "-1" ∷ [])

abbrev C10 : Case
C10 = gives "~/out '~'/out ~nobody" ("/home/crew/out" ∷ "~/out" ∷ "~nobody" ∷ [])

abbrev C11 : Case
C11 = record { line = "${note:?}"; vars = season; homes = []; paths = card; params = []; answer = demands_at [] 0 }

abbrev C12 : Case
C12 = gives "''" ("" ∷ [])

table : List Case
table = C1 ∷ C2 ∷ C3 ∷ C4 ∷ C5 ∷ C6 ∷ C7 ∷ C8 ∷ C9 ∷ C10 ∷ C11 ∷ C12 ∷ []

-- C1 to C12
recipes : all_pass table ≡ true
unfolding all_pass table
recipes = refl

-- a row as a call, in buffers of zeros
abbrev call : Case → Given
call c =
    let vars : Text = image (flat (pairs_of c.vars)) in
    record {
      work = replicate work_least 0;
      vars = over vars (replicate image_limit 0);
      vars_used = length vars;
      homes = image (flat (pairs_of c.homes));
      paths = image (texts_of c.paths);
      params = image (texts_of c.params);
      line = text c.line;
      out = replicate image_limit 0;
      message = [];
      shouts = false;
    }

-- "C1's whole image in hexadecimal .. 32 bytes": what the expander writes to its output
image_of_c1 : take (expander (call C1)).out_length (expander (call C1)).out
    ≡ 1 ∷ 0 ∷ 2 ∷ 99 ∷ 112 ∷ 0 ∷ 11 ∷ 110 ∷ 111 ∷ 114 ∷ 116 ∷ 104 ∷ 32 ∷ 102 ∷ 105 ∷ 101 ∷ 108 ∷ 100
    ∷ 0 ∷ 5 ∷ 110 ∷ 111 ∷ 114 ∷ 116 ∷ 104 ∷ 0 ∷ 5 ∷ 102 ∷ 105 ∷ 101 ∷ 108 ∷ 100 ∷ []
unfolding expander image over choose
image_of_c1 = refl

-- "Fields `it's`, empty, `a b` quote to `'it'\''s' '' 'a b'`."
quoted_example : quoted_line (texts_of ("it's" ∷ "" ∷ "a b" ∷ [])) ≡ text "'it'\\''s' '' 'a b'"
unfolding quoted_line
quoted_example = refl

-- E2: "write a field bare when it is not empty and holds only letters, digits, `.`, `_`, `-` and `/`; all other fields as before"
mixed_example :
    quoted_line (texts_of ("cp" ∷ "-r" ∷ "north field" ∷ "/home/crew/P_09.raw" ∷ "" ∷ "~crew" ∷ "a*" ∷ "x@z" ∷ "[a" ∷ "{a" ∷ "é" ∷ "." ∷ []))
    ≡ text "cp -r 'north field' /home/crew/P_09.raw '' '~crew' 'a*' 'x@z' '[a' '{a' 'é' ."
unfolding quoted_line
mixed_example = refl

-- the number that a line is refused with, or 100 and the count of its fields
verdict : Placed (Fields × Pairs) → ℕ
verdict (refused_at n o) = n
verdict (demands_at t o) = demanded
verdict (done_at r) = 100 + length r.0

alone : Text → Pairs → ℕ
unfolding expand_line verdict choose
alone t v = verdict (expand_line (record { lent = record { room = 8192; homes = []; params = []; shouts = false }; out = 8192; paths = [] }) t v)

record Edge : Type 0 where
  line : Text
  vars : Pairs
  comes : ℕ

abbrev edges_pass : List Edge → Bool
unfolding alone
edges_pass [] = true
edges_pass (e ∷ l) = eqb (alone e.line e.vars) e.comes && edges_pass l

-- "`"$v"` with 2,047 bytes in v passes, ..
abbrev full_row : Edge
full_row = record { line = text "\"$v\""; vars = (text "v", replicate 2047 97) ∷ []; comes = 101 }

-- .. with 2,048 it is 14; ..
abbrev long_row : Edge
long_row = record { line = text "\"$v\""; vars = (text "v", replicate 2048 97) ∷ []; comes = 14 }

-- .. `$((9223372036854775807))` passes, ..
abbrev largest : Edge
largest = record { line = text "$((9223372036854775807))"; vars = []; comes = 101 }

-- .. with `+1` it is 17"
abbrev one_more : Edge
one_more = record { line = text "$((9223372036854775807+1))"; vars = []; comes = 17 }

-- a line of 2,048 bytes passes, one of 2,049 is 5
abbrev full_line : Edge
full_line = record { line = replicate 2048 97; vars = []; comes = 101 }

abbrev long_line : Edge
long_line = record { line = replicate 2049 97; vars = []; comes = 5 }

edges : List Edge
edges = full_row ∷ long_row ∷ largest ∷ one_more ∷ full_line ∷ long_line ∷ []

edges_hold : edges_pass edges ≡ true
unfolding alone edges
edges_hold = refl
