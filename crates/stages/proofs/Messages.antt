-- Document 02, E7: the message of a `?` on a missing value, a table for each of its sentences. Every row computes.
use Prim.Native.Nat.{ℕ}
use Prim.Native.String.{String}
use mathlib.Core.Path.{◌≡◌, refl}
use mathlib.Core.Bool.{Bool, true, false, ◌&&◌}
use mathlib.Core.List.{List, [], ◌∷◌}
use lib.Dec.{eqb}
use Rattle.stages.specs.Bytes.{Text, text, eq_text}
use Rattle.stages.specs.Outcome.{refused_at, demands_at, done_at, ◌then◌, choose}
use Rattle.stages.specs.Images.{image}
use Rattle.stages.specs.Line.{expand_line}
use Rattle.stages.specs.Call.{Answer, answered}
use Rattle.stages.proofs.Recipes.{Settings, Case, pairs_of, all_pass}

-- what is set: a home with a blank and a pattern byte, a value with blanks, an empty one; `y` and `z` are unset
abbrev set : Settings
set = ("HOME", "/h *") ∷ ("e", "") ∷ ("x", "a  b") ∷ []

abbrev houses : Settings
houses = ("crew", "/c d") ∷ []

-- a line that demands this message, and one that is refused
abbrev asks : String → String → Case
asks s m = record { line = s; vars = set; homes = houses; paths = []; params = "p q" ∷ []; answer = demands_at (text m) 0 }

abbrev refuses : String → ℕ → Case
refuses s n = record { line = s; vars = set; homes = houses; paths = []; params = []; answer = refused_at n 0 }

-- "On 13 the operand is now expanded first, tilde as in E1"; "Its bytes without marks are written"
asked : List Case
asked =
    asks "${base:?no base file chosen}" "no base file chosen"
    ∷ asks "${y?}" ""
    ∷ asks "a${e:?$x}b" "a  b"
    ∷ asks "${y?'a'\"$x\"\\*$1}" "aa  b*p q"
    ∷ asks "${y?~/b} c" "/h */b"
    ∷ asks "${y?~crew}" "/c d"
    ∷ asks "${y?a~}" "a~"
    ∷ asks "\"${y?~'a'}\"" "~'a'"
    ∷ asks "${y?$((1+2))${#x}}" "34"
    ∷ asks "$((${y?n}))" "n"
    ∷ asks "${x%${y?b}}" "b"
    ∷ asks "${10?ten}" "ten"
    ∷ record { line = "${e?a}"; vars = set; homes = []; paths = []; params = []; answer = done_at ([], set) }
    ∷ record { line = "${x:?a}"; vars = set; homes = []; paths = []; params = []; answer = done_at ("a" ∷ "b" ∷ [], set) }
    ∷ []

-- "and its own refusals come in place of 13"; an inner message comes first
own : List Case
own =
    refuses "${y?$((1/0))}" 18
    ∷ refuses "${y?$((x))}" 15
    ∷ refuses "${y?${x%[[.a.]]}}" 19
    ∷ refuses "${y?$!}" 10
    ∷ asks "${y?a${z?inner}}" "inner"
    ∷ asks "${z=${y?b}}" "b"
    ∷ []

-- the answer of the expander's line with a message buffer, once all tables are checked
answer : String → Text → Answer
unfolding answered expand_line
answer s m =
    answered (record { work = []; vars = []; vars_used = 0; homes = []; paths = []; params = []; line = text s; out = []; message = m; shouts = false })
    (expand_line (record { lent = record { room = 8192; homes = []; params = []; shouts = false }; out = 8192; paths = [] }) (text s) (pairs_of set) then λ r.
    done_at (image r.0, r.1))

-- a line, the buffer that is lent, the number that answers, the length that it gives, and the buffer then
record Told : Type 0 where
  line : String
  lent : String
  number : ℕ
  size : ℕ
  left : String

holds : Told → Answer → Bool
holds t a = eqb a.number t.number && (eqb a.message_length t.size && eq_text a.message (text t.left))

all_hold : List Told → Bool
unfolding holds answer choose
all_hold [] = true
all_hold (t ∷ l) = holds t (answer t.line (text t.lent)) && all_hold l

-- "written from the buffer's start, cut to the buffer, and the answer gives the length written"; "On every other answer the message length is 0 and the
-- buffer keeps its bytes; on 13 the bytes behind the message are kept."
buffers : List Told
buffers =
    record { line = "${y?abc}"; lent = "-----"; number = 13; size = 3; left = "abc--" }
    ∷ record { line = "${y?abc}"; lent = "---"; number = 13; size = 3; left = "abc" }
    ∷ record { line = "${y?abc}"; lent = "--"; number = 13; size = 2; left = "ab" }
    ∷ record { line = "${y?abc}"; lent = ""; number = 13; size = 0; left = "" }
    ∷ record { line = "${y?}"; lent = "--"; number = 13; size = 0; left = "--" }
    ∷ record { line = "${z=b}${y?$z}"; lent = "--"; number = 13; size = 1; left = "b-" }
    ∷ record { line = "${y?$((1/0))}"; lent = "--"; number = 18; size = 0; left = "--" }
    ∷ record { line = "$("; lent = "--"; number = 9; size = 0; left = "--" }
    ∷ record { line = "${x?abc}"; lent = "--"; number = 0; size = 0; left = "--" }
    ∷ []

messages : all_pass asked ≡ true
unfolding all_pass asked
messages = refl

own_refusals : all_pass own ≡ true
unfolding all_pass own
own_refusals = refl

told : all_hold buffers ≡ true
unfolding all_hold buffers
told = refl
