-- Document 02, E10: lines that count, and what the expander and the normaliser leave of the variables' buffer behind them. Every row computes.
use Prim.Native.Nat.{ℕ}
use Prim.Native.String.{String}
use mathlib.Core.Path.{◌≡◌, refl}
use mathlib.Core.Bool.{Bool, true, false, ◌&&◌}
use mathlib.Core.List.{List, [], ◌∷◌, ◌++◌}
use lib.Dec.{eqb}
use lib.ListN.{length, take, replicate}
use Rattle.stages.specs.Numbers.{work_least}
use Rattle.stages.specs.Bytes.{Text, text, eq_text}
use Rattle.stages.specs.Outcome.{refused_at, done_at, choose}
use Rattle.stages.specs.Images.{flat, image}
use Rattle.stages.specs.Call.{Given, Answer, over, expander, normaliser}
use Rattle.stages.proofs.Recipes.{Settings, Case, pairs_of, all_pass}

-- LINES

-- what is set at first: `n`, and `v`, the name of another
abbrev set : String → Settings
set n = ("n", n) ∷ ("v", "k") ∷ []

abbrev counts : String → List String → Settings → Case
counts s fs behind = record { line = s; vars = set "7"; homes = []; paths = []; params = "4" ∷ []; answer = done_at (fs, behind) }

abbrev refuses : String → ℕ → ℕ → Case
refuses s n place = record { line = s; vars = set "7"; homes = []; paths = []; params = []; answer = refused_at n place }

-- "`$((n=n+1))` numbers the setups": what one stores the next one reads, within a word and from word to word; a name may come of an expansion; what is not
-- expanded stores nothing, and of a removal the operand stores before the value is read
lines : List Case
lines =
    counts "$((n=n+1)) $((n=n+1))" ("8" ∷ "9" ∷ []) (set "9")
    ∷ counts "P$((n+=1)).raw $n" ("P8.raw" ∷ "8" ∷ []) (set "8")
    ∷ counts "$n$((n=3))\"$((n*=2))$n\"" ("7366" ∷ []) (set "6")
    ∷ counts "$((a=b=3))$a$b" ("333" ∷ []) (("a", "3") ∷ ("b", "3") ∷ set "7")
    ∷ counts "$(( $v = 3 ))$k" ("33" ∷ []) (("k", "3") ∷ set "7")
    ∷ counts "$(($v$1+=$1))" ("4" ∷ []) (("k4", "4") ∷ set "7")
    ∷ counts "$(($((n=2))+n))" ("4" ∷ []) (set "2")
    ∷ counts "${n-$((n=1))}" ("7" ∷ []) (set "7")
    ∷ counts "${n+$((n=1))}" ("1" ∷ []) (set "1")
    ∷ counts "${n%$((n=27))}$n" ("27" ∷ []) (set "27")
    ∷ counts "${u:=$((n-=1))}" ("6" ∷ []) (("n", "6") ∷ ("u", "6") ∷ ("v", "k") ∷ [])
    ∷ counts "a$((IFS=1))b" ("a" ∷ "b" ∷ []) (("IFS", "1") ∷ set "7")
    ∷ counts "'$((n=1))'" ("$((n=1))" ∷ []) (set "7")
    ∷ []

lines_hold : all_pass lines ≡ true
unfolding all_pass lines
lines_hold = refl

-- a later refusal of the line is the line's
later : List Case
later =
    refuses "$((n=1)) $((n=1/0))" 18 9
    ∷ refuses "$((n=1)) $((n+=v))" 15 9
    ∷ refuses "$((n=1)) $((5=n))" 16 9
    ∷ refuses "$((n=1)) ${n" 7 9
    ∷ []

later_hold : all_pass later ≡ true
unfolding all_pass later
later_hold = refl

-- CALLS

-- a call, and what it leaves: number, the output's new bytes, and the used length and the whole of the variables' buffer
record Called : Type 0 where
  given : Given
  number : ℕ
  out : Text
  used : ℕ
  left : Text

holds : Called → Text → Answer → Bool
holds c out a =
    eqb a.number c.number
    && (eq_text (take a.out_length a.out) out
    && (eqb a.vars_used c.used
    && eq_text a.vars c.left))

-- in an expander and in a normaliser
all_hold : List (Called × Called) → Bool
unfolding holds expander normaliser over choose
all_hold [] = true
all_hold (c ∷ l) = holds c.0 c.0.out (expander c.0.given) && (holds c.1 c.1.out (normaliser c.1.given) && all_hold l)

-- a line where `n` is this, with so many bytes 90 behind the image
abbrev call : String → String → ℕ → Given
call s n more = record {
  work = replicate work_least 7;
  vars = image (flat (pairs_of (set n))) ++ replicate more 90;
  vars_used = length (image (flat (pairs_of (set n))));
  homes = 1 ∷ [];
  paths = 1 ∷ [];
  params = 1 ∷ [];
  line = text s;
  out = replicate 20 165;
  message = [];
  shouts = false;
}

abbrev left : Given → Text → Text → Text → Called
left g out vars rest = record { given = g; number = 0; out = out; used = length vars; left = vars ++ rest }

-- a call that gives one field, and leaves `n` so and these bytes behind the image
abbrev leaves : String → String → ℕ → String → String → Text → Called × Called
leaves s n more field m rest =
    let vars : Text = image (flat (pairs_of (set m))) in
    (left (call s n more) (image (text field ∷ [])) vars rest, left (call s n more) (text field) vars rest)

-- a call that is refused and leaves all as it was
abbrev undoes : String → String → ℕ → ℕ → Called × Called
undoes s n more e =
    let c : Called = record {
      given = call s n more;
      number = e;
      out = [];
      used = length (image (flat (pairs_of (set n))));
      left = image (flat (pairs_of (set n))) ++ replicate more 90;
    } in
    (c, c)

-- "A store may now shorten a value, as in E9, with the same rule for the bytes behind it.": by the last image alone
fills : List (Called × Called)
fills =
    leaves "$((n=8))" "12345" 3 "8" "8" (0 ∷ 0 ∷ 0 ∷ 0 ∷ 90 ∷ 90 ∷ 90 ∷ [])
    ∷ leaves "$((n=12345))" "8" 6 "12345" "12345" (90 ∷ 90 ∷ [])
    ∷ leaves "$((n=8))$((n=123456))" "12345" 3 "8123456" "123456" (90 ∷ 90 ∷ [])
    ∷ leaves "$((n=12345678))$((n=123))" "12345" 3 "12345678123" "123" (0 ∷ 0 ∷ 90 ∷ 90 ∷ 90 ∷ [])
    ∷ leaves "$((n/=1000))" "12345" 0 "12" "12" (0 ∷ 0 ∷ 0 ∷ [])
    ∷ leaves "$n" "12345" 3 "12345" "12345" (90 ∷ 90 ∷ 90 ∷ [])
    ∷ []

fills_hold : all_hold fills ≡ true
unfolding all_hold fills
fills_hold = refl

-- "Number 20 can now come from arithmetic, at the moment of the store."; a refusal undoes what was stored before it, a shorter value too
undone : List (Called × Called)
undone =
    undoes "$((n=123456789))" "12345" 3 20
    ∷ undoes "$((n=123456789)) $((n=1))" "12345" 3 20
    ∷ undoes "$((k=1))" "12345" 3 20
    ∷ undoes "$((n=1)) $((1/0))" "12345" 3 18
    ∷ undoes "$((n=1)) $((n=12345678901/0))" "12345" 3 18
    ∷ undoes "$((n=1)) ${k?}" "12345" 3 13
    ∷ undoes "$((n=1)) 123456789012345678901" "12345" 3 21
    ∷ []

undone_hold : all_hold undone ≡ true
unfolding all_hold undone
undone_hold = refl
