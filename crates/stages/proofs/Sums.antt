-- Document 02, E6 and E10: sums that compute, a table for each sentence; and a side that is not needed is not worked out.
use Prim.Native.Nat.{ℕ}
use Prim.Native.String.{String}
use mathlib.Core.Path.{◌≡◌, refl, sym}
use mathlib.Core.Bool.{Bool, true, false, ◌&&◌}
use mathlib.Core.List.{List, [], ◌∷◌}
use mathlib.Core.Option.{some}
use lib.Dec.{eqb, leb}
use lib.IntN.{ℤ}
use Rattle.stages.specs.Bytes.{Text, text, eq_text}
use Rattle.stages.specs.Outcome.{Outcome, refused, done, ◌>>=◌, choose, demands}
use Rattle.stages.specs.Numbers.{image_limit}
use Rattle.stages.specs.Images.{Pairs, stored, flat, image_length}
use Rattle.stages.specs.Syntax.{var}
use Rattle.stages.specs.Params.{Lent, holding, store, store_in}
use Rattle.stages.specs.Constants.{fits, signed}
use Rattle.stages.specs.Arith.{Op, early, is_true, Tree, binary, choice, name_number, value_of, evaluate, arithmetic_of}
use Rattle.stages.proofs.Bools.{either}
use Rattle.stages.proofs.Outcomes.{done_same, never}
use Rattle.stages.proofs.Stores.{lookup_stored}
use Rattle.stages.proofs.Digits.{signed_valued}
use Rattle.stages.proofs.Shouts.{shout_set}
use Rattle.stages.proofs.Recipes.{Settings, pairs_of, eq_pairs}

-- a text; and the number that refuses it, or its result and all variables behind it
abbrev Sum : Type 0
Sum = String × Outcome (String × Settings)

-- `m` is empty, `n` is 5 and `w` is no number
abbrev set : String → String → String → Settings
set m n w = ("m", m) ∷ ("n", n) ∷ ("w", w) ∷ []

abbrev before : Settings
before = set "" "5" "x"

lent : ℕ → Lent
lent room = record { room = room; homes = []; params = []; shouts = false }

same : Outcome (Text × Pairs) → Outcome (String × Settings) → Bool
same (refused n) (refused m) = eqb n m
same (refused n) (demands u) = false
same (refused n) (done b) = false
same (demands t) b = false
same (done a) (refused m) = false
same (done a) (demands u) = false
same (done a) (done b) = eq_text a.0 (text b.0) && eq_pairs a.1 (pairs_of b.1)

all_same : ℕ → List Sum → Bool
unfolding same arithmetic_of lent choose
all_same room [] = true
all_same room (r ∷ l) = same (arithmetic_of (lent room) (pairs_of before) (text r.0)) r.1 && all_same room l

-- sums that leave the variables as they are
abbrev leaving : List (String × Outcome String) → List Sum
leaving [] = []
leaving (r ∷ l) = (r.0, r.1 >>= λ z. done (z, before)) ∷ leaving l

-- "with C's precedence"
levels : List (String × Outcome String)
levels =
    ("1+2*3", done "7")
    ∷ ("1<<2+1", done "8")
    ∷ ("1<2<<1", done "1")
    ∷ ("3==1<2", done "0")
    ∷ ("5&3==3", done "1")
    ∷ ("4^7&1", done "5")
    ∷ ("1|2^3", done "1")
    ∷ ("0&&1|1", done "0")
    ∷ ("1||0&&0", done "1")
    ∷ ("0||0?1:2", done "2")
    ∷ ("!0+1", done "2")
    ∷ ("~1*2", done "-4")
    ∷ ("- -!~+n", done "0")
    ∷ ("1?2:0?3:4", done "2")
    ∷ ("0?1:0?3:4", done "4")
    ∷ ("1?0?5:6:7", done "6")
    ∷ []

levels_hold : all_same 99 (leaving levels) ≡ true
unfolding all_same levels
levels_hold = refl

-- "Right shift of a negative number rounds down. A shift count outside 0 to 63, or a left shift whose exact product leaves the 64-bit signed range, is 17."
values : List (String × Outcome String)
values =
    ("-1&255", done "255")
    ∷ ("-1^1", done "-2")
    ∷ ("-8|3", done "-5")
    ∷ ("~9223372036854775807", done "-9223372036854775808")
    ∷ ("~9223372036854775807^-1", done "9223372036854775807")
    ∷ ("-3>>1", done "-2")
    ∷ ("-1>>63", done "-1")
    ∷ ("-1<<63", done "-9223372036854775808")
    ∷ ("1<<62", done "4611686018427387904")
    ∷ ("1<<63", refused 17)
    ∷ ("0<<64", refused 17)
    ∷ ("1>>64", refused 17)
    ∷ ("1<<-1", refused 17)
    ∷ ("7&&-7", done "1")
    ∷ ("!7", done "0")
    ∷ ("!m", done "1")
    ∷ []

values_hold : all_same 99 (leaving values) ≡ true
unfolding all_same values
values_hold = refl

-- "read for syntax but not evaluated"; "A constant that is bad or too large is still refused in reading"; E10: "The unneeded sides of E6 store nothing."
sides : List (String × Outcome String)
sides =
    ("0&&1/0", done "0")
    ∷ ("1||w", done "1")
    ∷ ("1?2:1<<64", done "2")
    ∷ ("0?w:3", done "3")
    ∷ ("0&&08", refused 15)
    ∷ ("1||9223372036854775808", refused 17)
    ∷ ("1||)", refused 16)
    ∷ ("1?2", refused 16)
    ∷ ("1:2", refused 16)
    ∷ ("1?:2", refused 16)
    ∷ ("1 2", refused 16)
    ∷ ("1!2", refused 16)
    ∷ ("", refused 16)
    ∷ ("0&&(n=1)", done "0")
    ∷ ("1||(n=1/0)", done "1")
    ∷ ("1?2:(n+=1)", done "2")
    ∷ ("0?n=1:3", done "3")
    ∷ ("0?n=08:3", refused 15)
    ∷ []

sides_hold : all_same 99 (leaving sides) ≡ true
unfolding all_same sides
sides_hold = refl

-- E10: "grouping from the right, lowest in precedence, with a bare name on the left"; "The right side is worked out first, then the name is read if the
-- operator needs it, then the result is stored as its shortest decimal text; it is the value of the assignment."
stores : List Sum
stores =
    ("n=n+1", done ("6", set "" "6" "x"))
    ∷ (" n = 0x10 ", done ("16", set "" "16" "x"))
    ∷ ("n+=2*3", done ("11", set "" "11" "x"))
    ∷ ("n-=6", done ("-1", set "" "-1" "x"))
    ∷ ("n*=n=2", done ("4", set "" "4" "x"))
    ∷ ("n-=n=n-1", done ("0", set "" "0" "x"))
    ∷ ("n/=2", done ("2", set "" "2" "x"))
    ∷ ("n%=3", done ("2", set "" "2" "x"))
    ∷ ("m+=7", done ("7", set "7" "5" "x"))
    ∷ ("k-=2", done ("-2", ("k", "-2") ∷ before))
    ∷ ("z=n==5", done ("1", ("m", "") ∷ ("n", "5") ∷ ("w", "x") ∷ ("z", "1") ∷ []))
    ∷ ("m=n=010", done ("8", set "8" "8" "x"))
    ∷ ("m=n+=m=1", done ("6", set "6" "6" "x"))
    ∷ ("1?n=2:3", done ("2", set "" "2" "x"))
    ∷ ("n=0?1:2", done ("2", set "" "2" "x"))
    ∷ ("n=0||m", done ("0", set "" "0" "x"))
    ∷ ("(n=3)+n", done ("6", set "" "3" "x"))
    ∷ ("n+(n=3)", done ("8", set "" "3" "x"))
    ∷ ("n&&(n=0)", done ("0", set "" "0" "x"))
    ∷ ("(n=0)||(m=9)", done ("1", set "9" "0" "x"))
    ∷ ("w=1", done ("1", set "" "5" "1"))
    ∷ ("n=-9223372036854775807-1", done ("-9223372036854775808", set "" "-9223372036854775808" "x"))
    ∷ []

stores_hold : all_same 99 stores ≡ true
unfolding all_same stores
stores_hold = refl

-- "with a bare name on the left, else 16"; the order of faults: the right side's, the name's, the operation's
faults : List Sum
faults =
    ("(n)=1", refused 16)
    ∷ ("-n=1", refused 16)
    ∷ ("1+n=1", refused 16)
    ∷ ("m&&n=1", refused 16)
    ∷ ("1?n:m=2", refused 16)
    ∷ ("5=08", refused 16)
    ∷ ("n=", refused 16)
    ∷ ("=1", refused 16)
    ∷ ("n=1=2", refused 16)
    ∷ ("n+ =1", refused 16)
    ∷ ("n<<=1", refused 16)
    ∷ ("n&=1", refused 16)
    ∷ ("n=08", refused 15)
    ∷ ("w+=1", refused 15)
    ∷ ("w+=1/0", refused 18)
    ∷ ("n/=0", refused 18)
    ∷ ("n+=9223372036854775807", refused 17)
    ∷ []

faults_hold : all_same 99 faults ≡ true
unfolding all_same faults
faults_hold = refl

-- "Number 20 can now come from arithmetic, at the moment of the store.": the image of the three variables has 18 bytes
full : List Sum
full =
    ("n=9", done ("9", set "" "9" "x"))
    ∷ ("n=10", refused 20)
    ∷ ("n=10/0", refused 18)
    ∷ ("w+=10", refused 15)
    ∷ ("(m=1)+1/0", refused 20)
    ∷ ("1||(n=10)", done ("1", before))
    ∷ ("k=1", refused 20)
    ∷ []

full_holds : all_same 18 full ≡ true
unfolding all_same full
full_holds = refl

-- "The side of `&&`, `||` and `?:` that is not needed is read for syntax but not evaluated": whatever it is, what the sum comes to is the same
module _ (a : Lent) (v w : Pairs) (z : ℤ) where
  pub unneeded_right : (o : Op) (l r : Tree) (y : ℤ) → evaluate a v l ≡ done (z, w) → early o z ≡ some y → evaluate a v (binary o l r) ≡ done (y, w)
  unfolding evaluate
  unneeded_right o l r y e f = rw (e, f)

  pub unneeded_second : (c l r : Tree) → evaluate a v c ≡ done (z, w) → is_true z ≡ true → evaluate a v (choice c l r) ≡ evaluate a w l
  unfolding evaluate choose
  unneeded_second c l r e f = rw (e, f, choose)

  pub unneeded_first : (c l r : Tree) → evaluate a v c ≡ done (z, w) → is_true z ≡ false → evaluate a v (choice c l r) ≡ evaluate a w r
  unfolding evaluate choose
  unneeded_first c l r e f = rw (e, f, choose)

-- E10: "the result is stored as its shortest decimal text; it is the value of the assignment": read again, the name stands for that number
pub store_stored : (a : Lent) (x t : Text) (v w : Pairs) → store_in a (var x) t v ≡ done w → w ≡ stored x t v
unfolding store_in store
store_stored a x t v w e =
    either (leb (image_length (flat (stored x t v))) a.room && leb (image_length (flat (stored x t v))) image_limit)
    (λ q. done_same (sym (rw (q, store) at e)))
    (λ q. absurd (never (sym (rw (q, store) at e))))

pub stored_number : (a : Lent) (x : Text) (v w : Pairs) (z : ℤ) → fits z ≡ true → store_in a (var x) (signed z) v ≡ done w → value_of a w x ≡ done z
unfolding value_of holding name_number
stored_number a x v w z f e = rw (store_stored a x (signed z) v w e, lookup_stored x (signed z) v, shout_set a.shouts (signed z)) (signed_valued z f)
