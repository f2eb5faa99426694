-- The contracts determine every answer. For `braced_at`: two items that show the same item of the stage are equal, since each is what the stage's is taken
-- back to.
use Rattle.std.specs.Prelude.{Result, Ok, Err}
use Prim.Native.Nat.{ℕ, suc, ◌+◌, ◌-◌, ◌≤◌, ◌<◌}
use native.Mathlib.Omega.{arith}
use mathlib.Core.Path.{◌≡◌, sym, ap, ◌∙◌, subst}
use mathlib.Core.Bool.{Bool, true, false}
use Rattle.stages.specs.Bytes.{Text, part}
use Rattle.stages.specs.Outcome.{pick}
use Rattle.stages.specs.Syntax.{var, nth, bytes_of, parameters}
use Rattle.stages.specs.Syntax as syntax
use Rattle.stages.specs.Items.{fault, stop, byte, paren, quote, value_of, count, spread, inner, sum, home_of, is_first_digit, spread_of}
use Rattle.stages.specs.Items as items
use Rattle.read_mode.proofs.Determined.{taken_back, mode_back, mode_back_lem, form_back, form_back_lem}
use Rattle.read_mode.specs.Modes.{mode_of, form_of}
use Rattle.read_mode.specs.declared.Mode.{Mode}
use Rattle.read_brace.specs.Shows.{Shows, Finds, is_at, called, param_of, is_plain, sign_length}
use Rattle.read_brace.specs.declared.Param.{Param}
use Rattle.read_brace.specs.declared.Item.{Item}
use Rattle.read_brace.specs.declared.Item.TheVariants.{Stop, Byte, Paren, Quote, Value, Count, Total, Spread, Inner, Sum, Home}
use Rattle.text.specs.Cases.{is_escaped, is_apart, spread_of as givenAs}
use Rattle.text.specs.Refusals.{refusal_number}
use Rattle.text.specs.declared.refusal.Refusal.{Refusal}
use Rattle.text.proofs.Refusals.{refusal_same}
use Rattle.text.proofs.Cases.{escape_back, spread_back}
use Rattle.text.proofs.Determined.{one_answer}

-- a parameter by what it is, where it begins and where it ends
abbrev standing : Bool → ℕ → ℕ → Param
standing n a e = record { numbered = n; from = a; to = e }

abbrev param_back : syntax.Param → ℕ → ℕ → Param
param_back (var x) a e = standing false a e
param_back (nth n) a e = standing true a e

-- the item again, by the stage's; of a refusal, which is none, any
abbrev item_back : ℕ → items.Item → Item
item_back at (fault e) = Total 0
item_back at (stop k) = Stop (at + k)
item_back at (byte q b k) = Byte (is_escaped q) b (at + suc k)
item_back at (paren b n) = Paren b n
item_back at (quote m k) = Quote (mode_back m) (at + suc k)
item_back at (value_of x k) =
    Value (param_back x (pick (is_plain x k) (at + 1) (at + 2)) (pick (is_plain x k) (at + suc k) (at + k))) (at + suc k)
item_back at (count (bytes_of x) k) = Count (param_back x (at + 3) (at + k)) (at + suc k)
item_back at (count parameters k) = Total (at + suc k)
item_back at (spread a k) = Spread (is_apart a) (at + suc k)
item_back at (inner x f m k) = Inner (param_back x (at + 2) (at + suc k - sign_length f)) (form_back f) (mode_back m) (at + suc k)
item_back at sum = Sum (at + 3)
item_back at (home_of x k) = Home (at + suc k)

standing_back : (n : Bool) (x : Text) (f t a e : ℕ) → f ≡ a → t ≡ e → standing n f t ≡ param_back (called n x) a e
standing_back true x f t a e p q = ap (λ (y : ℕ). standing true y t) p ∙ ap (λ (y : ℕ). standing true a y) q
standing_back false x f t a e p q = ap (λ (y : ℕ). standing false y t) p ∙ ap (λ (y : ℕ). standing false a y) q

param_back_lem : (text : Text) (p : Param) (a e : ℕ) → p.from ≡ a → p.to ≡ e → p ≡ param_back (param_of text p) a e
param_back_lem text p a e f t = standing_back p.numbered (part text p.from p.to) p.from p.to a e f t

next_back : (at next : ℕ) → at < next → next ≡ at + suc (next - suc at)
next_back at next l = omega arith

stop_back : (at next : ℕ) → at ≤ next → next ≡ at + (next - at)
stop_back at next l = omega arith

-- where a parameter ends, by where its item does
value_to : (b : Bool) (next to at k : ℕ) → next ≡ at + suc k → next ≡ pick b to (to + 1) → to ≡ pick b (at + suc k) (at + k)
value_to true next to at k e f = omega arith
value_to false next to at k e f = omega arith

count_to : (next to at k : ℕ) → next ≡ at + suc k → next ≡ to + 1 → to ≡ at + k
count_to next to at k e f = omega arith

inner_to : (next to at k n : ℕ) → next ≡ at + suc k → next ≡ to + n → to ≡ at + suc k - n
inner_to next to at k n e f = omega arith

byte_same : {p q : Bool} {b k n : ℕ} → p ≡ q → k ≡ n → Byte p b k ≡ Byte q b n
byte_same p q = cc

quote_same : {m n : Mode} {k j : ℕ} → m ≡ n → k ≡ j → Quote m k ≡ Quote n j
quote_same p q = cc

value_same : {p q : Param} {k n : ℕ} → p ≡ q → k ≡ n → Value p k ≡ Value q n
value_same p q = cc

count_same : {p q : Param} {k n : ℕ} → p ≡ q → k ≡ n → Count p k ≡ Count q n
count_same p q = cc

spread_same : {p q : Bool} {k n : ℕ} → p ≡ q → k ≡ n → Spread p k ≡ Spread q n
spread_same p q = cc

item_back_lem : (text : Text) (at d : ℕ) (r : Item) (i : items.Item) → Shows text at d r i → r ≡ item_back at i
item_back_lem text at d (Stop next) i h = ap Stop (stop_back at next h.1) ∙ sym (ap (item_back at) h.0)
item_back_lem text at d (Byte q b next) i h = byte_same (escape_back q) (next_back at next h.1.onward) ∙ sym (ap (item_back at) h.0)
item_back_lem text at d (Paren b n) i h = sym (ap (item_back at) h.0)
item_back_lem text at d (Quote m next) i h = quote_same (mode_back_lem m) (next_back at next h.1.onward) ∙ sym (ap (item_back at) h.0)
item_back_lem text at d (Value p next) i h =
    let n = next_back at next h.1.onward in
    let t = value_to (is_plain (param_of text p) (next - suc at)) next p.to at (next - suc at) n h.3.ends in
    value_same (param_back_lem text p _ _ h.3.starts t) n ∙ sym (ap (item_back at) h.0)
item_back_lem text at d (Count p next) i h =
    let n = next_back at next h.1.onward in
    count_same (param_back_lem text p _ _ h.3 (count_to next p.to at (next - suc at) n h.4)) n ∙ sym (ap (item_back at) h.0)
item_back_lem text at d (Total next) i h = ap Total (next_back at next h.1.onward) ∙ sym (ap (item_back at) h.0)
item_back_lem text at d (Spread a next) i h = spread_same (spread_back a) (next_back at next h.1.onward) ∙ sym (ap (item_back at) h.0)
item_back_lem text at d (Inner p f m next) i h =
    let n = next_back at next h.1.onward in
    let q = param_back_lem text p _ _ h.5 (inner_to next p.to at (next - suc at) (sign_length (form_of f)) n h.6) in
    let e = form_back_lem f in
    let o = mode_back_lem m in
    let w : Inner p f m next ≡ Inner (param_back (param_of text p) (at + 2) (at + suc (next - suc at) - sign_length (form_of f))) (form_back (form_of f))
    (mode_back (mode_of m)) (at + suc (next - suc at)) = cc in
    w ∙ sym (ap (item_back at) h.0)
item_back_lem text at d (Sum next) i h = ap Sum h.1 ∙ sym (ap (item_back at) h.0)
item_back_lem text at d (Home to) i h = ap Home (next_back at to h.1.onward) ∙ sym (ap (item_back at) h.0)

-- an item is no refusal
no_fault : (text : Text) (at d : ℕ) (r : Item) (e : ℕ) → Shows text at d r (fault e) → ⊥
no_fault text at d (Stop next) e h = let z : ◌≡◌ {A = ℕ} 0 1 = cc (h.0) in omega arith
no_fault text at d (Byte q b next) e h = let z : ◌≡◌ {A = ℕ} 0 1 = cc (h.0) in omega arith
no_fault text at d (Paren b n) e h = let z : ◌≡◌ {A = ℕ} 0 1 = cc (h.0) in omega arith
no_fault text at d (Quote m next) e h = let z : ◌≡◌ {A = ℕ} 0 1 = cc (h.0) in omega arith
no_fault text at d (Value p next) e h = let z : ◌≡◌ {A = ℕ} 0 1 = cc (h.0) in omega arith
no_fault text at d (Count p next) e h = let z : ◌≡◌ {A = ℕ} 0 1 = cc (h.0) in omega arith
no_fault text at d (Total next) e h = let z : ◌≡◌ {A = ℕ} 0 1 = cc (h.0) in omega arith
no_fault text at d (Spread a next) e h = let z : ◌≡◌ {A = ℕ} 0 1 = cc (h.0) in omega arith
no_fault text at d (Inner p f m next) e h = let z : ◌≡◌ {A = ℕ} 0 1 = cc (h.0) in omega arith
no_fault text at d (Sum next) e h = let z : ◌≡◌ {A = ℕ} 0 1 = cc (h.0) in omega arith
no_fault text at d (Home to) e h = let z : ◌≡◌ {A = ℕ} 0 1 = cc (h.0) in omega arith

pub braced_at_determined : (text : Text) (at d : ℕ) (i : items.Item) (r s : Result Item Refusal) → Finds text at d r i → Finds text at d s i → r ≡ s
braced_at_determined text at d i (Ok r) (Ok s) p q = ap Ok (item_back_lem text at d r i p ∙ sym (item_back_lem text at d s i q))
braced_at_determined text at d i (Ok r) (Err f) p q = absurd (no_fault text at d r (refusal_number f) (subst (Shows text at d r) q p))
braced_at_determined text at d i (Err e) (Ok s) p q = absurd (no_fault text at d s (refusal_number e) (subst (Shows text at d s) p q))
braced_at_determined text at d i (Err e) (Err f) p q = ap Err (refusal_same e f cc)

pub is_at_determined : (text : Text) (b : ℕ) (r s : Bool) → r ≡ is_at b text → s ≡ is_at b text → r ≡ s
is_at_determined text b r s = one_answer

pub is_first_digit_determined : (b : ℕ) (r s : Bool) → r ≡ is_first_digit b → s ≡ is_first_digit b → r ≡ s
is_first_digit_determined b r s = one_answer

pub is_apart_determined : (b : ℕ) (r s : Bool) → givenAs r ≡ spread_of b → givenAs s ≡ spread_of b → r ≡ s
is_apart_determined b r s p q = taken_back givenAs is_apart spread_back r s (p ∙ sym q)
