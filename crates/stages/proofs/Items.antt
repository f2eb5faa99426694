-- Laws of items: a fault's number is from 7 to 12, a text ends only where its mode lets it end, names are names, and bytes are bytes of the text but
-- for a literal `$` or backslash, and what an escape says.
use Prim.Native.Nat.{ℕ, zero, suc, ◌+◌, ◌-◌, ◌*◌, ◌≤◌}
use Prim.Native.Char.{code}
use mathlib.Core.Path.{◌≡◌, refl}
use mathlib.Core.Bool.{Bool, true, false, ◌&&◌}
use mathlib.Core.List.{[], ◌∷◌}
use native.Mathlib.Omega.{arith as omegas}
use lib.Dec.{eqb}
use lib.ListN.{length}
use Rattle.stages.specs.Numbers.{unended, unserved, bad_syntax, too_deep}
use Rattle.stages.specs.Bytes.{Text, text, between, is_in, is_blank, is_operator, is_name_start, is_name_byte, is_digit, is_login_byte, span}
use Rattle.stages.specs.Outcome.{pick}
use Rattle.stages.specs.Images.{is_name}
use Rattle.stages.specs.Escapes.{Said}
use Rattle.stages.specs.Syntax.{Param, var, nth, Counted, bytes_of, parameters, Spread, Lists, served, barred}
use Rattle.stages.specs.Syntax.{Colon, with_colon, no_colon, Escape, Side, suffix, prefix, Form, Start, Mode, word, value, bare, single, double}
use Rattle.stages.specs.Syntax.{quoted_operand, arith}
use Rattle.stages.specs.Items.{Item, fault, stop, byte, paren, quote, value_of, count, spread, inner, sum, home_of, item, ended, item_of, sort, Sort}
use Rattle.stages.specs.Items.{backquote, closes, operator, quotes, quotes2, backslash, escape, dollar, bad, opening, closing, tilde, literal}
use Rattle.stages.specs.Items.{wrong, quotable, not_served, is_bare_text, behind_backslash, said_item}
use Rattle.stages.specs.Items.{is_numbered, behind_sign, behind_colon, behind_removal, behind_name}
use Rattle.stages.specs.Items.{behind_length, is_first_digit, number_of, name_then, behind_hash, lists_in, spread_at, behind_list_colon, behind_list}
use Rattle.stages.specs.Items.{braced_list, braced}
use Rattle.stages.specs.Items.{parenthesis, expansion, outer, opened, closed, ends_login, behind_tilde, begins_tilde}
use Rattle.stages.proofs.Bools.{and_both, between_bounds, between_true}
use Rattle.stages.proofs.Texts.{span_all, span_more, span_stop, start_name_byte}
use Rattle.stages.proofs.Outcomes.{Each}
use Rattle.stages.proofs.Escapes.{Sayable, escape_says}
use Rattle.stages.proofs.Escapes as escapes

-- a name is a name, and a number is from 1 on
abbrev pub IsParam : Param → Type 0
IsParam (var x) = is_name x ≡ true
IsParam (nth k) = 1 ≤ k

abbrev pub IsCounted : Counted → Type 0
IsCounted (bytes_of x) = IsParam x
IsCounted parameters = Unit {0}

-- a fault's number is from 7 to 12, the item ends its text only where `s` allows it, P holds of its bytes, and its parameter is one
pub data Fair (P : ℕ → Type 0) : Bool → Item → Type 0 where
  faults : {s : Bool} {n : ℕ} → between unended n too_deep ≡ true → Fair P s (fault n)
  stops : {k : ℕ} → Fair P true (stop k)
  a_byte : {s : Bool} {q : Escape} {b k : ℕ} → P b → Fair P s (byte q b k)
  a_paren : {s : Bool} {b n : ℕ} → P b → Fair P s (paren b n)
  a_quote : {s : Bool} {m : Mode} {k : ℕ} → Fair P s (quote m k)
  a_value : {s : Bool} {x : Param} {k : ℕ} → IsParam x → Fair P s (value_of x k)
  a_count : {s : Bool} {x : Counted} {k : ℕ} → IsCounted x → Fair P s (count x k)
  a_spread : {s : Bool} {j : Spread} {k : ℕ} → Fair P s (spread j k)
  an_inner : {s : Bool} {x : Param} {f : Form} {m : Mode} {k : ℕ} → IsParam x → Fair P s (inner x f m k)
  a_sum : {s : Bool} → Fair P s sum
  a_home : {s : Bool} {x : Text} {k : ℕ} → Each P x → Fair P s (home_of x k)

pick_where : {P : ℕ → Type 0} {s : Bool} (x : Bool) {i j : Item} → (x ≡ true → Fair P s i) → Fair P s j → Fair P s (pick x i j)
pick_where true h k = h refl
pick_where false h k = k

pick_fair : {P : ℕ → Type 0} {s : Bool} (x : Bool) {i j : Item} → Fair P s i → Fair P s j → Fair P s (pick x i j)
pick_fair x h k = pick_where x (λ _. h) k

-- the longest run from a byte that begins a name
span_name : (b : ℕ) (t : Text) → is_name_start b ≡ true → is_name (span is_name_byte (b ∷ t)).0 ≡ true
unfolding is_name
span_name b t e = rw (span_more is_name_byte b t (start_name_byte b e)) (and_both e (span_all is_name_byte t))

-- a number that begins with a digit from 1 on is from 1 on
number_grows : (n : ℕ) (t : Text) → n ≤ number_of n t
unfolding number_of
number_grows n [] = omega omegas
number_grows n (b ∷ t) = omega (omegas, number_grows (n * 10 + (b - code "0")) t)

first_bounds : (b : ℕ) → is_first_digit b ≡ true → (code "1" ≤ b) × (b ≤ code "9")
unfolding is_first_digit
first_bounds b e = between_bounds (code "1") b (code "9") e

first_digit : (b : ℕ) → is_first_digit b ≡ true → is_digit b ≡ true
unfolding is_digit
first_digit b e = let h = first_bounds b e in between_true (code "0") b (code "9") (omega (omegas, h.0)) h.1

span_number : (b : ℕ) (t : Text) → is_first_digit b ≡ true → 1 ≤ number_of 0 (span is_digit (b ∷ t)).0
span_number b t e = rw (span_more is_digit b t (first_digit b e)) (grown (first_bounds b e) (number_grows (0 * 10 + (b - code "0")) (span is_digit t).0))
  where
    grown : (code "1" ≤ b) × (b ≤ code "9") → 0 * 10 + (b - code "0") ≤ number_of (0 * 10 + (b - code "0")) (span is_digit t).0
        → 1 ≤ number_of 0 (b ∷ (span is_digit t).0)
    grown h k = unfold number_of in omega (omegas, h.0, k)

module _ (P : ℕ → Type 0) (s : Bool) where
  wrong_fair : (n : ℕ) (t : Text) → between unended n too_deep ≡ true → Fair P s (wrong n t)
  unfolding wrong
  wrong_fair n [] h = faults refl
  wrong_fair n (b ∷ t) h = pick_fair (eqb b (code "`")) (faults refl) (faults h)

  module _ (x : Param) (e : IsParam x) where
    sign_fair : (m : Mode) (colon : Colon) (k b : ℕ) → Fair P s (behind_sign m x colon k b)
    unfolding behind_sign
    sign_fair m colon k b = pick_fair (is_numbered x && eqb b (code "=")) (faults refl) (an_inner e)

    colon_fair : (m : Mode) (k : ℕ) (t : Text) → Fair P s (behind_colon m x k t)
    unfolding behind_colon
    colon_fair m k [] = wrong_fair bad_syntax [] refl
    colon_fair m k (b ∷ t) = pick_fair (is_in b (text "-=?+")) (sign_fair m with_colon k b) (wrong_fair bad_syntax (b ∷ t) refl)

    removal_fair : (f : Side) (sign k : ℕ) (t : Text) → Fair P s (behind_removal x f sign k t)
    unfolding behind_removal
    removal_fair f sign k [] = an_inner e
    removal_fair f sign k (b ∷ t) = pick_fair (eqb b sign) (an_inner e) (an_inner e)

    name_fair : (m : Mode) (k : ℕ) (t : Text) → Fair P s (behind_name m x k t)
    unfolding behind_name
    name_fair m k [] = wrong_fair bad_syntax [] refl
    name_fair m k (b ∷ t) =
        pick_fair (eqb b (code "}")) (a_value e)
        (pick_fair (eqb b (code ":")) (colon_fair m (suc k) t)
        (pick_fair (is_in b (text "-=?+")) (sign_fair m no_colon k b)
        (pick_fair (eqb b (code "%")) (removal_fair suffix b k t)
        (pick_fair (eqb b (code "#")) (removal_fair prefix b k t) (wrong_fair bad_syntax (b ∷ t) refl)))))

    length_fair : (k : ℕ) (t : Text) → Fair P s (behind_length x k t)
    unfolding behind_length
    length_fair k [] = wrong_fair bad_syntax [] refl
    length_fair k (b ∷ t) = pick_fair (eqb b (code "}")) (a_count e) (wrong_fair bad_syntax (b ∷ t) refl)

  named_fair : (f : Param → ℕ → Text → Item) → ((x : Param) (k : ℕ) (u : Text) → IsParam x → Fair P s (f x k u)) → (t : Text) → Fair P s (name_then f t)
  unfolding name_then
  named_fair f h [] = wrong_fair unserved [] refl
  named_fair f h (b ∷ t) =
      pick_where (is_name_start b)
      (λ e. h (var (span is_name_byte (b ∷ t)).0) (length (span is_name_byte (b ∷ t)).0) (span is_name_byte (b ∷ t)).1 (span_name b t e))
      (pick_where (is_first_digit b)
      (λ e. h (nth (number_of 0 (span is_digit (b ∷ t)).0)) (length (span is_digit (b ∷ t)).0) (span is_digit (b ∷ t)).1 (span_number b t e))
      (wrong_fair unserved (b ∷ t) refl))

  hash_fair : (t : Text) → Fair P s (behind_hash t)
  unfolding behind_hash
  hash_fair [] = wrong_fair unserved [] refl
  hash_fair (b ∷ t) =
      pick_fair (eqb b (code "}")) (a_count tt) (named_fair (λ x k u. behind_length x (k + 3) u) (λ x k u e. length_fair x e (k + 3) u) (b ∷ t))

  spread_fair : (l : Lists) (b k : ℕ) → Fair P s (spread_at l b k)
  unfolding spread_at
  spread_fair served b k = a_spread
  spread_fair barred b k = faults refl

  list_colon_fair : (t : Text) → Fair P s (behind_list_colon t)
  unfolding behind_list_colon
  list_colon_fair [] = wrong_fair bad_syntax [] refl
  list_colon_fair (b ∷ t) = pick_fair (is_in b (text "-=?+")) (faults refl) (wrong_fair bad_syntax (b ∷ t) refl)

  list_fair : (c : ℕ) (t : Text) → Fair P s (behind_list c t)
  unfolding behind_list
  list_fair c [] = wrong_fair bad_syntax [] refl
  list_fair c (b ∷ t) =
      pick_fair (eqb b (code "}")) a_spread
      (pick_fair (eqb b (code ":")) (list_colon_fair t)
      (pick_fair (is_in b (text "-=?+%#")) (faults refl) (wrong_fair bad_syntax (b ∷ t) refl)))

  braced_list_fair : (l : Lists) (c : ℕ) (t : Text) → Fair P s (braced_list l c t)
  unfolding braced_list
  braced_list_fair served c t = list_fair c t
  braced_list_fair barred c t = faults refl

  braced_fair : (m : Mode) (d : ℕ) (t : Text) → Fair P s (braced m d t)
  unfolding braced
  braced_fair m zero t = faults refl
  braced_fair m (suc d) [] = wrong_fair unserved [] refl
  braced_fair m (suc d) (b ∷ t) =
      pick_fair (eqb b (code "#")) (hash_fair t)
      (pick_fair (is_in b (text "@*")) (braced_list_fair (lists_in m) b t)
      (named_fair (λ x k u. behind_name m x (k + 2) u) (λ x k u e. name_fair x e m (k + 2) u) (b ∷ t)))

  parenthesis_fair : (d : ℕ) (t : Text) → Fair P s (parenthesis d t)
  unfolding parenthesis
  parenthesis_fair zero [] = faults refl
  parenthesis_fair (suc d) [] = faults refl
  parenthesis_fair zero (b ∷ t) = pick_fair (eqb b (code "(")) (faults refl) (faults refl)
  parenthesis_fair (suc d) (b ∷ t) = pick_fair (eqb b (code "(")) a_sum (faults refl)

  opened_fair : (m : Mode) (b : ℕ) → P b → Fair P s (opened m b)
  unfolding opened
  opened_fair (word s) b p = a_byte p
  opened_fair (value s) b p = a_byte p
  opened_fair (bare s l) b p = a_byte p
  opened_fair (single e) b p = a_byte p
  opened_fair (double l) b p = a_byte p
  opened_fair (quoted_operand l) b p = a_byte p
  opened_fair (arith n) b p = a_paren p

outer_fair : (P : ℕ → Type 0) (t : Text) → Fair P true (outer t)
unfolding outer
outer_fair P [] = faults refl
outer_fair P (b ∷ t) = pick_fair (eqb b (code ")")) stops (pick_fair (eqb b (code "`")) (faults refl) (faults refl))

closed_fair : (P : ℕ → Type 0) (m : Mode) (b : ℕ) (t : Text) → P b → Fair P true (closed m b t)
unfolding closed
closed_fair P (word s) b t p = a_byte p
closed_fair P (value s) b t p = a_byte p
closed_fair P (bare s l) b t p = a_byte p
closed_fair P (single e) b t p = a_byte p
closed_fair P (double l) b t p = a_byte p
closed_fair P (quoted_operand l) b t p = a_byte p
closed_fair P (arith zero) b t p = outer_fair P t
closed_fair P (arith (suc n)) b t p = a_paren p

-- a run's bytes are bytes of the text
run_each : (P : ℕ → Type 0) (f : ℕ → Bool) (t : Text) → Each P t → Each P (span f t).0
unfolding span
run_each P f [] h = tt
run_each P f (b ∷ t) h = go (f b) refl (run_each P f t h.1)
  where
    go : (x : Bool) → f b ≡ x → Each P (span f t).0 → Each P (span f (b ∷ t)).0
    go true e ih = rw (span_more f b t e) (h.0, ih)
    go false e ih = rw (span_stop f (b ∷ t) e) tt

tilde_fair : (P : ℕ → Type 0) (s : Bool) (m : Mode) (b : ℕ) (t : Text) → Each P (b ∷ t) → Fair P s (behind_tilde m b t)
unfolding behind_tilde
tilde_fair P s m b t h = pick_fair (ends_login m (span is_login_byte t).1) (a_home (run_each P is_login_byte t h.1)) (a_byte h.0)

-- P holds of every byte that may stand for itself without being one of the text
module _ (P : ℕ → Type 0) (p : (b : ℕ) → between 1 b 255 ≡ true → P b) where
  escaped_fair : (s : Bool) (m : Mode) (t : Text) → Each P t → Fair P s (behind_backslash m t)
  unfolding behind_backslash
  escaped_fair s m [] h = faults refl
  escaped_fair s m (b ∷ t) h = pick_fair (eqb b (code "\n")) (faults refl) (pick_fair (quotable m b) (a_byte h.0) (a_byte (p (code "\\") refl)))

  said_fair : (s : Bool) {o : Said} → Sayable o → Fair P s (said_item o)
  unfolding said_item
  said_fair s (escapes.a_byte {b = b} e) = a_byte (p b e)
  said_fair s (escapes.a_fault e) = faults e

  expansion_fair : (s : Bool) (m : Mode) (d : ℕ) (t : Text) → Fair P s (expansion m d t)
  unfolding expansion
  expansion_fair s m d [] = a_byte (p (code "$") refl)
  expansion_fair s m d (b ∷ t) =
      pick_where (is_name_start b) (λ e. a_value (span_name b t e))
      (pick_fair (eqb b (code "(")) (parenthesis_fair P s d t)
      (pick_fair (eqb b (code "{")) (braced_fair P s m d t)
      (pick_where (is_first_digit b) (λ e. a_value (let h = first_bounds b e in omega (omegas, h.0)))
      (pick_fair (eqb b (code "#")) (a_count tt)
      (pick_fair (is_in b (text "@*")) (spread_fair P s (lists_in m) b 1)
      (pick_fair (not_served b) (faults refl) (pick_fair (is_bare_text m && eqb b (code "'")) a_quote (a_byte (p (code "$") refl)))))))))

  of_fair : (s : Sort) (m : Mode) (d b : ℕ) (t : Text) → Each P (b ∷ t) → Fair P true (item_of s m d b t)
  unfolding item_of
  of_fair backquote m d b t h = faults refl
  of_fair closes m d b t h = stops
  of_fair operator m d b t h = faults refl
  of_fair quotes m d b t h = a_quote
  of_fair quotes2 m d b t h = a_quote
  of_fair backslash m d b t h = escaped_fair true m t h.1
  of_fair escape m d b t h = said_fair true (escape_says t)
  of_fair dollar m d b t h = expansion_fair true m d t
  of_fair bad m d b t h = faults refl
  of_fair opening m d b t h = opened_fair P true m b h.0
  of_fair closing m d b t h = closed_fair P m b t h.0
  of_fair tilde m d b t h = tilde_fair P true m b t h
  of_fair literal m d b t h = a_byte h.0

  pub item_passes : (m : Mode) (d b : ℕ) (t : Text) → Each P (b ∷ t) → Fair P true (item m d (b ∷ t))
  unfolding item
  item_passes m d b t h = of_fair (sort m b) m d b t h

-- the same where bytes do not matter
abbrev pub AnyByte : ℕ → Type 0
AnyByte b = Unit {0}

any_bytes : (t : Text) → Each AnyByte t
any_bytes [] = tt
any_bytes (b ∷ t) = (tt, any_bytes t)

pub item_fair : (m : Mode) (d b : ℕ) (t : Text) → Fair AnyByte true (item m d (b ∷ t))
item_fair m d b t = item_passes AnyByte (λ b e. tt) m d b t (any_bytes (b ∷ t))

-- an item ends its text or goes on
pub data View (P : ℕ → Type 0) : Item → Type 0 where
  ends : {k : ℕ} → View P (stop k)
  on : {i : Item} → Fair P false i → View P i

pub view : {P : ℕ → Type 0} {i : Item} → Fair P true i → View P i
view (faults h) = on (faults h)
view stops = ends
view (a_byte p) = on (a_byte p)
view (a_paren p) = on (a_paren p)
view a_quote = on a_quote
view (a_value e) = on (a_value e)
view (a_count e) = on (a_count e)
view a_spread = on a_spread
view (an_inner e) = on (an_inner e)
view a_sum = on a_sum
view (a_home h) = on (a_home h)

-- the parameter of an item is one
abbrev pub Named : Item → Type 0
Named (fault n) = Unit {0}
Named (stop k) = Unit {0}
Named (byte q b k) = Unit {0}
Named (paren b n) = Unit {0}
Named (quote m k) = Unit {0}
Named (value_of x k) = IsParam x
Named (count x k) = IsCounted x
Named (spread s k) = Unit {0}
Named (inner x f m k) = IsParam x
Named sum = Unit {0}
Named (home_of x k) = Unit {0}

fair_named : {P : ℕ → Type 0} {s : Bool} {i : Item} → Fair P s i → Named i
fair_named (faults h) = tt
fair_named stops = tt
fair_named (a_byte p) = tt
fair_named (a_paren p) = tt
fair_named a_quote = tt
fair_named (a_value e) = e
fair_named (a_count e) = e
fair_named a_spread = tt
fair_named (an_inner e) = e
fair_named a_sum = tt
fair_named (a_home h) = tt

ended_named : (m : Mode) → Named (ended m)
unfolding ended
ended_named (word s) = tt
ended_named (value s) = tt
ended_named (bare s l) = tt
ended_named (single e) = tt
ended_named (double l) = tt
ended_named (quoted_operand l) = tt
ended_named (arith n) = tt

pub item_named : (m : Mode) (d : ℕ) (t : Text) (i : Item) → item m d t ≡ i → Named i
unfolding item
item_named m d [] i e = rw (← e) (ended_named m)
item_named m d (b ∷ t) i e = rw (← e) (fair_named (item_fair m d b t))

-- a word goes on at a byte that is no blank
data Goes (s : Sort) : Type 0 where
  goes : ((u : Start) (d b : ℕ) (t : Text) → Fair AnyByte false (item_of s (word u) d b t)) → Goes s

pick_goes : (x : Bool) {s u : Sort} → Goes s → Goes u → Goes (pick x s u)
pick_goes true h k = h
pick_goes false h k = k

faulty_goes : Goes backquote × Goes operator × Goes quotes × Goes quotes2 × Goes backslash × Goes dollar × Goes literal × Goes tilde
unfolding item_of
faulty_goes = (
  goes (λ u d b t. faults refl),
  goes (λ u d b t. faults refl),
  goes (λ u d b t. a_quote),
  goes (λ u d b t. a_quote),
  goes (λ u d b t. escaped_fair AnyByte (λ b e. tt) false (word u) t (any_bytes t)),
  goes (λ u d b t. expansion_fair AnyByte (λ b e. tt) false (word u) d t),
  goes (λ u d b t. a_byte tt),
  goes (λ u d b t. tilde_fair AnyByte false (word u) b t (any_bytes (b ∷ t))),
)

word_sort_lem : (s : Start) (b : ℕ) → is_blank b ≡ false → Goes (sort (word s) b)
unfolding sort
word_sort_lem s b e =
    let g = faulty_goes in
    rw e (pick_goes (begins_tilde s b) g.7 (pick_goes (eqb b (code "`")) g.0
    (pick_goes (is_operator b) g.1 (pick_goes (eqb b (code "'")) g.2 (pick_goes (eqb b (code "\"")) g.3
    (pick_goes (eqb b (code "\\")) g.4 (pick_goes (eqb b (code "$")) g.5 g.6)))))))

pub word_goes : (s : Start) (d b : ℕ) (t : Text) → is_blank b ≡ false → Fair AnyByte false (item (word s) d (b ∷ t))
unfolding item
word_goes s d b t e = go (word_sort_lem s b e)
  where
    go : {r : Sort} → Goes r → Fair AnyByte false (item_of r (word s) d b t)
    go (goes h) = h s d b t
