-- Document 02, E5: "At any depth in operands of `=`, `?`, of removals and in arithmetic, `$@` and `$*` stay 10". What is read holds a list only where one may
-- stand: each item keeps to it, and what is read inside it has no more leave than what is around it.
use Prim.Native.Nat.{ℕ, zero, suc, ◌+◌, ◌-◌}
use Prim.Native.Char.{code}
use mathlib.Core.Path.{◌≡◌, refl, ap}
use mathlib.Core.Bool.{Bool, true, false, ◌&&◌}
use mathlib.Core.List.{[], ◌∷◌}
use lib.Dec.{eqb, ltb}
use lib.ListN.{length, drop}
use borrow.Author.Tests.{eqb-true}
use Rattle.stages.specs.Recur.{below, run, fix}
use Rattle.stages.specs.Numbers.{bad_syntax, unserved}
use Rattle.stages.specs.Bytes.{Text, text, is_in, is_name_start, is_login_byte, span}
use Rattle.stages.specs.Outcome.{refused, done, pick}
use Rattle.stages.specs.Syntax.{Param, Counted, Spread, Lists, served, barred, Escape, unescaped, Colon, with_colon, no_colon}
use Rattle.stages.specs.Syntax.{Side, suffix, prefix, Form, plain, minus, equals, query, plus, removal, shortest, longest, fresh}
use Rattle.stages.specs.Syntax.{Parts, end, lit, quo, par, len, lst, ari, til, Mode, word, value, bare, single, double, quoted_operand, arith}
use Rattle.stages.specs.Items.{Item, fault, stop, byte, paren, quote, value_of, count, spread, inner, sum, home_of, item, ended, item_of, sort, Sort}
use Rattle.stages.specs.Items.{backquote, closes, operator, quotes, quotes2, backslash, escape, dollar, bad, opening, closing, tilde, literal}
use Rattle.stages.specs.Items.{wrong, quotable, not_served, is_bare_text, behind_backslash, said_item}
use Rattle.stages.specs.Items.{lists_in, both, let_by, operand_mode, sign_form, is_numbered, behind_sign}
use Rattle.stages.specs.Items.{behind_colon}
use Rattle.stages.specs.Escapes.{Said, says, unsaid, escape_at}
use Rattle.stages.specs.Items.{behind_removal, behind_name, behind_length, is_first_digit, name_then, behind_hash, spread_at, behind_list_colon, behind_list}
use Rattle.stages.specs.Items.{braced_list, braced, parenthesis, expansion, outer, opened, closed, ends_login, behind_tilde, onward, behind_byte}
use Rattle.stages.specs.Read.{Taken, put, nest, read_item, Ask, ask_size, ask_step, parts}
use Rattle.stages.proofs.Bools.{no}

-- LISTS

-- they do not both hold
pub clash : {P : Type 0} → barred ≡ served → P
clash e = absurd (no (ap is_served e))
  where
    is_served : Lists → Bool
    is_served served = true
    is_served barred = false

pub both_served : (l k : Lists) → both l k ≡ served → (l ≡ served) × (k ≡ served)
unfolding both
both_served served k e = (refl, e)
both_served barred k e = clash e

served_both : (l k : Lists) → l ≡ served → k ≡ served → both l k ≡ served
unfolding both
served_both served k e f = f
served_both barred k e f = clash e

-- whether the operand of a form lets lists stand
abbrev pub lets : Form → Lists
lets plain = barred
lets (minus c) = served
lets (equals c) = barred
lets (query c) = barred
lets (plus c) = served
lets (removal s r) = barred

-- PARTS

-- lists stand only where they may, the first saying whether they may in the whole
abbrev pub Allowed : Lists → Parts → Type 0
Allowed l end = Unit {0}
Allowed l (lit q b p) = Allowed l p
Allowed l (quo q p) = Allowed l q × Allowed l p
Allowed l (par x f q p) = Allowed (both l (lets f)) q × Allowed l p
Allowed l (len x p) = Allowed l p
Allowed l (lst s p) = (l ≡ served) × Allowed l p
Allowed l (ari q p) = Allowed barred q × Allowed l p
Allowed l (til x p) = Allowed l p

pub allowed_in : (l k : Lists) → (l ≡ served → k ≡ served) → (p : Parts) → Allowed l p → Allowed k p
allowed_in l k h end a = tt
allowed_in l k h (lit q b p) a = allowed_in l k h p a
allowed_in l k h (quo q p) a = (allowed_in l k h q a.0, allowed_in l k h p a.1)
allowed_in l k h (par x f q p) a = (
  allowed_in (both l (lets f)) (both k (lets f)) (λ e. let d = both_served l (lets f) e in served_both k (lets f) (h d.0) d.1) q a.0,
  allowed_in l k h p a.1,
)
allowed_in l k h (len x p) a = allowed_in l k h p a
allowed_in l k h (lst s p) a = (h a.0, allowed_in l k h p a.1)
allowed_in l k h (ari q p) a = (a.0, allowed_in l k h p a.1)
allowed_in l k h (til x p) a = allowed_in l k h p a

-- ITEMS

-- an item that keeps to it in a text of this mode
data Lawful (m : Mode) : Item → Type 0 where
  a_fault : {n : ℕ} → Lawful m (fault n)
  a_stop : {k : ℕ} → Lawful m (stop k)
  a_byte : {q : Escape} {b k : ℕ} → Lawful m (byte q b k)
  a_paren : {b n : ℕ} → Lawful m (paren b n)
  a_quote : {n : Mode} {k : ℕ} → (lists_in n ≡ served → lists_in m ≡ served) → Lawful m (quote n k)
  a_value : {x : Param} {k : ℕ} → Lawful m (value_of x k)
  a_count : {x : Counted} {k : ℕ} → Lawful m (count x k)
  a_spread : {s : Spread} {k : ℕ} → lists_in m ≡ served → Lawful m (spread s k)
  an_inner : {x : Param} {f : Form} {n : Mode} {k : ℕ} → (lists_in n ≡ served → both (lists_in m) (lets f) ≡ served) → Lawful m (inner x f n k)
  a_sum : Lawful m sum
  a_home : {x : Text} {k : ℕ} → Lawful m (home_of x k)

pick_law : {m : Mode} (x : Bool) {i j : Item} → Lawful m i → Lawful m j → Lawful m (pick x i j)
pick_law true h k = h
pick_law false h k = k

operand_lists : (m : Mode) (k : Lists) → lists_in (operand_mode m k) ≡ served → (lists_in m ≡ served) × (k ≡ served)
unfolding lists_in operand_mode
operand_lists (word s) k e = (refl, e)
operand_lists (value s) k e = clash e
operand_lists (bare s l) k e = both_served l k e
operand_lists (single x) k e = clash e
operand_lists (double l) k e = both_served l k e
operand_lists (quoted_operand l) k e = both_served l k e
operand_lists (arith n) k e = clash e

sign_lets : (b : ℕ) (colon : Colon) → let_by b ≡ served → lets (sign_form b colon) ≡ served
unfolding let_by sign_form
sign_lets b colon e = go (eqb b 45) refl (eqb b 43) refl
  where
    go : (x : Bool) → eqb b 45 ≡ x → (y : Bool) → eqb b 43 ≡ y → lets (sign_form b colon) ≡ served
    go true h y k = rw (h, sign_form)
    go false h true k = rw (eqb-true b 43 k) (unfold sign_form in refl)
    go false h false k = clash (rw (h, k) at e)

module _ (m : Mode) where
  wrong_law : (n : ℕ) (t : Text) → Lawful m (wrong n t)
  unfolding wrong
  wrong_law n [] = a_fault
  wrong_law n (b ∷ t) = pick_law (eqb b (code "`")) a_fault a_fault

  sign_law : (x : Param) (colon : Colon) (k b : ℕ) → Lawful m (behind_sign m x colon k b)
  unfolding behind_sign
  sign_law x colon k b =
      pick_law (is_numbered x && eqb b (code "=")) a_fault
      (an_inner (λ e. let h = operand_lists m (let_by b) e in served_both (lists_in m) (lets (sign_form b colon)) h.0 (sign_lets b colon h.1)))

  colon_law : (x : Param) (k : ℕ) (t : Text) → Lawful m (behind_colon m x k t)
  unfolding behind_colon
  colon_law x k [] = wrong_law bad_syntax []
  colon_law x k (b ∷ t) = pick_law (is_in b (text "-=?+")) (sign_law x with_colon k b) (wrong_law bad_syntax (b ∷ t))

  bare_law : (x : Param) (f : Form) (k : ℕ) → Lawful m (inner x f (bare fresh barred) k)
  unfolding lists_in
  bare_law x f k = an_inner (λ e. clash e)

  removal_law : (x : Param) (s : Side) (sign k : ℕ) (t : Text) → Lawful m (behind_removal x s sign k t)
  unfolding behind_removal
  removal_law x s sign k [] = bare_law x (removal s shortest) k
  removal_law x s sign k (b ∷ t) = pick_law (eqb b sign) (bare_law x (removal s longest) (suc k)) (bare_law x (removal s shortest) k)

  name_law : (x : Param) (k : ℕ) (t : Text) → Lawful m (behind_name m x k t)
  unfolding behind_name
  name_law x k [] = wrong_law bad_syntax []
  name_law x k (b ∷ t) =
      pick_law (eqb b (code "}")) a_value
      (pick_law (eqb b (code ":")) (colon_law x (suc k) t)
      (pick_law (is_in b (text "-=?+")) (sign_law x no_colon k b)
      (pick_law (eqb b (code "%")) (removal_law x suffix b k t)
      (pick_law (eqb b (code "#")) (removal_law x prefix b k t) (wrong_law bad_syntax (b ∷ t))))))

  length_law : (x : Param) (k : ℕ) (t : Text) → Lawful m (behind_length x k t)
  unfolding behind_length
  length_law x k [] = wrong_law bad_syntax []
  length_law x k (b ∷ t) = pick_law (eqb b (code "}")) a_count (wrong_law bad_syntax (b ∷ t))

  named_law : (f : Param → ℕ → Text → Item) → ((x : Param) (k : ℕ) (u : Text) → Lawful m (f x k u)) → (t : Text) → Lawful m (name_then f t)
  unfolding name_then
  named_law f h [] = wrong_law unserved []
  named_law f h (b ∷ t) = pick_law (is_name_start b) (h _ _ _) (pick_law (is_first_digit b) (h _ _ _) (wrong_law unserved (b ∷ t)))

  hash_law : (t : Text) → Lawful m (behind_hash t)
  unfolding behind_hash
  hash_law [] = wrong_law unserved []
  hash_law (b ∷ t) = pick_law (eqb b (code "}")) a_count (named_law (λ x k u. behind_length x (k + 3) u) (λ x k u. length_law x (k + 3) u) (b ∷ t))

  list_colon_law : (t : Text) → Lawful m (behind_list_colon t)
  unfolding behind_list_colon
  list_colon_law [] = wrong_law bad_syntax []
  list_colon_law (b ∷ t) = pick_law (is_in b (text "-=?+")) a_fault (wrong_law bad_syntax (b ∷ t))

  list_law : lists_in m ≡ served → (c : ℕ) (t : Text) → Lawful m (behind_list c t)
  unfolding behind_list
  list_law e c [] = wrong_law bad_syntax []
  list_law e c (b ∷ t) =
      pick_law (eqb b (code "}")) (a_spread e)
      (pick_law (eqb b (code ":")) (list_colon_law t) (pick_law (is_in b (text "-=?+%#")) a_fault (wrong_law bad_syntax (b ∷ t))))

  braced_list_law : (l : Lists) → lists_in m ≡ l → (c : ℕ) (t : Text) → Lawful m (braced_list l c t)
  unfolding braced_list
  braced_list_law served e c t = list_law e c t
  braced_list_law barred e c t = a_fault

  spread_law : (l : Lists) → lists_in m ≡ l → (b k : ℕ) → Lawful m (spread_at l b k)
  unfolding spread_at
  spread_law served e b k = a_spread e
  spread_law barred e b k = a_fault

  braced_law : (d : ℕ) (t : Text) → Lawful m (braced m d t)
  unfolding braced
  braced_law zero t = a_fault
  braced_law (suc d) [] = wrong_law unserved []
  braced_law (suc d) (b ∷ t) =
      pick_law (eqb b (code "#")) (hash_law t)
      (pick_law (is_in b (text "@*")) (braced_list_law (lists_in m) refl b t)
      (named_law (λ x k u. behind_name m x (k + 2) u) (λ x k u. name_law x (k + 2) u) (b ∷ t)))

  parenthesis_law : (d : ℕ) (t : Text) → Lawful m (parenthesis d t)
  unfolding parenthesis
  parenthesis_law zero [] = a_fault
  parenthesis_law (suc d) [] = a_fault
  parenthesis_law zero (b ∷ t) = pick_law (eqb b (code "(")) a_fault a_fault
  parenthesis_law (suc d) (b ∷ t) = pick_law (eqb b (code "(")) a_sum a_fault

  expansion_law : (d : ℕ) (t : Text) → Lawful m (expansion m d t)
  unfolding expansion lists_in
  expansion_law d [] = a_byte
  expansion_law d (b ∷ t) =
      pick_law (is_name_start b) a_value
      (pick_law (eqb b (code "(")) (parenthesis_law d t)
      (pick_law (eqb b (code "{")) (braced_law d t)
      (pick_law (is_first_digit b) a_value
      (pick_law (eqb b (code "#")) a_count
      (pick_law (is_in b (text "@*")) (spread_law (lists_in m) refl b 1)
      (pick_law (not_served b) a_fault (pick_law (is_bare_text m && eqb b (code "'")) (a_quote (λ e. clash e)) a_byte)))))))

  said_law : (o : Said) → Lawful m (said_item o)
  unfolding said_item
  said_law (says b k) = a_byte
  said_law (unsaid n) = a_fault

  escaped_law : (t : Text) → Lawful m (behind_backslash m t)
  unfolding behind_backslash
  escaped_law [] = a_fault
  escaped_law (b ∷ t) = pick_law (eqb b (code "\n")) a_fault (pick_law (quotable m b) a_byte a_byte)

  outer_law : (t : Text) → Lawful m (outer t)
  unfolding outer
  outer_law [] = a_fault
  outer_law (b ∷ t) = pick_law (eqb b (code ")")) a_stop (pick_law (eqb b (code "`")) a_fault a_fault)

  tilde_law : (b : ℕ) (t : Text) → Lawful m (behind_tilde m b t)
  unfolding behind_tilde
  tilde_law b t = pick_law (ends_login m (span is_login_byte t).1) a_home a_byte

opened_law : (m : Mode) (b : ℕ) → Lawful m (opened m b)
unfolding opened
opened_law (word s) b = a_byte
opened_law (value s) b = a_byte
opened_law (bare s l) b = a_byte
opened_law (single e) b = a_byte
opened_law (double l) b = a_byte
opened_law (quoted_operand l) b = a_byte
opened_law (arith n) b = a_paren

closed_law : (m : Mode) (b : ℕ) (t : Text) → Lawful m (closed m b t)
unfolding closed
closed_law (word s) b t = a_byte
closed_law (value s) b t = a_byte
closed_law (bare s l) b t = a_byte
closed_law (single e) b t = a_byte
closed_law (double l) b t = a_byte
closed_law (quoted_operand l) b t = a_byte
closed_law (arith zero) b t = outer_law (arith zero) t
closed_law (arith (suc n)) b t = a_paren

ended_law : (m : Mode) → Lawful m (ended m)
unfolding ended
ended_law (word s) = a_stop
ended_law (value s) = a_stop
ended_law (bare s l) = a_fault
ended_law (single e) = a_fault
ended_law (double l) = a_fault
ended_law (quoted_operand l) = a_fault
ended_law (arith n) = a_fault

of_law : (s : Sort) (m : Mode) (d b : ℕ) (t : Text) → Lawful m (item_of s m d b t)
unfolding item_of lists_in
of_law backquote m d b t = a_fault
of_law closes m d b t = a_stop
of_law operator m d b t = a_fault
of_law quotes m d b t = a_quote (λ e. clash e)
of_law quotes2 m d b t = a_quote (λ e. e)
of_law backslash m d b t = escaped_law m t
of_law escape m d b t = said_law m (escape_at t)
of_law dollar m d b t = expansion_law m d t
of_law bad m d b t = a_fault
of_law opening m d b t = opened_law m b
of_law closing m d b t = closed_law m b t
of_law tilde m d b t = tilde_law m b t
of_law literal m d b t = a_byte

item_law : (m : Mode) (d : ℕ) (t : Text) → Lawful m (item m d t)
unfolding item
item_law m d [] = ended_law m
item_law m d (b ∷ t) = of_law (sort m b) m d b t

-- READING

-- what holds of a recursion's escape and is kept by its step holds of it, whatever is smaller
module _ {A R : Type 0} (size : A → ℕ) (stuck : R) (step : (A → R) → A → R) (P : A → R → Type 0) (s : (a : A) → P a stuck)
    (h : (rec : A → R) → ((b : A) → P b (rec b)) → (a : A) → P a (step rec a)) where
  pub by_run : (n : ℕ) (a : A) → P a (run size stuck step n a)
  unfolding run
  by_run zero a = s a
  by_run (suc n) a = h (below size stuck (size a) (λ b. run size stuck step n b)) (λ b. go b (by_run n b) (ltb (size b) (size a)) refl) a
    where
      go : (b : A) → P b (run size stuck step n b) → (x : Bool) → ltb (size b) (size a) ≡ x
          → P b (below size stuck (size a) (λ b. run size stuck step n b) b)
      go b k true e = unfold below in rw (e, below) k
      go b k false e = unfold below in rw (e, below) (s b)

-- refused, or parts in which lists stand only where they may
pub data Reads (l : Lists) : Taken → Type 0 where
  refuses : {n : ℕ} → Reads l (refused n)
  gives : {p : Parts × Text} → Allowed l p.0 → Reads l (done p)

put_reads : (l k : Lists) (f : Parts → Parts) {t : Taken} → ((p : Parts) → Allowed l p → Allowed k (f p)) → Reads l t → Reads k (put f t)
put_reads l k f h refuses = refuses
put_reads l k f h (gives {p = p} a) = gives (h p.0 a)

nest_reads : (l k : Lists) (f : Parts → Parts → Parts) {t : Taken} (more : Text → Taken)
    → ((q p : Parts) → Allowed l q → Allowed k p → Allowed k (f q p)) → Reads l t → ((u : Text) → Reads k (more u)) → Reads k (nest f t more)
nest_reads l k f more h refuses r = refuses
nest_reads l k f more h (gives {p = p} a) r = put_reads k k (f p.0) (λ q b. h p.0 q a b) (r p.1)

onward_lists : (m : Mode) → lists_in (onward m) ≡ lists_in m
unfolding lists_in onward
onward_lists (word s) = refl
onward_lists (value s) = refl
onward_lists (bare s l) = refl
onward_lists (single e) = refl
onward_lists (double l) = refl
onward_lists (quoted_operand l) = refl
onward_lists (arith n) = refl

byte_lists : (m : Mode) (q : Escape) (b : ℕ) → lists_in (behind_byte m q b) ≡ lists_in m
unfolding lists_in behind_byte
byte_lists (word s) q b = refl
byte_lists (value s) q b = refl
byte_lists (bare s l) q b = refl
byte_lists (single e) q b = refl
byte_lists (double l) q b = refl
byte_lists (quoted_operand l) q b = refl
byte_lists (arith n) q b = refl

module _ (rec : Ask → Taken) (ih : (b : Ask) → Reads (lists_in b.0) (rec b)) where
  on_reads : (m : Mode) (d : ℕ) (t : Text) → Reads (lists_in m) (rec (onward m, d, t))
  on_reads m d t = rw (onward_lists m) at (ih (onward m, d, t))

  reads_item : (m : Mode) (d : ℕ) (t : Text) {i : Item} → Lawful m i → Reads (lists_in m) (read_item (λ m d t. rec (m, d, t)) m d t i)
  unfolding read_item
  reads_item m d t a_fault = refuses
  reads_item m d t (a_stop {k = k}) = gives {p = (end, drop k t)} tt
  reads_item m d t (a_byte {q = q} {b = b} {k = k}) =
      put_reads (lists_in m) (lists_in m) (lit q b) (λ p a. a) (rw (byte_lists m q b) at (ih (behind_byte m q b, d, drop (suc k) t)))
  reads_item m d t (a_paren {b = b} {n = n}) =
      put_reads (lists_in (arith n)) (lists_in m) (lit unescaped b) (λ p a. allowed_in (lists_in (arith n)) (lists_in m) (λ e. unfold lists_in in clash e) p a)
      (ih (arith n, d, drop 1 t))
  reads_item m d t (a_quote {n = n} {k = k} h) =
      nest_reads (lists_in n) (lists_in m) quo (λ u. rec (onward m, d, u)) (λ q p a b. (allowed_in (lists_in n) (lists_in m) h q a, b))
      (ih (n, d, drop (suc k) t)) (λ u. on_reads m d u)
  reads_item m d t (a_value {x = x} {k = k}) = put_reads (lists_in m) (lists_in m) (par x plain end) (λ p a. (tt, a)) (on_reads m d (drop (suc k) t))
  reads_item m d t (a_count {x = x} {k = k}) = put_reads (lists_in m) (lists_in m) (len x) (λ p a. a) (on_reads m d (drop (suc k) t))
  reads_item m d t (a_spread {s = s} {k = k} h) = put_reads (lists_in m) (lists_in m) (lst s) (λ p a. (h, a)) (on_reads m d (drop (suc k) t))
  reads_item m d t (an_inner {x = x} {f = f} {n = n} {k = k} h) =
      nest_reads (lists_in n) (lists_in m) (par x f) (λ u. rec (onward m, d, u))
      (λ q p a b. (allowed_in (lists_in n) (both (lists_in m) (lets f)) h q a, b)) (ih (n, d - 1, drop (suc k) t)) (λ u. on_reads m d u)
  reads_item m d t a_sum =
      nest_reads (lists_in (arith 0)) (lists_in m) ari (λ u. rec (onward m, d, u))
      (λ q p a b. (allowed_in (lists_in (arith 0)) barred (λ e. unfold lists_in in clash e) q a, b)) (ih (arith 0, d - 1, drop 3 t)) (λ u. on_reads m d u)
  reads_item m d t (a_home {x = x} {k = k}) = put_reads (lists_in m) (lists_in m) (til x) (λ p a. a) (on_reads m d (drop (suc k) t))

-- THE LAW: what is read in a mode holds a list only where one may stand
pub parts_allowed : (m : Mode) (d : ℕ) (t : Text) → Reads (lists_in m) (parts m d t)
unfolding parts fix ask_step
parts_allowed m d t =
    by_run ask_size (refused 0) ask_step (λ (a : Ask) (r : Taken). Reads (lists_in a.0) r) (λ a. refuses)
    (λ rec ih a. reads_item rec ih a.0 a.1 a.2 (item_law a.0 a.1 a.2)) (suc (length t)) (m, d, t)
