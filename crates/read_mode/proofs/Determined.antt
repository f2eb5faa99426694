-- The contracts determine every answer: two outcomes that a contract allows for one input are equal. A mode, a form and a sort are what the stage's
-- are taken back to.
use Prim.Native.Nat.{ℕ}
use native.Mathlib.Omega.{arith}
use mathlib.Core.Path.{◌≡◌, refl, sym, ap, ◌∙◌}
use mathlib.Core.Bool.{Bool, true, false}
use mathlib.Core.List.{[], ◌∷◌}
use Rattle.stages.specs.Syntax.{word, value, bare, single, double, quoted_operand, arith as sums, plain, minus, equals, query, plus, removal, suffix, prefix}
use Rattle.stages.specs.Syntax.{Colon}
use Rattle.stages.specs.Syntax as syntax
use Rattle.stages.specs.Items.{ended, quotable, not_served, lists_in, let_by, wrong, fault, sign_form, closer_length, ends_login, sort, is_closer}
use Rattle.stages.specs.Items as items
use Rattle.text.specs.Cases.{has_colon, is_longest, is_fresh, is_served, lists_of, has_escapes}
use Rattle.text.proofs.Cases.{colon_back, reach_back, start_back, lists_back, escapes_back}
use Rattle.text.proofs.Determined.{one_answer}
use Rattle.read_mode.specs.Modes.{mode_of, mode_onward, mode_behind, form_of, sort_of, Carries, Sorted, Operands, ends_line}
use Rattle.read_mode.specs.declared.Mode.{Mode}
use Rattle.read_mode.specs.declared.Mode.TheVariants.{Word, Value, Bare, Single, Double, Operand, Arith}
use Rattle.read_mode.specs.declared.Form.{Form}
use Rattle.read_mode.specs.declared.Form.TheVariants.{Minus, Equals, Query, Plus, Suffix, Prefix}
use Rattle.read_mode.specs.declared.Sort.{Sort}
use Rattle.read_mode.specs.declared.Sort.TheVariants.{Backquote, Closes, Operator, Quotes, Quotes2, Backslash, Escape}
use Rattle.read_mode.specs.declared.Sort.TheVariants.{Dollar, Bad, Opening, Closing, Tilde, Literal}

-- what a function takes back is determined by what it is taken from
pub taken_back : {A B : Type 0} (f : A → B) (g : B → A) → ((a : A) → a ≡ g (f a)) → (r s : A) → f r ≡ f s → r ≡ s
taken_back f g h r s e = h r ∙ ap g e ∙ sym (h s)

abbrev pub mode_back : syntax.Mode → Mode
mode_back (word s) = Word (is_fresh s)
mode_back (value s) = Value (is_fresh s)
mode_back (bare s l) = Bare (is_fresh s) (is_served l)
mode_back (single e) = Single (has_escapes e)
mode_back (double l) = Double (is_served l)
mode_back (quoted_operand l) = Operand (is_served l)
mode_back (sums n) = Arith n

bare_same : {a b c d : Bool} → a ≡ b → c ≡ d → Bare a c ≡ Bare b d
bare_same p q = cc

pub mode_back_lem : (m : Mode) → m ≡ mode_back (mode_of m)
mode_back_lem (Word s) = ap Word (start_back s)
mode_back_lem (Value s) = ap Value (start_back s)
mode_back_lem (Bare s l) = bare_same (start_back s) (lists_back l)
mode_back_lem (Single e) = ap Single (escapes_back e)
mode_back_lem (Double l) = ap Double (lists_back l)
mode_back_lem (Operand l) = ap Operand (lists_back l)
mode_back_lem (Arith n) = refl

pub mode_determined : (r s : Mode) → mode_of r ≡ mode_of s → r ≡ s
mode_determined r s e = taken_back mode_of mode_back mode_back_lem r s e

abbrev pub form_back : syntax.Form → Form
form_back plain = Minus false
form_back (minus c) = Minus (has_colon c)
form_back (equals c) = Equals (has_colon c)
form_back (query c) = Query (has_colon c)
form_back (plus c) = Plus (has_colon c)
form_back (removal suffix d) = Suffix (is_longest d)
form_back (removal prefix d) = Prefix (is_longest d)

pub form_back_lem : (f : Form) → f ≡ form_back (form_of f)
form_back_lem (Minus c) = ap Minus (colon_back c)
form_back_lem (Equals c) = ap Equals (colon_back c)
form_back_lem (Query c) = ap Query (colon_back c)
form_back_lem (Plus c) = ap Plus (colon_back c)
form_back_lem (Suffix d) = ap Suffix (reach_back d)
form_back_lem (Prefix d) = ap Prefix (reach_back d)

pub form_determined : (r s : Form) → form_of r ≡ form_of s → r ≡ s
form_determined r s e = taken_back form_of form_back form_back_lem r s e

-- a sort with what it carries
abbrev parens_of : syntax.Mode → ℕ
parens_of (word s) = 0
parens_of (value s) = 0
parens_of (bare s l) = 0
parens_of (single e) = 0
parens_of (double l) = 0
parens_of (quoted_operand l) = 0
parens_of (sums n) = n

abbrev sort_back : syntax.Mode → items.Sort → Sort
sort_back m items.backquote = Backquote
sort_back m items.closes = Closes (closer_length m)
sort_back m items.operator = Operator
sort_back m items.quotes = Quotes
sort_back m items.quotes2 = Quotes2
sort_back m items.backslash = Backslash
sort_back m items.escape = Escape
sort_back m items.dollar = Dollar
sort_back m items.bad = Bad
sort_back m items.opening = Opening (parens_of m)
sort_back m items.closing = Closing (parens_of m)
sort_back m items.tilde = Tilde
sort_back m items.literal = Literal

sort_back_lem : (m : syntax.Mode) (r : Sort) → Carries r m → r ≡ sort_back m (sort_of r)
sort_back_lem m Backquote c = refl
sort_back_lem m (Closes k) c = ap Closes (sym c.0)
sort_back_lem m Operator c = refl
sort_back_lem m Quotes c = refl
sort_back_lem m Quotes2 c = refl
sort_back_lem m Backslash c = refl
sort_back_lem m Escape c = refl
sort_back_lem m Dollar c = refl
sort_back_lem m Bad c = refl
sort_back_lem m (Opening n) c = ap (λ (x : syntax.Mode). Opening (parens_of x)) (sym c)
sort_back_lem m (Closing n) c = ap (λ (x : syntax.Mode). Closing (parens_of x)) (sym c)
sort_back_lem m Tilde c = refl
sort_back_lem m Literal c = refl

pub sort_at_determined : (m : syntax.Mode) (b : ℕ) (r s : Sort) → Sorted m b r → Sorted m b s → r ≡ s
sort_at_determined m b r s p q = sort_back_lem m r p.carries ∙ ap (sort_back m) (p.is ∙ sym q.is) ∙ sym (sort_back_lem m s q.carries)

pub is_quotable_determined : (m : syntax.Mode) (b : ℕ) (r s : Bool) → r ≡ quotable m b → s ≡ quotable m b → r ≡ s
is_quotable_determined m b r s = one_answer

pub is_not_served_determined : (b : ℕ) (r s : Bool) → r ≡ not_served b → s ≡ not_served b → r ≡ s
is_not_served_determined b r s = one_answer

lists_determined : (k : syntax.Lists) (r s : Bool) → lists_of r ≡ k → lists_of s ≡ k → r ≡ s
lists_determined k r s p q = taken_back lists_of is_served lists_back r s (one_answer p q)

pub lists_in_determined : (m : syntax.Mode) (r s : Bool) → lists_of r ≡ lists_in m → lists_of s ≡ lists_in m → r ≡ s
lists_in_determined m = lists_determined (lists_in m)

pub let_by_determined : (b : ℕ) (r s : Bool) → lists_of r ≡ let_by b → lists_of s ≡ let_by b → r ≡ s
let_by_determined b = lists_determined (let_by b)

pub operand_mode_determined : (m : syntax.Mode) (k : syntax.Lists) (r s : Mode) → Operands m k r → Operands m k s → r ≡ s
operand_mode_determined m k r s p q = mode_determined r s (one_answer p.is q.is)

ends_back : (r s : Bool) → ends_line r ≡ ends_line s → r ≡ s
ends_back true true e = refl
ends_back true false e = absurd (let z : ◌≡◌ {A = ℕ} 0 1 = cc in omega arith)
ends_back false true e = absurd (let z : ◌≡◌ {A = ℕ} 0 1 = cc in omega arith)
ends_back false false e = refl

pub may_end_determined : (m : syntax.Mode) (r s : Bool) → ended m ≡ ends_line r → ended m ≡ ends_line s → r ≡ s
may_end_determined m r s p q = ends_back r s (sym p ∙ q)

pub onward_determined : (m r s : Mode) → r ≡ mode_onward m → s ≡ mode_onward m → r ≡ s
onward_determined m r s = one_answer

pub behind_byte_determined : (m : Mode) (q : Bool) (b : ℕ) (r s : Mode) → r ≡ mode_behind m q b → s ≡ mode_behind m q b → r ≡ s
behind_byte_determined m q b r s = one_answer

pub is_closer_determined : (m : syntax.Mode) (b : ℕ) (r s : Bool) → r ≡ is_closer (sort m b) → s ≡ is_closer (sort m b) → r ≡ s
is_closer_determined m b r s = one_answer

pub ends_login_determined : (m : syntax.Mode) (b : ℕ) (r s : Bool) → r ≡ ends_login m (b ∷ []) → s ≡ ends_login m (b ∷ []) → r ≡ s
ends_login_determined m b r s = one_answer

-- of whatever says why, a number alone or a refusal, if its number tells it from the others
pub wrong_byte_determined : {R : Type 0} (num : R → ℕ) → ((r s : R) → num r ≡ num s → r ≡ s) → (n b : ℕ) (r s : R)
    → wrong n (b ∷ []) ≡ fault (num r) → wrong n (b ∷ []) ≡ fault (num s) → r ≡ s
wrong_byte_determined num apart n b r s p q = apart r s cc

pub sign_form_determined : (b : ℕ) (colon : Colon) (r s : Form) → form_of r ≡ sign_form b colon → form_of s ≡ sign_form b colon → r ≡ s
sign_form_determined b colon r s p q = form_determined r s (one_answer p q)
