-- What stands at a place, as the classifier's functions find it: each law is one way through one of them.
use Rattle.std.specs.Prelude.{Result, Ok, Err}
use Prim.Native.Nat.{ℕ, zero, suc, ◌+◌, ◌-◌, ◌≤◌, ◌<◌}
use native.Mathlib.Omega.{arith}
use native.Mathlib.Numerals.{add-one}
use mathlib.Core.Path.{◌≡◌, refl, sym, ap, ◌∙◌, subst}
use mathlib.Core.Bool.{Bool, true, false}
use mathlib.Core.List.{[], ◌∷◌}
use borrow.Author.Tests.{eq-eqb, ne_eqb}
use lib.ListN.{length, drop, get_or, drop_of_length-le}
use lib.Seq.{drop-cons}
use Rattle.stages.specs.Numbers.{substitution, bad_syntax, too_deep}
use Rattle.stages.specs.Bytes.{Text}
use Rattle.stages.specs.Syntax.{escaped, unescaped, Lists, double, Mode, arith as sums}
use Rattle.stages.specs.Items.{Item, fault, stop, paren, quote, sum, item, item_of, ended, behind_backslash, quotable, lists_in}
use Rattle.stages.specs.Items.{wrong, expansion, parenthesis, opened, closed, outer}
use Rattle.stages.specs.Items.{said_item}
use Rattle.stages.specs.Escapes.{escape_at}
use Rattle.text.specs.Cases.{lists_of}
use Rattle.text.specs.Refusals.{refusal_number}
use Rattle.text.specs.declared.refusal.Refusal.{Refusal}
use Rattle.text.specs.declared.refusal.Refusal.TheVariants.{Unended, BareOperator, Substitution, BadSyntax, TooDeep}
use Rattle.read_mode.specs.Modes.{mode_of, open_in, sort_of, Sorted}
use Rattle.read_mode.specs.declared.Cursor.{Cursor}
use Rattle.read_mode.specs.declared.Mode as code-mode
use Rattle.read_mode.specs.declared.Mode.TheVariants as mode
use Rattle.read_mode.specs.declared.Sort.{Sort}
use Rattle.read_mode.specs.declared.Sort.TheVariants as sort-of
use Rattle.read_brace.specs.Shows.{Finds, is_at}
use Rattle.read_brace.specs.declared.Item as code-item
use Rattle.read_brace.specs.declared.Item.TheVariants.{Stop, Byte, Paren, Quote, Sum}
use Rattle.read_brace.proofs.Showing.{same_item, shows_byte, shows_stop, at_within}
use Rattle.read_item.specs.After.{FoundAt}
use Rattle.read_item.proofs.Tildes.{Looks}

-- a byte stands after the first
pub record Second (s : Text) (from : Cursor) : Type 0 where
  pub there : from.at + 1 < length s

pub second : (s : Text) (from : Cursor) → from.at + 1 < length s → Second s from
second s from l = record { there = l }

-- After a backslash.

abbrev Escapes : Text → Cursor → Result code-item.Item Refusal → Type 0
Escapes s from r = Finds s from.at from.depth r (behind_backslash (mode_of from.mode) (drop (from.at + 1) s))

pub escape_end : (s : Text) (from : Cursor) → length s ≤ from.at + 1 → Escapes s from (Err Unended)
unfolding behind_backslash
escape_end s from l = ap (behind_backslash (mode_of from.mode)) (drop_of_length-le s l)

module _ {s : Text} {from : Cursor} (h : Second s from) where
  pub escape_line : get_or s (from.at + 1) 0 ≡ 10 → Escapes s from (Err BadSyntax)
  unfolding behind_backslash
  escape_line e = rw (drop-cons s (from.at + 1) 0 h.there) (rw (eq-eqb _ _ e))

  module _ (e : get_or s (from.at + 1) 0 ≡ 10 → ⊥) where
    pub escape_byte : quotable (mode_of from.mode) (get_or s (from.at + 1) 0) ≡ true
        → Escapes s from (Ok (Byte true (get_or s (from.at + 1) 0) (from.at + 2)))
    unfolding behind_backslash
    escape_byte q =
        shows_byte s from.at from.depth (from.at + 2) 1 (omega arith) (omega (arith, h.there)) escaped (get_or s (from.at + 1) 0)
        (rw (drop-cons s (from.at + 1) 0 h.there) (rw (ne_eqb _ _ e, q)))

    pub escape_plain : quotable (mode_of from.mode) (get_or s (from.at + 1) 0) ≡ false → Escapes s from (Ok (Byte false 92 (from.at + 1)))
    unfolding behind_backslash
    escape_plain q =
        shows_byte s from.at from.depth (from.at + 1) 0 (omega arith) (omega (arith, h.there)) unescaped 92
        (rw (drop-cons s (from.at + 1) 0 h.there) (rw (ne_eqb _ _ e, q)))

-- After `$(`.

abbrev pub Parens : Text → Cursor → Result code-item.Item Refusal → Type 0
Parens s from r = Finds s from.at from.depth r (parenthesis from.depth (drop (from.at + 2) s))

other : (d : ℕ) (t : Text) → is_at 40 t ≡ false → parenthesis d t ≡ fault substitution
unfolding parenthesis
other zero [] e = refl
other (suc d) [] e = refl
other zero (b ∷ t) e = rw e
other (suc d) (b ∷ t) e = rw e

deep : (d : ℕ) (t : Text) → is_at 40 t ≡ true → d ≡ 0 → parenthesis d t ≡ fault too_deep
unfolding parenthesis
deep d [] e z = absurd (let y : ◌≡◌ {A = ℕ} 0 1 = cc in omega arith)
deep d (b ∷ t) e z = rw (z, e)

opens : (d : ℕ) (t : Text) → is_at 40 t ≡ true → (d ≡ 0 → ⊥) → parenthesis d t ≡ sum
unfolding parenthesis
opens d [] e z = absurd (let y : ◌≡◌ {A = ℕ} 0 1 = cc in omega arith)
opens zero (b ∷ t) e z = absurd (z refl)
opens (suc d) (b ∷ t) e z = rw e

module _ (s : Text) (from : Cursor) where
  pub paren_other : is_at 40 (drop (from.at + 2) s) ≡ false → Parens s from (Err Substitution)
  paren_other e = other from.depth (drop (from.at + 2) s) e

  module _ (e : is_at 40 (drop (from.at + 2) s) ≡ true) where
    pub paren_deep : from.depth ≡ 0 → Parens s from (Err TooDeep)
    paren_deep z = deep from.depth (drop (from.at + 2) s) e z

    pub paren_opens : (from.depth ≡ 0 → ⊥) → Parens s from (Ok (Sum (from.at + 3)))
    paren_opens z =
        let w = at_within 40 (from.at + 2) s e in
        (opens from.depth (drop (from.at + 2) s) e z, refl, omega arith, omega (arith, z))

-- After a `)` of arithmetic.

abbrev Closes : Text → Cursor → ℕ → Result code-item.Item Refusal → Type 0
Closes s from n r = Finds s from.at from.depth r (closed (sums n) (get_or s from.at 0) (drop (from.at + 1) s))

module _ (s : Text) (from : Cursor) (n : ℕ) where
  pub closed_paren : from.at < length s → n ≤ from.at → 0 < n → Closes s from n (Ok (Paren (get_or s from.at 0) (n - 1)))
  unfolding closed
  closed_paren l k z =
      let e : n ≡ suc (n - 1) = omega arith in
      (ap (λ (i : ℕ). closed (sums i) (get_or s from.at 0) (drop (from.at + 1) s)) e, l, omega arith)

  module _ (z : n ≡ 0) where
    closed_outer : closed (sums n) (get_or s from.at 0) (drop (from.at + 1) s) ≡ outer (drop (from.at + 1) s)
    unfolding closed
    closed_outer = ap (λ (i : ℕ). closed (sums i) (get_or s from.at 0) (drop (from.at + 1) s)) z

    pub closed_end : length s ≤ from.at + 1 → Closes s from n (Err BadSyntax)
    unfolding outer
    closed_end l = closed_outer ∙ ap outer (drop_of_length-le s l)

    module _ (h : Second s from) where
      pub closed_stop : get_or s (from.at + 1) 0 ≡ 41 → Closes s from n (Ok (Stop (from.at + 2)))
      unfolding outer
      closed_stop e =
          shows_stop s from.at from.depth (from.at + 2) 2 refl (omega (arith, h.there))
          (closed_outer ∙ ap outer (drop-cons s (from.at + 1) 0 h.there) ∙ rw (eq-eqb _ _ e))

      pub closed_wrong : (get_or s (from.at + 1) 0 ≡ 41 → ⊥) → (k : Refusal) → wrong bad_syntax (get_or s (from.at + 1) 0 ∷ []) ≡ fault (refusal_number k)
          → Closes s from n (Err k)
      unfolding outer wrong
      closed_wrong e k w = closed_outer ∙ ap outer (drop-cons s (from.at + 1) 0 h.there) ∙ rw (ne_eqb _ _ e) w

-- After a backslash that begins an escape.

abbrev Says : Text → Cursor → Result code-item.Item Refusal → Type 0
Says s from r = Finds s from.at from.depth r (said_item (escape_at (drop (from.at + 1) s)))

-- The item, by the sort of its first byte.

-- at the end of the line
pub item_end : (s : Text) (from : Cursor) → length s ≤ from.at → {i : Item} → ended (mode_of from.mode) ≡ i
    → item (mode_of from.mode) from.depth (drop from.at s) ≡ i
unfolding item
item_end s from l e = ap (item (mode_of from.mode) from.depth) (drop_of_length-le s l) ∙ e

open_is : (m : code-mode.Mode) (n : ℕ) → mode_of m ≡ sums n → open_in m ≡ n
open_is (mode.Word f) n e = absurd (let z : ◌≡◌ {A = ℕ} 0 1 = cc in omega arith)
open_is (mode.Value f) n e = absurd (let z : ◌≡◌ {A = ℕ} 0 1 = cc in omega arith)
open_is (mode.Bare f l) n e = absurd (let z : ◌≡◌ {A = ℕ} 0 1 = cc in omega arith)
open_is (mode.Single x) n e = absurd (let z : ◌≡◌ {A = ℕ} 0 1 = cc in omega arith)
open_is (mode.Double l) n e = absurd (let z : ◌≡◌ {A = ℕ} 0 1 = cc in omega arith)
open_is (mode.Operand l) n e = absurd (let z : ◌≡◌ {A = ℕ} 0 1 = cc in omega arith)
open_is (mode.Arith k) n e = cc

-- a byte stands where the text is read, and this is its sort
pub record Sees (s : Text) (from : Cursor) (r : Sort) : Type 0 where
  pub there : from.at < length s
  pub sort : Sorted (mode_of from.mode) (get_or s from.at 0) r

pub seen : (s : Text) (from : Cursor) (r : Sort) → from.at < length s → Sorted (mode_of from.mode) (get_or s from.at 0) r → Sees s from r
seen s from r l h = record { there = l; sort = h }

module _ {s : Text} {from : Cursor} {r : Sort} (h : Sees s from r) where
  abbrev here : ℕ
  here = get_or s from.at 0

  known : {k : Sort} → r ≡ k → Sorted (mode_of from.mode) here k
  known e = subst (λ (x : Sort). Sorted (mode_of from.mode) here x) e h.sort

  by_sort : {k : Sort} → r ≡ k
      → item (mode_of from.mode) from.depth (drop from.at s) ≡ item_of (sort_of k) (mode_of from.mode) from.depth here (drop (from.at + 1) s)
  unfolding item
  by_sort e = ap (item (mode_of from.mode) from.depth) (drop-cons s from.at 0 h.there) ∙ rw (← (known e).is, add-one from.at)

  pub item_backquote : r ≡ sort-of.Backquote → FoundAt s from (Err Substitution)
  unfolding item_of
  item_backquote e = by_sort e

  pub closes_few : {k : ℕ} → r ≡ sort-of.Closes k → k ≤ 1
  closes_few e = (known e).carries.1

  pub item_closes : {k : ℕ} → r ≡ sort-of.Closes k → FoundAt s from (Ok (Stop (from.at + k)))
  unfolding item_of
  item_closes {k = k} e =
      shows_stop s from.at from.depth (from.at + k) k refl (omega (arith, closes_few e, h.there)) (by_sort e ∙ ap stop (known e).carries.0)

  pub item_operator : r ≡ sort-of.Operator → FoundAt s from (Err BareOperator)
  unfolding item_of
  item_operator e = by_sort e

  -- a quote of one byte
  opens_quote : (m : code-mode.Mode) → open_in m ≡ 0 → item (mode_of from.mode) from.depth (drop from.at s) ≡ quote (mode_of m) 0
      → FoundAt s from (Ok (Quote m (from.at + 1)))
  opens_quote m z e =
      let k : from.at + 1 - suc from.at ≡ 0 = omega arith in
      (e ∙ ap (quote (mode_of m)) (sym k), record { onward = omega arith; within = omega (arith, h.there) }, z)

  pub item_quotes : r ≡ sort-of.Quotes → FoundAt s from (Ok (Quote (mode.Single false) (from.at + 1)))
  unfolding item_of
  item_quotes e = opens_quote (mode.Single false) refl (by_sort e)

  pub item_quotes2 : r ≡ sort-of.Quotes2 → (l : Bool) → lists_of l ≡ lists_in (mode_of from.mode) → FoundAt s from (Ok (Quote (mode.Double l) (from.at + 1)))
  unfolding item_of
  item_quotes2 e l g = opens_quote (mode.Double l) refl (by_sort e ∙ ap (λ (x : Lists). quote (double x) 0) (sym g))

  pub item_escape : r ≡ sort-of.Escape → (i : Result code-item.Item Refusal) → Says s from i → FoundAt s from i
  unfolding item_of
  item_escape e i q = same_item s from.at from.depth i (by_sort e) q

  pub item_backslash : r ≡ sort-of.Backslash → (i : Result code-item.Item Refusal) → Escapes s from i → FoundAt s from i
  unfolding item_of
  item_backslash e i q = same_item s from.at from.depth i (by_sort e) q

  pub item_dollar : r ≡ sort-of.Dollar → (i : Result code-item.Item Refusal)
      → Finds s from.at from.depth i (expansion (mode_of from.mode) from.depth (drop (from.at + 1) s)) → FoundAt s from i
  unfolding item_of
  item_dollar e i q = same_item s from.at from.depth i (by_sort e) q

  pub item_tilde : r ≡ sort-of.Tilde → (i : code-item.Item) → Looks s from i → FoundAt s from (Ok i)
  unfolding item_of
  item_tilde e i q = same_item s from.at from.depth (Ok i) (by_sort e) q

  pub item_bad : r ≡ sort-of.Bad → FoundAt s from (Err BadSyntax)
  unfolding item_of
  item_bad e = by_sort e

  pub item_literal : r ≡ sort-of.Literal → FoundAt s from (Ok (Byte false here (from.at + 1)))
  unfolding item_of
  item_literal e = shows_byte s from.at from.depth (from.at + 1) 0 (omega arith) (omega (arith, h.there)) unescaped here (by_sort e)

  -- no more parentheses are open than bytes stand before
  module _ (few : open_in from.mode ≤ from.at) where
    pub opening_few : {n : ℕ} → r ≡ sort-of.Opening n → n ≤ from.at
    opening_few {n = n} e = let k = open_is from.mode n (known e).carries in omega arith

    pub item_opening : {n : ℕ} → r ≡ sort-of.Opening n → FoundAt s from (Ok (Paren here (n + 1)))
    unfolding item_of opened
    item_opening {n = n} e = (
      by_sort e ∙ ap (λ (x : Mode). opened x here) (known e).carries ∙ ap (paren here) (sym (add-one n)),
      h.there,
      omega (arith, opening_few e),
    )

    pub closing_few : {n : ℕ} → r ≡ sort-of.Closing n → n ≤ from.at
    closing_few {n = n} e = let k = open_is from.mode n (known e).carries in omega arith

  pub item_closing : {n : ℕ} → r ≡ sort-of.Closing n → (i : Result code-item.Item Refusal) → Closes s from n i → FoundAt s from i
  unfolding item_of
  item_closing e i q =
      same_item s from.at from.depth i (by_sort e ∙ ap (λ (x : Mode). closed x here (drop (from.at + 1) s)) (known e).carries) q
