-- What stands after a `$`, as the classifier's functions find it: each law is one way through one of them.
use Rattle.std.specs.Prelude.{Result, Ok, Err}
use Prim.Native.Nat.{ℕ, suc, ◌+◌, ◌-◌, ◌≤◌, ◌<◌}
use native.Mathlib.Omega.{arith}
use mathlib.Core.Path.{◌≡◌, refl, sym, ap, ◌∙◌}
use mathlib.Core.Bool.{Bool, true, false, ◌&&◌}
use mathlib.Core.List.{[], ◌∷◌}
use borrow.Author.Tests.{eq-eqb, ne_eqb}
use lib.ListN.{length, take, drop, get_or, drop_of_length-le}
use lib.Seq.{drop-cons}
use Rattle.stages.specs.Bytes.{Text, text, part, is_in, is_name_start}
use Rattle.stages.specs.Syntax.{unescaped, Lists, served, barred, Spread, var, nth}
use Rattle.stages.specs.Items.{value_of, spread, expansion, not_served, is_bare_text, braced, number_of, is_first_digit, lists_in, spread_at, spread_of}
use Rattle.text.specs.Cases.{spread_of as givenAs}
use Rattle.text.specs.Classes.{Runs}
use Rattle.text.specs.declared.Class.TheVariants.{NameByte}
use Rattle.text.proofs.Parts.{part_length}
use Rattle.text.specs.declared.refusal.Refusal.{Refusal}
use Rattle.text.specs.declared.refusal.Refusal.TheVariants.{Unserved}
use Rattle.read_mode.specs.Modes.{mode_of}
use Rattle.read_mode.specs.declared.Cursor.{Cursor}
use Rattle.read_mode.specs.declared.Mode.TheVariants as mode
use Rattle.read_brace.specs.Shows.{Shows, Finds}
use Rattle.read_brace.specs.declared.Param.{Param}
use Rattle.read_brace.specs.declared.Item as code-item
use Rattle.read_brace.specs.declared.Item.TheVariants.{Byte, Value, Total}
use Rattle.read_brace.specs.declared.Item.TheVariants as code
use Rattle.read_brace.proofs.Showing.{same_item, shows_byte, shows_value, shows_total, shows_spread, plain_value}
use Rattle.read_item.specs.After.{dollar_quote, special}
use Rattle.read_item.proofs.Class.{Second, Parens}

-- After `$@` and `$*`.

abbrev Spreads : Text → Cursor → Result code-item.Item Refusal → Type 0
Spreads s from r = Finds s from.at from.depth r (spread_at (lists_in (mode_of from.mode)) (get_or s (from.at + 1) 0) 1)

module _ (s : Text) (from : Cursor) where
  pub spread_served : from.at + 1 < length s → lists_in (mode_of from.mode) ≡ served → (a : Bool) → givenAs a ≡ spread_of (get_or s (from.at + 1) 0)
      → Spreads s from (Ok (code.Spread a (from.at + 2)))
  unfolding spread_at
  spread_served l e a g =
      shows_spread s from.at from.depth (from.at + 2) 1 (omega arith) (omega arith) a
      (ap (λ (k : Lists). spread_at k (get_or s (from.at + 1) 0) 1) e ∙ ap (λ (x : Spread). spread x 1) (sym g))

  pub spread_barred : lists_in (mode_of from.mode) ≡ barred → Spreads s from (Err Unserved)
  unfolding spread_at
  spread_barred e = ap (λ (k : Lists). spread_at k (get_or s (from.at + 1) 0) 1) e

-- After `$`.

abbrev Expands : Text → Cursor → Result code-item.Item Refusal → Type 0
Expands s from r = Finds s from.at from.depth r (expansion (mode_of from.mode) from.depth (drop (from.at + 1) s))

-- After `$'`.

abbrev Quotes : Text → Cursor → code-item.Item → Type 0
Quotes s from r = Shows s from.at from.depth r (dollar_quote (mode_of from.mode))

and-true : (x : Bool) → (x && true) ≡ x
and-true true = refl
and-true false = refl

and-false : (x : Bool) → (x && false) ≡ false
and-false true = refl
and-false false = refl

module _ (s : Text) (from : Cursor) (h : from.at + 1 < length s) where
  pub quote_opens : is_bare_text (mode_of from.mode) ≡ true → Quotes s from (code.Quote (mode.Single true) (from.at + 2))
  unfolding dollar_quote
  quote_opens e =
      let k : from.at + 2 - suc from.at ≡ 1 = omega arith in
      (rw (e, k), record { onward = omega arith; within = omega arith }, refl)

  pub quote_literal : is_bare_text (mode_of from.mode) ≡ false → Quotes s from (Byte false 36 (from.at + 1))
  unfolding dollar_quote
  quote_literal e = shows_byte s from.at from.depth (from.at + 1) 0 (omega arith) (omega arith) unescaped 36 (rw e)

-- After `$`, where no name, no parenthesis and no brace begins.

abbrev Specials : Text → Cursor → Result code-item.Item Refusal → Type 0
Specials s from r = Finds s from.at from.depth r (special (mode_of from.mode) (get_or s (from.at + 1) 0))

one_part : (s : Text) (at : ℕ) → at + 1 < length s → part s (at + 1) (at + 2) ≡ get_or s (at + 1) 0 ∷ []
one_part s at l =
    let n : at + 2 - (at + 1) ≡ 1 = omega arith in
    ap (λ (k : ℕ). take k (drop (at + 1) s)) n ∙ ap (take 1) (drop-cons s (at + 1) 0 l)

digit_is : (b : ℕ) → b - 48 ≡ number_of 0 (b ∷ [])
unfolding number_of
digit_is b = omega arith

module _ {s : Text} {from : Cursor} (h : Second s from) where
  abbrev b : ℕ
  b = get_or s (from.at + 1) 0

  pub special_digit : is_first_digit b ≡ true
      → Specials s from (Ok (Value (record { numbered = true; from = from.at + 1; to = from.at + 2 }) (from.at + 2)))
  unfolding special
  special_digit e =
      let p : Param = record { numbered = true; from = from.at + 1; to = from.at + 2 } in
      shows_value s from.at from.depth (from.at + 2) 1 (omega arith) (omega (arith, h.there)) p (omega arith) (omega (arith, h.there))
      (plain_value s from.at p refl (eq-eqb (from.at + 2 - suc from.at) 1 (omega arith)))
      (rw e (ap (λ (n : ℕ). value_of (nth n) 1) (digit_is b ∙ ap (number_of 0) (sym (one_part s from.at h.there)))))

  module _ (e : is_first_digit b ≡ false) where
    pub special_total : b ≡ 35 → Specials s from (Ok (Total (from.at + 2)))
    unfolding special
    special_total f = shows_total s from.at from.depth (from.at + 2) 1 (omega arith) (omega (arith, h.there)) (rw (e, eq-eqb _ _ f))

    module _ (f : b ≡ 35 → ⊥) where
      pub special_spread : is_in b (text "@*") ≡ true → (r : Result code-item.Item Refusal) → Spreads s from r → Specials s from r
      unfolding special
      special_spread g r q = same_item s from.at from.depth r (rw (e, ne_eqb _ _ f, g)) q

      module _ (g : is_in b (text "@*") ≡ false) where
        pub special_unserved : not_served b ≡ true → Specials s from (Err Unserved)
        unfolding special
        special_unserved k = rw (e, ne_eqb _ _ f, g, k)

        module _ (k : not_served b ≡ false) where
          pub special_quote : b ≡ 39 → (r : code-item.Item) → Quotes s from r → Specials s from (Ok r)
          unfolding special dollar_quote
          special_quote q r p =
              same_item s from.at from.depth (Ok r) (rw (e, ne_eqb _ _ f, g, k, eq-eqb b 39 q, and-true (is_bare_text (mode_of from.mode)))) p

          pub special_plain : (b ≡ 39 → ⊥) → Specials s from (Ok (Byte false 36 (from.at + 1)))
          unfolding special
          special_plain q =
              shows_byte s from.at from.depth (from.at + 1) 0 (omega arith) (omega (arith, h.there)) unescaped 36
              (rw (e, ne_eqb _ _ f, g, k, ne_eqb b 39 q, and-false (is_bare_text (mode_of from.mode))))

-- no name stands after the `$`
pub record NoName (s : Text) (from : Cursor) : Type 0 where
  pub second : Second s from
  pub none : is_name_start (get_or s (from.at + 1) 0) ≡ false

pub no_name : (s : Text) (from : Cursor) → from.at + 1 < length s → is_name_start (get_or s (from.at + 1) 0) ≡ false → NoName s from
no_name s from l e = record { second = record { there = l }; none = e }

module _ (s : Text) (from : Cursor) where
  top : from.at + 1 < length s
      → expansion (mode_of from.mode) from.depth (drop (from.at + 1) s)
      ≡ expansion (mode_of from.mode) from.depth (get_or s (from.at + 1) 0 ∷ drop (suc (from.at + 1)) s)
  top l = ap (expansion (mode_of from.mode) from.depth) (drop-cons s (from.at + 1) 0 l)

  two : suc (from.at + 1) ≡ from.at + 2
  two = omega arith

  pub dollar_end : from.at < length s → length s ≤ from.at + 1 → Expands s from (Ok (Byte false 36 (from.at + 1)))
  unfolding expansion
  dollar_end w l =
      shows_byte s from.at from.depth (from.at + 1) 0 (omega arith) (omega arith) unescaped 36
      (ap (expansion (mode_of from.mode) from.depth) (drop_of_length-le s l))

pub dollar_name : {s : Text} {from : Cursor} → Second s from → is_name_start (get_or s (from.at + 1) 0) ≡ true → (to : ℕ)
    → Runs s (from.at + 1) NameByte to → Expands s from (Ok (Value (record { numbered = false; from = from.at + 1; to = to }) to))
unfolding expansion
dollar_name {s = s} {from = from} h e to r =
    let l = h.there in
    let n = part_length s (from.at + 1) to r.onward r.within in
    let p : Param = record { numbered = false; from = from.at + 1; to = to } in
    shows_value s from.at from.depth to (to - (from.at + 1)) (omega (arith, r.onward)) r.within p r.onward r.within
    (plain_value s from.at p refl (eq-eqb (to - suc from.at) (length (part s (from.at + 1) to)) (omega (arith, n, r.onward))))
    (top s from l
    ∙ rw e
    (rw (← drop-cons s (from.at + 1) 0 l)
    (ap (λ (p : Text × Text). value_of (var p.0) (length p.0)) r.is ∙ ap (value_of (var (part s (from.at + 1) to))) n)))

module _ {s : Text} {from : Cursor} (h : NoName s from) where
  pub dollar_paren : get_or s (from.at + 1) 0 ≡ 40 → (r : Result code-item.Item Refusal) → Parens s from r → Expands s from r
  unfolding expansion
  dollar_paren f r q = same_item s from.at from.depth r (top s from h.second.there ∙ rw (h.none, eq-eqb _ _ f) (rw (two s from))) q

  module _ (f : get_or s (from.at + 1) 0 ≡ 40 → ⊥) where
    pub dollar_brace : get_or s (from.at + 1) 0 ≡ 123 → (r : Result code-item.Item Refusal)
        → Finds s from.at from.depth r (braced (mode_of from.mode) from.depth (drop (from.at + 2) s)) → Expands s from r
    unfolding expansion
    dollar_brace g r q =
        same_item s from.at from.depth r (top s from h.second.there ∙ rw (h.none, ne_eqb _ _ f, eq-eqb _ _ g) (rw (two s from))) q

    pub dollar_special : (get_or s (from.at + 1) 0 ≡ 123 → ⊥) → (r : Result code-item.Item Refusal) → Specials s from r → Expands s from r
    unfolding expansion special
    dollar_special g r q = same_item s from.at from.depth r (top s from h.second.there ∙ rw (h.none, ne_eqb _ _ f, ne_eqb _ _ g)) q
