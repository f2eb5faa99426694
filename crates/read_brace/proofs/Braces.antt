-- What stands after `${`, as the classifier's functions find it: each law is one way through one of them.
use Rattle.std.specs.Prelude.{None, Result, Ok, Err}
use Prim.Native.Nat.{ℕ, suc, ◌+◌, ◌-◌, ◌≤◌, ◌<◌}
use native.Mathlib.Omega.{arith}
use mathlib.Core.Path.{◌≡◌, refl, sym, ap, ◌∙◌}
use mathlib.Core.Bool.{Bool, true, false}
use mathlib.Core.List.{[], ◌∷◌}
use borrow.Author.Tests.{eq-eqb, ne_eqb}
use lib.ListN.{length, drop, get_or, drop_of_length-le}
use lib.Seq.{drop-cons}
use Rattle.stages.specs.Numbers.{unserved, bad_syntax}
use Rattle.stages.specs.Bytes.{Text, text, part, is_in, is_name_start}
use Rattle.stages.specs.Syntax.{Param, Spread, Lists, served, barred, var, nth}
use Rattle.stages.specs.Items.{Item, fault, spread, wrong, braced, name_then, number_of, is_first_digit, behind_name, behind_length, behind_hash}
use Rattle.stages.specs.Items.{spread_of, lists_in, braced_list, behind_list, behind_list_colon}
use Rattle.text.specs.Cases.{spread_of as givenAs}
use Rattle.text.specs.Classes.{Runs}
use Rattle.text.specs.declared.Class.TheVariants.{NameByte, Digit}
use Rattle.text.proofs.Parts.{part_length}
use Rattle.text.specs.Refusals.{refusal_number}
use Rattle.text.specs.declared.refusal.Refusal.{Refusal}
use Rattle.text.specs.declared.refusal.Refusal.TheVariants.{Unended, Unserved, TooDeep}
use Rattle.read_mode.specs.Modes.{mode_of}
use Rattle.read_mode.specs.declared.Cursor.{Cursor}
use Rattle.read_brace.specs.Shows.{Finds, param_of, CalledTo, CalledAt}
use Rattle.read_brace.specs.declared.Param as code-param
use Rattle.read_brace.specs.declared.Item as code-item
use Rattle.read_brace.specs.declared.Item.TheVariants.{Total}
use Rattle.read_brace.specs.declared.Item.TheVariants as code
use Rattle.read_brace.proofs.Showing.{same_item, shows_total, shows_spread, wrong_byte}
use Rattle.read_brace.proofs.Names.{Names, Lengths}

-- A parameter at a place.

module _ (s : Text) (at : ℕ) (l : at < length s) where
  named_name : (f : Param → ℕ → Text → Item) → is_name_start (get_or s at 0) ≡ true → (to : ℕ) → Runs s at NameByte to
      → name_then f (drop at s) ≡ f (var (part s at to)) (to - at) (drop to s)
  unfolding name_then
  named_name f e to r =
      ap (name_then f) (drop-cons s at 0 l)
      ∙ rw e (rw (← drop-cons s at 0 l) (ap (λ (p : Text × Text). f (var p.0) (length p.0) p.1) r.is))
      ∙ ap (λ (n : ℕ). f (var (part s at to)) n (drop to s)) (part_length s at to r.onward r.within)

  pub called_name : is_name_start (get_or s at 0) ≡ true → (to : ℕ) → Runs s at NameByte to
      → CalledTo s at (record { numbered = false; from = at; to = to })
  called_name e to r = record { starts = refl; onward = r.onward; within = r.within; is = λ f. named_name f e to r }

  module _ (n : is_name_start (get_or s at 0) ≡ false) where
    named_number : (f : Param → ℕ → Text → Item) → is_first_digit (get_or s at 0) ≡ true → (to : ℕ) → Runs s at Digit to
        → name_then f (drop at s) ≡ f (nth (number_of 0 (part s at to))) (to - at) (drop to s)
    unfolding name_then
    named_number f e to r =
        ap (name_then f) (drop-cons s at 0 l)
        ∙ rw (n, e) (rw (← drop-cons s at 0 l) (ap (λ (p : Text × Text). f (nth (number_of 0 p.0)) (length p.0) p.1) r.is))
        ∙ ap (λ (k : ℕ). f (nth (number_of 0 (part s at to))) k (drop to s)) (part_length s at to r.onward r.within)

    pub called_number : is_first_digit (get_or s at 0) ≡ true → (to : ℕ) → Runs s at Digit to
        → CalledTo s at (record { numbered = true; from = at; to = to })
    called_number e to r = record { starts = refl; onward = r.onward; within = r.within; is = λ f. named_number f e to r }

    pub called_none : is_first_digit (get_or s at 0) ≡ false → CalledAt s at None
    unfolding name_then
    called_none e f = ap (name_then f) (drop-cons s at 0 l) ∙ rw (n, e) (ap (wrong unserved) (sym (drop-cons s at 0 l)))

-- no parameter is called by the byte
none_wrong : (s : Text) (at : ℕ) → at < length s → {i : Item} → i ≡ wrong unserved (drop at s) → {n : ℕ}
    → wrong unserved (get_or s at 0 ∷ []) ≡ fault n → i ≡ fault n
none_wrong s at l e w = e ∙ ap (wrong unserved) (drop-cons s at 0 l) ∙ wrong_byte unserved (get_or s at 0) (drop (suc at) s) [] w

-- how many bytes belong to `${name` and to `${#name`
named_width : (a to at i : ℕ) → a ≡ at + i → a ≤ to → to - (at + i) + i ≡ to - at
named_width a to at i e l = omega arith

-- After `${#`.

abbrev Hashes : Text → Cursor → Result code-item.Item Refusal → Type 0
Hashes s from r = Finds s from.at from.depth r (behind_hash (drop (from.at + 3) s))

module _ (s : Text) (from : Cursor) where
  pub hash_end : length s ≤ from.at + 3 → Hashes s from (Err Unended)
  unfolding behind_hash wrong
  hash_end l = ap behind_hash (drop_of_length-le s l)

  module _ (l : from.at + 3 < length s) where
    pub hash_total : get_or s (from.at + 3) 0 ≡ 125 → Hashes s from (Ok (Total (from.at + 4)))
    unfolding behind_hash
    hash_total e =
        shows_total s from.at from.depth (from.at + 4) 3 (omega arith) (omega arith) (rw (drop-cons s (from.at + 3) 0 l) (rw (eq-eqb _ _ e)))

    module _ (e : get_or s (from.at + 3) 0 ≡ 125 → ⊥) where
      hash_is : behind_hash (drop (from.at + 3) s) ≡ name_then (λ x k u. behind_length x (k + 3) u) (drop (from.at + 3) s)
      unfolding behind_hash
      hash_is =
          ap behind_hash (drop-cons s (from.at + 3) 0 l)
          ∙ rw (ne_eqb _ _ e) (ap (name_then (λ x k u. behind_length x (k + 3) u)) (sym (drop-cons s (from.at + 3) 0 l)))

      pub hash_param : (p : code-param.Param) → CalledTo s (from.at + 3) p → (r : Result code-item.Item Refusal) → Lengths s from p r → Hashes s from r
      hash_param p c r h =
          same_item s from.at from.depth r
          (hash_is ∙ c.is (λ x k u. behind_length x (k + 3) u)
          ∙ ap (λ (n : ℕ). behind_length (param_of s p) n (drop p.to s)) (named_width p.from p.to from.at 3 c.starts c.onward)) h

      pub hash_wrong : CalledAt s (from.at + 3) None → (n : Refusal)
          → wrong unserved (get_or s (from.at + 3) 0 ∷ []) ≡ fault (refusal_number n) → Hashes s from (Err n)
      hash_wrong c n w = none_wrong s (from.at + 3) l (hash_is ∙ c (λ x k u. behind_length x (k + 3) u)) w

-- After `${@:` and `${*:`.

abbrev ListColons : Text → Cursor → Result code-item.Item Refusal → Type 0
ListColons s from r = Finds s from.at from.depth r (behind_list_colon (drop (from.at + 4) s))

module _ (s : Text) (from : Cursor) where
  pub list_colon_end : length s ≤ from.at + 4 → ListColons s from (Err Unended)
  unfolding behind_list_colon wrong
  list_colon_end l = ap behind_list_colon (drop_of_length-le s l)

  module _ (l : from.at + 4 < length s) where
    pub list_colon_sign : is_in (get_or s (from.at + 4) 0) (text "-=?+") ≡ true → ListColons s from (Err Unserved)
    unfolding behind_list_colon
    list_colon_sign e = rw (drop-cons s (from.at + 4) 0 l) (rw e)

    pub list_colon_wrong : is_in (get_or s (from.at + 4) 0) (text "-=?+") ≡ false → (n : Refusal)
        → wrong bad_syntax (get_or s (from.at + 4) 0 ∷ []) ≡ fault (refusal_number n)
        → ListColons s from (Err n)
    unfolding behind_list_colon
    list_colon_wrong e n w =
        rw (drop-cons s (from.at + 4) 0 l) (rw e (wrong_byte bad_syntax (get_or s (from.at + 4) 0) (drop (suc (from.at + 4)) s) [] w))

-- After `${@` and `${*`.

abbrev ListNames : Text → Cursor → Result code-item.Item Refusal → Type 0
ListNames s from r = Finds s from.at from.depth r (behind_list (get_or s (from.at + 2) 0) (drop (from.at + 3) s))

module _ (s : Text) (from : Cursor) where
  pub list_end : length s ≤ from.at + 3 → ListNames s from (Err Unended)
  unfolding behind_list wrong
  list_end l = ap (behind_list (get_or s (from.at + 2) 0)) (drop_of_length-le s l)

  module _ (l : from.at + 3 < length s) where
    list_head : behind_list (get_or s (from.at + 2) 0) (drop (from.at + 3) s)
        ≡ behind_list (get_or s (from.at + 2) 0) (get_or s (from.at + 3) 0 ∷ drop (suc (from.at + 3)) s)
    list_head = ap (behind_list (get_or s (from.at + 2) 0)) (drop-cons s (from.at + 3) 0 l)

    pub list_close : get_or s (from.at + 3) 0 ≡ 125 → (a : Bool) → givenAs a ≡ spread_of (get_or s (from.at + 2) 0)
        → ListNames s from (Ok (code.Spread a (from.at + 4)))
    unfolding behind_list
    list_close e a g =
        shows_spread s from.at from.depth (from.at + 4) 3 (omega arith) (omega arith) a
        (list_head ∙ rw (eq-eqb _ _ e) (ap (λ (x : Spread). spread x 3) (sym g)))

    module _ (e : get_or s (from.at + 3) 0 ≡ 125 → ⊥) where
      pub list_colon : get_or s (from.at + 3) 0 ≡ 58 → (r : Result code-item.Item Refusal) → ListColons s from r → ListNames s from r
      unfolding behind_list
      list_colon f r q =
          let n : suc (from.at + 3) ≡ from.at + 4 = omega arith in
          same_item s from.at from.depth r (list_head ∙ rw (ne_eqb _ _ e, eq-eqb _ _ f) (rw n)) q

      module _ (f : get_or s (from.at + 3) 0 ≡ 58 → ⊥) where
        pub list_sign : is_in (get_or s (from.at + 3) 0) (text "-=?+%#") ≡ true → ListNames s from (Err Unserved)
        unfolding behind_list
        list_sign g = list_head ∙ rw (ne_eqb _ _ e, ne_eqb _ _ f, g)

        pub list_wrong : is_in (get_or s (from.at + 3) 0) (text "-=?+%#") ≡ false → (n : Refusal)
            → wrong bad_syntax (get_or s (from.at + 3) 0 ∷ []) ≡ fault (refusal_number n)
            → ListNames s from (Err n)
        unfolding behind_list
        list_wrong g n w =
            list_head ∙ rw (ne_eqb _ _ e, ne_eqb _ _ f, g) (wrong_byte bad_syntax (get_or s (from.at + 3) 0) (drop (suc (from.at + 3)) s) [] w)

abbrev ListAts : Text → Cursor → Result code-item.Item Refusal → Type 0
ListAts s from r =
    Finds s from.at from.depth r (braced_list (lists_in (mode_of from.mode)) (get_or s (from.at + 2) 0) (drop (from.at + 3) s))

module _ (s : Text) (from : Cursor) where
  pub list_served : lists_in (mode_of from.mode) ≡ served → (r : Result code-item.Item Refusal) → ListNames s from r → ListAts s from r
  unfolding braced_list
  list_served e r q =
      same_item s from.at from.depth r (ap (λ (l : Lists). braced_list l (get_or s (from.at + 2) 0) (drop (from.at + 3) s)) e) q

  pub list_barred : lists_in (mode_of from.mode) ≡ barred → ListAts s from (Err Unserved)
  unfolding braced_list
  list_barred e = ap (λ (l : Lists). braced_list l (get_or s (from.at + 2) 0) (drop (from.at + 3) s)) e

-- After `${`.

abbrev Braces : Text → Cursor → Result code-item.Item Refusal → Type 0
Braces s from r = Finds s from.at from.depth r (braced (mode_of from.mode) from.depth (drop (from.at + 2) s))

-- an expansion may open, and a byte stands after its `${`
pub record Braced (s : Text) (from : Cursor) : Type 0 where
  pub deep : from.depth ≡ 0 → ⊥
  pub there : from.at + 2 < length s

module _ (s : Text) (from : Cursor) where
  pub brace_deep : from.depth ≡ 0 → Braces s from (Err TooDeep)
  unfolding braced
  brace_deep e = ap (λ (n : ℕ). braced (mode_of from.mode) n (drop (from.at + 2) s)) e

  deepened : (from.depth ≡ 0 → ⊥)
      → braced (mode_of from.mode) from.depth (drop (from.at + 2) s) ≡ braced (mode_of from.mode) (suc (from.depth - 1)) (drop (from.at + 2) s)
  deepened z = let e : from.depth ≡ suc (from.depth - 1) = omega arith in ap (λ (n : ℕ). braced (mode_of from.mode) n (drop (from.at + 2) s)) e

  pub brace_end : (from.depth ≡ 0 → ⊥) → length s ≤ from.at + 2 → Braces s from (Err Unended)
  unfolding braced wrong
  brace_end z l = deepened z ∙ ap (braced (mode_of from.mode) (suc (from.depth - 1))) (drop_of_length-le s l)

module _ {s : Text} {from : Cursor} (h : Braced s from) where
  abbrev c : ℕ
  c = get_or s (from.at + 2) 0

  first : braced (mode_of from.mode) from.depth (drop (from.at + 2) s)
      ≡ braced (mode_of from.mode) (suc (from.depth - 1)) (c ∷ drop (suc (from.at + 2)) s)
  first = deepened s from h.deep ∙ ap (braced (mode_of from.mode) (suc (from.depth - 1))) (drop-cons s (from.at + 2) 0 h.there)

  pub brace_length : c ≡ 35 → (r : Result code-item.Item Refusal) → Hashes s from r → Braces s from r
  unfolding braced
  brace_length e r q =
      let n : suc (from.at + 2) ≡ from.at + 3 = omega arith in
      same_item s from.at from.depth r (first ∙ rw (eq-eqb _ _ e) (rw n)) q

  module _ (e : c ≡ 35 → ⊥) where
    pub brace_list : is_in c (text "@*") ≡ true → (r : Result code-item.Item Refusal) → ListAts s from r → Braces s from r
    unfolding braced
    brace_list f r q =
        let n : suc (from.at + 2) ≡ from.at + 3 = omega arith in
        same_item s from.at from.depth r (first ∙ rw (ne_eqb _ _ e, f) (rw n)) q

    module _ (f : is_in c (text "@*") ≡ false) where
      brace_name : braced (mode_of from.mode) from.depth (drop (from.at + 2) s)
          ≡ name_then (λ x k u. behind_name (mode_of from.mode) x (k + 2) u) (drop (from.at + 2) s)
      unfolding braced
      brace_name =
          first
          ∙ rw (ne_eqb _ _ e, f)
          (ap (name_then (λ x k u. behind_name (mode_of from.mode) x (k + 2) u)) (sym (drop-cons s (from.at + 2) 0 h.there)))

      pub brace_named : (p : code-param.Param) → CalledTo s (from.at + 2) p → (r : Result code-item.Item Refusal) → Names s from p r → Braces s from r
      brace_named p g r q =
          same_item s from.at from.depth r
          (brace_name ∙ g.is (λ x k u. behind_name (mode_of from.mode) x (k + 2) u)
          ∙ ap (λ (n : ℕ). behind_name (mode_of from.mode) (param_of s p) n (drop p.to s))
          (named_width p.from p.to from.at 2 g.starts g.onward)) q

      pub brace_wrong : CalledAt s (from.at + 2) None → (n : Refusal) → wrong unserved (c ∷ []) ≡ fault (refusal_number n) → Braces s from (Err n)
      brace_wrong g n w = none_wrong s (from.at + 2) h.there (brace_name ∙ g (λ x k u. behind_name (mode_of from.mode) x (k + 2) u)) w
