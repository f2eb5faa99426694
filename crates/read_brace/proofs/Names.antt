-- What stands after a parameter in braces, as the classifier's functions find it: each law is one way through one of them.
use Rattle.std.specs.Prelude.{Result, Ok, Err}
use Prim.Native.Nat.{ℕ, suc, ◌+◌, ◌-◌, ◌≤◌, ◌<◌}
use native.Mathlib.Omega.{arith}
use native.Mathlib.Numerals.{add-one}
use mathlib.Core.Path.{◌≡◌, refl, sym, ap, ◌∙◌}
use mathlib.Core.Bool.{Bool, true, false, ◌&&◌}
use mathlib.Core.List.{[], ◌∷◌}
use borrow.Author.Tests.{eq-eqb, ne_eqb}
use lib.Dec.{eqb}
use lib.ListN.{length, drop, get_or, drop_of_length-le}
use lib.Seq.{drop-cons}
use Rattle.stages.specs.Numbers.{unserved, bad_syntax}
use Rattle.stages.specs.Bytes.{Text, text, part, is_in}
use Rattle.stages.specs.Outcome.{pick}
use Rattle.stages.specs.Syntax.{Side, suffix, prefix, shortest, longest, removal, Mode, Param, fresh, barred, bare}
use Rattle.stages.specs.Items.{fault, inner}
use Rattle.stages.specs.Items.{wrong, behind_name, behind_sign, behind_colon, behind_length, behind_removal, sign_form, let_by, operand_mode}
use Rattle.text.specs.Cases.{colon_of, lists_of}
use Rattle.text.specs.Refusals.{refusal_number}
use Rattle.text.specs.declared.refusal.Refusal.{Refusal}
use Rattle.text.specs.declared.refusal.Refusal.TheVariants.{Unended, Unserved}
use Rattle.read_mode.specs.Modes.{mode_of, form_of, Operands}
use Rattle.read_mode.specs.declared.Cursor.{Cursor}
use Rattle.read_mode.specs.declared.Form as code-form
use Rattle.read_mode.specs.declared.Mode as code-mode
use Rattle.read_mode.specs.declared.Mode.TheVariants as mode
use Rattle.read_brace.specs.Shows.{Finds, is_at, removal_side, param_of, colon_length, sign_length}
use Rattle.read_brace.specs.declared.Param as code-param
use Rattle.read_brace.specs.declared.Item as code-item
use Rattle.read_brace.specs.declared.Item.TheVariants.{Value, Count, Inner}
use Rattle.read_brace.proofs.Showing.{same_item, shows_value, shows_count, shows_inner, inner_same, braced_value}
use Rattle.read_brace.proofs.Showing.{sign_length_lem, numbered_is, wrong_byte, at_within}

-- a parameter stands after `${`, a byte behind it, and an expansion may open
pub record Ended (s : Text) (from : Cursor) (p : code-param.Param) : Type 0 where
  pub starts : p.from ≡ from.at + 2
  pub onward : p.from ≤ p.to
  pub there : p.to < length s
  pub deep : 0 < from.depth

pub ended : (s : Text) (from : Cursor) (p : code-param.Param) → (p.from ≡ from.at + 2) × (p.from ≤ p.to) × (p.to < length s) × (0 < from.depth) → Ended s from p
ended s from p r = record { starts = r.0; onward = r.1; there = r.2; deep = r.3 }

-- After one of `-=?+`.

abbrev Signs : Text → Cursor → code-param.Param → Bool → ℕ → Result code-item.Item Refusal → Type 0
Signs s from p colon sign r =
    Finds s from.at from.depth r
    (behind_sign (mode_of from.mode) (param_of s p) (colon_of colon) (sign - from.at) (get_or s sign 0))

-- the sign's place, with a colon before it or not
pub record Signed (s : Text) (from : Cursor) (p : code-param.Param) (colon : Bool) (sign : ℕ) : Type 0 where
  pub starts : p.from ≡ from.at + 2
  pub onward : p.from ≤ p.to
  pub behind : p.to ≤ sign
  pub place : sign + 1 ≡ p.to + colon_length (colon_of colon)
  pub there : sign < length s
  pub deep : 0 < from.depth

pub signed : (s : Text) (from : Cursor) (p : code-param.Param) (colon : Bool) (sign : ℕ)
    → (p.from ≡ from.at + 2) × (p.from ≤ p.to) × (p.to ≤ sign) × (sign + 1 ≡ p.to + colon_length (colon_of colon)) × (sign < length s) × (0 < from.depth)
    → Signed s from p colon sign
signed s from p colon sign r = record { starts = r.0; onward = r.1; behind = r.2; place = r.3; there = r.4; deep = r.5 }

sign_is : (s : Text) (from : Cursor) (p : code-param.Param) (colon : Bool) (sign : ℕ) (t : Bool) → t ≡ (p.numbered && eqb (get_or s sign 0) 61)
    → behind_sign (mode_of from.mode) (param_of s p) (colon_of colon) (sign - from.at) (get_or s sign 0) ≡ pick t (fault unserved)
    (inner (param_of s p) (sign_form (get_or s sign 0) (colon_of colon)) (operand_mode (mode_of from.mode) (let_by (get_or s sign 0))) (sign - from.at))
unfolding behind_sign
sign_is s from p colon sign t e =
    let n = numbered_is p.numbered (part s p.from p.to) in
    ap (λ (x : Bool). pick (x && eqb (get_or s sign 0) 61) (fault unserved)
    (inner (param_of s p) (sign_form (get_or s sign 0) (colon_of colon)) (operand_mode (mode_of from.mode) (let_by (get_or s sign 0))) (sign - from.at))) n
    ∙ ap (λ (x : Bool). pick x (fault unserved)
    (inner (param_of s p) (sign_form (get_or s sign 0) (colon_of colon)) (operand_mode (mode_of from.mode) (let_by (get_or s sign 0))) (sign - from.at)))
    (sym e)

module _ {s : Text} {from : Cursor} {p : code-param.Param} {colon : Bool} {sign : ℕ} (h : Signed s from p colon sign) {t : Bool}
    (e : t ≡ (p.numbered && eqb (get_or s sign 0) 61)) where
  pub sign_unserved : t ≡ true → Signs s from p colon sign (Err Unserved)
  sign_unserved g = sign_is s from p colon sign t e ∙ rw g

  pub sign_inner : t ≡ false → (f : code-form.Form) (l : Bool) (m : code-mode.Mode) → form_of f ≡ sign_form (get_or s sign 0) (colon_of colon)
      → lists_of l ≡ let_by (get_or s sign 0) → Operands (mode_of from.mode) (lists_of l) m → Signs s from p colon sign (Ok (Inner p f m (sign + 1)))
  sign_inner g f l m q v o =
      let w : sign_length (form_of f) ≡ colon_length (colon_of colon) = ap sign_length q ∙ sign_length_lem (get_or s sign 0) (colon_of colon) in
      shows_inner s from.at from.depth (sign + 1) (sign - from.at) (omega (arith, h.starts, h.onward, h.behind)) (omega (arith, h.there)) p
      h.onward (omega (arith, h.behind, h.there)) h.starts f m (h.place ∙ ap (λ (n : ℕ). p.to + n) (sym w)) h.deep o.closed
      (sign_is s from p colon sign t e ∙ rw g
      (inner_same (param_of s p) (sign - from.at) (sym q) (ap (operand_mode (mode_of from.mode)) (sym v) ∙ sym o.is)))

-- After `${name:`.

-- the sign behind a colon
pub two_more : (n : ℕ) → n + 1 + 1 ≡ n + 2
two_more n = omega arith

abbrev Colons : Text → Cursor → code-param.Param → Result code-item.Item Refusal → Type 0
Colons s from p r =
    Finds s from.at from.depth r
    (behind_colon (mode_of from.mode) (param_of s p) (p.to + 1 - from.at) (drop (p.to + 1) s))

-- a byte stands after the colon too
pub record Coloned (s : Text) (from : Cursor) (p : code-param.Param) : Type 0 where
  pub ended : Ended s from p
  pub there : p.to + 1 < length s

pub coloned : (s : Text) (from : Cursor) (p : code-param.Param) → (p.from ≡ from.at + 2) × (p.from ≤ p.to) × (p.to < length s) × (0 < from.depth)
    → p.to + 1 < length s → Coloned s from p
coloned s from p r l = record { ended = ended s from p r; there = l }

pub colon_end : (s : Text) (from : Cursor) (p : code-param.Param) → length s ≤ p.to + 1 → Colons s from p (Err Unended)
unfolding behind_colon wrong
colon_end s from p l = ap (behind_colon (mode_of from.mode) (param_of s p) (p.to + 1 - from.at)) (drop_of_length-le s l)

module _ {s : Text} {from : Cursor} {p : code-param.Param} (h : Coloned s from p) where
  pub colon_sign : is_in (get_or s (p.to + 1) 0) (text "-=?+") ≡ true → (r : Result code-item.Item Refusal) → Signs s from p true (p.to + 1) r
      → Colons s from p r
  unfolding behind_colon
  colon_sign e r q = same_item s from.at from.depth r (rw (drop-cons s (p.to + 1) 0 h.there) (rw e)) q

  pub colon_wrong : is_in (get_or s (p.to + 1) 0) (text "-=?+") ≡ false → (e : Refusal)
      → wrong bad_syntax (get_or s (p.to + 1) 0 ∷ []) ≡ fault (refusal_number e)
      → Colons s from p (Err e)
  unfolding behind_colon
  colon_wrong f n w =
      rw (drop-cons s (p.to + 1) 0 h.there) (rw f (wrong_byte bad_syntax (get_or s (p.to + 1) 0) (drop (suc (p.to + 1)) s) [] w))

-- After a removal's sign.

abbrev Removes : Text → Cursor → code-param.Param → Bool → Result code-item.Item Refusal → Type 0
Removes s from p side r =
    Finds s from.at from.depth r
    (behind_removal (param_of s p) (removal_side side) (get_or s p.to 0) (p.to - from.at) (drop (p.to + 1) s))

removal_is : (x : Param) (f : Side) (sign k : ℕ) (t : Text) → behind_removal x f sign k t ≡ pick (is_at sign t)
    (inner x (removal f longest) (bare fresh barred) (suc k)) (inner x (removal f shortest) (bare fresh barred) k)
unfolding behind_removal
removal_is x f sign k [] = refl
removal_is x f sign k (b ∷ t) = refl

module _ {s : Text} {from : Cursor} {p : code-param.Param} (h : Ended s from p) (side : Bool) where
  pub removal_doubled : is_at (get_or s p.to 0) (drop (p.to + 1) s) ≡ true → (f : code-form.Form) → form_of f ≡ removal (removal_side side) longest
      → Removes s from p side (Ok (Inner p f (mode.Bare true false) (p.to + 2)))
  removal_doubled e f q =
      let w = at_within (get_or s p.to 0) (p.to + 1) s e in
      shows_inner s from.at from.depth (p.to + 2) (suc (p.to - from.at)) (omega (arith, h.starts, h.onward)) (omega arith) p h.onward
      (omega (arith, h.there)) h.starts f (mode.Bare true false) (ap (λ (n : ℕ). p.to + n) (sym (ap sign_length q))) h.deep refl
      (removal_is (param_of s p) (removal_side side) (get_or s p.to 0) (p.to - from.at) (drop (p.to + 1) s) ∙ rw e
      (inner_same (param_of s p) (suc (p.to - from.at)) (sym q) refl))

  pub removal_once : is_at (get_or s p.to 0) (drop (p.to + 1) s) ≡ false → (f : code-form.Form) → form_of f ≡ removal (removal_side side) shortest
      → Removes s from p side (Ok (Inner p f (mode.Bare true false) (p.to + 1)))
  removal_once e f q =
      shows_inner s from.at from.depth (p.to + 1) (p.to - from.at) (omega (arith, h.starts, h.onward)) (omega (arith, h.there)) p h.onward
      (omega (arith, h.there)) h.starts f (mode.Bare true false) (ap (λ (n : ℕ). p.to + n) (sym (ap sign_length q))) h.deep refl
      (removal_is (param_of s p) (removal_side side) (get_or s p.to 0) (p.to - from.at) (drop (p.to + 1) s) ∙ rw e
      (inner_same (param_of s p) (p.to - from.at) (sym q) refl))

-- After `${name`.

abbrev pub Names : Text → Cursor → code-param.Param → Result code-item.Item Refusal → Type 0
Names s from p r =
    Finds s from.at from.depth r (behind_name (mode_of from.mode) (param_of s p) (p.to - from.at) (drop p.to s))

pub name_end : (s : Text) (from : Cursor) (p : code-param.Param) → length s ≤ p.to → Names s from p (Err Unended)
unfolding behind_name wrong
name_end s from p l = ap (behind_name (mode_of from.mode) (param_of s p) (p.to - from.at)) (drop_of_length-le s l)

colon_place : (m : Mode) (x : Param) (s : Text) (at to : ℕ) → at ≤ to → behind_colon m x (suc (to - at)) (drop (suc to) s) ≡ behind_colon m x
    (to + 1 - at) (drop (to + 1) s)
colon_place m x s at to l =
    let e : suc (to - at) ≡ to + 1 - at = omega arith in
    ap (λ (k : ℕ). behind_colon m x k (drop (suc to) s)) e ∙ ap (λ (i : ℕ). behind_colon m x (to + 1 - at) (drop i s)) (sym (add-one to))

removal_place : (x : Param) (f : Side) (b k to : ℕ) (s : Text) → behind_removal x f b k (drop (suc to) s) ≡ behind_removal x f b k (drop (to + 1) s)
removal_place x f b k to s = ap (λ (i : ℕ). behind_removal x f b k (drop i s)) (sym (add-one to))

module _ {s : Text} {from : Cursor} {p : code-param.Param} (h : Ended s from p) where
  abbrev m : Mode
  m = mode_of from.mode

  abbrev x : Param
  x = param_of s p

  abbrev k : ℕ
  k = p.to - from.at

  abbrev b : ℕ
  b = get_or s p.to 0

  head : behind_name m x k (drop p.to s) ≡ behind_name m x k (b ∷ drop (suc p.to) s)
  head = ap (behind_name m x k) (drop-cons s p.to 0 h.there)

  pub name_close : b ≡ 125 → Names s from p (Ok (Value p (p.to + 1)))
  unfolding behind_name
  name_close e =
      shows_value s from.at from.depth (p.to + 1) k (omega (arith, h.starts, h.onward)) (omega (arith, h.there)) p h.onward
      (omega (arith, h.there)) (braced_value s from.at p h.starts h.onward (omega (arith, h.there))) (head ∙ rw (eq-eqb _ _ e))

  module _ (e : b ≡ 125 → ⊥) where
    pub name_colon : b ≡ 58 → (r : Result code-item.Item Refusal) → Colons s from p r → Names s from p r
    unfolding behind_name
    name_colon f r q =
        same_item s from.at from.depth r
        (head ∙ rw (ne_eqb _ _ e, eq-eqb _ _ f) (colon_place m x s from.at p.to (omega (arith, h.starts, h.onward)))) q

    pub name_sign : (b ≡ 58 → ⊥) → is_in b (text "-=?+") ≡ true → (r : Result code-item.Item Refusal) → Signs s from p false p.to r → Names s from p r
    unfolding behind_name
    name_sign f g r q = same_item s from.at from.depth r (head ∙ rw (ne_eqb _ _ e, ne_eqb _ _ f, g)) q

-- the byte after the name does not close, and is no colon and none of `-=?+`
pub record NoSign (s : Text) (from : Cursor) (p : code-param.Param) : Type 0 where
  pub ended : Ended s from p
  pub close : get_or s p.to 0 ≡ 125 → ⊥
  pub colon : get_or s p.to 0 ≡ 58 → ⊥
  pub sign : is_in (get_or s p.to 0) (text "-=?+") ≡ false

pub no_sign : {s : Text} {from : Cursor} {p : code-param.Param} → Ended s from p → (get_or s p.to 0 ≡ 125 → ⊥) → (get_or s p.to 0 ≡ 58 → ⊥)
    → is_in (get_or s p.to 0) (text "-=?+") ≡ false → NoSign s from p
no_sign h e f g = record { ended = h; close = e; colon = f; sign = g }

module _ {s : Text} {from : Cursor} {p : code-param.Param} (h : NoSign s from p) where
  pub name_suffix : get_or s p.to 0 ≡ 37 → (r : Result code-item.Item Refusal) → Removes s from p false r → Names s from p r
  unfolding behind_name
  name_suffix i r q =
      same_item s from.at from.depth r
      (head h.ended ∙ rw (ne_eqb _ _ h.close, ne_eqb _ _ h.colon, h.sign, eq-eqb _ _ i)
      (removal_place (param_of s p) suffix (get_or s p.to 0) (p.to - from.at) p.to s)) q

  module _ (i : get_or s p.to 0 ≡ 37 → ⊥) where
    pub name_prefix : get_or s p.to 0 ≡ 35 → (r : Result code-item.Item Refusal) → Removes s from p true r → Names s from p r
    unfolding behind_name
    name_prefix j r q =
        same_item s from.at from.depth r
        (head h.ended ∙ rw (ne_eqb _ _ h.close, ne_eqb _ _ h.colon, h.sign, ne_eqb _ _ i, eq-eqb _ _ j)
        (removal_place (param_of s p) prefix (get_or s p.to 0) (p.to - from.at) p.to s)) q

    pub name_wrong : (get_or s p.to 0 ≡ 35 → ⊥) → (n : Refusal) → wrong bad_syntax (get_or s p.to 0 ∷ []) ≡ fault (refusal_number n) → Names s from p (Err n)
    unfolding behind_name
    name_wrong j n w =
        head h.ended ∙ rw (ne_eqb _ _ h.close, ne_eqb _ _ h.colon, h.sign, ne_eqb _ _ i, ne_eqb _ _ j)
        (wrong_byte bad_syntax (get_or s p.to 0) (drop (suc p.to) s) [] w)

-- After `${#name`.

abbrev pub Lengths : Text → Cursor → code-param.Param → Result code-item.Item Refusal → Type 0
Lengths s from p r = Finds s from.at from.depth r (behind_length (param_of s p) (p.to - from.at) (drop p.to s))

module _ (s : Text) (from : Cursor) (p : code-param.Param) where
  pub length_end : length s ≤ p.to → Lengths s from p (Err Unended)
  unfolding behind_length wrong
  length_end l = ap (behind_length (param_of s p) (p.to - from.at)) (drop_of_length-le s l)

  module _ (l : p.to < length s) where
    pub length_close : p.from ≡ from.at + 3 → p.from ≤ p.to → get_or s p.to 0 ≡ 125 → Lengths s from p (Ok (Count p (p.to + 1)))
    unfolding behind_length
    length_close n o e =
        shows_count s from.at from.depth (p.to + 1) (p.to - from.at) (omega arith) (omega arith) p o (omega arith) n refl
        (rw (drop-cons s p.to 0 l) (rw (eq-eqb _ _ e)))

    pub length_wrong : (get_or s p.to 0 ≡ 125 → ⊥) → (n : Refusal)
        → wrong bad_syntax (get_or s p.to 0 ∷ []) ≡ fault (refusal_number n) → Lengths s from p (Err n)
    unfolding behind_length
    length_wrong e n w = rw (drop-cons s p.to 0 l) (rw (ne_eqb _ _ e) (wrong_byte bad_syntax (get_or s p.to 0) (drop (suc p.to) s) [] w))
