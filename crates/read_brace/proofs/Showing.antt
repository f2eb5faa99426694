-- What the code's item shows of the stage's.
use Rattle.std.specs.Prelude.{Result}
use Prim.Native.Nat.{ℕ, zero, suc, ◌+◌, ◌-◌, ◌≤◌, ◌<◌}
use native.Mathlib.Omega.{arith}
use mathlib.Core.Path.{◌≡◌, refl, sym, ap, ◌∙◌, subst}
use mathlib.Core.Bool.{Bool, true, false}
use mathlib.Core.List.{[], ◌∷◌}
use borrow.Author.Tests.{ne_eqb}
use lib.Dec.{eqb}
use lib.ListN.{length, drop}
use Rattle.stages.specs.Bytes.{Text, part}
use Rattle.stages.specs.Outcome.{pick}
use Rattle.stages.specs.Syntax.{Escape, Form, Mode, Colon, bytes_of, parameters}
use Rattle.stages.specs.Syntax as syntax
use Rattle.stages.specs.Items.{Item, fault, stop, byte, value_of, count, spread, inner, home_of}
use Rattle.stages.specs.Items.{wrong, is_numbered, sign_form}
use Rattle.text.specs.Cases.{escape_of, is_escaped, spread_of as givenAs}
use Rattle.text.proofs.Cases.{escape_there}
use Rattle.text.specs.Places.{Behind}
use Rattle.text.specs.declared.refusal.Refusal.{Refusal}
use Rattle.read_mode.specs.Modes.{mode_of, open_in, form_of}
use Rattle.read_mode.specs.declared.Mode as code-mode
use Rattle.read_mode.specs.declared.Form as code-form
use Rattle.read_brace.specs.Shows.{Shows, Finds, is_at, called, param_of, is_plain, ValueAt, sign_length, colon_length}
use Rattle.read_brace.specs.declared.Param.{Param}
use Rattle.text.proofs.Parts.{part_length}
use Rattle.read_brace.specs.declared.Item as code-item
use Rattle.read_brace.specs.declared.Item.TheVariants as code

pub same_item : (s : Text) (at d : ℕ) (r : Result code-item.Item Refusal) {i j : Item} → i ≡ j → Finds s at d r j → Finds s at d r i
same_item s at d r e h = subst (λ (x : Item). Finds s at d r x) (sym e) h

module _ (s : Text) (at d next k : ℕ) (e : next ≡ at + suc k) (w : next ≤ length s) where
  took : k ≡ next - suc at
  took = omega arith

  past : Behind s at next
  past = record { onward = omega arith; within = w }

  pub shows_byte : (q : Escape) (b : ℕ) {i : Item} → i ≡ byte q b k → Shows s at d (code.Byte (is_escaped q) b next) i
  shows_byte q b h = (h ∙ ap (λ (e : Escape). byte e b k) (escape_there q) ∙ ap (byte (escape_of (is_escaped q)) b) took, past)

  pub shows_home : {i : Item} → i ≡ home_of (part s (at + 1) next) k → Shows s at d (code.Home next) i
  shows_home h = (h ∙ ap (home_of (part s (at + 1) next)) took, past)

  pub shows_total : {i : Item} → i ≡ count parameters k → Shows s at d (code.Total next) i
  shows_total h = (h ∙ ap (count parameters) took, past)

  pub shows_spread : (a : Bool) {i : Item} → i ≡ spread (givenAs a) k → Shows s at d (code.Spread a next) i
  shows_spread a h = (h ∙ ap (spread (givenAs a)) took, past)

  module _ (p : Param) (f : p.from ≤ p.to) (t : p.to ≤ length s) where
    pub shows_value : ValueAt at next p (param_of s p) → {i : Item} → i ≡ value_of (param_of s p) k → Shows s at d (code.Value p next) i
    shows_value q h = (h ∙ ap (value_of (param_of s p)) took, past, record { onward = f; within = t }, q)

    pub shows_count : p.from ≡ at + 3 → next ≡ p.to + 1 → {i : Item} → i ≡ count (bytes_of (param_of s p)) k → Shows s at d (code.Count p next) i
    shows_count q n h = (h ∙ ap (count (bytes_of (param_of s p))) took, past, record { onward = f; within = t }, q, n)

    pub shows_inner : p.from ≡ at + 2 → (g : code-form.Form) (m : code-mode.Mode) → next ≡ p.to + sign_length (form_of g) → 0 < d → open_in m ≡ 0
        → {i : Item} → i ≡ inner (param_of s p) (form_of g) (mode_of m) k → Shows s at d (code.Inner p g m next) i
    shows_inner q g m n z o h =
        (h ∙ ap (inner (param_of s p) (form_of g) (mode_of m)) took, past, record { onward = f; within = t }, z, o, q, n)

-- a parameter in no braces, and one in braces

braced_is : (n : Bool) (x : Text) (k : ℕ) → (k ≡ length x → ⊥) → (k ≡ 1 → ⊥) → is_plain (called n x) k ≡ false
braced_is true x k e f = ne_eqb k 1 f
braced_is false x k e f = ne_eqb k (length x) e

abbrev picked : ℕ → ℕ → Param → Bool → Type 0
picked at next p x = (p.from ≡ pick x (at + 1) (at + 2)) × (next ≡ pick x p.to (p.to + 1))

module _ (s : Text) (at : ℕ) (p : Param) where
  pub plain_value : p.from ≡ at + 1 → is_plain (param_of s p) (p.to - suc at) ≡ true → ValueAt at p.to p (param_of s p)
  plain_value e i =
      let w : picked at p.to p (is_plain (param_of s p) (p.to - suc at)) = subst (picked at p.to p) (sym i) (e, refl) in
      record { starts = w.0; ends = w.1 }

  pub braced_value : p.from ≡ at + 2 → p.from ≤ p.to → p.to ≤ length s → ValueAt at (p.to + 1) p (param_of s p)
  braced_value e l t =
      let x = part s p.from p.to in
      let i = braced_is p.numbered x (p.to + 1 - suc at) (λ h. long p.from p.to at (length x) (part_length s p.from p.to l t) e l h)
      λ h. short p.from p.to at e l h in
      let w : picked at (p.to + 1) p (is_plain (param_of s p) (p.to + 1 - suc at)) = subst (picked at (p.to + 1) p) (sym i) (e, refl) in
      record { starts = w.0; ends = w.1 }
    where
      long : (a e at n : ℕ) → n ≡ e - a → a ≡ at + 2 → a ≤ e → e + 1 - suc at ≡ n → ⊥
      long a e at n h g l q = omega arith

      short : (a e at : ℕ) → a ≡ at + 2 → a ≤ e → e + 1 - suc at ≡ 1 → ⊥
      short a e at g l q = omega arith

-- a sign's form has as many bytes as its colon says
pick_form : (x : Bool) (f g : Form) (n : ℕ) → sign_length f ≡ n → sign_length g ≡ n → sign_length (pick x f g) ≡ n
pick_form true f g n p q = p
pick_form false f g n p q = q

pub sign_length_lem : (b : ℕ) (c : Colon) → sign_length (sign_form b c) ≡ colon_length c
unfolding sign_form
sign_length_lem b c =
    pick_form (eqb b 45) (syntax.minus c) _ (colon_length c) refl
    (pick_form (eqb b 61) (syntax.equals c) _ (colon_length c) refl
    (pick_form (eqb b 63) (syntax.query c) (syntax.plus c) (colon_length c) refl refl))

-- a parameter is a number where the code says so
pub numbered_is : (n : Bool) (x : Text) → is_numbered (called n x) ≡ n
unfolding is_numbered
numbered_is true x = refl
numbered_is false x = refl

pub shows_stop : (s : Text) (at d next k : ℕ) → next ≡ at + k → next ≤ length s → {i : Item} → i ≡ stop k → Shows s at d (code.Stop next) i
shows_stop s at d next k e w h = (h ∙ ap stop (took' next at k e), omega arith, w)
  where
    took' : (n a j : ℕ) → n ≡ a + j → j ≡ n - a
    took' n a j q = omega arith

pub inner_same : (x : syntax.Param) (k : ℕ) {f g : Form} {m n : Mode} → f ≡ g → m ≡ n → inner x f m k ≡ inner x g n k
inner_same x k e h = cc

-- a wrong byte's number does not go by what is behind it
pub wrong_byte : (n b : ℕ) (t u : Text) {e : ℕ} → wrong n (b ∷ u) ≡ fault e → wrong n (b ∷ t) ≡ fault e
unfolding wrong
wrong_byte n b t u h = h

-- a byte that stands at a place is in the text
pub at_within : (b i : ℕ) (t : Text) → is_at b (drop i t) ≡ true → i < length t
at_within b zero [] e = absurd (let z : ◌≡◌ {A = ℕ} 0 1 = cc in omega arith)
at_within b (suc i) [] e = absurd (let z : ◌≡◌ {A = ℕ} 0 1 = cc in omega arith)
at_within b zero (c ∷ t) e = omega arith
at_within b (suc i) (c ∷ t) e = let h = at_within b i t e in omega arith
