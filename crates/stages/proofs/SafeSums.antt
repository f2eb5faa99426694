-- Arithmetic refuses only with numbers of document 01's table, since its reader calls itself only on what is shorter; its result is a text without a zero
-- byte, and what a store keeps of the variables it keeps, since it stores texts without a zero byte to names.
use Prim.Native.Nat.{ℕ, zero, suc, ◌+◌, ◌/◌, ◌%◌, ◌^◌}
use Prim.Native.Char.{code}
use native.Mathlib.Omega.{arith}
use mathlib.Core.Path.{◌≡◌, refl}
use mathlib.Core.Bool.{Bool, true, false}
use mathlib.Core.List.{[], ◌∷◌}
use mathlib.Core.Option.{Option, none, some}
use lib.Dec.{ltb}
use lib.IntN.{ℤ, pos, negsuc, neg_ℤ, ◌+ℤ◌, ◌-ℤ◌, ◌*ℤ◌}
use lib.Signed.{quot_z, rem_z, shr_z}
use borrow.Author.Tests.{le-leb}
use Rattle.stages.specs.Bytes.{Text, all, not_zero}
use Rattle.stages.specs.Outcome.{Outcome, done}
use Rattle.stages.specs.Images.{Pairs, is_name}
use Rattle.stages.specs.Syntax.{var}
use Rattle.stages.specs.Params.{Lent, holding, or_shout, store_in}
use Rattle.stages.specs.Units.{digits, decimal}
use Rattle.stages.specs.Constants.{fits, ranged, constant, minus_of, valued, signed}
use Rattle.stages.specs.Arith.{is_zero, is_true, divided, shifted, operator, Op, mul, div, rem, add, sub, shl, shr, lt, le, gt, ge, eq, ne}
use Rattle.stages.specs.Arith.{bit_and, bit_xor, bit_or, log_and, log_or, log_not, bit_not, early, apply, apply_alone}
use Rattle.stages.specs.Arith.{Tree, constant_of, name_of, unary, binary, choice, assign, Evaluated, with_variables, unless}
use Rattle.stages.specs.Arith.{name_number, value_of, updated, keeping, storing, evaluate, arithmetic_of}
use Rattle.stages.proofs.Bools.{and_both}
use Rattle.stages.proofs.Texts.{all_append}
use Rattle.stages.proofs.Outcomes.{Sure, fails, comes, sure_bind, sure_choose, Safe, sure_safe}
use Rattle.stages.proofs.Arith.{Numbered, ranged_sure, number_sure}
use Rattle.stages.proofs.Targets.{Named, tree_named}

-- numbers

valued_sure : (t : Text) → Numbered (valued t)
unfolding valued
valued_sure [] = comes tt
valued_sure (b ∷ t) =
    sure_choose _ _ _ (number_sure minus_of (constant t)) (sure_choose _ _ _ (number_sure pos (constant t)) (number_sure pos (constant (b ∷ t))))

-- E14: 25, where it is unset
pub shout_sure : (s : Bool) (o : Option Text) → Numbered (or_shout s o)
unfolding or_shout
shout_sure false o = comes tt
shout_sure true none = fails refl
shout_sure true (some t) = comes tt

pub name_sure : (s : Bool) (o : Option Text) → Numbered (name_number s o)
unfolding name_number
name_sure s o = sure_bind _ (shout_sure s o) (λ t _. valued_sure t)

divided_sure : (f : ℤ → ℤ → ℤ) (a b : ℤ) → Numbered (divided f a b)
unfolding divided
divided_sure f a b = go (is_zero b) refl (fits (quot_z a b)) refl
  where
    go : (x : Bool) → is_zero b ≡ x → (y : Bool) → fits (quot_z a b) ≡ y → Numbered (divided f a b)
    go true e y d = rw (e, divided) (fails refl)
    go false e true d = rw (e, divided, d, divided) (comes tt)
    go false e false d = rw (e, divided, d, divided) (fails refl)

shifted_sure : (f : ℤ → ℕ → Outcome ℤ) (a b : ℤ) → ((n : ℕ) → Numbered (f a n)) → Numbered (shifted f a b)
unfolding shifted
shifted_sure f a (negsuc n) h = fails refl
shifted_sure f a (pos n) h = go (ltb n 64) refl
  where
    go : (x : Bool) → ltb n 64 ≡ x → Numbered (shifted f a (pos n))
    go true e = rw (e, shifted) (h n)
    go false e = rw (e, shifted) (fails refl)

-- the table: each row gives a number or fails with one of the table of numbers
pub apply_sure : (o : Op) (a b : ℤ) → Numbered (apply o a b)
unfolding apply operator
apply_sure mul a b = ranged_sure (a *ℤ b)
apply_sure div a b = divided_sure quot_z a b
apply_sure rem a b = divided_sure rem_z a b
apply_sure add a b = ranged_sure (a +ℤ b)
apply_sure sub a b = ranged_sure (a -ℤ b)
apply_sure shl a b = shifted_sure (λ z n. ranged (z *ℤ pos (2 ^ n))) a b (λ n. ranged_sure (a *ℤ pos (2 ^ n)))
apply_sure shr a b = shifted_sure (λ z n. done (shr_z z (2 ^ n))) a b (λ n. comes tt)
apply_sure lt a b = comes tt
apply_sure le a b = comes tt
apply_sure gt a b = comes tt
apply_sure ge a b = comes tt
apply_sure eq a b = comes tt
apply_sure ne a b = comes tt
apply_sure bit_and a b = comes tt
apply_sure bit_xor a b = comes tt
apply_sure bit_or a b = comes tt
apply_sure log_and a b = comes tt
apply_sure log_or a b = comes tt
apply_sure log_not a b = fails refl
apply_sure bit_not a b = fails refl

pub alone_sure : (o : Op) (a : ℤ) → Numbered (apply_alone o a)
unfolding apply_alone operator
alone_sure mul a = fails refl
alone_sure div a = fails refl
alone_sure rem a = fails refl
alone_sure add a = comes tt
alone_sure sub a = ranged_sure (neg_ℤ a)
alone_sure shl a = fails refl
alone_sure shr a = fails refl
alone_sure lt a = fails refl
alone_sure le a = fails refl
alone_sure gt a = fails refl
alone_sure ge a = fails refl
alone_sure eq a = fails refl
alone_sure ne a = fails refl
alone_sure bit_and a = fails refl
alone_sure bit_xor a = fails refl
alone_sure bit_or a = fails refl
alone_sure log_and a = fails refl
alone_sure log_or a = fails refl
alone_sure log_not a = comes tt
alone_sure bit_not a = comes tt

-- the text of a result

digit_safe : (n : ℕ) → not_zero (code "0" + n) ≡ true
digit_safe n = le-leb 1 (code "0" + n) (omega arith)

digits_safe : (k n : ℕ) → all not_zero (digits k n) ≡ true
unfolding digits
digits_safe zero n = refl
digits_safe (suc k) n = go (ltb n 10) refl (digits_safe k (n / 10))
  where
    go : (x : Bool) → ltb n 10 ≡ x → all not_zero (digits k (n / 10)) ≡ true → all not_zero (digits (suc k) n) ≡ true
    go true e h = rw (e, digits) (and_both (digit_safe n) refl)
    go false e h = rw (e, digits) (all_append not_zero (digits k (n / 10)) ((code "0" + n % 10) ∷ []) h (and_both (digit_safe (n % 10)) refl))

pub decimal_safe : (n : ℕ) → all not_zero (decimal n) ≡ true
unfolding decimal
decimal_safe n = digits_safe 20 n

pub signed_safe : (z : ℤ) → all not_zero (signed z) ≡ true
unfolding signed
signed_safe (pos n) = decimal_safe n
signed_safe (negsuc n) = decimal_safe (suc n)

-- what a store keeps of the variables
abbrev pub Stores : Lent → (Pairs → Type 0) → Type 0
Stores a K = (x t : Text) (v : Pairs) → is_name x ≡ true → all not_zero t ≡ true → K v → Sure K (store_in a (var x) t v)

-- what is worked out keeps it too
module _ (a : Lent) (K : Pairs → Type 0) (stores : Stores a K) where
  abbrev Keeps : Evaluated → Type 0
  Keeps o = Sure (λ p. K p.1) o

  with_sure : (v : Pairs) → K v → {o : Outcome ℤ} → Numbered o → Keeps (with_variables v o)
  with_sure v k s = sure_bind (λ z. done (z, v)) s (λ z _. comes k)

  unless_sure : (o : Option ℤ) (v : Pairs) (more : Unit {0} → Evaluated) → K v → Keeps (more tt) → Keeps (unless o v more)
  unless_sure none v more k s = s
  unless_sure (some z) v more k s = comes k

  value_sure : (v : Pairs) (x : Text) → Numbered (value_of a v x)
  unfolding value_of
  value_sure v x = name_sure a.shouts (holding a v (var x))

  updated_sure : (v : Pairs) (o : Option Op) (x : Text) (z : ℤ) → Numbered (updated a v o x z)
  unfolding updated
  updated_sure v none x z = comes tt
  updated_sure v (some o) x z = sure_bind _ (value_sure v x) (λ y _. apply_sure o y z)

  keeping_sure : (x : Text) (v : Pairs) (z : ℤ) → is_name x ≡ true → K v → Keeps (keeping a x v z)
  unfolding keeping
  keeping_sure x v z n k = sure_bind _ (stores x (signed z) v n (signed_safe z) k) (λ w l. comes {a = (z, w)} l)

  pub storing_sure : (o : Option Op) (x : Text) (p : ℤ × Pairs) → is_name x ≡ true → K p.1 → Keeps (storing a o x p)
  unfolding storing
  storing_sure o x p n k = sure_bind _ (updated_sure p.1 o x p.0) (λ z _. keeping_sure x p.1 z n k)

  pub evaluate_sure : (e : Tree) → Named e → (v : Pairs) → K v → Keeps (evaluate a v e)
  unfolding evaluate
  evaluate_sure (constant_of z) n v k = comes k
  evaluate_sure (name_of x) n v k = with_sure v k (value_sure v x)
  evaluate_sure (unary o l) n v k = sure_bind _ (evaluate_sure l n v k) (λ p i. with_sure p.1 i (alone_sure o p.0))
  evaluate_sure (binary o l r) n v k =
      sure_bind _ (evaluate_sure l n.0 v k)
      (λ p i. unless_sure (early o p.0) p.1 _ i
      (sure_bind _ (evaluate_sure r n.1 p.1 i) (λ q j. with_sure q.1 j (apply_sure o p.0 q.0))))
  evaluate_sure (choice c l r) n v k =
      sure_bind _ (evaluate_sure c n.0 v k)
      (λ p i. sure_choose (is_true p.0) _ _ (evaluate_sure l n.1 p.1 i) (evaluate_sure r n.2 p.1 i))
  evaluate_sure (assign o x r) n v k = sure_bind _ (evaluate_sure r n.1 v k) (λ p i. storing_sure o x p n.0 i)

  pub arithmetic_safe : (v : Pairs) (t : Text) → K v → Safe (λ s. (all not_zero s.0 ≡ true) × K s.1) (arithmetic_of a v t)
  unfolding arithmetic_of
  arithmetic_safe v t k =
      sure_safe (sure_bind _ (tree_named t) (λ e n. sure_bind _ (evaluate_sure e n v k) (λ p l. comes {a = (signed p.0, p.1)} (signed_safe p.0, l))))
