-- The contracts determine every answer: two outcomes that a contract allows for one input are equal. No function writes.
use Prim.Native.Nat.{ℕ, ◌<◌, ◌≤◌}
use native.Mathlib.Omega.{arith}
use mathlib.Core.Path.{◌≡◌, sym, ap, ◌∙◌}
use mathlib.Core.Bool.{Bool}
use mathlib.Core.List.{List}
use lib.ListN.{length, drop, length-drop}
use Rattle.std.specs.List.{prefix_len}
use Rattle.stages.specs.Bytes.{Text, is_in, all, not_zero, eq_text}
use Rattle.text.specs.Bits.{has_bit}
use Rattle.text.specs.Classes.{in_class, Runs}
use Rattle.text.specs.Orders.{order_of}
use Rattle.text.specs.Rows.{is_mark}
use Rattle.text.specs.Refusals.{refusal_number}
use Rattle.text.specs.declared.Class.{Class}
use Rattle.std.specs.declared.cmp.Ordering.{Ordering}
use Rattle.text.specs.declared.refusal.Refusal.{Refusal}

-- what equals the same is equal: the shared law
pub one_answer : {A : Type 0} {x r s : A} → r ≡ x → s ≡ x → r ≡ s
one_answer p q = p ∙ sym q

pub in_class_determined : (class : Class) (b : ℕ) (r s : Bool) → r ≡ in_class class b → s ≡ in_class class b → r ≡ s
in_class_determined class b r s = one_answer

pub has_bit_determined : (words : List ℕ) (b : ℕ) (r s : Bool) → (r ≡ has_bit words b) × (b < 256) → (s ≡ has_bit words b) × (b < 256) → r ≡ s
has_bit_determined words b r s p q = one_answer p.0 q.0

pub is_in_determined : (b : ℕ) (set : Text) (r s : Bool) → r ≡ is_in b set → s ≡ is_in b set → r ≡ s
is_in_determined b set r s = one_answer

pub no_zero_determined : (text : Text) (r s : Bool) → r ≡ all not_zero text → s ≡ all not_zero text → r ≡ s
no_zero_determined text r s = one_answer

pub same_determined : (a b : Text) (r s : Bool) → r ≡ eq_text a b → s ≡ eq_text a b → r ≡ s
same_determined a b r s = one_answer

pub compare_determined : (a b : Text) (r s : Ordering) → r ≡ order_of a b → s ≡ order_of a b → r ≡ s
compare_determined a b r s = one_answer

pub is_mark_determined : (b : ℕ) (r s : Bool) → r ≡ is_mark b → s ≡ is_mark b → r ≡ s
is_mark_determined b r s = one_answer

-- the rests behind the two ends are the same, so their lengths are
pub run_end_determined : (text : Text) (at : ℕ) (class : Class) (r s : ℕ) → Runs text at class r → Runs text at class s → r ≡ s
run_end_determined text at class r s p q =
    let e : drop r text ≡ drop s text = ap (λ (x : Text × Text). x.1) (sym p.is ∙ q.is) in
    omega (arith, p.within, q.within, length-drop r text, length-drop s text, ap length e)

pub number_determined : (why : Refusal) (r s : ℕ) → r ≡ refusal_number why → s ≡ refusal_number why → r ≡ s
number_determined why r s = one_answer

pub bits_run_determined : (words : List ℕ) (text : Text) (r s : ℕ)
    → (r ≡ prefix_len (λ b. has_bit words b) text) × (r ≤ length text) → (s ≡ prefix_len (λ b. has_bit words b) text) × (s ≤ length text) → r ≡ s
bits_run_determined words text r s p q = one_answer p.0 q.0
