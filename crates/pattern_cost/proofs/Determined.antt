-- Whatever two outcomes a contract of this crate allows for one input, they are equal: each count is that of the stage, and each byte of the area is the flag
-- of one pair, or is not set.
use Prim.Native.Nat.{ℕ, zero, suc, ◌+◌, ◌*◌, ◌-◌, ◌≤◌, ◌<◌}
use native.Mathlib.Omega.{arith}
use native.Mathlib.Decide.{dec_lt}
use native.Mathlib.Nat.{suc-mul}
use mathlib.Core.Path.{◌≡◌, refl, sym, ◌∙◌, ap}
use mathlib.Core.Bool.{Bool, true, false, not}
use mathlib.Core.List.{List}
use Rattle.std.proofs.Common.{Result, Ok, Err}
use lib.Dec.{eqb}
use lib.ListN.{length, get_or}
use lib.Seq.{ext_get_or}
use borrow.Author.Tests.{eqb-true, eqb-false}
use Rattle.stages.specs.Bytes.{Text}
use Rattle.stages.specs.Pattern.{Element}
use Rattle.stages.proofs.Bools.{no as never, apart}
use Rattle.stages.proofs.Reaching.{reachable_most}
use Rattle.text.proofs.Determined.{one_answer}
use Rattle.pattern_member.specs.declared.BadClass.{BadClass}
use Rattle.pattern_cost.specs.Areas.{on, Marked}
use Rattle.pattern_cost.specs.Counts.{elements_of, CountSays}

pub count_elements_determined : (pattern : Text) (r q : Result ℕ BadClass) → CountSays pattern r → CountSays pattern q → r ≡ q
count_elements_determined pattern (Err d) (Err e) s t = refl
count_elements_determined pattern (Err d) (Ok n) s t = absurd (apart t.0 s)
count_elements_determined pattern (Ok m) (Err e) s t = absurd (apart s.0 t)
count_elements_determined pattern (Ok m) (Ok n) s t = ap Ok (one_answer s.1 t.1)

-- a place in rows of so many flags
record Flag (rows width k : ℕ) : Type 0 where
  i : ℕ
  j : ℕ
  is : k ≡ i * (width + 1) + j
  few : i < rows
  inside : j ≤ width

flag_at : (rows width k : ℕ) → k < rows * (width + 1) → Flag rows width k
flag_at zero width k h = absurd (omega arith)
flag_at (suc rows) width k h = go (dec_lt k (width + 1)) (λ d. flag_at rows width (k - (width + 1)) d)
  where
    go : Dec (k < width + 1) → (k - (width + 1) < rows * (width + 1) → Flag rows width (k - (width + 1))) → Flag (suc rows) width k
    go (yes l) before = record { i = 0; j = k; is = omega arith; few = omega arith; inside = omega arith }
    go (no n) before =
        let f = before (omega (arith, h, suc-mul rows (width + 1))) in
        record {
          i = suc f.i;
          j = f.j;
          is = omega (arith, f.is, suc-mul f.i (width + 1));
          few = omega (arith, f.few);
          inside = f.inside;
        }

-- a flag is 0 or 1
same_flag : (x y : ℕ) → x ≤ 1 → y ≤ 1 → not (eqb x 0) ≡ not (eqb y 0) → x ≡ y
same_flag x y l m e = go (eqb x 0) (eqb y 0) refl refl e
  where
    go : (a b : Bool) → eqb x 0 ≡ a → eqb y 0 ≡ b → not a ≡ not b → x ≡ y
    go true true p q h = eqb-true x 0 p ∙ sym (eqb-true y 0 q)
    go true false p q h = absurd (never h)
    go false true p q h = absurd (never (sym h))
    go false false p q h = let n = eqb-false x 0 p in let k = eqb-false y 0 q in omega arith

module _ {es : List Element} {t entry exit end : Text} {m n : ℕ} (a : Marked es t entry exit m) (b : Marked es t entry end n) where
  same_on : (k : ℕ) → Dec (k < (length es + 1) * (length t + 1)) → on exit k ≡ on end k
  same_on k (no h) = a.clear k (omega arith) ∙ sym (b.clear k (omega arith))
  same_on k (yes h) =
      let f = flag_at (length es + 1) (length t) k h in
      let i : f.i ≤ length es = omega (arith, f.few) in
      ap (on exit) f.is ∙ a.pairs f.i f.j i f.inside ∙ sym (b.pairs f.i f.j i f.inside) ∙ sym (ap (on end) f.is)

  pub count_pairs_determined : (m ≡ n) × (exit ≡ end)
  count_pairs_determined = (
    one_answer a.counts b.counts,
    ext_get_or 0 exit end (one_answer a.same b.same)
        (λ k h. same_flag (get_or exit k 0) (get_or end k 0) (a.flags k) (b.flags k) (same_on k (dec_lt k ((length es + 1) * (length t + 1))))),
  )

-- "The report equals that count", which is the contract, "and never exceeds (p+1) times (n+1)."
pub count_pairs_most : (pattern text entry exit : Text) (m : ℕ) → Marked (elements_of pattern) text entry exit m
    → m ≤ (length (elements_of pattern) + 1) * (length text + 1)
count_pairs_most pattern text entry exit m a = rw a.counts (reachable_most (elements_of pattern) text)
