-- The number that digits go on to, as the code counts it: a number beyond the limit only grows, and the limit is beyond any image's texts.
use Prim.Native.Nat.{ℕ, zero, suc, ◌+◌, ◌-◌, ◌*◌, ◌≤◌, ◌<◌}
use native.Mathlib.Omega.{arith}
use native.Mathlib.Numerals.{add-one}
use mathlib.Core.Path.{◌≡◌, refl, sym, ap, ◌∙◌}
use mathlib.Core.Bool.{false}
use mathlib.Core.List.{List, [], ◌∷◌}
use mathlib.Core.Option.{none}
use borrow.Author.Tests.{le-leb, lt-leb, leb-true, leb-false}
use lib.Dec.{leb}
use lib.ListN.{length, get_or, drop, drop_of_length-le}
use lib.Seq.{drop-cons}
use Rattle.std.specs.Prelude.{min}
use Rattle.stages.specs.Bytes.{Text}
use Rattle.stages.specs.Images.{held_texts, record_bytes, image_length}
use Rattle.stages.specs.Items.{number_of}
use Rattle.stages.specs.Params.{numbered}
use Rattle.stages.proofs.Bools.{either}
use Rattle.stages.proofs.Images.{texts_image_length}
use Rattle.table.specs.Places.{Listed, found_by}
use Rattle.std.specs.Prelude.{None}
use Rattle.table_find.specs.Numbered.{numbered_in}
use Rattle.expand_param.specs.Holding.{number_limit, capped}

-- the cap

pub capped_small : (n : ℕ) → n ≤ number_limit → n ≡ capped n
unfolding capped
capped_small n l = rw (le-leb n number_limit l)

pub capped_large : (n : ℕ) → number_limit < n → number_limit ≡ capped n
unfolding capped
capped_large n l = rw (lt-leb n number_limit l)

capped_min : (n : ℕ) → capped n ≡ min n number_limit
capped_min n =
    either (leb n number_limit) (λ e. sym (capped_small n (leb-true n number_limit e)) ∙ omega (arith, leb-true n number_limit e))
    (λ e. sym (capped_large n (leb-false n number_limit e)) ∙ omega (arith, leb-false n number_limit e))

-- digits

-- what is beyond the limit stays so
number_capped : (n m : ℕ) (t : Text) → min n number_limit ≡ min m number_limit → capped (number_of n t) ≡ capped (number_of m t)
unfolding number_of
number_capped n m [] e = capped_min n ∙ e ∙ sym (capped_min m)
number_capped n m (b ∷ t) e = number_capped (n * 10 + (b - 48)) (m * 10 + (b - 48)) t (omega (arith, e))

-- and at the limit no digit changes the number
number_most : (t : Text) → capped (number_of number_limit t) ≡ number_limit
unfolding number_of
number_most [] = sym (capped_small number_limit (omega arith))
number_most (b ∷ t) = number_capped (number_limit * 10 + (b - 48)) number_limit t (omega arith) ∙ number_most t

-- the digits before place i come to n
pub record Read (t : Text) (n i : ℕ) : Type 0 where
  pub is : capped (number_of n (drop i t)) ≡ capped (number_of 0 t)
  pub small : n ≤ number_limit

pub read_more : {t : Text} {n i m : ℕ} → Read t n i → i < length t
    → m ≡ min (min (n * 10) number_limit + (get_or t i 0 - 48)) number_limit → Read t m (i + 1)
unfolding number_of
read_more {t} {n} {i} {m} r h e =
    let d : ℕ = get_or t i 0 - 48 in
    let k : drop i t ≡ get_or t i 0 ∷ drop (i + 1) t = rw (add-one i, drop-cons t i 0 h) in
    record {
      is = number_capped m (n * 10 + d) (drop (i + 1) t) (omega (arith, e)) ∙ ap (λ (u : Text). capped (number_of n u)) (sym k) ∙ r.is;
      small = omega (arith, e);
    }

pub read_number : {t : Text} {n i : ℕ} → Read t n i → length t ≤ i → n ≡ capped (number_of 0 t)
unfolding number_of
read_number {t} {n} {i} r h = capped_small n r.small ∙ ap (λ (u : Text). capped (number_of n u)) (sym (drop_of_length-le t h)) ∙ r.is

pub read_most : {t : Text} {n i : ℕ} → Read t n i → n ≡ number_limit → n ≡ capped (number_of 0 t)
read_most {t} {n} {i} r e = e ∙ sym (number_most (drop i t)) ∙ ap (λ (k : ℕ). capped (number_of k (drop i t))) (sym e) ∙ r.is

-- the texts of an image by numbers as the code counts

each_record : (l : List Text) → length l ≤ record_bytes l
unfolding record_bytes
each_record [] = omega arith
each_record (t ∷ l) = omega (arith, each_record l)

numbered_beyond : (k : ℕ) (l : List Text) → length l < k → numbered k l ≡ none
unfolding numbered
numbered_beyond k [] h = refl
numbered_beyond zero (t ∷ l) h = refl
numbered_beyond (suc zero) (t ∷ l) h = absurd (omega arith)
numbered_beyond (suc (suc k)) (t ∷ l) h = numbered_beyond (suc k) l (omega arith)

module _ (t : Text) (k : ℕ) (w : Listed t) (fits : length t ≤ number_limit) where
  few : length (held_texts t) < number_limit
  unfolding image_length
  few = omega (arith, texts_image_length t (held_texts t) w, each_record (held_texts t))

  pub numbered_capped : numbered (capped k) (held_texts t) ≡ numbered k (held_texts t)
  numbered_capped =
      either (leb k number_limit) (λ e. ap (λ (i : ℕ). numbered i (held_texts t)) (sym (capped_small k (leb-true k number_limit e))))
      (λ e. ap (λ (i : ℕ). numbered i (held_texts t)) (sym (capped_large k (leb-false k number_limit e)))
      ∙ numbered_beyond number_limit (held_texts t) few ∙ sym (numbered_beyond k (held_texts t) (omega (arith, few, leb-false k number_limit e))))

  pub place_capped : numbered_in t (capped k) ≡ numbered_in t k
  place_capped =
      either (leb k number_limit) (λ e. ap (numbered_in t) (sym (capped_small k (leb-true k number_limit e))))
      (λ e. none_there (capped k) (numbered_capped ∙ beyond e) ∙ sym (none_there k (beyond e)))
    where
      beyond : leb k number_limit ≡ false → numbered k (held_texts t) ≡ none
      beyond e = numbered_beyond k (held_texts t) (omega (arith, few, leb-false k number_limit e))

      none_there : (i : ℕ) → numbered i (held_texts t) ≡ none → numbered_in t i ≡ None
      none_there i e = unfold numbered_in found_by in rw (e, found_by)
