-- Which bytes of a value, from a place to another, a pattern matches: parted where the pattern is, and put together again.
use Prim.Native.Nat.{ℕ, ◌+◌, ◌-◌, ◌≤◌}
use mathlib.Core.Path.{◌≡◌, sym, ◌∙◌, ap, subst}
use mathlib.Core.Bool.{true}
use mathlib.Core.List.{List, [], ◌∷◌, ◌++◌}
use native.Mathlib.Omega.{arith}
use lib.ListN.{length, take, drop, length-drop}
use lib.Seq.{take-add, take_all, take_at, drop_at, drop-drop}
use Rattle.stages.specs.Bytes.{Text, part}
use Rattle.stages.specs.Syntax.{suffix, prefix}
use Rattle.stages.specs.Pattern.{Element, star, for_removal, matches}
use Rattle.text.proofs.Parts.{part_length}
use Rattle.pattern_remove.specs.Shapes.{Shape, shape, shapes, fits, Plain}
use Rattle.pattern_remove.specs.Cuts.{matched_at}
use Rattle.pattern_remove.specs.Bounds.{stands_at}
use Rattle.pattern_remove.proofs.Agreeing.{as_fits, shapes_both}
use Rattle.pattern_remove.proofs.Fitting.{any_all, Cut, fits_apart, fits_both, fits_length}

-- parts
part_both : (v : Text) (i m j : ℕ) → i ≤ m → m ≤ j → part v i j ≡ part v i m ++ part v m j
part_both v i m j h k =
    let d : j - i ≡ (m - i) + (j - m) = omega arith in
    let e : i + (m - i) ≡ m = omega arith in
    ap (λ (n : ℕ). take n (drop i v)) d ∙ take-add (m - i) (j - m) (drop i v)
    ∙ ap (λ (l : Text). part v i m ++ take (j - m) l) (drop-drop (m - i) i v ∙ ap (λ (n : ℕ). drop n v) e)

pub part_suffix : (v : Text) (k : ℕ) → part v k (length v) ≡ drop k v
part_suffix v k = take_all (length v - k) (drop k v) (simp length-drop (omega arith))

part_prefix : (v : Text) (k : ℕ) → part v 0 k ≡ take k v
part_prefix v k = let e : k - 0 ≡ k = omega arith in ap (λ (n : ℕ). take n v) e

module _ (v : Text) (i j n : ℕ) (h : i ≤ j) (k : j ≤ length v) (l : n ≤ j - i) where
  part_first : length (part v i (i + n)) ≡ n
  part_first = part_length v i (i + n) (omega arith) (omega arith) ∙ omega arith

  part_front : take n (part v i j) ≡ part v i (i + n)
  part_front =
      ap (λ (t : Text). take n t) (part_both v i (i + n) j (omega arith) (omega arith)) ∙ take_at (part v i (i + n)) (part v (i + n) j) n part_first

  part_back : drop n (part v i j) ≡ part v (i + n) j
  part_back =
      ap (λ (t : Text). drop n t) (part_both v i (i + n) j (omega arith) (omega arith)) ∙ drop_at (part v i (i + n)) (part v (i + n) j) n part_first

-- the pattern matches the bytes from i to j
abbrev pub Covers : List Element → Text → ℕ → ℕ → Type 0
Covers p v i j = matches for_removal p (part v i j) ≡ true

-- the parts that a cut drops
pub suffix_covers : (p : List Element) (v : Text) (k : ℕ) → matched_at suffix p v k ≡ true → Covers p v k (length v)
suffix_covers p v k e = ap (matches for_removal p) (part_suffix v k) ∙ e

pub covers_suffix : (p : List Element) (v : Text) (k : ℕ) → Covers p v k (length v) → matched_at suffix p v k ≡ true
covers_suffix p v k e = sym (ap (matches for_removal p) (part_suffix v k)) ∙ e

pub prefix_covers : (p : List Element) (v : Text) (k : ℕ) → matched_at prefix p v k ≡ true → Covers p v 0 k
prefix_covers p v k e = ap (matches for_removal p) (part_prefix v k) ∙ e

pub covers_prefix : (p : List Element) (v : Text) (k : ℕ) → Covers p v 0 k → matched_at prefix p v k ≡ true
covers_prefix p v k e = sym (ap (matches for_removal p) (part_prefix v k)) ∙ e

-- where bytes are parted that two patterns match, one behind the other
pub record Parted (y z : List Element) (v : Text) (i j : ℕ) : Type 0 where
  pub at : ℕ
  pub from : i ≤ at
  pub to : at ≤ j
  pub front : Covers y v i at
  pub back : Covers z v at j

module _ (y z : List Element) (v : Text) (i j : ℕ) (h : i ≤ j) (k : j ≤ length v) where
  cut_parted : Cut (shapes y) (shapes z) (part v i j) → Parted y z v i j
  cut_parted c =
      let l : c.at ≤ j - i = omega (arith, c.inside, part_length v i j h k) in
      record {
        at = i + c.at;
        from = omega arith;
        to = omega arith;
        front = as_fits y (part v i (i + c.at)) ∙ ap (fits (shapes y)) (sym (part_front v i j c.at h k l)) ∙ c.front;
        back = as_fits z (part v (i + c.at) j) ∙ ap (fits (shapes z)) (sym (part_back v i j c.at h k l)) ∙ c.back;
      }

  pub covers_apart : Covers (y ++ z) v i j → Parted y z v i j
  covers_apart e =
      cut_parted
      (fits_apart (shapes y) (shapes z) (part v i j)
      (ap (λ (s : List Shape). fits s (part v i j)) (sym (shapes_both y z)) ∙ sym (as_fits (y ++ z) (part v i j)) ∙ e))

pub covers_both : (y z : List Element) (v : Text) (i m j : ℕ) → i ≤ m → m ≤ j → Covers y v i m → Covers z v m j → Covers (y ++ z) v i j
covers_both y z v i m j h k e f =
    as_fits (y ++ z) (part v i j) ∙ ap (λ (s : List Shape). fits s (part v i j)) (shapes_both y z)
    ∙ ap (fits (shapes y ++ shapes z)) (part_both v i m j h k)
    ∙ fits_both (shapes y) (shapes z) (part v i m) (part v m j) (sym (as_fits y (part v i m)) ∙ e) (sym (as_fits z (part v m j)) ∙ f)

-- a star matches all bytes, a segment as many as it has elements
pub covers_star : (v : Text) (i j : ℕ) → Covers (star ∷ []) v i j
unfolding shapes shape
covers_star v i j = as_fits (star ∷ []) (part v i j) ∙ any_all (part v i j)

covers_length : {x : List Element} → Plain x → (v : Text) (i j : ℕ) → i ≤ j → j ≤ length v → Covers x v i j → j ≡ i + length x
covers_length {x} p v i j h k e =
    let f = fits_length p (part v i j) (sym (as_fits x (part v i j)) ∙ e) in omega (arith, f, part_length v i j h k)

-- a segment that comes first, and what is left behind it
pub record Fronted (x r : List Element) (v : Text) (i j : ℕ) : Type 0 where
  pub room : i + length x ≤ j
  pub stands : stands_at x v i ≡ true
  pub rest : Covers r v (i + length x) j

pub front_apart : {x : List Element} → Plain x → (r : List Element) (v : Text) (i j : ℕ) → i ≤ j → j ≤ length v → Covers (x ++ r) v i j → Fronted x r v i j
front_apart {x} p r v i j h k e =
    let c = covers_apart x r v i j h k e in
    let m : c.at ≡ i + length x = covers_length p v i c.at c.from (omega (arith, c.to)) c.front in
    record {
      room = omega (arith, m, c.to);
      stands = subst (λ (a : ℕ). Covers x v i a) m c.front;
      rest = subst (λ (a : ℕ). Covers r v a j) m c.back;
    }

-- a segment that comes last, and what is left before it
pub record Backed (q x : List Element) (v : Text) (i j : ℕ) : Type 0 where
  pub room : i + length x ≤ j
  pub stands : stands_at x v (j - length x) ≡ true
  pub rest : Covers q v i (j - length x)

pub back_apart : {x : List Element} → Plain x → (q : List Element) (v : Text) (i j : ℕ) → i ≤ j → j ≤ length v → Covers (q ++ x) v i j → Backed q x v i j
back_apart {x} p q v i j h k e =
    let c = covers_apart q x v i j h k e in
    let m : j ≡ c.at + length x = covers_length p v c.at j c.to k c.back in
    let a : c.at ≡ j - length x = omega arith in
    let b : j - length x + length x ≡ j = omega arith in
    record {
      room = omega (arith, c.from);
      stands = subst (λ (z : ℕ). Covers x v (j - length x) z) (sym b) (subst (λ (z : ℕ). Covers x v z j) a c.back);
      rest = subst (λ (z : ℕ). Covers q v i z) a c.front;
    }

-- what begins with a star may begin earlier, what ends with one may end later
pub star_earlier : (r : List Element) (v : Text) (i j : ℕ) → i ≤ j → j ≤ length v → Covers (star ∷ r) v j (length v) → Covers (star ∷ r) v i (length v)
star_earlier r v i j h k e =
    let c = covers_apart (star ∷ []) r v j (length v) k (omega arith) e in
    covers_both (star ∷ []) r v i c.at (length v) (omega (arith, c.from)) c.to (covers_star v i c.at) c.back

pub star_later : (q : List Element) (v : Text) (i j : ℕ) → i ≤ j → j ≤ length v → Covers (q ++ (star ∷ [])) v 0 i → Covers (q ++ (star ∷ [])) v 0 j
star_later q v i j h k e =
    let c = covers_apart q (star ∷ []) v 0 i (omega arith) (omega arith) e in
    covers_both q (star ∷ []) v 0 c.at j c.from (omega (arith, c.to)) c.front (covers_star v c.at j)
