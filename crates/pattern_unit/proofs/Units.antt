-- The unit at a place of a pattern's bytes, as the stage sees it: the laws by which a walk over the bytes goes in step with one over signs. Only these look at
-- the width.
use Prim.Native.Nat.{ℕ, zero, suc, ◌+◌, ◌*◌, ◌-◌, ◌≤◌, ◌<◌}
use mathlib.Core.Path.{◌≡◌, refl, ◌∙◌, ap}
use mathlib.Core.Bool.{true, false, ◌&&◌}
use mathlib.Core.List.{[], ◌∷◌}
use native.Mathlib.Omega.{arith}
use native.Mathlib.Decide.{dec_le}
use lib.Dec.{eqb}
use lib.ListN.{length, take, drop, get_or, length-drop, drop_of_length-le}
use lib.Seq.{drop-cons, drop-nil, take-nil, take_all}
use Rattle.stages.proofs.Bools.{apart}
use Rattle.stages.specs.Outcome.{pick}
use Rattle.stages.specs.Bytes.{Text}
use Rattle.stages.specs.Units.{L, marked}
use Rattle.stages.specs.Pattern.{Sign, Signs, signs, is_live, begin}
use Rattle.text.specs.Rows.{signs_of}
use Rattle.pattern_unit.specs.Widths.{size, plain_signs, signs_by, is_active}
use Rattle.pattern_unit.specs.Heads.{begins}
use Rattle.pattern_unit.specs.declared.Width.{Width}
use Rattle.pattern_unit.specs.declared.Width.TheVariants.{Plain, Marked}

-- A WIDTH

-- a unit has a byte or two
pub size_bounds : (w : Width) → (1 ≤ size w) × (size w ≤ 2)
size_bounds Plain = (omega arith, omega arith)
size_bounds Marked = (omega arith, omega arith)

pub scale_zero : (w : Width) → size w * 0 ≡ 0
scale_zero Plain = omega arith
scale_zero Marked = omega arith

pub scale_suc : (w : Width) (n : ℕ) → size w * suc n ≡ size w + size w * n
scale_suc Plain n = omega arith
scale_suc Marked n = omega arith

pub scale_more : (w : Width) (n : ℕ) → size w * (n + 1) ≡ size w + size w * n
scale_more Plain n = omega arith
scale_more Marked n = omega arith

pub scale_add : (w : Width) (m n : ℕ) → size w * (m + n) ≡ size w * m + size w * n
scale_add Plain m n = omega arith
scale_add Marked m n = omega arith

pub scale_two : (w : Width) → size w * 2 ≡ size w + size w
scale_two Plain = omega arith
scale_two Marked = omega arith

-- THE UNIT AT A PLACE

-- two bytes and those behind them
pub two_on : (p : Text) (k : ℕ) → k + 1 < length p → drop k p ≡ get_or p k 0 ∷ get_or p (k + 1) 0 ∷ drop (k + 2) p
two_on p k h =
    let e : suc k ≡ k + 1 = omega arith in
    let f : suc (k + 1) ≡ k + 2 = omega arith in
    drop-cons p k 0 (omega arith) ∙ ap (λ (t : Text). get_or p k 0 ∷ t) (ap (λ (n : ℕ). drop n p) e ∙ drop-cons p (k + 1) 0 h ∙ rw f)

abbrev pub sign_at : Width → Text → ℕ → Sign
sign_at w p k = record { live = is_active w p k; byte = get_or p k 0 }

-- the units from a place on are the one there and those behind it
pub unit_at : (w : Width) (p : Text) (k : ℕ) → k + size w ≤ length p → signs_by w (drop k p) ≡ sign_at w p k ∷ signs_by w (drop (k + size w) p)
unfolding signs_of plain_signs
unit_at Plain p k h =
    let e : suc k ≡ k + 1 = omega arith in
    ap plain_signs (drop-cons p k 0 (omega arith) ∙ ap (λ (n : ℕ). get_or p k 0 ∷ drop n p) e)
unit_at Marked p k h = ap signs_of (two_on p k (omega arith))

-- a byte alone is no unit with a mark
few : (t : Text) → length t ≤ 1 → signs_of t ≡ []
unfolding signs_of
few [] h = refl
few (b ∷ []) h = refl
few (b ∷ m ∷ t) h = absurd (omega arith)

pub none_at : (w : Width) (p : Text) (k : ℕ) → length p < k + size w → signs_by w (drop k p) ≡ []
unfolding plain_signs
none_at Plain p k h = let e : length p ≤ k = omega arith in ap plain_signs (drop_of_length-le p e)
none_at Marked p k h = few (drop k p) (simp length-drop (omega arith))

-- SO MANY UNITS

plain_behind : (n : ℕ) (t : Text) → drop n (plain_signs t) ≡ plain_signs (drop (1 * n) t)
unfolding plain_signs
plain_behind zero t = refl
plain_behind (suc n) [] = let e : 1 * suc n ≡ suc (1 * n) = omega arith in rw e
plain_behind (suc n) (b ∷ t) = let e : 1 * suc n ≡ suc (1 * n) = omega arith in plain_behind n t ∙ rw e

marked_behind : (n : ℕ) (t : Text) → drop n (signs_of t) ≡ signs_of (drop (2 * n) t)
unfolding signs_of
marked_behind zero t = refl
marked_behind (suc n) [] = let e : 2 * suc n ≡ suc (suc (2 * n)) = omega arith in rw e
marked_behind (suc n) (b ∷ []) = let e : 2 * suc n ≡ suc (suc (2 * n)) = omega arith in rw (e, drop-nil (suc (2 * n)))
marked_behind (suc n) (b ∷ m ∷ t) = let e : 2 * suc n ≡ suc (suc (2 * n)) = omega arith in marked_behind n t ∙ rw e

-- behind so many units
pub units_behind : (w : Width) (n : ℕ) (t : Text) → drop n (signs_by w t) ≡ signs_by w (drop (size w * n) t)
units_behind Plain n t = plain_behind n t
units_behind Marked n t = marked_behind n t

plain_of : (n : ℕ) (t : Text) → take n (plain_signs t) ≡ plain_signs (take (1 * n) t)
unfolding plain_signs
plain_of zero t = refl
plain_of (suc n) [] = let e : 1 * suc n ≡ suc (1 * n) = omega arith in rw e
plain_of (suc n) (b ∷ t) =
    let e : 1 * suc n ≡ suc (1 * n) = omega arith in
    ap {B = Signs} (λ r. record { live = true; byte = b } ∷ r) (plain_of n t) ∙ rw e

marked_of : (n : ℕ) (t : Text) → take n (signs_of t) ≡ signs_of (take (2 * n) t)
unfolding signs_of
marked_of zero t = refl
marked_of (suc n) [] = let e : 2 * suc n ≡ suc (suc (2 * n)) = omega arith in rw e
marked_of (suc n) (b ∷ []) = let e : 2 * suc n ≡ suc (suc (2 * n)) = omega arith in rw (e, take-nil (suc (2 * n)))
marked_of (suc n) (b ∷ m ∷ t) =
    let e : 2 * suc n ≡ suc (suc (2 * n)) = omega arith in
    ap {B = Signs} (λ r. record { live = pick (eqb m 3) false true; byte = b } ∷ r) (marked_of n t) ∙ rw e

-- the first so many units
pub units_of : (w : Width) (n : ℕ) (t : Text) → take n (signs_by w t) ≡ signs_by w (take (size w * n) t)
units_of Plain n t = plain_of n t
units_of Marked n t = marked_of n t

plain_there : (n : ℕ) (t : Text) → n ≤ length (plain_signs t) → 1 * n ≤ length t
unfolding plain_signs
plain_there zero t h = omega arith
plain_there (suc n) [] h = absurd (omega arith)
plain_there (suc n) (b ∷ t) h = let r = plain_there n t (omega arith) in omega arith

marked_there : (n : ℕ) (t : Text) → n ≤ length (signs_of t) → 2 * n ≤ length t
unfolding signs_of
marked_there zero t h = omega arith
marked_there (suc n) [] h = absurd (omega arith)
marked_there (suc n) (b ∷ []) h = absurd (omega arith)
marked_there (suc n) (b ∷ m ∷ t) h = let r = marked_there n t (omega arith) in omega arith

-- so many units are there: so many times their bytes are
pub units_there : (w : Width) (n : ℕ) (t : Text) → n ≤ length (signs_by w t) → size w * n ≤ length t
units_there Plain n t h = plain_there n t h
units_there Marked n t h = marked_there n t h

-- WHETHER THE UNIT AT A PLACE IS THIS BYTE, AND ACTIVE

module _ (w : Width) (p : Text) (k c : ℕ) where
  pub live_beyond : length p < k + size w → begins c (signs_by w (drop k p)) ≡ false
  unfolding begins
  live_beyond h = rw (none_at w p k h)

  pub live_seen : k + size w ≤ length p → begins c (signs_by w (drop k p)) ≡ is_live c (sign_at w p k)
  unfolding begins
  live_seen h = rw (unit_at w p k h)

  -- an active byte stands inside the pattern
  pub live_inside : begins c (signs_by w (drop k p)) ≡ true → k + size w ≤ length p
  live_inside y = go (dec_le (k + size w) (length p))
    where
      go : Dec (k + size w ≤ length p) → k + size w ≤ length p
      go (yes h) = h
      go (no n) = absurd (apart (live_beyond (omega arith)) y)

-- WHETHER A TEXT OF ACTIVE BYTES BEGINS THERE

module _ (w : Width) (p : Text) (k : ℕ) where
  text_step : (b : ℕ) (t : Text) →
      begin (b ∷ t) (signs_by w (drop k p)) ≡ (begins b (signs_by w (drop k p)) && begin t (signs_by w (drop (k + size w) p)))
  unfolding begin begins
  text_step b t = go (dec_le (k + size w) (length p))
    where
      go : Dec (k + size w ≤ length p) →
          begin (b ∷ t) (signs_by w (drop k p)) ≡ (begins b (signs_by w (drop k p)) && begin t (signs_by w (drop (k + size w) p)))
      go (yes h) = rw (unit_at w p k h)
      go (no n) = let h : length p < k + size w = omega arith in rw (none_at w p k h)

  module _ (t : Text) (i : ℕ) where
    text_parted : i < length t → begin (drop i t) (signs_by w (drop k p)) ≡
        (begins (get_or t i 0) (signs_by w (drop k p)) && begin (drop (i + 1) t) (signs_by w (drop (k + size w) p)))
    text_parted h =
        let e : suc i ≡ i + 1 = omega arith in
        ap (λ (u : Text). begin u (signs_by w (drop k p))) (drop-cons t i 0 h ∙ ap (λ (n : ℕ). get_or t i 0 ∷ drop n t) e)
        ∙ text_step (get_or t i 0) (drop (i + 1) t)

    pub text_fails : i < length t → begins (get_or t i 0) (signs_by w (drop k p)) ≡ false → begin (drop i t) (signs_by w (drop k p)) ≡ false
    text_fails h n = text_parted h ∙ rw n

    pub text_on : i < length t → begins (get_or t i 0) (signs_by w (drop k p)) ≡ true →
        begin (drop i t) (signs_by w (drop k p)) ≡ begin (drop (i + 1) t) (signs_by w (drop (k + size w) p))
    text_on h y = text_parted h ∙ rw y

    pub text_over : length t ≤ i → begin (drop i t) (signs_by w (drop k p)) ≡ true
    unfolding begin
    text_over h = rw (drop_of_length-le t h)

-- a part from k to the end is what is left when k are dropped
pub to_end : (v : Text) (k : ℕ) → take (length v - k) (drop k v) ≡ drop k v
to_end v k = take_all (length v - k) (drop k v) (simp length-drop (omega arith))

-- bytes that are all active are read as the stage reads literal units
pub plain_signs_lem : (p : Text) → plain_signs p ≡ signs (marked L p)
unfolding plain_signs signs marked
plain_signs_lem [] = refl
plain_signs_lem (b ∷ p) = ap (λ (r : Signs). record { live = true; byte = b } ∷ r) (plain_signs_lem p)
