-- Laws of rows at the front of an area, and of the walks that write them.
use Prim.Native.Nat.{ℕ, zero, suc, ◌+◌, ◌-◌, ◌*◌, ◌≤◌, ◌<◌}
use native.Mathlib.Omega.{arith}
use native.Mathlib.Numerals.{add-one}
use native.Mathlib.Nat.{not-suc-le-zero}
use mathlib.Core.Path.{◌≡◌, refl, sym, ap, ◌∙◌}
use mathlib.Core.Bool.{Bool, true, false, ◌||◌}
use mathlib.Core.List.{[], ◌∷◌, ◌++◌, append_assoc, append-nil}
use lib.Dec.{eqb}
use lib.ListN.{length, take, drop, get_or, set, length-append, length-drop}
use lib.Seq.{drop-cons, take-length}
use Rattle.stages.specs.Bytes.{Text}
use Rattle.stages.specs.Outcome.{pick}
use Rattle.stages.specs.Units.{Mark, L, E, Q, cell, N, B, Row, marked, bytes}
use Rattle.stages.proofs.Bools.{no}
use Rattle.text.specs.Rows.{mark_byte, is_mark, row_bytes, row_of, unit_of}
use Rattle.row.specs.Stands.{fronted, Stripped}

-- two stores at the front
pub two : (s : Text) (x y : ℕ) → 2 ≤ length s → set (set s 0 x) 1 y ≡ x ∷ y ∷ drop 2 s
two [] x y l = absurd (omega arith)
two (a ∷ []) x y l = absurd (omega arith)
two (a ∷ b ∷ s) x y l = refl

-- a unit has a byte at the most, and takes two
pub unit_byte : (b m : ℕ) (r : Row) → length (bytes (unit_of b m ∷ r)) ≤ suc (length (bytes r))
unfolding bytes unit_of
unit_byte b m r = go (eqb m 1) (eqb m 2) (eqb m 3) (eqb m 4)
  where
    go : (x y z w : Bool) → length (bytes (pick x (cell L b) (pick y (cell E b) (pick z (cell Q b) (pick w B N))) ∷ r)) ≤ suc (length (bytes r))
    go true y z w = omega arith
    go false true z w = omega arith
    go false false true w = omega arith
    go false false false true = omega arith
    go false false false false = omega arith

pub bytes_half : (t : Text) → 2 * length (bytes (row_of t)) ≤ length t
unfolding bytes row_of
bytes_half [] = omega arith
bytes_half (a ∷ []) = omega arith
bytes_half (a ∷ b ∷ t) = omega (arith, unit_byte a b (row_of t), bytes_half t)

-- A text of which i bytes stand as units at the front of w: one more.

pub marked_length : (m : Mark) (t : Text) → length (row_bytes (marked m t)) ≡ 2 * length t
unfolding row_bytes marked
marked_length m [] = refl
marked_length m (b ∷ t) = omega (arith, marked_length m t)

-- bytes, each with the byte of a mark behind it
unfoldable pub units : ℕ → Text → Text
units m [] = []
units m (b ∷ t) = b ∷ m ∷ units m t

pub units_marked : (m : Mark) (t : Text) → units (mark_byte m) t ≡ row_bytes (marked m t)
unfolding units row_bytes marked
units_marked m [] = refl
units_marked m (b ∷ t) = ap (λ (u : Text). b ∷ mark_byte m ∷ u) (units_marked m t)

pub units_more : (i m : ℕ) (v w : Text) → i < length v → 2 * i + 1 < length w
    → set (set (units m (take i v) ++ drop (2 * i) w) (2 * i) (get_or v i 0)) (2 * i + 1) m ≡ units m (take (suc i) v) ++ drop (2 * suc i) w
unfolding units
units_more i m [] w l k = absurd (not-suc-le-zero l)
units_more i m (x ∷ v) [] l k = absurd (not-suc-le-zero k)
units_more i m (x ∷ v) (a ∷ []) l k = absurd (omega arith)
units_more zero m (x ∷ v) (a ∷ b ∷ w) l k = refl
units_more (suc i) m (x ∷ v) (a ∷ b ∷ w) l k =
    let e : 2 * suc i ≡ suc (suc (2 * i)) = omega arith in
    let f : 2 * suc (suc i) ≡ suc (suc (2 * suc i)) = omega arith in
    let g : 2 * suc i + 1 ≡ suc (suc (2 * i + 1)) = omega arith in
    rw (g, f, e)
    (ap (λ (s : Text). x ∷ m ∷ s) (units_more i m v w (omega arith) (omega arith) ∙ ap (λ (j : ℕ). units m (take (suc i) v) ++ drop j w) e))

pub units_next : (i m : ℕ) (v w : Text) {area : Text} → i < length v → 2 * i + 1 < length w → area ≡ units m (take i v) ++ drop (2 * i) w
    → set (set area (2 * i) (get_or v i 0)) (2 * i + 1) m ≡ units m (take (i + 1) v) ++ drop (2 * (i + 1)) w
units_next i m v w l h q = rw (add-one i, q) (units_more i m v w l h)

pub units_all : (i m : ℕ) (k : Mark) (v w : Text) {area : Text} → i ≡ length v → m ≡ mark_byte k → area ≡ units m (take i v) ++ drop (2 * i) w
    → area ≡ fronted (row_bytes (marked k v)) w
units_all i m k v w e f q =
    q ∙ ap (λ (j : ℕ). units m (take j v) ++ drop (2 * j) w) e
    ∙ ap (λ (t : Text). units m t ++ drop (2 * length v) w) (take-length v)
    ∙ ap (λ (n : ℕ). units n v ++ drop (2 * length v) w) f
    ∙ ap (λ (t : Text). t ++ drop (2 * length v) w) (units_marked k v)
    ∙ ap (λ (j : ℕ). row_bytes (marked k v) ++ drop j w) (sym (marked_length k v))

-- Stripping. A text that stands at the front of what was there: one byte more, and what is behind it.

set_front : (t s : Text) (b : ℕ) → length t < length s → set (fronted t s) (length t) b ≡ fronted (t ++ (b ∷ [])) s
set_front [] [] b l = absurd (not-suc-le-zero l)
set_front [] (x ∷ s) b l = refl
set_front (a ∷ t) [] b l = absurd (not-suc-le-zero l)
set_front (a ∷ t) (x ∷ s) b l = ap (λ (u : Text). a ∷ u) (set_front t s b (omega arith))

get_front : (t s : Text) (i : ℕ) → length t ≤ i → i < length s → get_or (fronted t s) i 0 ≡ get_or s i 0
get_front [] s i k l = refl
get_front (a ∷ t) [] i k l = absurd (not-suc-le-zero l)
get_front (a ∷ t) (x ∷ s) zero k l = absurd (not-suc-le-zero k)
get_front (a ∷ t) (x ∷ s) (suc i) k l = get_front t s i (omega arith) (omega arith)

-- what a unit adds to the bytes of its row
unit_bytes : (b m : ℕ) (r : Row) → is_mark m ≡ true → bytes (unit_of b m ∷ r) ≡ b ∷ bytes r
unfolding bytes unit_of
unit_bytes b m r e = go (eqb m 1) (eqb m 2) (eqb m 3) (eqb m 4) e
  where
    go : (x y z w : Bool) → (x || (y || z)) ≡ true → bytes (pick x (cell L b) (pick y (cell E b) (pick z (cell Q b) (pick w B N))) ∷ r) ≡ b ∷ bytes r
    go true y z w e = refl
    go false true z w e = refl
    go false false true w e = refl
    go false false false w e = absurd (no e)

empty_bytes : (b m : ℕ) (r : Row) → is_mark m ≡ false → bytes (unit_of b m ∷ r) ≡ bytes r
unfolding bytes unit_of
empty_bytes b m r e = go (eqb m 1) (eqb m 2) (eqb m 3) (eqb m 4) e
  where
    go : (x y z w : Bool) → (x || (y || z)) ≡ false → bytes (pick x (cell L b) (pick y (cell E b) (pick z (cell Q b) (pick w B N))) ∷ r) ≡ bytes r
    go true y z w e = absurd (no (sym e))
    go false true z w e = absurd (no (sym e))
    go false false true w e = absurd (no (sym e))
    go false false false true e = refl
    go false false false false e = refl

-- the walk: `kept` bytes stand at the front of the row, and i bytes of it are passed
pub record Stripping (row₀ row : Text) (kept i : ℕ) : Type 0 where
  pub done : Text
  pub counts : length done ≡ kept
  pub leaves : row ≡ fronted done row₀
  pub whole : bytes (row_of row₀) ≡ done ++ bytes (row_of (drop i row₀))
  pub behind : kept ≤ i
  pub within : i ≤ length row₀

pub strip_start : (row : Text) → Stripping row row 0 0
strip_start row = record { done = []; counts = refl; leaves = refl; whole = refl; behind = omega arith; within = omega arith }

module _ {row₀ row : Text} {kept i : ℕ} (s : Stripping row₀ row kept i) where
  module _ (l : 1 < length row₀ - i) where
    here : (b : ℕ) → i ≤ b → b < length row₀ → get_or row b 0 ≡ get_or row₀ b 0
    here b k h = ap (λ (t : Text). get_or t b 0) s.leaves ∙ get_front s.done row₀ b (omega (arith, s.counts, s.behind)) h

    unit_at : row_of (drop i row₀) ≡ unit_of (get_or row₀ i 0) (get_or row₀ (i + 1) 0) ∷ row_of (drop (i + 2) row₀)
    unfolding row_of
    unit_at =
        let e : suc i ≡ i + 1 = omega arith in
        let f : suc (i + 1) ≡ i + 2 = omega arith in
        rw (drop-cons row₀ i 0 (omega arith), e, drop-cons row₀ (i + 1) 0 (omega arith), f)

    pub strip_keep : is_mark (get_or row (i + 1) 0) ≡ true → Stripping row₀ (set row kept (get_or row i 0)) (kept + 1) (i + 2)
    strip_keep m =
        let c = s.counts in
        let b = s.behind in
        record {
          done = s.done ++ (get_or row₀ i 0 ∷ []);
          counts = simp length-append (omega arith);
          leaves =
              ap (λ (x : ℕ). set row kept x) (here i (omega arith) (omega arith))
              ∙ ap (λ (t : Text). set t kept (get_or row₀ i 0)) s.leaves
              ∙ ap (λ (k : ℕ). set (fronted s.done row₀) k (get_or row₀ i 0)) (sym c)
              ∙ set_front s.done row₀ (get_or row₀ i 0) (omega arith);
          whole =
              s.whole
              ∙ ap (λ (r : Row). s.done ++ bytes r) unit_at
              ∙ ap (λ (t : Text). s.done ++ t)
              (unit_bytes (get_or row₀ i 0) (get_or row₀ (i + 1) 0) (row_of (drop (i + 2) row₀))
              (sym (ap is_mark (here (i + 1) (omega arith) (omega arith))) ∙ m))
              ∙ sym (append_assoc s.done (get_or row₀ i 0 ∷ []) (bytes (row_of (drop (i + 2) row₀))));
          behind = omega arith;
          within = omega arith;
        }

    pub strip_drop : is_mark (get_or row (i + 1) 0) ≡ false → Stripping row₀ row kept (i + 2)
    strip_drop m =
        let b = s.behind in
        record {
          done = s.done;
          counts = s.counts;
          leaves = s.leaves;
          whole =
              s.whole
              ∙ ap (λ (r : Row). s.done ++ bytes r) unit_at
              ∙ ap (λ (t : Text). s.done ++ t)
              (empty_bytes (get_or row₀ i 0) (get_or row₀ (i + 1) 0) (row_of (drop (i + 2) row₀))
              (sym (ap is_mark (here (i + 1) (omega arith) (omega arith))) ∙ m));
          behind = omega arith;
          within = omega arith;
        }

  short : (t : Text) → length t ≤ 1 → bytes (row_of t) ≡ []
  unfolding bytes row_of
  short [] l = refl
  short (a ∷ []) l = refl
  short (a ∷ b ∷ t) l = absurd (omega arith)

  pub strip_end : length row₀ - i ≤ 1 → Stripped row₀ row kept
  strip_end l =
      let w : bytes (row_of row₀) ≡ s.done =
      s.whole ∙ ap (λ (t : Text). s.done ++ t) (short (drop i row₀) (simp length-drop l)) ∙ append-nil s.done in
      record { counts = sym s.counts ∙ ap length (sym w); leaves = s.leaves ∙ ap (λ (t : Text). fronted t row₀) (sym w) }

pub stripped_to : {row₀ row left : Text} {kept count i j : ℕ} → Stripping row₀ row kept i → left ≡ row → count ≡ kept → i ≡ j → Stripping row₀ left count j
stripped_to s p q e = rw (p, q, ← e) s
