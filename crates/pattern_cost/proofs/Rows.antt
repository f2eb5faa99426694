-- The stage's rows: what agrees up to the text's end marks and counts the same, and what is reached from a row on, row by row.
use Prim.Native.Nat.{ℕ, zero, suc, ◌+◌, ◌≤◌, ◌<◌}
use native.Mathlib.Omega.{arith}
use mathlib.Core.Path.{◌≡◌, refl}
use mathlib.Core.Bool.{Bool, true, false}
use mathlib.Core.List.{List, [], ◌∷◌}
use lib.ListN.{length, get_or}
use Rattle.stages.specs.Bytes.{Text}
use Rattle.stages.specs.Pattern.{Element}
use Rattle.stages.specs.Cost.{is_star, matches_byte, spread, onward, marks, tally, tally_rows}

spread_same : (s : Bool) (f g : ℕ → Bool) (n : ℕ) → ((k : ℕ) → k ≤ n → f k ≡ g k) → (j : ℕ) → j ≤ n → spread s f j ≡ spread s g j
unfolding spread
spread_same false f g n e j l = e j l
spread_same true f g n e zero l = e zero l
spread_same true f g n e (suc j) l = rw (e (suc j) l, spread_same true f g n e j (omega arith))

pub onward_same : (s : Bool) (x y : ℕ → Bool) (t : Text) (f g : ℕ → Bool) → ((k : ℕ) → k < length t → x (get_or t k 0) ≡ y (get_or t k 0))
    → ((k : ℕ) → k ≤ length t → f k ≡ g k) → (j : ℕ) → j ≤ length t → onward s x t f j ≡ onward s y t g j
unfolding onward
onward_same true x y t f g d e j l = e j l
onward_same false x y t f g d e zero l = refl
onward_same false x y t f g d e (suc j) l = rw (d j (omega arith), e j (omega arith))

-- what no byte passes leads nowhere
pub onward_none : (passes : ℕ → Bool) (t : Text) (g : ℕ → Bool) → ((k : ℕ) → k < length t → passes (get_or t k 0) ≡ false) → (j : ℕ) → j ≤ length t
    → onward false passes t g j ≡ false
unfolding onward
onward_none passes t g d zero l = refl
onward_none passes t g d (suc j) l = rw (d j (omega arith))

pub marks_same : (es : List Element) (t : Text) (f g : ℕ → Bool) → ((k : ℕ) → k ≤ length t → f k ≡ g k) → (i j : ℕ) → j ≤ length t
    → marks es t f i j ≡ marks es t g i j
unfolding marks
marks_same [] t f g e zero j l = e j l
marks_same [] t f g e (suc i) j l = refl
marks_same (d ∷ es) t f g e zero j l = spread_same (is_star d) f g (length t) e j l
marks_same (d ∷ es) t f g e (suc i) j l =
    marks_same es t (onward (is_star d) (matches_byte d) t (spread (is_star d) f)) (onward (is_star d) (matches_byte d) t (spread (is_star d) g))
    (λ k b. onward_same (is_star d) (matches_byte d) (matches_byte d) t (spread (is_star d) f) (spread (is_star d) g) (λ q c. refl)
    (λ q c. spread_same (is_star d) f g (length t) e q c) k b) i j l

tally_same : (f g : ℕ → Bool) (m : ℕ) → ((k : ℕ) → k < m → f k ≡ g k) → tally f m ≡ tally g m
unfolding tally
tally_same f g zero e = refl
tally_same f g (suc m) e = rw (e m (omega arith), tally_same f g m (λ k l. e k (omega arith)))

rows_same : (f g : ℕ → ℕ → Bool) (k m : ℕ) → ((i j : ℕ) → j < m → f i j ≡ g i j) → tally_rows f k m ≡ tally_rows g k m
unfolding tally_rows
rows_same f g zero m e = refl
rows_same f g (suc k) m e = rw (tally_same (f 0) (g 0) m (e 0), rows_same (λ i j. f (suc i) j) (λ i j. g (suc i) j) k m (λ i j l. e (suc i) j l))

-- what is reached from a row on
abbrev pub onwards : List Element → Text → (ℕ → Bool) → ℕ
onwards es t f = tally_rows (marks es t f) (suc (length es)) (length t + 1)

pub onwards_same : (es : List Element) (t : Text) (f g : ℕ → Bool) → ((k : ℕ) → k ≤ length t → f k ≡ g k) → onwards es t f ≡ onwards es t g
onwards_same es t f g e = rows_same (marks es t f) (marks es t g) (suc (length es)) (length t + 1) λ i j l. marks_same es t f g e i j (omega arith)

pub onwards_step : (e : Element) (es : List Element) (t : Text) (f : ℕ → Bool)
    → onwards (e ∷ es) t f ≡ tally (spread (is_star e) f) (length t + 1) + onwards es t (onward (is_star e) (matches_byte e) t (spread (is_star e) f))
unfolding tally_rows marks
onwards_step e es t f = refl

pub onwards_last : (t : Text) (f : ℕ → Bool) → onwards [] t f ≡ tally (spread false f) (length t + 1)
unfolding tally_rows marks spread
onwards_last t f = omega arith

pub row_last : (t : Text) (f : ℕ → Bool) (j : ℕ) → spread false f j ≡ marks [] t f 0 j
unfolding marks spread
row_last t f j = refl
