-- Texts compared by the numbers of eight bytes each.
use Rattle.std.proofs.Common.{w64}
use Rattle.std.specs.Int.{from_be_bytes}
use Prim.Native.Nat.{ℕ, suc, ◌+◌, ◌-◌, ◌*◌, ◌≤◌, ◌<◌}
use native.Mathlib.Omega.{arith}
use mathlib.Core.Path.{◌≡◌, refl, sym, ap, ◌∙◌}
use mathlib.Core.Bool.{Bool, true, false, ◌&&◌, ◌||◌}
use mathlib.Core.List.{[], ◌∷◌, ◌++◌}
use lib.Dec.{eqb, ltb}
use lib.ListN.{length, take, drop, get_or, length-drop, take-append-drop}
use lib.Seq.{drop-drop, length-take-le}
use borrow.Author.Tests.{lt-ltb, le-ltb, eq-eqb, ne_eqb, ltb-true, ltb-false, eqb-true, eqb-false}
use Rattle.stages.specs.Bytes.{Text, part, lt_text}
use Rattle.stages.proofs.Bools.{either}
use Rattle.table.specs.Words.{weigh, Weighs}

-- the number that the code makes of them
pub eight : (t : Text) → length t ≡ 8
    → from_be_bytes w64 (get_or t 0 0 ∷ get_or t 1 0 ∷ get_or t 2 0 ∷ get_or t 3 0 ∷ get_or t 4 0 ∷ get_or t 5 0 ∷ get_or t 6 0 ∷ get_or t 7 0 ∷ [])
    ≡ weigh 0 t
eight (a ∷ b ∷ c ∷ d ∷ e ∷ f ∷ g ∷ h ∷ []) l = omega arith
eight [] l = absurd (omega arith)
eight (a ∷ []) l = absurd (omega arith)
eight (a ∷ b ∷ []) l = absurd (omega arith)
eight (a ∷ b ∷ c ∷ []) l = absurd (omega arith)
eight (a ∷ b ∷ c ∷ d ∷ []) l = absurd (omega arith)
eight (a ∷ b ∷ c ∷ d ∷ e ∷ []) l = absurd (omega arith)
eight (a ∷ b ∷ c ∷ d ∷ e ∷ f ∷ []) l = absurd (omega arith)
eight (a ∷ b ∷ c ∷ d ∷ e ∷ f ∷ g ∷ []) l = absurd (omega arith)
eight (a ∷ b ∷ c ∷ d ∷ e ∷ f ∷ g ∷ h ∷ i ∷ t) l = absurd (omega arith)

-- the numbers of a text are bytes
abbrev Low : Text → Type 0
Low t = (k : ℕ) → get_or t k 0 < 256

-- bytes behind two numbers leave their order as it is
less_stays : (m n : ℕ) (a b : Text) → length a ≡ length b → Low a → m < n → weigh m a < weigh n b
less_stays m n [] [] e l h = h
less_stays m n [] (y ∷ b) e l h = absurd (omega arith)
less_stays m n (x ∷ a) [] e l h = absurd (omega arith)
less_stays m n (x ∷ a) (y ∷ b) e l h = less_stays (m * 256 + x) (n * 256 + y) a b (omega arith) (λ k. l (suc k)) (omega (arith, l 0))

-- by two numbers, and by a test where they are the same
abbrev by_numbers : ℕ → ℕ → Bool → Bool
by_numbers x y rest = ltb x y || (eqb x y && rest)

by_less : (x y : ℕ) (rest : Bool) → x < y → by_numbers x y rest ≡ true
by_less x y rest h = rw (lt-ltb x y h)

by_more : (x y : ℕ) (rest : Bool) → y < x → by_numbers x y rest ≡ false
by_more x y rest h = rw (le-ltb x y (omega arith), ne_eqb x y λ e. omega arith)

by_same : (x y : ℕ) (rest : Bool) → x ≡ y → by_numbers x y rest ≡ rest
by_same x y rest e = rw (le-ltb x y (omega arith), eq-eqb x y e)

-- texts stand to each other as the numbers of their fronts, and as what is behind these where they are the same
fronts : (n : ℕ) (a b c d : Text) → length a ≡ length b → Low a → Low b → lt_text (a ++ c) (b ++ d) ≡ by_numbers (weigh n a) (weigh n b) (lt_text c d)
fronts n [] [] c d e l m = sym (by_same n n (lt_text c d) refl)
fronts n [] (y ∷ b) c d e l m = absurd (omega arith)
fronts n (x ∷ a) [] c d e l m = absurd (omega arith)
fronts n (x ∷ a) (y ∷ b) c d e l m = either (ltb x y) (λ p. below (ltb-true x y p))
    λ p. either (eqb x y)
    (λ q. alike (eqb-true x y q) (fronts (n * 256 + x) a b c d (omega arith) (λ i. l (suc i)) (λ i. m (suc i))))
    (λ q. above (ltb-false x y p) (eqb-false x y q))
  where
    k : length a ≡ length b
    k = omega arith

    below : x < y → by_numbers x y (lt_text (a ++ c) (b ++ d)) ≡ by_numbers (weigh (n * 256 + x) a) (weigh (n * 256 + y) b) (lt_text c d)
    below h = by_less x y _ h ∙ sym (by_less _ _ _ (less_stays (n * 256 + x) (n * 256 + y) a b k (λ i. l (suc i)) (omega arith)))

    alike : x ≡ y → lt_text (a ++ c) (b ++ d) ≡ by_numbers (weigh (n * 256 + x) a) (weigh (n * 256 + x) b) (lt_text c d)
        → by_numbers x y (lt_text (a ++ c) (b ++ d)) ≡ by_numbers (weigh (n * 256 + x) a) (weigh (n * 256 + y) b) (lt_text c d)
    alike h ih =
        by_same x y _ h ∙ ih ∙ ap (λ (z : ℕ). by_numbers (weigh (n * 256 + x) a) (weigh (n * 256 + z) b) (lt_text c d)) h

    above : y ≤ x → (x ≡ y → ⊥) → by_numbers x y (lt_text (a ++ c) (b ++ d)) ≡ by_numbers (weigh (n * 256 + x) a) (weigh (n * 256 + y) b) (lt_text c d)
    above h q = by_more x y _ (omega arith)
        ∙ sym (by_more _ _ _ (less_stays (n * 256 + y) (n * 256 + x) b a (sym k) (λ i. m (suc i)) (omega arith)))

-- the loop's state: the same bytes stand before `i`
pub record Rising (last key : Text) (i : ℕ) : Type 0 where
  pub within_last : i ≤ length last
  pub within_key : i ≤ length key
  pub less : lt_text last key ≡ lt_text (drop i last) (drop i key)

pub rising_at : {last key : Text} {i j : ℕ} → Rising last key i → i ≡ j → Rising last key j
rising_at r e = rw (← e) r

part_eight : (t : Text) (i : ℕ) → part t i (i + 8) ≡ take 8 (drop i t)
part_eight t i = let e : i + 8 - i ≡ 8 = omega arith in rw e

pub eight_long : (t : Text) (i : ℕ) → i + 8 ≤ length t → length (part t i (i + 8)) ≡ 8
eight_long t i h = ap length (part_eight t i) ∙ length-take-le 8 (drop i t) (omega (arith, length-drop i t))

split_eight : (t : Text) (i : ℕ) → drop i t ≡ part t i (i + 8) ++ drop (i + 8) t
split_eight t i =
    sym (take-append-drop 8 (drop i t)) ∙ ap (λ (u : Text). u ++ drop 8 (drop i t)) (sym (part_eight t i))
    ∙ ap (λ (u : Text). part t i (i + 8) ++ u) (drop-drop 8 i t)

module _ {last key : Text} {i : ℕ} (p : Rising last key i) (h : i + 8 ≤ length last) (k : i + 8 ≤ length key) {x y : ℕ}
    (u : Weighs (part last i (i + 8)) x) (v : Weighs (part key i (i + 8)) y) where
  by_words : lt_text last key ≡ by_numbers x y (lt_text (drop (i + 8) last) (drop (i + 8) key))
  by_words =
      p.less ∙ ap (λ (t : Text). lt_text t (drop i key)) (split_eight last i)
      ∙ ap (λ (t : Text). lt_text (part last i (i + 8) ++ drop (i + 8) last) t) (split_eight key i)
      ∙ fronts 0 (part last i (i + 8)) (part key i (i + 8)) (drop (i + 8) last) (drop (i + 8) key)
      (eight_long last i h ∙ sym (eight_long key i k)) u.bytes v.bytes
      ∙ ap (λ (n : ℕ). by_numbers n (weigh 0 (part key i (i + 8))) (lt_text (drop (i + 8) last) (drop (i + 8) key))) (sym u.is)
      ∙ ap (λ (n : ℕ). by_numbers x n (lt_text (drop (i + 8) last) (drop (i + 8) key))) (sym v.is)

  pub words_differ : (x ≡ y → ⊥) → ltb x y ≡ lt_text last key
  words_differ n =
      sym (by_words ∙ either (ltb x y) (λ e. by_less x y _ (ltb-true x y e) ∙ sym e)
      (λ e. let m = ltb-false x y e in by_more x y _ (omega arith) ∙ sym e))

  pub words_same : x ≡ y → Rising last key (i + 8)
  words_same l = record { within_last = h; within_key = k; less = by_words ∙ by_same x y _ l }
