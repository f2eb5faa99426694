-- The ways of reading a byte, a text and up to a byte: each test of the code is one of the definition.
use Rattle.std.specs.Prelude.{Option, Some, None, Ok, Err}
use Prim.Native.Nat.{ℕ, zero, suc, ◌+◌, ◌-◌, ◌*◌, ◌≤◌, ◌<◌}
use native.Mathlib.Omega.{arith}
use mathlib.Core.Path.{◌≡◌, refl, sym, ap, ◌∙◌}
use mathlib.Core.Bool.{Bool, true, false}
use mathlib.Core.List.{[], ◌∷◌, ◌++◌}
use lib.Dec.{eqb, ltb}
use lib.ListN.{length, drop, get_or, set, length-append, length-drop, drop_of_length-le}
use lib.Seq.{drop-cons, drop-drop, get_or-drop}
use borrow.Author.Tests.{eq-eqb, ne_eqb, le-ltb, le-leb, ltb-false, eqb-false}
use Rattle.stages.specs.Bytes.{Text, all, not_zero}
use Rattle.stages.proofs.Bools.{and_both}
use Rattle.stages.proofs.Texts.{all_append}
use Rattle.stages.specs.Outcome.{pick}
use Rattle.stages.specs.Call.{over}
use Rattle.text.specs.Putting.{Puts}
use Rattle.text.proofs.Filling.{Filling, fill_byte, fill_ends}
use Rattle.tab_escape.specs.Escapes.{Got, taking, hex_value, hex_byte, escape_of, byte_at, Reading, bad, good, before, read_on, read_from, read_text}
use Rattle.tab_escape.specs.Escapes.{Reads, reads, fails}
use Rattle.tab_escape.specs.declared.Fault.{Fault}
use Rattle.tab_escape.specs.declared.Fault.TheVariants.{BadEscape}

-- `byte_at`, as what is shown is read again

pub at_plain : (t : Text) (i : ℕ) → (get_or t i 0 ≡ 0 → ⊥) → (get_or t i 0 ≡ 92 → ⊥) → taking (get_or t i 0) 0 ≡ byte_at t i
unfolding byte_at
at_plain t i z e = rw (ne_eqb (get_or t i 0) 0 z, ne_eqb (get_or t i 0) 92 e)

-- a backslash with a byte after it
pub record Escape (t : Text) (i : ℕ) : Type 0 where
  pub backslash : get_or t i 0 ≡ 92
  pub long : 2 ≤ length t - i

module _ {t : Text} {i : ℕ} (s : Escape t i) where
  by_letter : byte_at t i ≡ escape_of (length t - i) (get_or t (i + 1) 0) (get_or t (i + 2) 0) (get_or t (i + 3) 0)
  unfolding byte_at
  by_letter = rw (ne_eqb (get_or t i 0) 0 (λ e. omega (arith, e, s.backslash)), eq-eqb (get_or t i 0) 92 s.backslash)

  pub at_newline : get_or t (i + 1) 0 ≡ 110 → taking 10 1 ≡ byte_at t i
  at_newline e = sym (by_letter ∙ rw (le-ltb (length t - i) 2 s.long, eq-eqb (get_or t (i + 1) 0) 110 e))

  pub at_backslash : get_or t (i + 1) 0 ≡ 92 → taking 92 1 ≡ byte_at t i
  at_backslash e =
      let m : get_or t (i + 1) 0 ≡ 110 → ⊥ = λ k. omega (arith, k, e) in
      sym (by_letter ∙ rw (le-ltb (length t - i) 2 s.long, ne_eqb (get_or t (i + 1) 0) 110 m, eq-eqb (get_or t (i + 1) 0) 92 e))

  pub at_hex : get_or t (i + 1) 0 ≡ 120 → 4 ≤ length t - i → hex_byte (hex_value (get_or t (i + 2) 0)) (hex_value (get_or t (i + 3) 0)) ≡ byte_at t i
  at_hex x k =
      let m : get_or t (i + 1) 0 ≡ 110 → ⊥ = λ e. omega (arith, e, x) in
      let n : get_or t (i + 1) 0 ≡ 92 → ⊥ = λ e. omega (arith, e, x) in
      sym (by_letter
      ∙ rw (
        le-ltb (length t - i) 2 s.long,
        ne_eqb (get_or t (i + 1) 0) 110 m,
        ne_eqb (get_or t (i + 1) 0) 92 n,
        eq-eqb (get_or t (i + 1) 0) 120 x,
        le-ltb (length t - i) 4 k,
      ))

-- a byte lies within those that are left, and is not zero

abbrev Within : Got → ℕ → Type 0
Within (Err f) n = Unit {0}
Within (Ok r) n = (r.more < n) × (1 ≤ r.b)

pub by_pick : {A : Type 0} (P : A → Type 0) (x : Bool) (a b : A) → (x ≡ true → P a) → (x ≡ false → P b) → P (pick x a b)
by_pick P true a b f g = f refl
by_pick P false a b f g = g refl

not_zero_lem : (b : ℕ) → eqb b 0 ≡ false → 1 ≤ b
not_zero_lem b e = let n : b ≡ 0 → ⊥ = eqb-false b 0 e in omega (arith, n)

hex_within : (h l : Option ℕ) (n : ℕ) → 4 ≤ n → Within (hex_byte h l) n
hex_within (Some h) (Some l) n k =
    by_pick (λ y. Within y n) (eqb (h * 16 + l) 0) _ _ (λ _. tt) (λ e. (omega arith, not_zero_lem (h * 16 + l) e))
hex_within (Some h) None n k = tt
hex_within None l n k = tt

digits_within : (h l : Option ℕ) (n : ℕ) → Within (pick (ltb n 4) (Err BadEscape) (hex_byte h l)) n
digits_within h l n = by_pick (λ y. Within y n) (ltb n 4) _ _ (λ _. tt) (λ e. hex_within h l n (ltb-false n 4 e))

escape_within : (n c h l : ℕ) → Within (escape_of n c h l) n
escape_within n c h l = by_pick (λ y. Within y n) (ltb n 2) _ _ (λ _. tt) (λ e. long (ltb-false n 2 e))
  where
    long : 2 ≤ n
        → Within (pick (eqb c 110) (taking 10 1)
        (pick (eqb c 92) (taking 92 1) (pick (eqb c 120) (pick (ltb n 4) (Err BadEscape) (hex_byte (hex_value h) (hex_value l))) (Err BadEscape)))) n
    long k =
        by_pick (λ y. Within y n) (eqb c 110) _ _ (λ _. (omega arith, omega arith))
        (λ _. by_pick (λ y. Within y n) (eqb c 92) _ _ (λ _. (omega arith, omega arith))
        (λ _. by_pick (λ y. Within y n) (eqb c 120) _ _ (λ _. digits_within (hex_value h) (hex_value l) n) (λ _. tt)))

at_within : (t : Text) (i : ℕ) → i < length t → Within (byte_at t i) (length t - i)
unfolding byte_at
at_within t i k =
    by_pick (λ y. Within y (length t - i)) (eqb (get_or t i 0) 0) _ _ (λ _. tt)
    (λ e. by_pick (λ y. Within y (length t - i)) (eqb (get_or t i 0) 92) _ _
    (λ _. escape_within (length t - i) (get_or t (i + 1) 0) (get_or t (i + 2) 0) (get_or t (i + 3) 0)) (λ _. (omega arith, not_zero_lem (get_or t i 0) e)))

pub is_within : (t : Text) (i b k : ℕ) (r : Got) → i < length t → r ≡ byte_at t i → r ≡ taking b k → (i + 1 + k ≤ length t) × (1 ≤ b)
is_within t i b k r h e f =
    let w : Within (taking b k) (length t - i) = rw (sym e ∙ f) at (at_within t i h) in
    (omega (arith, w.0), w.1)

-- `read_text`

byte_drop : (t : Text) (i : ℕ) → byte_at (drop i t) 0 ≡ byte_at t i
unfolding byte_at
byte_drop t i =
    let n : length (drop i t) - 0 ≡ length t - i = omega (arith, length-drop i t) in
    let b : get_or (drop i t) 0 0 ≡ get_or t i 0 = get_or-drop i t 0 0 ∙ ap (λ (k : ℕ). get_or t k 0) (omega arith) in
    rw (n, b, get_or-drop i t 1 0, get_or-drop i t 2 0, get_or-drop i t 3 0)

from_skip : (k : ℕ) (t : Text) → read_from k t ≡ read_from 0 (drop k t)
unfolding read_from
from_skip zero t = refl
from_skip (suc k) [] = refl
from_skip (suc k) (b ∷ t) = from_skip k t

from_at : (t : Text) (i : ℕ) → i < length t → read_from 0 (drop i t) ≡ read_on (byte_at t i) (λ k. read_from k (drop (suc i) t))
unfolding read_from
from_at t i h = rw (← byte_drop t i, drop-cons t i 0 h)

-- a text in front of what is read behind it
abbrev onto : Text → Reading → Reading
onto [] r = r
onto (b ∷ t) r = before b (onto t r)

onto_bad : (t : Text) (f : Fault) → onto t (bad f []) ≡ bad f t
onto_bad [] f = refl
onto_bad (b ∷ t) f = rw (onto_bad t f)

onto_good : (t : Text) → onto t (good []) ≡ good t
onto_good [] = refl
onto_good (b ∷ t) = rw (onto_good t)

onto_byte : (t : Text) (b : ℕ) (r : Reading) → onto (t ++ (b ∷ [])) r ≡ onto t (before b r)
onto_byte [] b r = refl
onto_byte (c ∷ t) b r = rw (onto_byte t b r)

-- the bytes before i are read and stand in the buffer
pub record Front (t old out : Text) (used i : ℕ) : Type 0 where
  pub front : Text
  pub is : read_text t ≡ onto front (read_from 0 (drop i t))
  pub within : i ≤ length t
  pub fine : all not_zero front ≡ true
  pub short : used ≤ i
  pub puts : Puts front old out used
  pub room : length t ≤ length old

pub front_starts : (t old : Text) → length t ≤ length old → Front t old old 0 0
unfolding read_text over
front_starts t old h =
    record { front = []; is = refl; within = omega arith; fine = refl; short = omega arith; puts = record { counts = refl; leaves = refl }; room = h }

module _ {t old out : Text} {used i : ℕ} (f : Front t old out used i) where
  pub front_length : length out ≡ length old
  unfolding over
  front_length =
      ap length f.puts.leaves ∙ length-append f.front (drop (length f.front) old)
      ∙ (let d : length (drop (length f.front) old) ≡ length old - length f.front = length-drop (length f.front) old in
      omega (arith, f.puts.counts, f.short, f.within, f.room))

  pub front_ends : length t ≤ i → Reads (read_text t) old out (Ok used)
  unfolding read_from
  front_ends h = reads (f.is ∙ ap (λ (u : Text). onto f.front (read_from 0 u)) (drop_of_length-le t h) ∙ onto_good f.front) f.fine f.puts

  module _ {r : Got} (h : i < length t) (e : r ≡ byte_at t i) where
    pub front_bad : (g : Fault) → r ≡ Err g → Reads (read_text t) old out (Err g)
    front_bad g k =
        fails {t = f.front}
        (f.is ∙ ap (onto f.front) (from_at t i h ∙ ap (λ (y : Got). read_on y (λ k. read_from k (drop (suc i) t))) (sym e ∙ k)) ∙
        onto_bad f.front g)
        f.puts.leaves

    pub front_more : (b k : ℕ) → r ≡ taking b k → Front t old (set out used b) (used + 1) (i + 1 + k)
    front_more b k q = record {
      front = f.front ++ (b ∷ []);
      is = f.is ∙ ap (onto f.front) next ∙ sym (onto_byte f.front b (read_from 0 (drop (i + 1 + k) t)));
      within = (is_within t i b k r h e q).0;
      fine = all_append not_zero f.front (b ∷ []) f.fine (and_both (le-leb 1 b (is_within t i b k r h e q).1) refl);
      short = omega (arith, f.short);
      puts = fill_ends (fill_byte filling b [] (used + 1) refl refl) refl;
      room = f.room;
    }
      where
        sum : suc i + k ≡ i + 1 + k
        sum = omega arith

        next : read_from 0 (drop i t) ≡ before b (read_from 0 (drop (i + 1 + k) t))
        next =
            from_at t i h
            ∙ ap (λ (y : Got). read_on y (λ k. read_from k (drop (suc i) t))) (sym e ∙ q)
            ∙ ap (before b) (from_skip k (drop (suc i) t) ∙ ap (read_from 0) (drop-drop k (suc i) t ∙ ap (λ (j : ℕ). drop j t) sum))

        filling : Filling (f.front ++ (b ∷ [])) (b ∷ []) old out used
        filling = record {
          front = f.front;
          splits = refl;
          long = f.puts.counts;
          is = f.puts.leaves;
          fits = rw (length-append f.front (b ∷ [])) (omega (arith, f.puts.counts, f.short, f.room));
        }
