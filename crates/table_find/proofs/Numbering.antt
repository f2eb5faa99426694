-- The walk to the text of a number: the texts passed are counted, and none of them has that number.
use Prim.Native.Nat.{ℕ, zero, suc, ◌+◌, ◌-◌, ◌≤◌, ◌<◌}
use native.Mathlib.Omega.{arith}
use mathlib.Core.Path.{◌≡◌, refl, sym, ap, ◌∙◌}
use mathlib.Core.List.{List, [], ◌∷◌, ◌++◌, append_assoc}
use mathlib.Core.Option.{none, some}
use lib.ListN.{length, take, drop, length-append, length-drop}
use lib.Seq.{take_at, length-take-le}
use Rattle.stages.specs.Bytes.{Text, part}
use Rattle.stages.specs.Images.{held_texts, record_bytes, image_length}
use Rattle.stages.specs.Params.{numbered}
use Rattle.stages.proofs.Images.{record_bytes_append}
use Rattle.std.specs.Prelude.{Option, Some, None, Ok, Err}
use Rattle.table.specs.Pieces.{Piece, malformed, piece_at}
use Rattle.table.specs.Places.{found_by}
use Rattle.table.specs.declared.Part.{Part}
use Rattle.table.proofs.Pieces.{Ahead, ahead_first, Next, ahead_end, ahead_bad, ahead_text}
use Rattle.table.specs.Places.{Listed}
use Rattle.table_find.specs.Numbered.{numbered_in, Bears, Shown, shown, absent, Numbers}

-- numbers

numbered_none : (k : ℕ) → numbered k [] ≡ none
unfolding numbered
numbered_none zero = refl
numbered_none (suc zero) = refl
numbered_none (suc (suc k)) = refl

numbered_zero : (l : List Text) → numbered 0 l ≡ none
unfolding numbered
numbered_zero [] = refl
numbered_zero (t ∷ l) = refl

numbered_first : (k : ℕ) (t : Text) (l : List Text) → k ≡ 1 → numbered k (t ∷ l) ≡ some t
unfolding numbered
numbered_first k t l e = rw e

numbered_later : (k : ℕ) (t : Text) (l : List Text) → (k ≡ 1 → ⊥) → numbered k (t ∷ l) ≡ numbered (k - 1) l
unfolding numbered
numbered_later zero t l n = sym (numbered_zero l)
numbered_later (suc zero) t l n = absurd (n refl)
numbered_later (suc (suc k)) t l n = let e : suc (suc k) - 1 ≡ suc k = omega arith in rw e

-- `count` texts are passed, and the others are ahead of `at`
pub record Counting (t : Text) (at count : ℕ) : Type 0 where
  pub passed : List Text
  pub left : List Text
  pub whole : held_texts t ≡ passed ++ left
  pub counts : length passed ≡ count
  pub far : at ≡ image_length passed
  pub ahead : Ahead t at left

pub counting_start : (t : Text) → Listed t → Counting t 1 0
unfolding image_length record_bytes
counting_start t e = record { passed = []; left = held_texts t; whole = refl; counts = refl; far = refl; ahead = ahead_first t (held_texts t) e }

module _ {t : Text} {at count : ℕ} (w : Counting t at count) where
  -- each text takes at least two bytes
  counted : (l : List Text) → length l ≤ record_bytes l
  unfolding record_bytes
  counted [] = omega arith
  counted (x ∷ l) = omega (arith, counted l)

  pub counting_bound : count < at
  unfolding image_length
  counting_bound = omega (arith, w.far, w.counts, counted w.passed)

  module _ {p : Piece} (s : p ≡ piece_at t at) where
    pub counting_none : p ≡ Ok None → w.left ≡ []
    counting_none = ahead_end w.ahead s

    pub counting_bad : p ≡ Err malformed → ⊥
    counting_bad = ahead_bad w.ahead s

    module _ {end : ℕ} (e : p ≡ Ok (Some end)) where
      pub next : Next t at end w.left
      next = ahead_text w.ahead s e

      pub next_low : at + 2 ≤ end
      next_low = next.low

      pub next_high : end ≤ length t
      next_high = next.ahead.within

      abbrev here : Text
      here = part t (at + 2) end

      here_length : length here ≡ end - (at + 2)
      here_length = length-take-le (end - (at + 2)) (drop (at + 2) t) (omega (arith, next_high, length-drop (at + 2) t))

      one_more : image_length (w.passed ++ (here ∷ [])) ≡ end
      unfolding image_length record_bytes
      one_more = omega (arith, w.far, here_length, next_low, record_bytes_append w.passed (here ∷ []))

      pub counting_on : Counting t end (count + 1)
      counting_on = record {
        passed = w.passed ++ (here ∷ []);
        left = next.more;
        whole = w.whole ∙ ap (λ (l : List Text). w.passed ++ l) next.is ∙ sym (append_assoc w.passed (here ∷ []) next.more);
        counts = omega (arith, w.counts, length-append w.passed (here ∷ []));
        far = sym one_more;
        ahead = next.ahead;
      }

-- how many there are
pub counting_all : {t : Text} {at count : ℕ} (w : Counting t at count) → w.left ≡ [] → count ≡ length (held_texts t)
counting_all w e =
    let n : length w.left ≡ 0 = ap length e in
    omega (arith, ap length w.whole, length-append w.passed w.left, w.counts)

-- the number is none of those passed
pub record Seeking (t : Text) (k at count : ℕ) : Type 0 where
  pub walk : Counting t at count
  pub gets : numbered k (held_texts t) ≡ numbered (k - count) walk.left

pub seeking_start : (t : Text) (k : ℕ) → Listed t → Seeking t k 1 0
unfolding counting_start
seeking_start t k e =
    let z : k ≡ k - 0 = omega arith in
    record { walk = counting_start t e; gets = ap (λ (i : ℕ). numbered i (held_texts t)) z }

module _ {t : Text} {k at count : ℕ} (w : Seeking t k at count) {p : Piece} (s : p ≡ piece_at t at) where
  pub seeking_none : p ≡ Ok None → Numbers t k None
  unfolding numbered_in found_by
  seeking_none e =
      let n : numbered k (held_texts t) ≡ none =
      w.gets ∙ ap (numbered (k - count)) (counting_none w.walk s e) ∙ numbered_none (k - count) in
      record { is = rw (n, found_by); shows = absent n }

  pub seeking_bad : p ≡ Err malformed → Numbers t k None
  seeking_bad e = absurd (counting_bad w.walk s e)

  module _ {end : ℕ} (e : p ≡ Ok (Some end)) where
    abbrev n : Next t at end w.walk.left
    n = next w.walk s e

    abbrev text : Text
    text = part t (at + 2) end

    first_left : numbered k (held_texts t) ≡ numbered (k - count) (text ∷ n.more)
    first_left = w.gets ∙ ap (numbered (k - count)) n.is

    pub seeking_found : count + 1 ≡ k → Numbers t k (Some (record { from = at + 2; to = end }))
    seeking_found q =
        let g : numbered k (held_texts t) ≡ some text = first_left ∙ numbered_first (k - count) text n.more (omega arith) in
        let before : take (k - 1) (held_texts t) ≡ w.walk.passed =
        ap (take (k - 1)) w.walk.whole ∙ take_at w.walk.passed w.walk.left (k - 1) (omega (arith, w.walk.counts)) in
        let a : image_length (take (k - 1) (held_texts t)) ≡ at = ap image_length before ∙ sym w.walk.far in
        let z : at + 2 + length text ≡ end = omega (arith, here_length w.walk s e, next_low w.walk s e) in
        record {
          is = found g a z;
          shows = shown (record { low = next_low w.walk s e; high = next_high w.walk s e; gets = g });
        }
      where
        found : numbered k (held_texts t) ≡ some text → image_length (take (k - 1) (held_texts t)) ≡ at → at + 2 + length text ≡ end
            → Some (record { from = at + 2; to = end }) ≡ numbered_in t k
        found g a z = unfold numbered_in found_by in rw (g, a, found_by, z)

    pub seeking_on : (count + 1 ≡ k → ⊥) → Seeking t k end (count + 1)
    unfolding counting_on next
    seeking_on q =
        let j : k - count - 1 ≡ k - (count + 1) = omega arith in
        record {
          walk = counting_on w.walk s e;
          gets =
              first_left
              ∙ numbered_later (k - count) text n.more (λ o. q (omega arith))
              ∙ ap (λ (i : ℕ). numbered i n.more) j;
        }

-- what an answer says once its case is known

bears_of : {t : Text} {k : ℕ} {p : Part} → Shown t k (Some p) → Bears t k p.from p.to
bears_of (shown h) = h

module _ {t : Text} {k : ℕ} {r : Option Part} (s : Numbers t k r) where
  pub number_shown : (p : Part) → r ≡ Some p → Bears t k p.from p.to
  number_shown p e = bears_of (rw e at s.shows)
