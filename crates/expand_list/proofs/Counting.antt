-- The units of a list, text by text: the first has nothing in front of it, each other one a gap.
use Prim.Native.Nat.{ℕ, ◌+◌, ◌-◌, ◌≤◌, ◌<◌}
use native.Mathlib.Omega.{arith}
use mathlib.Core.Path.{◌≡◌, refl, sym, ap, ◌∙◌}
use mathlib.Core.List.{List, [], ◌∷◌, ◌++◌}
use lib.ListN.{length, drop, length-append, length-drop}
use lib.Seq.{length-take-le}
use Rattle.stages.specs.Bytes.{Text, part}
use Rattle.stages.specs.Images.{held_texts}
use Rattle.stages.specs.Units.{Mark, Row, marked}
use Rattle.stages.specs.Expand.{between}
use Rattle.std.specs.Prelude.{Some, None, Ok, Err}
use Rattle.table.specs.Pieces.{Piece, malformed, piece_at}
use Rattle.table.proofs.Pieces.{Ahead, ahead_first, Next, ahead_end, ahead_bad, ahead_text}
use Rattle.table.specs.Places.{Listed}
use Rattle.expand_add.proofs.Fitting.{marked_count}
use Rattle.expand_list.specs.Lists.{Counts}

-- b units in front of the first text, a gap in front of each other one
unfoldable pub led : ℕ → ℕ → List Text → ℕ
led b gap [] = 0
led b gap (t ∷ l) = b + length t + led gap gap l

led_between : (g : Row) (m : Mark) (l : List Text) → length (between g m l) ≡ led 0 (length g) l
unfolding between led
led_between g m [] = refl
led_between g m (t ∷ []) = omega (arith, marked_count m t)
led_between g m (t ∷ u ∷ l) =
    let k : length (between g m (u ∷ l)) ≡ 0 + length u + led (length g) (length g) l = led_between g m (u ∷ l) in
    omega (
      arith,
      length-append (marked m t) (g ++ between g m (u ∷ l)),
      length-append g (between g m (u ∷ l)),
      marked_count m t,
    )

-- n units are counted, and the texts from `at` on are left, the first of them with `before` units in front
pub record Summing (t : Text) (gap n before at : ℕ) : Type 0 where
  pub left : List Text
  pub ahead : Ahead t at left
  pub sum : n + led before gap left ≡ led 0 gap (held_texts t)
  pub bound : n < at
  pub few : before ≤ 2

pub summing_start : (t : Text) (gap : ℕ) → Listed t → Summing t gap 0 0 1
summing_start t gap e = record { left = held_texts t; ahead = ahead_first t (held_texts t) e; sum = omega arith; bound = omega arith; few = omega arith }

module _ {t : Text} {gap n before at : ℕ} (w : Summing t gap n before at) {p : Piece} (s : p ≡ piece_at t at) where
  all_counted : w.left ≡ [] → n ≡ led 0 gap (held_texts t)
  unfolding led
  all_counted e = let z : led before gap w.left ≡ 0 = rw e in omega (arith, w.sum)

  pub summing_end : p ≡ Ok None → Counts t gap n
  summing_end e = record {
    is = λ g m q. all_counted (ahead_end w.ahead s e) ∙ ap (λ (k : ℕ). led 0 k (held_texts t)) (sym q) ∙ sym (led_between g m (held_texts t));
  }

  pub summing_bad : p ≡ Err malformed → Counts t gap n
  summing_bad e = absurd (ahead_bad w.ahead s e)

  module _ {end : ℕ} (e : p ≡ Ok (Some end)) where
    pub next : Next t at end w.left
    next = ahead_text w.ahead s e

    text_length : length (part t (at + 2) end) ≡ end - (at + 2)
    text_length = length-take-le (end - (at + 2)) (drop (at + 2) t) (omega (arith, next.ahead.within, length-drop (at + 2) t))

    first_left : led before gap w.left ≡ before + length (part t (at + 2) end) + led gap gap next.more
    unfolding led
    first_left = ap (led before gap) next.is

    pub summing_on : gap ≤ 2 → Summing t gap (n + (before + (end - at - 2))) gap end
    summing_on h = record {
      left = next.more;
      ahead = next.ahead;
      sum = omega (arith, w.sum, first_left, text_length, next.low);
      bound = omega (arith, w.bound, w.few, next.low);
      few = h;
    }
