-- The walk to the place of a path: those passed are below it, and what is left of the image is those ahead.
use Prim.Native.Nat.{ℕ, ◌+◌, ◌-◌, ◌≤◌}
use native.Mathlib.Omega.{arith}
use mathlib.Core.Path.{◌≡◌, refl, sym, ap, ◌∙◌}
use mathlib.Core.Bool.{true}
use mathlib.Core.List.{List, [], ◌∷◌, ◌++◌, append_assoc, append-nil}
use lib.ListN.{length, take, drop, length-drop}
use lib.Seq.{take-add, take_at, length-take-le}
use Rattle.stages.specs.Bytes.{Text, part, eq_text}
use Rattle.stages.specs.Images.{rising, framed, written, image, held_texts}
use Rattle.stages.specs.Updates.{added, without, is_there}
use Rattle.stages.proofs.Images.{Bytes, image_canonical, written_append}
use Rattle.stages.proofs.Stores.{rising_tail, Under}
use Rattle.stages.proofs.PathLists.{added_later, without_here, without_later, there_here, there_later, under_first, under_none}
use Rattle.text.specs.Orders.{order_of}
use Rattle.std.specs.declared.cmp.Ordering.TheVariants.{Less, Equal, Greater}
use Rattle.text.proofs.Orders.{order_below, order_equal, above_not_equal, above_not_below}
use Rattle.std.specs.Prelude.{Some, None, Ok, Err}
use Rattle.table.specs.Pieces.{Piece, malformed, piece_at}
use Rattle.table.proofs.Pieces.{Ahead, Next, ahead_first, ahead_end, ahead_bad, ahead_text}
use Rattle.table_find.proofs.Frames.{Frame, frame}
use Rattle.table_insert.specs.Added.{Column, Free, free, taken}

pub record Walking (t x : Text) (at : ℕ) : Type 0 where
  pub passed : List Text
  pub rest : List Text
  pub ahead : Ahead t at rest
  pub front : take at t ≡ image passed
  pub back : drop at t ≡ written rest
  pub with : added x (held_texts t) ≡ passed ++ added x rest
  pub less : without x (held_texts t) ≡ passed ++ without x rest
  pub has : is_there x (held_texts t) ≡ is_there x rest
  pub rises : rising rest ≡ true

-- the walk where a text stands at its place, up to `end`
pub record Facing (t x : Text) (at end : ℕ) : Type 0 where
  pub walk : Walking t x at
  pub text : Next t at end walk.rest

pub starts : (t x : Text) → Column t → Bytes t → Walking t x 1
unfolding image written
starts t x w h =
    let e : t ≡ image (held_texts t) = image_canonical t (held_texts t) h w.table in
    record {
      passed = [];
      rest = held_texts t;
      ahead = ahead_first t (held_texts t) w.table;
      front = ap (take 1) e;
      back = ap (drop 1) e;
      with = refl;
      less = refl;
      has = refl;
      rises = w.rises;
    }

image_more : (l : List Text) (k : Text) → image l ++ written (k ∷ []) ≡ image (l ++ (k ∷ []))
unfolding image
image_more l k = ap (λ (u : Text). 1 ∷ u) (sym (written_append l (k ∷ [])))

written_one : (k : Text) (l : List Text) → written (k ∷ l) ≡ written (k ∷ []) ++ written l
written_one k l = written_append (k ∷ []) l

module _ {t x : Text} {at : ℕ} (s : Walking t x at) where
  -- the path belongs before all that is ahead
  here : Under x s.rest → Free t x (Err at)
  here u =
      free (record {
        front = s.passed;
        back = s.rest;
        within = s.ahead.within;
        low = s.front;
        high = s.back;
        is = s.with ∙ ap (λ (l : List Text). s.passed ++ l) (under_first x s.rest u);
        new = s.has ∙ under_none x s.rest u s.rises;
      })

  module _ {r : Piece} (p : r ≡ piece_at t at) where
    pub place_end : r ≡ Ok None → Free t x (Err at)
    place_end e = here (rw (ahead_end s.ahead p e) tt)

    pub place_bad : r ≡ Err malformed → Free t x (Err at)
    place_bad e = absurd (ahead_bad s.ahead p e)

    pub next_text : {end : ℕ} → r ≡ Ok (Some end) → Facing t x at end
    next_text e = record { walk = s; text = ahead_text s.ahead p e }

module _ {t x : Text} {at end : ℕ} (f : Facing t x at end) where
  abbrev s : Walking t x at
  s = f.walk

  abbrev next : Next t at end s.rest
  next = f.text

  abbrev key : Text
  key = part t (at + 2) end

  pub place_less : order_of x key ≡ Less → Free t x (Err at)
  place_less o = here s (rw next.is (order_below x key o))

  framing : Frame t at key (written next.more)
  framing = frame t at key (written next.more) (s.back ∙ ap written next.is ∙ unfolded)
    where
      unfolded : written (key ∷ next.more) ≡ framed key ++ written next.more
      unfolded = unfold written in refl

  end_is : end ≡ at + 2 + length key
  end_is = omega (arith, next.low, size)
    where
      size : length key ≡ end - (at + 2)
      size = length-take-le (end - (at + 2)) (drop (at + 2) t) (omega (arith, next.ahead.within, length-drop (at + 2) t))

  passes : take end t ≡ image (s.passed ++ (key ∷ []))
  passes =
      let z : end ≡ at + length (written (key ∷ [])) = omega (arith, end_is, one) in
      ap (λ (n : ℕ). take n t) z ∙ take-add at (length (written (key ∷ []))) t
      ∙ ap (λ (u : Text). u ++ take (length (written (key ∷ []))) (drop at t)) s.front
      ∙ ap (λ (u : Text). image s.passed ++ u)
      (ap (take (length (written (key ∷ [])))) (s.back ∙ ap written next.is ∙ written_one key next.more)
      ∙ take_at (written (key ∷ [])) (written next.more) (length (written (key ∷ []))) refl)
      ∙ image_more s.passed key
    where
      one : length (written (key ∷ [])) ≡ 2 + length key
      one = unfold written in omega (arith, ap length (append-nil key))

  behind : drop end t ≡ written next.more
  behind = ap (λ (n : ℕ). drop n t) end_is ∙ framing.next

  pub place_same : order_of x key ≡ Equal → Free t x (Ok (record { from = at; to = end }))
  place_same o =
      let e : eq_text x key ≡ true = order_equal x key o in
      let n : at ≤ end = omega (arith, next.low) in
      taken {p = record { from = at; to = end }} (record {
        front = s.passed;
        back = next.more;
        low = n;
        high = next.ahead.within;
        begins = s.front;
        ends = behind;
        is = s.less ∙ ap (λ (l : List Text). s.passed ++ without x l) next.is
            ∙ ap (λ (l : List Text). s.passed ++ l) (without_here x key next.more e);
        there = s.has ∙ ap (is_there x) next.is ∙ there_here x key next.more e;
      })

  pub place_more : order_of x key ≡ Greater → Walking t x end
  place_more o = record {
    passed = s.passed ++ (key ∷ []);
    rest = next.more;
    ahead = next.ahead;
    front = passes;
    back = behind;
    with =
        s.with ∙ ap (λ (l : List Text). s.passed ++ added x l) next.is
        ∙ ap (λ (l : List Text). s.passed ++ l) (added_later x key next.more (above_not_below x key o))
        ∙ sym (append_assoc s.passed (key ∷ []) (added x next.more));
    less =
        s.less ∙ ap (λ (l : List Text). s.passed ++ without x l) next.is
        ∙ ap (λ (l : List Text). s.passed ++ l) (without_later x key next.more (above_not_equal x key o))
        ∙ sym (append_assoc s.passed (key ∷ []) (without x next.more));
    has = s.has ∙ ap (is_there x) next.is ∙ there_later x key next.more (above_not_equal x key o);
    rises = rising_tail key next.more (ap rising (sym next.is) ∙ s.rises);
  }
