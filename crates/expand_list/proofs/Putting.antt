-- Rows put at the front of an area behind each other, text by text: the first has nothing in front of it, each other one a gap.
use Prim.Native.Nat.{ℕ, ◌+◌, ◌-◌, ◌*◌, ◌≤◌}
use native.Mathlib.Omega.{arith}
use mathlib.Core.Path.{◌≡◌, refl, sym, ap, ◌∙◌}
use mathlib.Core.List.{List, [], ◌∷◌, ◌++◌, append_assoc, append-nil}
use lib.ListN.{length, take, drop, length-append, length-drop}
use lib.Seq.{take_at, drop_at, drop-drop}
use borrow.Rule.Slice.PartMut.{put_mid, mid_of}
use Rattle.stages.specs.Bytes.{Text, part}
use Rattle.stages.specs.Images.{held_texts}
use Rattle.stages.specs.Units.{Mark, Row, marked}
use Rattle.stages.specs.Expand.{between}
use Rattle.text.specs.Rows.{row_bytes}
use Rattle.text.proofs.Parts.{part_length, rest_is, rest_back}
use Rattle.text.proofs.Rows.{length_row_bytes, row_bytes_append}
use Rattle.table.specs.Places.{Listed}
use Rattle.std.specs.Prelude.{Some, None, Ok, Err}
use Rattle.table.specs.Pieces.{Piece, malformed, piece_at}
use Rattle.table.proofs.Pieces.{Ahead, ahead_first, Next, ahead_end, ahead_bad, ahead_text}
use Rattle.row.specs.Stands.{fronted}
use Rattle.expand_add.proofs.Fitting.{marked_count}

-- b in front of the first text, a gap in front of each other one
unfoldable pub led_row : Row → Row → Mark → List Text → Row
led_row b g m [] = []
led_row b g m (t ∷ l) = b ++ (marked m t ++ led_row g g m l)

led_row_lem : (g : Row) (m : Mark) (l : List Text) → led_row [] g m l ≡ between g m l
unfolding between led_row
led_row_lem g m [] = refl
led_row_lem g m (t ∷ []) = append-nil (marked m t)
led_row_lem g m (t ∷ u ∷ l) = ap (λ (r : Row). marked m t ++ (g ++ r)) (led_row_lem g m (u ∷ l))

-- a row stands at the front of what was there, and ends at `to`
pub record Fronts (row : Row) (old : Text) (to : ℕ) (area : Text) : Type 0 where
  pub place : to ≡ 2 * length row
  pub inside : to ≤ length old
  pub stands : area ≡ fronted (row_bytes row) old

-- the same place, said otherwise
pub fronts_at : {row : Row} {old : Text} {to other : ℕ} {area : Text} → to ≡ other → Fronts row old to area → Fronts row old other area
fronts_at e f = rw (← e) f

module _ {row : Row} {old : Text} {to : ℕ} {area : Text} (f : Fronts row old to area) where
  bytes_long : length (row_bytes row) ≡ to
  bytes_long = length_row_bytes row ∙ sym f.place

  pub fronts_length : length area ≡ length old
  fronts_length =
      ap length f.stands
      ∙ length-append (row_bytes row) (drop (length (row_bytes row)) old)
      ∙ omega (arith, length-drop (length (row_bytes row)) old, bytes_long, f.inside)

  behind : drop to area ≡ drop to old
  behind =
      ap (drop to) f.stands ∙ drop_at (row_bytes row) (drop (length (row_bytes row)) old) to bytes_long ∙ ap (λ (n : ℕ). drop n old) bytes_long

  -- what is behind the row was lent, and came back with another row at its front
  pub fronts_on : (new : Row) {ys : Text} → to + 2 * length new ≤ length old → ys ≡ fronted (row_bytes new) (mid_of to (length area - to) area)
      → Fronts (row ++ new) old (to + 2 * length new) (put_mid to (length area - to) area ys)
  fronts_on new {ys} h e = record {
    place = omega (arith, f.place, length-append row new);
    inside = h;
    stands =
        rest_back to area ys
        ∙ ap (λ (t : Text). take to area ++ t) (e ∙ ap (fronted (row_bytes new)) (rest_is to area ∙ behind))
        ∙ ap (λ (t : Text). t ++ fronted (row_bytes new) (drop to old)) front
        ∙ sym (append_assoc (row_bytes row) (row_bytes new) (drop (length (row_bytes new)) (drop to old)))
        ∙ ap (λ (t : Text). t ++ drop (length (row_bytes new)) (drop to old)) (sym (row_bytes_append row new))
        ∙ ap (λ (t : Text). row_bytes (row ++ new) ++ t) rest;
  }
    where
      front : take to area ≡ row_bytes row
      front = ap (take to) f.stands ∙ take_at (row_bytes row) (drop (length (row_bytes row)) old) to bytes_long

      rest : drop (length (row_bytes new)) (drop to old) ≡ drop (length (row_bytes (row ++ new))) old
      rest =
          let n : to + length (row_bytes new) ≡ length (row_bytes (row ++ new)) =
          omega (arith, f.place, length_row_bytes new, length_row_bytes (row ++ new), length-append row new) in
          drop-drop (length (row_bytes new)) to old ∙ ap (λ (n : ℕ). drop n old) n

-- the texts in front of `at` stand, and those from it on are left, the first of them with `b` in front
pub record Putting (params : Text) (g b : Row) (m : Mark) (at to : ℕ) (old area : Text) : Type 0 where
  pub left : List Text
  pub ahead : Ahead params at left
  pub passed : Row
  pub whole : passed ++ led_row b g m left ≡ between g m (held_texts params)
  pub fronts : Fronts passed old to area
  pub fits : 2 * length (between g m (held_texts params)) ≤ length old

pub putting_start : (params : Text) (g : Row) (m : Mark) (old : Text) → Listed params → 2 * length (between g m (held_texts params)) ≤ length old
    → Putting params g [] m 1 0 old old
unfolding row_bytes
putting_start params g m old e h = record {
  left = held_texts params;
  ahead = ahead_first params (held_texts params) e;
  passed = [];
  whole = led_row_lem g m (held_texts params);
  fronts = record { place = refl; inside = omega arith; stands = refl };
  fits = h;
}

module _ {params : Text} {g b : Row} {m : Mark} {at to : ℕ} {old area : Text} (w : Putting params g b m at to old area) {p : Piece}
    (s : p ≡ piece_at params at) where
  pub putting_end : p ≡ Ok None → area ≡ fronted (row_bytes (between g m (held_texts params))) old
  unfolding led_row
  putting_end e =
      let k : led_row b g m w.left ≡ [] = rw (ahead_end w.ahead s e) in
      w.fronts.stands
      ∙ ap (λ (r : Row). fronted (row_bytes r) old) (sym (append-nil w.passed) ∙ ap (λ (r : Row). w.passed ++ r) (sym k) ∙ w.whole)

  pub putting_bad : p ≡ Err malformed → area ≡ fronted (row_bytes (between g m (held_texts params))) old
  putting_bad e = absurd (ahead_bad w.ahead s e)

  module _ {end : ℕ} (e : p ≡ Ok (Some end)) where
    pub next : Next params at end w.left
    next = ahead_text w.ahead s e

    abbrev this : Text
    this = part params (at + 2) end

    pub this_length : length this ≡ end - at - 2
    this_length = part_length params (at + 2) end next.low next.ahead.within ∙ omega arith

    cut : w.passed ++ (b ++ (marked m this ++ led_row g g m next.more)) ≡ between g m (held_texts params)
    unfolding led_row
    cut = ap (λ (l : List Text). w.passed ++ led_row b g m l) (sym next.is) ∙ w.whole

    -- all that is put in this turn has room
    pub room : to + 2 * length b + 2 * (end - at - 2) ≤ length old
    room = omega (
      arith,
      w.fits,
      ap length cut,
      length-append w.passed (b ++ (marked m this ++ led_row g g m next.more)),
      length-append b (marked m this ++ led_row g g m next.more),
      length-append (marked m this) (led_row g g m next.more),
      marked_count m this,
      this_length,
      w.fronts.place,
    )

    -- the gap is put
    pub gap_put : {ys : Text} → ys ≡ fronted (row_bytes b) (mid_of to (length area - to) area)
        → Fronts (w.passed ++ b) old (to + 2 * length b) (put_mid to (length area - to) area ys)
    gap_put q = fronts_on w.fronts b (omega (arith, room)) q

    -- the text is put behind it
    pub putting_on : {mid ys : Text} {start : ℕ} → Fronts (w.passed ++ b) old start mid → start ≡ to + 2 * length b
        → ys ≡ fronted (row_bytes (marked m this)) (mid_of start (length mid - start) mid)
        → Putting params g g m end (start + 2 * (end - at - 2)) old (put_mid start (length mid - start) mid ys)
    putting_on {mid} {ys} {start} f k q =
        let n : 2 * length (marked m this) ≡ 2 * (end - at - 2) = omega (arith, marked_count m this, this_length) in
        record {
          left = next.more;
          ahead = next.ahead;
          passed = (w.passed ++ b) ++ marked m this;
          whole =
              append_assoc (w.passed ++ b) (marked m this) (led_row g g m next.more)
              ∙ append_assoc w.passed b (marked m this ++ led_row g g m next.more)
              ∙ cut;
          fronts = rw (← n) (fronts_on f (marked m this) (omega (arith, room, n, k)) q);
          fits = w.fits;
        }
