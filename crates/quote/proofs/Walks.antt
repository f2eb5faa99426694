-- The walk over an image's fields, counting or writing the line: the fields ahead are what is left of it.
use Prim.Native.Nat.{ℕ, ◌+◌, ◌-◌, ◌*◌, ◌≤◌}
use native.Mathlib.Omega.{arith}
use mathlib.Core.Path.{◌≡◌, refl, sym, ap, ◌∙◌}
use mathlib.Core.List.{List, [], ◌++◌, append-nil}
use mathlib.Core.Option.{some}
use lib.ListN.{length, set, length-append}
use borrow.Rule.Slice.PartMut.{put_mid, mid_of}
use Rattle.stages.specs.Numbers.{image_limit}
use Rattle.stages.specs.Bytes.{Text, part}
use Rattle.stages.specs.Images.{fields_of, held_texts}
use Rattle.stages.specs.Quote.{quoted_field, blanked, quoted_line}
use Rattle.stages.specs.Call.{over}
use Rattle.stages.proofs.Tables.{fields_held}
use Rattle.std.specs.Prelude.{Some, None, Ok, Err}
use Rattle.table.specs.Pieces.{Piece, malformed, piece_at, texts_from}
use Rattle.table.proofs.Pieces.{Ahead, Next, ahead_from, ahead_first, ahead_end, ahead_bad, ahead_text}
use Rattle.table.proofs.Writing.{Writing, Facing}
use Rattle.text.specs.Putting.{Puts}
use Rattle.quote.specs.Rests.{Rest}
use Rattle.text.proofs.Parts.{part_length}
use Rattle.text.proofs.Filling.{Filling, fill_starts, fill_byte, fill_piece, fill_next, fill_fits, fill_ends}
use Rattle.quote.proofs.Lengths.{field_small, blanked_small, blanked_first, line_blanked}

pub rest_ahead : {t : Text} {at : ℕ} → Rest t at → Ahead t at (texts_from t at)
rest_ahead r = record { within = r.within; is = r.is }

ahead_rest : {t : Text} {at : ℕ} {l : List Text} → length t ≤ image_limit → Ahead t at l → Rest t at
ahead_rest n h = record { small = n; within = h.within; is = h.is ∙ ap some (sym (ahead_from h)) }

-- a field stands in an image
pub record Field (t : Text) (start end : ℕ) : Type 0 where
  pub low : start ≤ end
  pub high : end ≤ length t
  pub short : length (part t start end) ≤ image_limit
  pub small : length (quoted_field (part t start end)) ≤ 4 * image_limit + 3

field_of : (t : Text) (start end : ℕ) → length t ≤ image_limit → start ≤ end → end ≤ length t → Field t start end
field_of t start end n h k =
    let s : length (part t start end) ≤ image_limit = omega (arith, part_length t start end h k) in
    record { low = h; high = k; short = s; small = omega (arith, field_small (part t start end)) }

-- COUNTING: n bytes are counted, and the fields from `at` on are left
pub record Counts (t : Text) (from at n : ℕ) : Type 0 where
  pub left : List Text
  pub ahead : Ahead t at left
  pub small : length t ≤ image_limit
  pub sum : n + length (blanked left) ≡ length (blanked (texts_from t from))
  pub bound : n ≤ 4 * image_limit

pub counts_starts : {t : Text} {from : ℕ} → Rest t from → Counts t from from 0
counts_starts {t} {from} r = record { left = texts_from t from; ahead = rest_ahead r; small = r.small; sum = omega arith; bound = omega arith }

module _ {t : Text} {from at n : ℕ} (c : Counts t from at n) {r : Piece} (s : r ≡ piece_at t at) where
  pub counts_end : r ≡ Ok None → n ≡ length (blanked (texts_from t from))
  unfolding blanked
  counts_end e = let z : length (blanked c.left) ≡ 0 = rw (ahead_end c.ahead s e) in omega (arith, c.sum)

  pub counts_bad : r ≡ Err malformed → n ≡ length (blanked (texts_from t from))
  counts_bad e = absurd (ahead_bad c.ahead s e)

  pub counts_text : {end : ℕ} → r ≡ Ok (Some end) → Field t (at + 2) end
  counts_text {end} e =
      let k : Next t at end c.left = ahead_text c.ahead s e in
      field_of t (at + 2) end c.small k.low k.ahead.within

  pub counts_more : {end : ℕ} (k : ℕ) → r ≡ Ok (Some end) → k ≡ length (quoted_field (part t (at + 2) end)) → Rest t from → Counts t from end
      (n + (1 + k))
  counts_more {end} k e q h =
      let x : Next t at end c.left = ahead_text c.ahead s e in
      let y : length (blanked c.left) ≡ 1 + length (quoted_field (part t (at + 2) end)) + length (blanked x.more) =
      ap (λ (l : List Text). length (blanked l)) x.is ∙ blanked_first (part t (at + 2) end) x.more in
      let z : n + (1 + k) + length (blanked x.more) ≡ length (blanked (texts_from t from)) = omega (arith, c.sum) in
      record {
        left = x.more;
        ahead = x.ahead;
        small = c.small;
        sum = z;
        bound = omega (arith, blanked_small (rest_ahead h), c.small);
      }

-- WRITING: the fields from `at` on are left
abbrev pub Fills : Text → ℕ → ℕ → Text → Text → ℕ → Type 0
Fills t from at old out used = Writing (blanked (texts_from t from)) blanked t at old out used

pub fills_starts : {t : Text} {from : ℕ} (old : Text) → Rest t from → length (blanked (texts_from t from)) ≤ length old → Fills t from from old old 0
fills_starts {t} {from} old r h = record { left = texts_from t from; ahead = rest_ahead r; filling = fill_starts (blanked (texts_from t from)) old h }

pub blanked_none : blanked [] ≡ []
unfolding blanked
blanked_none = refl

-- the field at the walk's place: its blank is written, then it
module _ {whole t : Text} {at end : ℕ} {old out : Text} {used : ℕ} (f : Facing whole blanked t at end old out used) where
  abbrev blank : Text
  blank = set out used 32

  abbrev quoted : Text
  quoted = quoted_field (part t (at + 2) end)

  abbrev more : Text
  more = blanked f.text.more

  pub fills_blank : Filling whole (quoted ++ more) old blank (used + 1)
  unfolding blanked
  fills_blank = fill_byte f.walk.filling 32 (quoted ++ more) (used + 1) (ap blanked f.text.is) refl

  pub fills_fits : length quoted ≤ length (mid_of (used + 1) (length blank - (used + 1)) blank)
  fills_fits = fill_fits fills_blank quoted more refl

  pub fills_next : used + 1 + length quoted ≤ length old
  fills_next = fill_next fills_blank quoted more refl

  pub fills_more : (ys : Text) (n : ℕ) → Puts quoted (mid_of (used + 1) (length blank - (used + 1)) blank) ys n
      → Writing whole blanked t end old (put_mid (used + 1) (length blank - (used + 1)) blank ys) (used + 1 + n)
  fills_more ys n p = record {
    left = f.text.more;
    ahead = f.text.ahead;
    filling = fill_piece fills_blank quoted more ys n (used + 1 + n) refl p refl;
  }

-- THE LINE: its first field, up to `end`, and those after it
pub record First (t : Text) (end : ℕ) : Type 0 where
  pub text : Field t 3 end
  pub rest : Rest t end
  pub is : quoted_line (held_texts t) ≡ quoted_field (part t 3 end) ++ blanked (texts_from t end)

module _ (t : Text) (h : fields_of t ≡ some (held_texts t)) where
  ahead : Ahead t 1 (held_texts t)
  ahead = ahead_first t (held_texts t) (fields_held t (held_texts t) h).1.table

  pub image_small : length t ≤ image_limit
  image_small = (fields_held t (held_texts t) h).1.small

  pub line_small : length (quoted_line (held_texts t)) ≤ 4 * length t
  line_small = omega (arith, line_blanked (held_texts t), blanked_small ahead)

module _ (t : Text) (h : fields_of t ≡ some (held_texts t)) {r : Piece} (s : r ≡ piece_at t 1) where
  pub line_end : r ≡ Ok None → quoted_line (held_texts t) ≡ []
  unfolding quoted_line
  line_end e = ap quoted_line (ahead_end (ahead t h) s e)

  pub line_bad : r ≡ Err malformed → quoted_line (held_texts t) ≡ []
  line_bad e = absurd (ahead_bad (ahead t h) s e)

  pub line_first : {end : ℕ} → r ≡ Ok (Some end) → First t end
  unfolding quoted_line
  line_first {end} e =
      let small : length t ≤ image_limit = image_small t h in
      let next : Next t 1 end (held_texts t) = ahead_text (ahead t h) s e in
      record {
        text = field_of t 3 end small next.low next.ahead.within;
        rest = ahead_rest small next.ahead;
        is = ap quoted_line next.is ∙ ap (λ (l : List Text). quoted_field (part t 3 end) ++ blanked l) (sym (ahead_from next.ahead));
      }

module _ {t : Text} {end : ℕ} (f : First t end) where
  pub line_length : length (quoted_line (held_texts t)) ≡ length (quoted_field (part t 3 end)) + length (blanked (texts_from t end))
  line_length = ap length f.is ∙ length-append (quoted_field (part t 3 end)) (blanked (texts_from t end))

  pub line_bound : length (quoted_field (part t 3 end)) + length (blanked (texts_from t end)) ≤ 8 * image_limit + 3
  line_bound = omega (arith, f.text.small, blanked_small (rest_ahead f.rest), f.rest.small)

  -- the first field is written
  pub line_begun : {old out : Text} {used : ℕ} → length (quoted_line (held_texts t)) ≤ length old → Puts (quoted_field (part t 3 end)) old out used
      → Filling (quoted_line (held_texts t)) (blanked (texts_from t end)) old out used
  line_begun n p = record { front = quoted_field (part t 3 end); splits = f.is; long = p.counts; is = p.leaves; fits = n }

-- and those after it
pub line_whole : {line rest old out : Text} {used : ℕ} → Filling line rest old out used → (ys : Text) (n : ℕ)
    → Puts rest (mid_of used (length out - used) out) ys n → Puts line old (put_mid used (length out - used) out ys) (used + n)
line_whole {rest = rest} {used = used} f ys n q = fill_ends (fill_piece f rest [] ys n (used + n) (sym (append-nil rest)) q refl) refl

-- the line of no fields
pub puts_none : (t old : Text) → t ≡ [] → Puts t old old 0
unfolding over
puts_none t old e = rw e (record { counts = refl; leaves = refl })
