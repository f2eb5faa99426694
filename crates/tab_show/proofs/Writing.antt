-- What a byte, a text and the lines of a table are when shown, piece by piece, and how long. The byte 10 is a newline, 92 a backslash.
use Prim.Native.Nat.{ℕ, ◌+◌, ◌-◌, ◌*◌, ◌/◌, ◌%◌, ◌≤◌, ◌<◌}
use native.Mathlib.Omega.{arith}
use native.Mathlib.Numerals.{add-one}
use mathlib.Core.Path.{◌≡◌, refl, ap, ◌∙◌}
use mathlib.Core.Bool.{Bool, true, false}
use mathlib.Core.List.{List, [], ◌∷◌, ◌++◌}
use mathlib.Core.Option as o
use Rattle.std.specs.Prelude.{Option, Some, Ok}
use mathlib.Core.Option.{none, some}
use lib.ListN.{length, drop, get_or, set, length-append, drop_of_length-le}
use lib.Seq.{drop-cons}
use borrow.Author.Tests.{eq-eqb, ne_eqb}
use borrow.Rule.Slice.PartMut.{put_mid, mid_of}
use Rattle.stages.specs.Bytes.{Text, text, part}
use Rattle.stages.specs.Images.{held_texts, texts, record_bytes}
use Rattle.stages.proofs.Bools.{either}
use Rattle.table.proofs.Pieces.{Next, ahead_first}
use Rattle.table.specs.Pieces.{Piece, piece_at}
use Rattle.table.proofs.Writing.{Writing as Walk, Facing, writing_text}
use Rattle.text.specs.Putting.{Puts}
use Rattle.text.proofs.Filling.{Filling, fill_starts, fill_byte, fill_piece, fill_ends, fill_next, fill_fits}
use Rattle.tab_show.specs.Lines.{hex_digit, is_plain, letter_of, escaped, shown_byte, shown_text, end_of, first_next, shown_texts}

-- a byte, by the tests

module _ (b : ℕ) where
  pub plain_shown : is_plain b ≡ true → shown_byte b ≡ b ∷ []
  unfolding shown_byte
  plain_shown e = rw e

  module _ (p : is_plain b ≡ false) where
    pub newline_shown : b ≡ 10 → shown_byte b ≡ text "\\n"
    unfolding shown_byte
    newline_shown e = rw (p, eq-eqb b 10 e)

    pub hex_shown : (b ≡ 10 → ⊥) → (b ≡ 92 → ⊥) → shown_byte b ≡ 92 ∷ 120 ∷ hex_digit (b / 16) ∷ hex_digit (b % 16) ∷ []
    unfolding shown_byte
    hex_shown n m = rw (p, ne_eqb b 10 n, ne_eqb b 92 m)

    pub backslash_shown : (b ≡ 10 → ⊥) → b ≡ 92 → shown_byte b ≡ text "\\\\"
    unfolding shown_byte
    backslash_shown n e = rw (p, ne_eqb b 10 n, eq-eqb b 92 e)

escaped_long : (b : ℕ) (c : o.Option ℕ) → (2 ≤ length (escaped b c)) × (length (escaped b c) ≤ 4)
escaped_long b (some c) = (omega arith, omega arith)
escaped_long b none = (omega arith, omega arith)

pub byte_long : (b : ℕ) → (1 ≤ length (shown_byte b)) × (length (shown_byte b) ≤ 4)
unfolding shown_byte
byte_long b =
    either (is_plain b)
    (λ e. rw (e, shown_byte) (omega arith, omega arith))
    (λ e. rw (e, shown_byte) (omega (arith, (escaped_long b (letter_of b)).0), (escaped_long b (letter_of b)).1))

pub bytes_small : (t : Text) → length (shown_text t) ≤ 4 * length t
unfolding shown_text
bytes_small [] = omega arith
bytes_small (b ∷ t) = rw (length-append (shown_byte b) (shown_text t)) (omega (arith, (byte_long b).1, bytes_small t))

-- the bytes from a place on, and none at the end
pub bytes_at : (t : Text) (i : ℕ) → i < length t → shown_text (drop i t) ≡ shown_byte (get_or t i 0) ++ shown_text (drop (i + 1) t)
unfolding shown_text
bytes_at t i h = rw (add-one i, drop-cons t i 0 h)

pub bytes_none : (t : Text) (i : ℕ) → length t ≤ i → shown_text (drop i t) ≡ []
unfolding shown_text
bytes_none t i h = rw (drop_of_length-le t h)

-- the lines of texts are at most four times as long as their records
pub lines_small : (two first : Bool) (l : List Text) → length (shown_texts two first l) ≤ 4 * record_bytes l
unfolding shown_texts record_bytes
lines_small two first [] = omega arith
lines_small two first (t ∷ l) =
    rw (length-append (shown_text t) (end_of first ∷ shown_texts two (first_next two first) l))
    (omega (arith, bytes_small t, lines_small two (first_next two first) l))

-- `put_byte`

pub plain_put : (b : ℕ) (out : Text) → is_plain b ≡ true → 1 ≤ length out → Puts (shown_byte b) out (set out 0 b) 1
plain_put b out e h = rw (plain_shown b e) (fill_ends (fill_byte (fill_starts (b ∷ []) out h) b [] 1 refl refl) refl)

two_put : (c : ℕ) (out : Text) → 2 ≤ length out → Puts (92 ∷ c ∷ []) out (set (set out 0 92) 1 c) 2
two_put c out h = fill_ends (fill_byte (fill_byte (fill_starts (92 ∷ c ∷ []) out h) 92 (c ∷ []) 1 refl refl) c [] 2 refl refl) refl

four_put : (b c : ℕ) (out : Text) → 4 ≤ length out
    → Puts (92 ∷ 120 ∷ b ∷ c ∷ []) out (set (set (set (set out 0 92) 1 120) 2 b) 3 c) 4
four_put b c out h = fill_ends fourth refl
  where
    first : Filling (92 ∷ 120 ∷ b ∷ c ∷ []) (120 ∷ b ∷ c ∷ []) out (set out 0 92) 1
    first = fill_byte (fill_starts (92 ∷ 120 ∷ b ∷ c ∷ []) out h) 92 (120 ∷ b ∷ c ∷ []) 1 refl refl

    second : Filling (92 ∷ 120 ∷ b ∷ c ∷ []) (b ∷ c ∷ []) out (set (set out 0 92) 1 120) 2
    second = fill_byte first 120 (b ∷ c ∷ []) 2 refl refl

    third : Filling (92 ∷ 120 ∷ b ∷ c ∷ []) (c ∷ []) out (set (set (set out 0 92) 1 120) 2 b) 3
    third = fill_byte second b (c ∷ []) 3 refl refl

    fourth : Filling (92 ∷ 120 ∷ b ∷ c ∷ []) [] out (set (set (set (set out 0 92) 1 120) 2 b) 3 c) 4
    fourth = fill_byte third c [] 4 refl refl

-- a byte that is escaped has room
pub record Escaped (b : ℕ) (out : Text) : Type 0 where
  pub odd : is_plain b ≡ false
  pub room : length (shown_byte b) ≤ length out

-- and its escape is of two digits
pub record Hex (b : ℕ) (out : Text) : Type 0 where
  pub escape : Escaped b out
  pub not_newline_lem : b ≡ 10 → ⊥
  pub not_backslash : b ≡ 92 → ⊥

module _ {b : ℕ} {out : Text} (e : Escaped b out) where
  pub newline_room : b ≡ 10 → 2 ≤ length out
  newline_room n = omega (arith, e.room, ap length (newline_shown b e.odd n))

  pub newline_put : b ≡ 10 → Puts (shown_byte b) out (set (set out 0 92) 1 110) 2
  newline_put n = rw (newline_shown b e.odd n) (two_put 110 out (newline_room n))

  pub backslash_room : (b ≡ 10 → ⊥) → b ≡ 92 → 2 ≤ length out
  backslash_room n m = omega (arith, e.room, ap length (backslash_shown b e.odd n m))

  pub backslash_put : (b ≡ 10 → ⊥) → b ≡ 92 → Puts (shown_byte b) out (set (set out 0 92) 1 92) 2
  backslash_put n m = rw (backslash_shown b e.odd n m) (two_put 92 out (backslash_room n m))

module _ {b : ℕ} {out : Text} (h : Hex b out) where
  shown_hex : shown_byte b ≡ 92 ∷ 120 ∷ hex_digit (b / 16) ∷ hex_digit (b % 16) ∷ []
  shown_hex = hex_shown b h.escape.odd h.not_newline_lem h.not_backslash

  pub hex_room : 4 ≤ length out
  hex_room = omega (arith, h.escape.room, ap length shown_hex)

  pub hex_put : (c d : ℕ) → c ≡ hex_digit (b / 16) → d ≡ hex_digit (b % 16) → Puts (shown_byte b) out (set (set (set (set out 0 92) 1 120) 2 c) 3 d) 4
  hex_put c d e f = rw (shown_hex, ← e, ← f) (four_put c d out hex_room)

-- `put_texts`: the texts from `at` on are left, the next of which is the first of two or not
abbrev pub Fills : Bool → Text → ℕ → Bool → Text → Text → ℕ → Type 0
Fills two t at first old out used = Walk (shown_texts two two (held_texts t)) (shown_texts two first) t at old out used

pub fills_starts : (two : Bool) (t old : Text) → texts t ≡ some (held_texts t) → length (shown_texts two two (held_texts t)) ≤ length old
    → Fills two t 1 two old old 0
fills_starts two t old e h =
    record { left = held_texts t; ahead = ahead_first t (held_texts t) e; filling = fill_starts (shown_texts two two (held_texts t)) old h }

pub shown_none : (two first : Bool) → shown_texts two first [] ≡ []
unfolding shown_texts
shown_none two first = refl

-- the text at the walk's place: it is written, then its `=` or newline
pub record Line (two first : Bool) (whole t : Text) (at end : ℕ) (old out : Text) (used : ℕ) : Type 0 where
  pub facing : Facing whole (shown_texts two first) t at end old out used

-- what stands at the walk's place
module _ {two first : Bool} {whole t : Text} {at : ℕ} {old out : Text} {used : ℕ} (w : Walk whole (shown_texts two first) t at old out used)
    {r : Piece} (s : r ≡ piece_at t at) where
  pub line_at : {o : Option ℕ} {end : ℕ} → r ≡ Ok o → o ≡ Some end → Line two first whole t at end old out used
  line_at e f = record { facing = writing_text w s (e ∙ ap Ok f) }

module _ {two first : Bool} {whole t : Text} {at end : ℕ} {old out : Text} {used : ℕ} (f : Line two first whole t at end old out used) where
  abbrev text_there : Next t at end f.facing.walk.left
  text_there = f.facing.text

  abbrev shown : Text
  shown = shown_text (part t (at + 2) end)

  abbrev behind : Text
  behind = end_of first ∷ shown_texts two (first_next two first) text_there.more

  line_is : shown_texts two first f.facing.walk.left ≡ shown ++ behind
  unfolding shown_texts
  line_is = ap (shown_texts two first) text_there.is

  pub fills_fits : length shown ≤ length (mid_of used (length out - used) out)
  fills_fits = fill_fits f.facing.walk.filling shown behind line_is

  pub fills_next : used + length shown ≤ length old
  fills_next = fill_next f.facing.walk.filling shown behind line_is

  module _ (ys : Text) (n : ℕ) (p : Puts shown (mid_of used (length out - used) out) ys n) where
    pub fills_bytes : Filling whole behind old (put_mid used (length out - used) out ys) (used + n)
    fills_bytes = fill_piece f.facing.walk.filling shown behind ys n (used + n) line_is p refl

    pub fills_more : (c : ℕ) (next : Bool) → c ≡ end_of first → next ≡ first_next two first
        → Walk whole (shown_texts two next) t end old (set (put_mid used (length out - used) out ys) (used + n) c) (used + n + 1)
    fills_more c next g k = rw (g, k) (record {
      left = text_there.more;
      ahead = text_there.ahead;
      filling = fill_byte fills_bytes (end_of first) (shown_texts two (first_next two first) text_there.more) (used + n + 1) refl refl;
    })
