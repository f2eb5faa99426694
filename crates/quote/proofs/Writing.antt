-- One field in the buffer: a byte of it in each way, a run of same bytes, its quotes around its bytes, and a `$` before them. The byte 39 is `'`, 92 a
-- backslash, 36 a `$`.
use Prim.Native.Nat.{ℕ, suc, ◌+◌, ◌-◌, ◌/◌, ◌%◌, ◌≤◌, ◌<◌}
use native.Mathlib.Omega.{arith}
use mathlib.Core.Path.{◌≡◌, refl, sym}
use mathlib.Core.Bool.{true, false}
use mathlib.Core.List.{[], ◌∷◌, ◌++◌, append-nil}
use lib.ListN.{length, drop, get_or, set}
use borrow.Rule.Slice.PartMut.{put_mid, mid_of}
use Rattle.stages.specs.Bytes.{Text, part, text, is_in, not_control}
use Rattle.stages.specs.Quote.{Way, singled, dollared, octal, quoted_byte, quoted_bytes, enclosed}
use Rattle.text.specs.Classes.{Runs}
use Rattle.text.specs.Putting.{Puts}
use Rattle.text.specs.declared.Class.TheVariants.{SameByte}
use Rattle.text.proofs.Filling.{Filling, puts_copied, fill_starts, fill_next, fill_fits, fill_byte, fill_piece, fill_ends}
use Rattle.text.proofs.Parts.{part_length}
use Rattle.quote.proofs.Lengths.{byte_quote, byte_other, byte_sign, byte_plain, byte_control, bytes_at, bytes_none, enclosed_is}
use Rattle.quote.proofs.Same.{same_run}

-- `put_singled`

pub other_put : (b : ℕ) (out : Text) → (b ≡ 39 → ⊥) → 1 ≤ length out → Puts (quoted_byte singled b) out (set out 0 b) 1
other_put b out e h = rw (byte_other b e) (fill_ends (fill_byte (fill_starts (b ∷ []) out h) b [] 1 refl refl) refl)

pub quote_put : (b : ℕ) (out : Text) → b ≡ 39 → 4 ≤ length out → Puts (quoted_byte singled b) out (set (set (set (set out 0 b) 1 92) 2 39) 3 39) 4
quote_put b out e h = rw (byte_quote b e) (fill_ends fourth refl)
  where
    first : Filling (b ∷ text "\\''") (text "\\''") out (set out 0 b) 1
    first = fill_byte (fill_starts (b ∷ text "\\''") out h) b (text "\\''") 1 refl refl

    second : Filling (b ∷ text "\\''") (text "''") out (set (set out 0 b) 1 92) 2
    second = fill_byte first 92 (text "''") 2 refl refl

    third : Filling (b ∷ text "\\''") (text "'") out (set (set (set out 0 b) 1 92) 2 39) 3
    third = fill_byte second 39 (text "'") 3 refl refl

    fourth : Filling (b ∷ text "\\''") [] out (set (set (set (set out 0 b) 1 92) 2 39) 3 39) 4
    fourth = fill_byte third 39 [] 4 refl refl

-- `put_dollared`

module _ (b : ℕ) (out : Text) (s : is_in b (text "\\'") ≡ true) (h : 2 ≤ length out) where
  pub sign_put : Puts (quoted_byte dollared b) out (set (set out 0 92) 1 b) 2
  sign_put = rw (byte_sign b s) (fill_ends (fill_byte (fill_byte (fill_starts (92 ∷ b ∷ []) out h) 92 (b ∷ []) 1 refl refl) b [] 2 refl refl) refl)

module _ (b : ℕ) (out : Text) (s : is_in b (text "\\'") ≡ false) where
  pub plain_put : not_control b ≡ true → 1 ≤ length out → Puts (quoted_byte dollared b) out (set out 0 b) 1
  plain_put e h = rw (byte_plain b s e) (fill_ends (fill_byte (fill_starts (b ∷ []) out h) b [] 1 refl refl) refl)

  pub control_put : not_control b ≡ false → 4 ≤ length out
      → Puts (quoted_byte dollared b) out (set (set (set (set out 0 92) 1 (48 + b / 64)) 2 (48 + b / 8 % 8)) 3 (48 + b % 8)) 4
  control_put e h = rw (byte_control b s e) (fill_ends fourth refl)
    where
      first : Filling (92 ∷ octal b) (octal b) out (set out 0 92) 1
      first = fill_byte (fill_starts (92 ∷ octal b) out h) 92 (octal b) 1 refl refl

      second : Filling (92 ∷ octal b) ((48 + b / 8 % 8) ∷ (48 + b % 8) ∷ []) out (set (set out 0 92) 1 (48 + b / 64)) 2
      second = fill_byte first (48 + b / 64) ((48 + b / 8 % 8) ∷ (48 + b % 8) ∷ []) 2 refl refl

      third : Filling (92 ∷ octal b) ((48 + b % 8) ∷ []) out (set (set (set out 0 92) 1 (48 + b / 64)) 2 (48 + b / 8 % 8)) 3
      third = fill_byte second (48 + b / 8 % 8) ((48 + b % 8) ∷ []) 3 refl refl

      fourth : Filling (92 ∷ octal b) [] out (set (set (set (set out 0 92) 1 (48 + b / 64)) 2 (48 + b / 8 % 8)) 3 (48 + b % 8)) 4
      fourth = fill_byte third (48 + b % 8) [] 4 refl refl

-- `put_bytes`: the bytes before i are written, and those from it on begin with a run of same bytes or with a byte
pub record Passed (way : Way) (t old out : Text) (used i : ℕ) : Type 0 where
  pub within : i ≤ length t
  pub filling : Filling (quoted_bytes way t) (quoted_bytes way (drop i t)) old out used

pub passed_none : (way : Way) (t old : Text) → length (quoted_bytes way t) ≤ length old → Passed way t old old 0 0
passed_none way t old h = record { within = omega arith; filling = fill_starts (quoted_bytes way t) old h }

module _ {way : Way} {t old out : Text} {used i : ℕ} (p : Passed way t old out used i) where
  module _ {end : ℕ} (r : Runs t i SameByte end) where
    pub run_next : used + (end - i) ≤ length old
    run_next =
        omega (
          arith,
          fill_next p.filling (part t i end) (quoted_bytes way (drop end t)) (same_run way t i end r),
          part_length t i end r.onward r.within,
        )

    pub run_fits : length (part t i end) ≤ length (mid_of used (length out - used) out)
    run_fits = fill_fits p.filling (part t i end) (quoted_bytes way (drop end t)) (same_run way t i end r)

    pub run_put : (ys : Text) → ys ≡ part t i end ++ drop (length (part t i end)) (mid_of used (length out - used) out)
        → Passed way t old (put_mid used (length out - used) out ys) (used + (end - i)) end
    run_put ys e = record {
      within = r.within;
      filling =
          fill_piece p.filling (part t i end) (quoted_bytes way (drop end t)) ys (length (part t i end)) (used + (end - i)) (same_run way t i end r)
          (puts_copied (part t i end) (mid_of used (length out - used) out) ys e) (omega (arith, part_length t i end r.onward r.within));
    }

  module _ (h : i < length t) where
    pub byte_next : used + length (quoted_byte way (get_or t i 0)) ≤ length old
    byte_next = fill_next p.filling (quoted_byte way (get_or t i 0)) (quoted_bytes way (drop (i + 1) t)) (bytes_at way t i h)

    pub byte_fits : length (quoted_byte way (get_or t i 0)) ≤ length (mid_of used (length out - used) out)
    byte_fits = fill_fits p.filling (quoted_byte way (get_or t i 0)) (quoted_bytes way (drop (i + 1) t)) (bytes_at way t i h)

    pub byte_put : (ys : Text) (n : ℕ) → Puts (quoted_byte way (get_or t i 0)) (mid_of used (length out - used) out) ys n
        → Passed way t old (put_mid used (length out - used) out ys) (used + n) (i + 1)
    byte_put ys n q = record {
      within = omega arith;
      filling = fill_piece p.filling (quoted_byte way (get_or t i 0)) (quoted_bytes way (drop (i + 1) t)) ys n (used + n) (bytes_at way t i h) q refl;
    }

  pub passed_all : length t ≤ i → Puts (quoted_bytes way t) old out used
  passed_all h = fill_ends p.filling (bytes_none way t i h)

-- `put_enclosed`: the first quote, the bytes, the last quote
module _ (way : Way) (t out : Text) (h : length (enclosed way t) ≤ length out) where
  pub field_opened : Filling (enclosed way t) (quoted_bytes way t ++ (39 ∷ [])) out (set out 0 39) 1
  field_opened = fill_byte (fill_starts (enclosed way t) out h) 39 (quoted_bytes way t ++ (39 ∷ [])) 1 (enclosed_is way t) refl

  module _ (ys : Text) (n : ℕ) (p : Puts (quoted_bytes way t) (mid_of 1 (length (set out 0 39) - 1) (set out 0 39)) ys n) where
    pub field_inside : Filling (enclosed way t) (39 ∷ []) out (put_mid 1 (length (set out 0 39) - 1) (set out 0 39) ys) (n + 1)
    field_inside = fill_piece field_opened (quoted_bytes way t) (39 ∷ []) ys n (n + 1) refl p (omega arith)

    pub field_closed : Filling (enclosed way t) [] out (set (put_mid 1 (length (set out 0 39) - 1) (set out 0 39) ys) (n + 1) 39) (n + 2)
    field_closed = fill_byte field_inside 39 [] (n + 2) refl (omega arith)

-- `put_plain`: a field that is written as it is stands between them
pub plain_inside : (t old ys : Text) → quoted_bytes singled t ≡ t → ys ≡ t ++ drop (length t) old → Puts (quoted_bytes singled t) old ys (length t)
plain_inside t old ys e k = rw e (puts_copied t old ys k)

-- `put_field`: a `$` before the quotes
module _ (t out : Text) (h : suc (length t) ≤ length out) where
  pub dollar_first : Filling (36 ∷ t) t out (set out 0 36) 1
  dollar_first = fill_byte (fill_starts (36 ∷ t) out h) 36 t 1 refl refl

  pub dollar_filled : (ys : Text) (n : ℕ) → Puts t (mid_of 1 (length (set out 0 36) - 1) (set out 0 36)) ys n
      → Filling (36 ∷ t) [] out (put_mid 1 (length (set out 0 36) - 1) (set out 0 36) ys) (n + 1)
  dollar_filled ys n p = fill_piece dollar_first t [] ys n (n + 1) (sym (append-nil t)) p (omega arith)
