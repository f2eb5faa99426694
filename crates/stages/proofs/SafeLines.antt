-- A line is read and expanded safely: its words stand within it, its fields fit the output, its variables their room.
use Prim.Native.Nat.{ℕ, zero, suc, ◌+◌, ◌-◌, ◌≤◌}
use native.Mathlib.Omega.{arith}
use mathlib.Core.Path.{◌≡◌, refl}
use mathlib.Core.Bool.{true, not}
use mathlib.Core.List.{List, [], ◌∷◌, ◌++◌}
use lib.Dec.{leb, eqb-zero-suc}
use lib.ListN.{length}
use borrow.Author.Tests.{leb-true, le-leb}
use Rattle.stages.specs.Numbers.{depth_limit, image_limit, line_limit, line_too_long, zero_byte, output_room}
use Rattle.stages.specs.Bytes.{Text, is_in}
use Rattle.stages.specs.Images.{Pairs, record_bytes, image_length}
use Rattle.stages.specs.Syntax.{Parts, Word, fresh, word}
use Rattle.stages.specs.Read.{a_word, word_of, words, read_line}
use Rattle.stages.specs.Units.{L}
use Rattle.stages.specs.Split.{fields_of_row}
use Rattle.stages.specs.Line.{Around, Fields, word_fields, out_fits, expand_words, expand_line}
use Rattle.stages.proofs.Bools.{no, and_left, and_right, and_both}
use Rattle.stages.proofs.Images.{Fine, fine_append, record_bytes_append}
use Rattle.stages.proofs.Words.{word_takes}
use Rattle.stages.proofs.Outcomes.{Each, Safe, gives, safe_bind, safe_weaker, SafeAt, early, refuses_at, gives_at, safe_then, safe_weaker_at, safe_at}
use Rattle.stages.proofs.Outcomes.{safe_require, is_early, is_late, fault_late}
use Rattle.stages.proofs.Split.{fields_each}
use Rattle.stages.proofs.Safe.{NoZero, SafeParts, parts_safe}
use Rattle.stages.proofs.SafePieces.{pieces_safe}
use Rattle.stages.proofs.SafeRows.{SafeLent, SafeCell, Kept, expand_safe, named_safe}

-- words

-- a word of a line of so many bytes
pub record WordIn (size : ℕ) (w : Word) : Type 0 where
  pub inside : w.place ≤ size - 1
  pub clean : SafeParts w.parts

module _ (size : ℕ) where
  read_in : (t : Text) → NoZero t → Safe (λ p. SafeParts p.0 × NoZero p.1) (a_word t)
  read_in t z = safe_weaker (λ p s. (s.clean, s.behind)) (parts_safe (word fresh) depth_limit t z)

  words_safe : (q : ℕ × Text) → NoZero q.1 → q.0 + length q.1 ≤ size → SafeAt size (Each (WordIn size)) (words q)
  words_safe q =
      pieces_safe a_word word_of word_takes is_early is_late fault_late size SafeParts (WordIn size) read_in (λ place p l s. record { inside = l; clean = s }) q

-- a line that passes 6
pub no_zero : (t : Text) → not (is_in 0 t) ≡ true → NoZero t
no_zero [] e = refl
no_zero (zero ∷ t) e = absurd (no e)
no_zero (suc b ∷ t) e = and_both (le-leb 1 (suc b) (omega arith)) (no_zero t (rw (eqb-zero-suc b) at e))

-- fields

-- fields and variables that may be written to buffers of so many bytes
pub record Ready (room out : ℕ) (r : Fields × Pairs) : Type 0 where
  pub fine : Fine r.0
  pub kept : Kept room r.1
  pub fits : image_length r.0 ≤ out
  pub small : image_length r.0 ≤ image_limit

module _ (a : Around) (f : SafeLent a.lent) (g : Fine a.paths) where
  fields_safe : (p : Parts) (v : Pairs) → SafeParts p → Kept a.lent.room v → Safe (λ r. Fine r.0 × Kept a.lent.room r.1) (word_fields a p v)
  unfolding word_fields
  fields_safe p v s k =
      safe_bind _ (expand_safe a.lent f p s L 0 v k)
      (λ r h. safe_bind _ (named_safe a.paths (fields_of_row r.1 r.0) g (fields_each SafeCell r.1 r.0 h.0)) (λ l i. gives (i, h.1)))

  out_fits_lem : (n : ℕ) → out_fits a n ≡ true → (n ≤ a.out) × (n ≤ image_limit)
  unfolding out_fits
  out_fits_lem n e = (leb-true n a.out (and_left (leb n a.out) (leb n image_limit) e), leb-true n image_limit (and_right (leb n a.out) (leb n image_limit) e))

  -- fields behind an image of n bytes
  record Behind (n : ℕ) (r : Fields × Pairs) : Type 0 where
    fine : Fine r.0
    kept : Kept a.lent.room r.1
    fits : n + record_bytes r.0 ≤ a.out
    small : n + record_bytes r.0 ≤ image_limit

  -- the fields of a word in front of those behind it
  joined : (n : ℕ) (l : Fields) (s : Fields × Pairs) → Fine l → Behind (n + record_bytes l) s → Behind n (l ++ s.0, s.1)
  joined n l s h b =
      let e : record_bytes (l ++ s.0) ≡ record_bytes l + record_bytes s.0 = record_bytes_append l s.0 in
      record { fine = fine_append l s.0 h b.fine; kept = b.kept; fits = omega (arith, b.fits); small = omega (arith, b.small) }

  words_fit : (size : ℕ) (ws : List Word) (n : ℕ) (v : Pairs) → Each (WordIn size) ws → n ≤ a.out → n ≤ image_limit → Kept a.lent.room v
      → SafeAt size (Behind n) (expand_words a ws n v)
  unfolding expand_words record_bytes
  words_fit size [] n v h l m k = gives_at {a = ([], v)} (record { fine = tt; kept = k; fits = omega arith; small = omega arith })
  words_fit size (w ∷ ws) n v h l m k =
      safe_then _ (safe_at fault_late w.place h.0.inside (fields_safe w.parts v h.0.clean k))
      (λ r i. safe_then _ (safe_require (out_fits a (n + record_bytes r.0)) output_room w.place (refuses_at refl h.0.inside))
      (λ _ e. safe_then _
      (words_fit size ws (n + record_bytes r.0) r.1 h.1 (out_fits_lem (n + record_bytes r.0) e).0 (out_fits_lem (n + record_bytes r.0) e).1 i.1)
      (λ s b. gives_at (joined n r.0 s i.0 b))))

  ready : (r : Fields × Pairs) → Behind 1 r → Ready a.lent.room a.out r
  unfolding image_length
  ready r b = record { fine = b.fine; kept = b.kept; fits = b.fits; small = b.small }

  pub line_safe : (t : Text) (v : Pairs) → Kept a.lent.room v → SafeAt (length t) (Ready a.lent.room a.out) (expand_line a t v)
  unfolding expand_line read_line
  line_safe t v k =
      safe_then _ (safe_require (leb (length t) line_limit) line_too_long 0 (early refl))
      (λ _ _. safe_then _ (safe_require (not (is_in 0 t)) zero_byte 0 (early refl))
      (λ _ z. safe_then _ (words_safe (length t) (0, t) (no_zero t z) (omega arith))
      (λ ws h. safe_then _ (safe_require (out_fits a 1) output_room 0 (refuses_at {place = 0} refl (omega arith)))
      (λ _ e. safe_weaker_at ready (words_fit (length t) ws 1 v h (out_fits_lem 1 e).0 (out_fits_lem 1 e).1 k)))))
