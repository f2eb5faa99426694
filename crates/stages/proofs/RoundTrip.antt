-- Demand 3 over the stages, its expansion: a quoted line of at most 2,048 bytes expands under any tables to exactly its fields and changes no variable. Each
-- word's row is quiet, and has no more units than the field has bytes in the line.
use Prim.Native.Nat.{ℕ, suc, ◌+◌, ◌*◌, ◌≤◌}
use native.Mathlib.Omega.{arith}
use mathlib.Core.Path.{◌≡◌, refl, ap, ◌∙◌}
use mathlib.Core.Bool.{true, false}
use mathlib.Core.List.{List, [], ◌∷◌, ◌++◌}
use lib.Dec.{eqb}
use lib.ListN.{length, length-append}
use borrow.Author.Tests.{le-leb, leb-true, ne_eqb}
use Rattle.stages.specs.Numbers.{row_limit, line_limit, image_limit}
use Rattle.stages.specs.Bytes.{Text, is_in, all, not_zero, is_bare_byte}
use Rattle.stages.specs.Outcome.{done, done_at, pick}
use Rattle.stages.specs.Images.{Pairs, record_bytes, image_length}
use Rattle.stages.specs.Syntax.{Parts, Word}
use Rattle.stages.specs.Read.{read_line}
use Rattle.stages.specs.Units.{L, Q, cell, N, Row, marked, bytes}
use Rattle.stages.specs.Params.{Lent}
use Rattle.stages.specs.Expand.{expand}
use Rattle.stages.specs.Split.{fields_of_row}
use Rattle.stages.specs.Paths.{texts_of_fields}
use Rattle.stages.specs.Quote.{Way, singled, dollared, is_bare, has_control, way_of, quoted_byte, quoted_bytes, enclosed, written, quoted_field, quoted_line}
use Rattle.stages.specs.Quote.{blanked}
use Rattle.stages.specs.Line.{Around, Fields, word_fields, expand_words, expand_line, out_fits}
use Rattle.stages.proofs.Bools.{apart, either, and_left, and_right, and_both}
use Rattle.stages.proofs.Texts.{all_append}
use Rattle.stages.proofs.Images.{Fine}
use Rattle.stages.proofs.Rooms.{fit_ok}
use Rattle.stages.proofs.Quoted.{by_quotes, runs, bare_parts, way_parts, field_parts, field_words, quoted_reads}
use Rattle.stages.proofs.Quoted.{Allows, as_bare, as_singled, as_dollared, allowed}
use Rattle.stages.proofs.Dollared.{dollared_expands, dollared_longer, dollared_length, dollared_fine}
use Rattle.stages.proofs.Quiet.{Quiet, no_units, a_mark, a_byte, quiet_fields, bare_quiet, marked_quiet, marked_bytes}

-- THE ROW OF A FIELD

-- the units of the first run of a field in single quotes, and those behind it
abbrev rows : Text → Row × Row
rows [] = ([], [])
rows (b ∷ t) = pick (eqb b 39) ([], cell Q b ∷ N ∷ (rows t).0 ++ (rows t).1) (cell Q b ∷ (rows t).0, (rows t).1)

abbrev singled_row : Text → Row
singled_row t = N ∷ (rows t).0 ++ (rows t).1

-- a field's parts expand to its row, behind n units
module _ (a : Lent) (v : Pairs) where
  record Gives (t : Text) : Type 0 where
    first : (n : ℕ) → n + length (rows t).0 ≤ row_limit → expand a (runs t).0 Q n v ≡ done ((rows t).0, v, false)
    others : (n : ℕ) → n + length (rows t).1 ≤ row_limit → expand a (runs t).1 L n v ≡ done ((rows t).1, v, false)

  whole : (t : Text) → Gives t → (n : ℕ) → n + length (singled_row t) ≤ row_limit → expand a (way_parts singled t) L n v ≡ done
      (singled_row t, v, false)
  unfolding expand
  whole t g n h =
      let e : length ((rows t).0 ++ (rows t).1) ≡ length (rows t).0 + length (rows t).1 = length-append (rows t).0 (rows t).1 in
      rw (
        fit_ok n 1 (omega arith),
        g.first (n + 1) (omega arith),
        g.others (n + suc (length (rows t).0)) (omega arith),
      )

  gives_quote : (t : Text) → Gives t → Gives (39 ∷ t)
  unfolding expand
  gives_quote t g = record {
    first = λ n h. refl;
    others = λ n h. rw (fit_ok n 1 (omega arith), whole t g (n + 1) (omega arith));
  }

  gives_other : (b : ℕ) (t : Text) → eqb b 39 ≡ false → Gives t → Gives (b ∷ t)
  unfolding expand
  gives_other b t e g = record {
    first = rw e (λ n h. rw (fit_ok n 1 (omega arith), g.first (n + 1) (omega arith)));
    others = rw e g.others;
  }

  singled_expands : (t : Text) → length (singled_row t) ≤ row_limit → expand a (way_parts singled t) L 0 v ≡ done (singled_row t, v, false)
  unfolding expand
  singled_expands t h = whole t (by_quotes Gives (record { first = λ n h. refl; others = λ n h. refl }) gives_quote gives_other t) 0 (omega arith)

  -- those of a bare field
  bare_expands : (t : Text) (n : ℕ) → n + length t ≤ row_limit → expand a (bare_parts t) L n v ≡ done (marked L t, v, false)
  unfolding expand marked
  bare_expands [] n h = refl
  bare_expands (b ∷ t) n h = rw (fit_ok n 1 (omega arith), bare_expands t (n + 1) (omega arith))

rows_quiet : (t : Text) → Quiet ((rows t).0 ++ (rows t).1)
rows_quiet t = by_quotes (λ u. Quiet ((rows u).0 ++ (rows u).1)) no_units (λ u q. a_byte (a_mark q)) (λ b u e q. rw e (a_byte q)) t

rows_bytes : (t : Text) → bytes ((rows t).0 ++ (rows t).1) ≡ t
unfolding bytes
rows_bytes t =
    by_quotes (λ u. bytes ((rows u).0 ++ (rows u).1) ≡ u) refl (λ u h. ap {B = Text} (λ s. 39 ∷ s) h)
    (λ b u e h. rw e (ap {B = Text} (λ s. b ∷ s) h)) t

-- how long a field is in its quotes: longer than its bytes, and than its row
record Lengths (t : Text) : Type 0 where
  bytes_fit : length t ≤ length (quoted_bytes singled t)
  row_fits : length ((rows t).0 ++ (rows t).1) ≤ length (quoted_bytes singled t)

lengths_other : (b : ℕ) (t : Text) → eqb b 39 ≡ false → Lengths t → Lengths (b ∷ t)
unfolding quoted_bytes quoted_byte
lengths_other b t e r = record { bytes_fit = rw (e, quoted_bytes) (omega (arith, r.bytes_fit)); row_fits = rw (e, quoted_bytes) (omega (arith, r.row_fits)) }

lengths : (t : Text) → Lengths t
unfolding quoted_bytes quoted_byte
lengths t =
    by_quotes Lengths (record { bytes_fit = omega arith; row_fits = omega arith })
    (λ u r. record { bytes_fit = omega (arith, r.bytes_fit); row_fits = omega (arith, r.row_fits) }) lengths_other t

singled_length : (t : Text) → length (written singled t) ≡ suc (length (quoted_bytes singled t) + 1)
unfolding written enclosed
singled_length t = simp length-append (omega arith)

-- THE FIELD

-- a word's row and its fields make the word
pub word_steps : (a : Around) (p : Parts) (v w : Pairs) (r : Row) (l : Fields) → expand a.lent p L 0 v ≡ done (r, w, false)
    → texts_of_fields a.paths (fields_of_row w r) ≡ done l → word_fields a p v ≡ done (l, w)
unfolding word_fields
word_steps a p v w r l e f = rw (e, f)

-- no zero byte comes into quotes
bytes_fine : (t : Text) → all not_zero t ≡ true → all not_zero (quoted_bytes singled t) ≡ true
unfolding quoted_bytes quoted_byte
bytes_fine t =
    by_quotes (λ u. all not_zero u ≡ true → all not_zero (quoted_bytes singled u) ≡ true) (λ e. refl) (λ u h e. h e)
    (λ b u n h e. rw (n, quoted_bytes) (and_both (and_left (not_zero b) (all not_zero u) e) (h (and_right (not_zero b) (all not_zero u) e)))) t

-- A field t that is written as w and read as the parts p becomes that one field under any tables, and nothing is stored. It brings no zero byte into the line.
pub record OneField (t w : Text) (p : Parts) : Type 0 where
  pub expands : (a : Around) (v : Pairs) → length w ≤ line_limit → word_fields a p v ≡ done (t ∷ [], v)
  pub clean : all not_zero t ≡ true → all not_zero w ≡ true

module _ (a : Around) (v : Pairs) where
  singled_row_lem : (t : Text) → length (written singled t) ≤ line_limit → expand a.lent (way_parts singled t) L 0 v ≡ done (singled_row t, v, false)
  singled_row_lem t h = singled_expands a.lent v t (omega (arith, singled_length t, (lengths t).row_fits))

  singled_becomes : (t : Text) → length (written singled t) ≤ line_limit → word_fields a (way_parts singled t) v ≡ done (t ∷ [], v)
  unfolding bytes
  singled_becomes t h =
      word_steps a (way_parts singled t) v v (singled_row t) (t ∷ []) (singled_row_lem t h)
      (quiet_fields a.paths v (a_mark (rows_quiet t)) ∙ rw (rows_bytes t))

  bare_becomes : (b : ℕ) (t : Text) → all is_bare_byte (b ∷ t) ≡ true → length (b ∷ t) ≤ line_limit → word_fields a (bare_parts (b ∷ t)) v ≡ done
      ((b ∷ t) ∷ [], v)
  unfolding marked
  bare_becomes b t e h =
      word_steps a (bare_parts (b ∷ t)) v v (marked L (b ∷ t)) ((b ∷ t) ∷ [])
      (bare_expands a.lent v (b ∷ t) 0 (omega arith))
      (quiet_fields a.paths v (bare_quiet (b ∷ t) e) ∙ rw (marked_bytes L (b ∷ t)))

  dollared_becomes : (t : Text) → length (written dollared t) ≤ line_limit → word_fields a (way_parts dollared t) v ≡ done (t ∷ [], v)
  unfolding bytes
  dollared_becomes t h =
      word_steps a (way_parts dollared t) v v (N ∷ marked Q t) (t ∷ [])
      (dollared_expands a.lent v t (omega (arith, dollared_length t, dollared_longer t)))
      (quiet_fields a.paths v (a_mark (marked_quiet t)) ∙ rw (marked_bytes Q t))

-- whichever way a field is written, it becomes that field
pub one_field : {way : Way} {t : Text} → Allows way t → OneField t (written way t) (way_parts way t)
unfolding written enclosed is_bare
one_field {t = t} as_singled = record {
  expands = λ a v h. singled_becomes a v t h;
  clean = λ e. all_append not_zero (quoted_bytes singled t) (39 ∷ []) (bytes_fine t e) refl;
}
one_field {t = t} (as_dollared z) = record {
  expands = λ a v h. dollared_becomes a v t h;
  clean = λ e. all_append not_zero (quoted_bytes dollared t) (39 ∷ []) (dollared_fine t e) refl;
}
one_field {t = []} (as_bare e) = absurd (apart refl e)
one_field {t = b ∷ t} (as_bare e) = record { expands = λ a v h. bare_becomes a v b t e h; clean = λ k. k }

field_becomes : (t : Text) → all not_zero t ≡ true → OneField t (quoted_field t) (field_parts t)
unfolding quoted_field
field_becomes t z = one_field (allowed t z)

-- It has at most three bytes in an image for two in the line, its blank among them: a bare field of one byte has just these.
way_long : (t : Text) → is_bare t ≡ true → 2 * (2 + length t) ≤ 3 * suc (length t)
unfolding is_bare
way_long [] e = absurd (apart refl e)
way_long (b ∷ t) e = omega arith

field_long : (t : Text) → 2 * (2 + length t) ≤ 3 * suc (length (quoted_field t))
unfolding quoted_field way_of
field_long t =
    either (is_bare t) (λ e. rw e (unfold written in way_long t e)) λ e.
    either (has_control t) (λ h. rw (e, h) (omega (arith, dollared_length t, dollared_longer t)))
    (λ h. rw (e, h) (omega (arith, singled_length t, (lengths t).bytes_fit)))

-- THE LINE

-- there is room in the output
out_ok : (a : Around) (n : ℕ) → n ≤ a.out → n ≤ image_limit → out_fits a n ≡ true
unfolding out_fits
out_ok a n h k = rw (le-leb n a.out h, le-leb n image_limit k)

-- how long the fields are in the line

blanked_length : (t : Text) (l : List Text) → length (blanked (t ∷ l)) ≡ suc (length (quoted_field t) + length (blanked l))
unfolding blanked
blanked_length t l = ap suc (length-append (quoted_field t) (blanked l))

-- the words of the fields expand, behind an image of n bytes
words_expand : (a : Around) (l : List Text) (place n : ℕ) (v : Pairs) → Fine l → length (blanked l) ≤ suc line_limit → n + record_bytes l ≤ a.out →
    n + record_bytes l ≤ image_limit
    → expand_words a (field_words place l) n v ≡ done_at (l, v)
unfolding expand_words record_bytes
words_expand a [] place n v f b h k = refl
words_expand a (t ∷ l) place n v f b h k =
    let c : length (quoted_field t) ≤ line_limit = omega (arith, blanked_length t l) in
    let d : length (blanked l) ≤ suc line_limit = omega (arith, blanked_length t l) in
    let i : n + (2 + length t + 0) ≤ a.out = omega arith in
    let j : n + (2 + length t + 0) ≤ image_limit = omega arith in
    let i' : n + (2 + length t + 0) + record_bytes l ≤ a.out = omega arith in
    let j' : n + (2 + length t + 0) + record_bytes l ≤ image_limit = omega arith in
    rw (
      (field_becomes t f.0).expands a v c,
      out_ok a (n + (2 + length t + 0)) i j,
      words_expand a l (suc (place + length (quoted_field t))) (n + (2 + length t + 0)) v f.1 d i' j',
    )

-- no zero byte comes into the line

no_zero : (t : Text) → all not_zero t ≡ true → is_in 0 t ≡ false
no_zero [] e = refl
no_zero (b ∷ t) e =
    let h : 1 ≤ b = leb-true 1 b (and_left (not_zero b) (all not_zero t) e) in
    rw (ne_eqb 0 b (λ z. omega arith)) (no_zero t (and_right (not_zero b) (all not_zero t) e))

field_fine : (t rest : Text) → all not_zero t ≡ true → all not_zero rest ≡ true → all not_zero (quoted_field t ++ rest) ≡ true
field_fine t rest e h = all_append not_zero (quoted_field t) rest ((field_becomes t e).clean e) h

blanked_fine : (l : List Text) → Fine l → all not_zero (blanked l) ≡ true
unfolding blanked
blanked_fine [] f = refl
blanked_fine (t ∷ l) f = field_fine t (blanked l) f.0 (blanked_fine l f.1)

quoted_fine : (l : List Text) → Fine l → all not_zero (quoted_line l) ≡ true
unfolding quoted_line
quoted_fine [] f = refl
quoted_fine (t ∷ l) f = field_fine t (blanked l) f.0 (blanked_fine l f.1)

-- the image of the fields is hardly longer than one and a half times their line
blanked_image : (l : List Text) → 2 * record_bytes l ≤ 3 * length (blanked l)
unfolding record_bytes blanked
blanked_image [] = omega arith
blanked_image (t ∷ l) = rw (blanked_length t l) (omega (arith, field_long t, blanked_image l))

blanked_line : (l : List Text) → length (blanked l) ≤ suc (length (quoted_line l))
unfolding blanked quoted_line
blanked_line [] = omega arith
blanked_line (t ∷ l) = omega arith

pub quoted_image : (l : List Text) → 2 * image_length l ≤ 5 + 3 * length (quoted_line l)
unfolding image_length
quoted_image l = omega (arith, blanked_image l, blanked_line l)

-- a line whose words are read, and expand, expands
line_steps : (a : Around) (t : Text) (v : Pairs) (ws : List Word) → length t ≤ line_limit → is_in 0 t ≡ false → read_line t ≡ done_at ws → 1
    ≤ a.out
    → expand_line a t v ≡ expand_words a ws 1 v
unfolding expand_line
line_steps a t v ws h z e o = rw (le-leb (length t) line_limit h, z, e, out_ok a 1 o (omega arith))

-- THE ROUND TRIP: "expand under any other well-formed tables to exactly those fields, change no variable"
pub quoted_expands : (a : Around) (l : List Text) (v : Pairs) → Fine l → length (quoted_line l) ≤ line_limit → image_length l ≤ a.out
    → expand_line a (quoted_line l) v ≡ done_at (l, v)
unfolding image_length
quoted_expands a l v f h o =
    line_steps a (quoted_line l) v (field_words 0 l) h (no_zero (quoted_line l) (quoted_fine l f)) (quoted_reads l f) (omega arith)
    ∙ words_expand a l 0 1 v f (omega (arith, blanked_line l)) o (omega (arith, quoted_image l))
