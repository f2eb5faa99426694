-- Demand 3 over the stages, its reading: a quoted line is read as one word for each field, whatever its length, and two lists have one quoted line only if
-- they are the same list. E2 and E12: whichever way a field is written, it is one word of that field, and so lines that mix the ways need no law of their own.
-- A field in single quotes goes by induction on its bytes, its quotes told apart. The byte 39 is `'`, 92 a backslash, 32 a blank, 35 a `#`, 36 a `$`.
use Prim.Native.Nat.{ℕ, suc, ◌+◌, ◌-◌}
use native.Mathlib.Omega.{arith}
use mathlib.Core.Path.{◌≡◌, refl, sym, ap, ◌∙◌}
use mathlib.Core.Bool.{Bool, true, false, ◌||◌}
use mathlib.Core.List.{List, [], ◌∷◌, ◌++◌, append_assoc, append-nil}
use lib.Dec.{eqb, eqb→eq}
use lib.ListN.{length, length-append}
use Rattle.stages.specs.Numbers.{depth_limit}
use Rattle.stages.specs.Bytes.{Text, text, all, not_zero, is_bare_byte, is_blank, is_operator}
use Rattle.stages.specs.Outcome.{done, done_at, pick}
use Rattle.stages.specs.Syntax.{escaped, unescaped, Parts, Word, end, lit, quo, Start, fresh, begun, word, single, no_escapes, with_escapes}
use Rattle.stages.specs.Items.{item, item_of, sort, begins_tilde, byte}
use Rattle.stages.specs.Read.{parts, put, nest, read_item, piece_at, a_word, word_of, words, read_line}
use Rattle.stages.specs.Quote.{Way, bare, singled, dollared, is_bare, has_control, way_of}
use Rattle.stages.specs.Quote.{quoted_byte, quoted_bytes, enclosed, written, quoted_field, quoted_line, blanked}
use Rattle.stages.proofs.Bools.{apart, either, and_left, and_right}
use Rattle.stages.proofs.Images.{Fine}
use Rattle.stages.proofs.Read.{parts_item}
use Rattle.stages.proofs.Words.{words_end, words_blank, words_word}
use Rattle.stages.proofs.Plain.{Plain, bare_plain}
use Rattle.stages.proofs.Dollared.{escape_parts, bytes_say, plain_bytes, escape_bytes}

-- induction on a text whose quotes are told apart from its other bytes
module _ (P : Text → Type 0) (none : P []) (quote : (t : Text) → P t → P (39 ∷ t))
    (other : (b : ℕ) (t : Text) → eqb b 39 ≡ false → P t → P (b ∷ t)) where
  pub by_quotes : (t : Text) → P t
  by_quotes [] = none
  by_quotes (b ∷ t) = go (eqb b 39) refl (by_quotes t)
    where
      go : (x : Bool) → eqb b 39 ≡ x → P t → P (b ∷ t)
      go true e p = rw (eqb→eq b 39 (rw e tt)) (quote t p)
      go false e p = other b t e p

-- The parts of a field in single quotes: its first run up to the quote that closes, and those behind it. Each `'` closes a run, stands quoted by a
-- backslash and opens the next run.
abbrev pub runs : Text → Parts × Parts
runs [] = (end, end)
runs (b ∷ t) = pick (eqb b 39) (end, lit escaped b (quo (runs t).0 (runs t).1)) (lit unescaped b (runs t).0, (runs t).1)

-- the parts of a bare field
abbrev pub bare_parts : Text → Parts
bare_parts [] = end
bare_parts (b ∷ t) = lit unescaped b (bare_parts t)

-- the parts of a field, by the way it is written
abbrev pub way_parts : Way → Text → Parts
way_parts bare t = bare_parts t
way_parts singled t = quo (runs t).0 (runs t).1
way_parts dollared t = quo (escape_parts t) end

abbrev pub field_parts : Text → Parts
field_parts t = way_parts (way_of t) t

-- the ways that a field may be written in: bare where `is_bare` says so, in single quotes whatever it holds, and by E12 in `$'...'` if it holds no zero byte,
-- which no escape says
pub data Allows : Way → Text → Type 0 where
  as_bare : {t : Text} → is_bare t ≡ true → Allows bare t
  as_singled : {t : Text} → Allows singled t
  as_dollared : {t : Text} → all not_zero t ≡ true → Allows dollared t

-- the quoter's way is allowed
pub allowed : (t : Text) → all not_zero t ≡ true → Allows (way_of t) t
unfolding way_of
allowed t z =
    either (is_bare t) (λ e. rw e (as_bare e)) λ e.
    either (has_control t) (λ h. rw (e, h) (as_dollared z)) (λ h. rw (e, h) as_singled)

-- the words that a quoted line is read as, the first one's place given: a blank stands between two
abbrev pub field_words : ℕ → List Text → List Word
field_words place [] = []
field_words place (t ∷ l) = record { place = place; parts = field_parts t } ∷ field_words (suc (place + length (quoted_field t))) l

-- READING A FIELD IN SINGLE QUOTES

-- a byte of a run
run_byte : (b : ℕ) (t : Text) (d : ℕ) → eqb b 39 ≡ false → parts (single no_escapes) d (b ∷ t) ≡ put (lit unescaped b) (parts (single no_escapes) d t)
unfolding item read_item
run_byte b t d e = parts_item (single no_escapes) d (b ∷ t) {i = byte unescaped b 0} (rw (e, item))

-- the quote that closes a run
run_end : (t : Text) (d : ℕ) → parts (single no_escapes) d (39 ∷ t) ≡ done (end, t)
unfolding item read_item
run_end t d = parts_item (single no_escapes) d (39 ∷ t) refl

-- the quote that opens one
run_opens : (s : Start) (t : Text) (d : ℕ) → parts (word s) d (39 ∷ t) ≡ nest quo (parts (single no_escapes) d t) (parts (word begun) d)
unfolding item read_item
run_opens fresh t d = parts_item (word fresh) d (39 ∷ t) refl
run_opens begun t d = parts_item (word begun) d (39 ∷ t) refl

-- a quote behind a backslash
escaped_quote : (t : Text) (d : ℕ) → parts (word begun) d (92 ∷ 39 ∷ t) ≡ put (lit escaped 39) (parts (word begun) d t)
unfolding item read_item
escaped_quote t d = parts_item (word begun) d (92 ∷ 39 ∷ t) refl

-- what ends a quoted field: the line's end, or a blank
pub data EndsField : Text → Type 0 where
  line : EndsField []
  blank : (t : Text) → EndsField (32 ∷ t)

word_end : (t : Text) (d : ℕ) → EndsField t → parts (word begun) d t ≡ done (end, t)
unfolding item read_item
word_end t d line = parts_item (word begun) d [] refl
word_end t d (blank u) = parts_item (word begun) d (32 ∷ u) refl

-- a field in single quotes in front of a text
singled_append : (t rest : Text) → written singled t ++ rest ≡ 39 ∷ quoted_bytes singled t ++ 39 ∷ rest
unfolding written enclosed
singled_append t rest = ap {B = Text} (λ u. 39 ∷ u) (append_assoc (quoted_bytes singled t) (39 ∷ []) rest)

-- the text behind the first run of a field in single quotes
abbrev behind : Text → Text → Text
behind [] rest = rest
behind (b ∷ t) rest = pick (eqb b 39) (text "\\''" ++ quoted_bytes singled t ++ 39 ∷ rest) (behind t rest)

module _ (rest : Text) (d : ℕ) (ends : EndsField rest) where
  record Run (t : Text) : Type 0 where
    first : parts (single no_escapes) d (quoted_bytes singled t ++ 39 ∷ rest) ≡ done ((runs t).0, behind t rest)
    others : parts (word begun) d (behind t rest) ≡ done ((runs t).1, rest)

  -- a field whose runs are read is read
  whole : (s : Start) (t : Text) → Run t → parts (word s) d (39 ∷ quoted_bytes singled t ++ 39 ∷ rest) ≡ done (way_parts singled t, rest)
  whole s t r = run_opens s (quoted_bytes singled t ++ 39 ∷ rest) d ∙ rw (r.first, r.others)

  run_quote : (t : Text) → Run t → Run (39 ∷ t)
  unfolding quoted_bytes quoted_byte
  run_quote t r = record {
    first = run_end (text "\\''" ++ quoted_bytes singled t ++ 39 ∷ rest) d;
    others = escaped_quote (39 ∷ quoted_bytes singled t ++ 39 ∷ rest) d ∙ rw (whole begun t r);
  }

  run_other : (b : ℕ) (t : Text) → eqb b 39 ≡ false → Run t → Run (b ∷ t)
  unfolding quoted_bytes quoted_byte
  run_other b t e r = record { first = rw (e, quoted_bytes, run_byte b (quoted_bytes singled t ++ 39 ∷ rest) d e, r.first); others = rw (e, r.others) }

  -- a field in single quotes is one word
  singled_reads : (t : Text) → parts (word fresh) d (written singled t ++ rest) ≡ done (way_parts singled t, rest)
  unfolding quoted_bytes quoted_byte
  singled_reads t =
      ap (parts (word fresh) d) (singled_append t rest)
      ∙ whole fresh t (by_quotes Run (record { first = run_end rest d; others = word_end rest d ends }) run_quote run_other t)

-- READING A BARE FIELD

-- a byte of it
bare_byte : (s : Start) (d b : ℕ) (t : Text) → Plain b → parts (word s) d (b ∷ t) ≡ put (lit unescaped b) (parts (word begun) d t)
unfolding sort begins_tilde item item_of read_item
bare_byte fresh d b t p =
    parts_item (word fresh) d (b ∷ t) {i = byte unescaped b 0}
    (rw (p.tilde, p.backquote, p.blank, p.operator, p.quote, p.quote2, p.backslash, p.dollar))
bare_byte begun d b t p =
    parts_item (word begun) d (b ∷ t) {i = byte unescaped b 0}
    (rw (p.backquote, p.blank, p.operator, p.quote, p.quote2, p.backslash, p.dollar))

bare_rest : (t rest : Text) (d : ℕ) → EndsField rest → all is_bare_byte t ≡ true → parts (word begun) d (t ++ rest) ≡ done (bare_parts t, rest)
bare_rest [] rest d ends e = word_end rest d ends
bare_rest (b ∷ t) rest d ends e =
    bare_byte begun d b (t ++ rest) (bare_plain b (and_left (is_bare_byte b) (all is_bare_byte t) e))
    ∙ rw (bare_rest t rest d ends (and_right (is_bare_byte b) (all is_bare_byte t) e))

bare_reads : (b : ℕ) (t rest : Text) (d : ℕ) → EndsField rest → all is_bare_byte (b ∷ t) ≡ true → parts (word fresh) d (b ∷ t ++ rest) ≡ done
    (bare_parts (b ∷ t), rest)
bare_reads b t rest d ends e =
    bare_byte fresh d b (t ++ rest) (bare_plain b (and_left (is_bare_byte b) (all is_bare_byte t) e))
    ∙ rw (bare_rest t rest d ends (and_right (is_bare_byte b) (all is_bare_byte t) e))

-- READING A FIELD IN `$'...'`

dollar_opens : (t : Text) (d : ℕ) → parts (word fresh) d (36 ∷ 39 ∷ t) ≡ nest quo (parts (single with_escapes) d t) (parts (word begun) d)
unfolding item read_item
dollar_opens t d = parts_item (word fresh) d (36 ∷ 39 ∷ t) refl

dollared_reads : (t rest : Text) (d : ℕ) → EndsField rest → all not_zero t ≡ true
    → parts (word fresh) d (written dollared t ++ rest) ≡ done (way_parts dollared t, rest)
unfolding written enclosed
dollared_reads t rest d ends z =
    ap (λ u. parts (word fresh) d (36 ∷ 39 ∷ u)) (append_assoc (quoted_bytes dollared t) (39 ∷ []) rest)
    ∙ dollar_opens (quoted_bytes dollared t ++ 39 ∷ rest) d ∙ rw (bytes_say t rest d z, word_end rest d ends)

-- THE BYTES OF A FIELD'S PARTS

bare_bytes : (t : Text) → plain_bytes (bare_parts t) ≡ t
bare_bytes [] = refl
bare_bytes (b ∷ t) = ap {B = Text} (λ s. b ∷ s) (bare_bytes t)

singled_bytes : (t : Text) → plain_bytes (way_parts singled t) ≡ t
singled_bytes t =
    by_quotes (λ u. plain_bytes (way_parts singled u) ≡ u) refl (λ u h. ap {B = Text} (λ s. 39 ∷ s) h)
    (λ b u e h. rw e (ap {B = Text} (λ s. b ∷ s) h)) t

dollared_bytes : (t : Text) → plain_bytes (way_parts dollared t) ≡ t
dollared_bytes t = append-nil (plain_bytes (escape_parts t)) ∙ escape_bytes t

-- THE WORD: the field t is written as w, whose first byte begins a word of the line; before a blank or the line's end w is read as the parts p, whatever
-- else follows, and these have the field's bytes.
pub record OneWord (t w : Text) (p : Parts) : Type 0 where
  pub first : ℕ
  pub others : Text
  pub whole : w ≡ first ∷ others
  pub blank : is_blank first ≡ false
  pub operator : (is_operator first || eqb first 35) ≡ false
  pub reads : (rest : Text) (d : ℕ) → EndsField rest → parts (word fresh) d (w ++ rest) ≡ done (p, rest)
  pub bytes : plain_bytes p ≡ t

-- whichever way a field is written, it is one word of that field
pub one_word : {way : Way} {t : Text} → Allows way t → OneWord t (written way t) (way_parts way t)
unfolding written enclosed is_blank is_operator is_bare
one_word {t = t} as_singled = record {
  first = 39;
  others = quoted_bytes singled t ++ 39 ∷ [];
  whole = refl;
  blank = refl;
  operator = refl;
  reads = λ rest d ends. singled_reads rest d ends t;
  bytes = singled_bytes t;
}
one_word {t = t} (as_dollared z) = record {
  first = 36;
  others = 39 ∷ quoted_bytes dollared t ++ 39 ∷ [];
  whole = refl;
  blank = refl;
  operator = refl;
  reads = λ rest d ends. dollared_reads t rest d ends z;
  bytes = dollared_bytes t;
}
one_word {t = []} (as_bare e) = absurd (apart refl e)
one_word {t = b ∷ t} (as_bare e) =
    let p = bare_plain b (and_left (is_bare_byte b) (all is_bare_byte t) e) in
    record {
      first = b;
      others = t;
      whole = refl;
      blank = p.blank;
      operator = rw (p.operator, p.hash);
      reads = λ rest d ends. bare_reads b t rest d ends e;
      bytes = bare_bytes (b ∷ t);
    }

pub field_word : (t : Text) → all not_zero t ≡ true → OneWord t (quoted_field t) (field_parts t)
unfolding quoted_field
field_word t z = one_word (allowed t z)

-- READING THE LINE

-- a word in front of what is read behind it
word_words : {t w : Text} {p : Parts} → OneWord t w p → (place : ℕ) (rest : Text) (ws : List Word) → EndsField rest → words
    (place + length w, rest) ≡ done_at ws
    → words (place, w ++ rest) ≡ done_at (record { place = place; parts = p } ∷ ws)
unfolding piece_at
word_words {w = w} o place rest ws ends e =
    let k : length (w ++ rest) - length rest ≡ length w = simp length-append (omega arith) in
    let h : words (place, w ++ rest) ≡ piece_at a_word word_of words place (w ++ rest) =
    ap (λ u. words (place, u ++ rest)) o.whole ∙ words_word place o.first (o.others ++ rest) o.blank o.operator
    ∙ ap (λ u. piece_at a_word word_of words place (u ++ rest)) (sym o.whole) in
    h ∙ rw (o.reads rest depth_limit ends, k, e)

blanked_ends : (l : List Text) → EndsField (blanked l)
unfolding blanked
blanked_ends [] = line
blanked_ends (t ∷ l) = blank (quoted_field t ++ blanked l)

blanked_reads : (place : ℕ) (l : List Text) → Fine l → words (place, blanked l) ≡ done_at (field_words (suc place) l)
unfolding blanked is_blank
blanked_reads place [] f = words_end place
blanked_reads place (t ∷ l) f =
    words_blank place 32 (quoted_field t ++ blanked l) refl
    ∙ word_words (field_word t f.0) (suc place) (blanked l) (field_words (suc (suc place + length (quoted_field t))) l) (blanked_ends l)
    (blanked_reads (suc place + length (quoted_field t)) l f.1)

-- THE READING: a quoted line is read as its fields' words
pub quoted_reads : (l : List Text) → Fine l → read_line (quoted_line l) ≡ done_at (field_words 0 l)
unfolding read_line quoted_line
quoted_reads [] f = words_end 0
quoted_reads (t ∷ l) f =
    word_words (field_word t f.0) 0 (blanked l) (field_words (suc (0 + length (quoted_field t))) l) (blanked_ends l)
    (blanked_reads (0 + length (quoted_field t)) l f.1)

-- TWO LISTS, ONE LINE

abbrev word_texts : List Word → List Text
word_texts [] = []
word_texts (w ∷ ws) = plain_bytes w.parts ∷ word_texts ws

words_texts : (place : ℕ) (l : List Text) → Fine l → word_texts (field_words place l) ≡ l
words_texts place [] f = refl
words_texts place (t ∷ l) f = rw ((field_word t f.0).bytes, words_texts (suc (place + length (quoted_field t))) l f.1)

-- "Two lists of fields have one quoted line only when they are the same list.", whichever ways their fields are written in. No field has a zero byte
pub quoted_injective : (l m : List Text) → Fine l → Fine m → quoted_line l ≡ quoted_line m → l ≡ m
quoted_injective l m f g e =
    let h : done_at (field_words 0 l) ≡ done_at (field_words 0 m) = sym (quoted_reads l f) ∙ ap read_line e ∙ quoted_reads m g in
    let k : field_words 0 l ≡ field_words 0 m = cc in
    sym (words_texts 0 l f) ∙ ap word_texts k ∙ words_texts 0 m g
