-- A bare word, and one in which nothing is expanded: it is read as its bytes, and these are its one field.
use Prim.Native.Nat.{ℕ, suc, ◌+◌, ◌-◌, ◌≤◌, ◌<◌}
use Prim.Native.Char.{code}
use native.Mathlib.Omega.{arith}
use mathlib.Core.Path.{◌≡◌, refl, sym, ap, ◌∙◌, subst}
use mathlib.Core.Bool.{Bool, true}
use mathlib.Core.List.{[], ◌∷◌, ◌++◌}
use mathlib.Core.Logic.{◌⊎◌, ⊎_elim}
use lib.ListN.{length, take, drop, get_or, length-drop, take-append-drop, drop_of_length-le}
use lib.Seq.{drop-cons, drop-drop, length-take-le}
use borrow.Author.Tests.{le-leb, lt-leb}
use Rattle.stages.specs.Numbers.{depth_limit, line_limit, image_limit, output_room}
use Rattle.stages.specs.Bytes.{Text, part, all, is_bare_byte}
use Rattle.stages.specs.Outcome.{refused, done}
use Rattle.stages.specs.Images.{Pairs, held, record_bytes, written}
use Rattle.stages.specs.Syntax.{Parts, fresh, word as words}
use Rattle.stages.specs.Read.{parts}
use Rattle.stages.specs.Quote.{bare, is_bare}
use Rattle.stages.specs.Quote as quoting
use Rattle.stages.specs.Line.{Around, Fields, word_fields, out_fits}
use Rattle.stages.proofs.Texts.{span_all}
use Rattle.stages.proofs.Outcomes.{done_same}
use Rattle.stages.proofs.Quoted.{as_bare, EndsField, line as line_ends, blank, way_parts, one_word}
use Rattle.stages.proofs.RoundTrip.{one_field}
use Rattle.stages.proofs.Rooms.{over_front, over_length}
use Rattle.text.specs.Classes.{Runs}
use Rattle.text.specs.declared.Class.TheVariants.{BareByte}
use Rattle.text.proofs.Parts.{part_length}
use Rattle.read_still.specs.Walks.{Leaves}
use Rattle.read_still.proofs.Reading.{Reads, walk_reads}
use Rattle.read_still.proofs.Fields.{still_becomes}
use Rattle.read_mode.specs.declared.Mode.TheVariants as mode
use Rattle.expand_add.specs.Answers.{Ready}
use Rattle.table.specs.Around.{among}
use Rattle.table_store.specs.Splice.{placed}
use Rattle.std.specs.Prelude.{Result, Ok, Err}
use Rattle.text.specs.declared.refusal.Refusal.TheVariants.{OutputRoom}
use Rattle.expand_add.specs.declared.answers.Stop.{Stop}
use Rattle.expand_add.specs.declared.answers.Stop.TheVariants.{Refused, Demanded}
use Rattle.split_field.specs.Answers.{Says}
use Rattle.split_field.specs.declared.WriteError.TheVariants.{NoRoom}
use Rattle.expand_line.specs.Answers.{word_outcome, BareTo, CopiesTo, PutsBare, WordReady, WordOf, WordSays}
use Rattle.expand_line.specs.declared.WordDone.{WordDone}
use Rattle.expand_line.proofs.Wording.{full_of, len_of}

-- Where a bare word ends.

pub bare_some : {line : Text} {at r : ℕ} → Runs line at BareByte r → at < r → r - at ≤ line_limit
    → (r ≡ length line) ⊎ ((r < length line) × (get_or line r 0 ≡ code " ")) → BareTo line at r
bare_some {line} {at} {r} u l f e =
    record {
      some = l;
      within = u.within;
      few = omega arith;
      bare = ap (λ (s : Text × Text). all is_bare_byte s.0) (sym u.is) ∙ span_all is_bare_byte (drop at line);
      ends = e;
    }

-- What a bare word's writer answers.

module _ {t : Text} (next vars_used : ℕ) {used : ℕ} {old out : Text} where
  pub bare_written : {n : ℕ} → Says (done (t ∷ [])) used old out (Ok n)
      → PutsBare t next vars_used used old out (Ok (record { used = n; next = next; vars_used = vars_used }))
  bare_written s =
      let f = len_of s refl in
      let k : f.fields ≡ t ∷ [] = sym (done_same f.is) in (
        f.long ∙ ap (λ (l : Fields). used + record_bytes l) k,
        f.fits,
        f.stands ∙ ap (λ (l : Fields). placed used (written l) old) k,
        refl,
        refl,
      )

  pub bare_full : Says (done (t ∷ [])) used old out (Err NoRoom) → PutsBare t next vars_used used old out (Err (Refused OutputRoom))
  bare_full s =
      let f = full_of s refl in
      let k : f.fields ≡ t ∷ [] = sym (done_same f.is) in
      (refl, subst (λ (l : Fields). length old < used + record_bytes l) k f.full)

-- A word's outcome by its fields.

module _ (a : Around) (tree : Parts) (n : ℕ) (v u : Pairs) (l : Fields) (h : word_fields a tree v ≡ done (l, u)) where
  fields_full : a.out < n + record_bytes l → word_outcome a tree n v ≡ refused output_room
  unfolding word_outcome out_fits
  fields_full f = rw (h, lt-leb (n + record_bytes l) a.out f)

  fields_done : n + record_bytes l ≤ a.out → a.out ≤ image_limit → word_outcome a tree n v ≡ done (l, u)
  unfolding word_outcome out_fits
  fields_done f g = rw (h, le-leb (n + record_bytes l) a.out f, le-leb (n + record_bytes l) image_limit (omega arith))

-- A word that becomes one field, whatever the tables are.

module _ {line : Text} {at : ℕ} {vars : Text} {vars_used room : ℕ} {houses params paths work old : Text} {used : ℕ} (shouts : Bool)
    (ready : WordReady line at vars vars_used room houses params paths work old used) {end : ℕ} (tree : Parts) (t : Text)
    (reads : parts (words fresh) depth_limit (drop at line) ≡ done (tree, drop end line))
    (becomes : word_fields (among room shouts houses params paths (length old)) tree (held (take vars_used vars)) ≡ done (t ∷ [], held (take vars_used vars)))
    (onward : at ≤ end) (within : end ≤ length line) where
  abbrev around : Around
  around = among room shouts houses params paths (length old)

  abbrev before : Pairs
  before = held (take vars_used vars)

  word_of : (out work' : Text) (r : Result WordDone Stop) → PutsBare t end vars_used used old out r
      → WordOf around (word_outcome around tree used before) (drop end line) line at used vars old out work' r
  word_of out work' (Err (Refused e)) h = fields_full around tree used before before (t ∷ []) becomes h.1 ∙ ap refused (sym h.0)
  word_of out work' (Err (Demanded from len)) h = absurd h
  word_of out work' (Ok w) h = rw (h.3, h.4) (record {
    fields = t ∷ [];
    is = fields_done around tree used before before (t ∷ []) becomes (omega (arith, h.0, h.1)) ready.few;
    long = h.0;
    fits = h.1;
    stands = h.2;
    holds = ready.holds;
    ends = record { ends = refl; onward = onward; within = within };
  })

  one_word_says : {out work' : Text} (r : Result WordDone Stop) → PutsBare t end vars_used used old out r
      → WordSays around (parts (words fresh) depth_limit (drop at line)) line at used before vars old out work' r
  one_word_says {out} {work'} r h =
      record {
        says = λ p e.
            let d = reads in
            let k : ◌≡◌ {A = Parts × Text} (tree, drop end line) p = cc in
            subst (λ (x : Parts × Text). WordOf around (word_outcome around x.0 used before) x.1 line at used vars old out work' r) k
            (word_of out work' r h);
      }

-- A bare word.

not_empty_lem : (t : Text) → 0 < length t → all is_bare_byte t ≡ true → is_bare t ≡ true
unfolding is_bare
not_empty_lem [] h e = absurd (omega arith)
not_empty_lem (b ∷ t) h e = e

module _ {line : Text} {at : ℕ} {vars : Text} {vars_used room : ℕ} {houses params paths work old : Text} {used : ℕ} (shouts : Bool)
    (w : WordReady line at vars vars_used room houses params paths work old used) {end : ℕ} (b : BareTo line at end) where
  abbrev a : Around
  a = among room shouts houses params paths (length old)

  abbrev v : Pairs
  v = held (take vars_used vars)

  abbrev t : Text
  t = part line at end

  size : length t ≡ end - at
  size = let k = b.some in part_length line at end (omega arith) b.within

  is_bare_lem : is_bare t ≡ true
  is_bare_lem = not_empty_lem t (omega (arith, size, b.some)) b.bare

  cut : drop at line ≡ t ++ drop end line
  cut =
      let k = b.some in
      let e : at + (end - at) ≡ end = omega arith in
      sym (take-append-drop (end - at) (drop at line)) ∙ ap (λ (u : Text). t ++ u) (drop-drop (end - at) at line ∙ ap (λ (n : ℕ). drop n line) e)

  ends : EndsField (drop end line)
  ends =
      ⊎_elim
      (λ e. subst (λ (u : Text). EndsField u) (sym (drop_of_length-le line {i = end} (omega (arith, e)))) line_ends)
      (λ e. subst (λ (u : Text). EndsField u) (sym (drop-cons line end 0 e.0 ∙ ap (λ (c : ℕ). c ∷ drop (suc end) line) e.1))
      (blank (drop (suc end) line)))
      b.ends

  reads : parts (words fresh) depth_limit (drop at line) ≡ done (way_parts bare t, drop end line)
  unfolding quoting.written
  reads = ap (parts (words fresh) depth_limit) cut ∙ (one_word (as_bare is_bare_lem)).reads (drop end line) depth_limit ends

  becomes : word_fields a (way_parts bare t) v ≡ done (t ∷ [], v)
  unfolding quoting.written
  becomes = (one_field (as_bare is_bare_lem)).expands a v (omega (arith, size, b.few, b.some))

  pub bare_word : {out work' : Text} (r : Result WordDone Stop) → PutsBare t end vars_used used old out r
      → WordSays a (parts (words fresh) depth_limit (drop at line)) line at used v vars old out work' r
  bare_word r h = let k = b.some in one_word_says shouts w (way_parts bare t) t reads becomes (omega arith) b.within r h

-- A word in which nothing is expanded, whose bytes stand at the front of the work area.

module _ {line : Text} {at : ℕ} {vars : Text} {vars_used room : ℕ} {houses params paths work old : Text} {used : ℕ} (shouts : Bool)
    (w : WordReady line at vars vars_used room houses params paths work old used) {left : Text} {len end : ℕ} (p : Leaves line at work left len end)
    (some : at < end) (few : end ≤ at + line_limit) where
  read : Reads fresh depth_limit (drop at line) p.text (drop end line)
  read = walk_reads depth_limit p.walk fresh

  still_fields : (a : Around) (v : Pairs) → word_fields a read.tree v ≡ done (p.text ∷ [], v)
  still_fields a v =
      let i = length-drop at line in
      let j = length-drop end line in
      still_becomes read.still (read.some_unit (omega (arith, p.within)))
      (omega (arith, read.few, p.within)) a v

  front : take len left ≡ p.text
  front = ap (λ (n : ℕ). take n left) p.counts ∙ ap (take (length p.text)) p.is ∙ over_front p.text work

  pub still_word : {out work' : Text} (r : Result WordDone Stop) → PutsBare (take len left) end vars_used used old out r
      → WordSays (among room shouts houses params paths (length old)) (parts (words fresh) depth_limit (drop at line)) line at used (held (take vars_used vars))
      vars old out work' r
  still_word {out} r h =
      one_word_says shouts w read.tree p.text read.is (still_fields _ _) p.onward p.within r
      (subst (λ (t : Text). PutsBare t end vars_used used old out r) front h)

-- The work area that the copy leaves has room for them.

pub still_fits : {line : Text} {at : ℕ} {old left : Text} {len next : ℕ} → Leaves line at old left len next → len ≤ length left
still_fits {old = old} p = let h = p.few in let k = p.counts in omega (arith, ap length p.is ∙ over_length p.text old (omega arith))

pub still_part : {line : Text} {at : ℕ} {old left : Text} {len next : ℕ} → Leaves line at old left len next → len ≡ length (take len left)
still_part {left = left} {len = len} p = sym (length-take-le len left (still_fits p))

pub still_ready : {line : Text} {at : ℕ} {vars : Text} {vars_used room : ℕ} {houses params paths work out : Text} {used : ℕ} (left : Text)
    → length left ≡ length work → WordReady line at vars vars_used room houses params paths work out used
    → WordReady line at vars vars_used room houses params paths left out used
still_ready {line} {at} left e w = record {
  ready = subst (λ (n : ℕ). Ready line at (mode.Word true) depth_limit 0 n) (sym e) w.ready;
  holds = w.holds;
  housed = w.housed;
  handed = w.handed;
  listed = w.listed;
  low = w.low;
  few = w.few;
}

-- What the copy answers.

pub copied : {line : Text} {at : ℕ} {old left : Text} {len next : ℕ} → Leaves line at old left len next → length line - at ≤ line_limit → at < next
    → CopiesTo line at old left len next
copied q h l = record { some = l; is = q; few = omega (arith, q.within, q.onward) }
