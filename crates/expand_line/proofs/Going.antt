-- The loop over the words of a line, on plain lists: the words that are left, the fields so far, and the image that they make.
use Prim.Native.Nat.{ℕ, ◌+◌, ◌≤◌}
use native.Mathlib.Omega.{arith}
use mathlib.Core.Path.{◌≡◌, refl, sym, ap, ◌∙◌}
use mathlib.Core.Bool.{Bool, true, false}
use mathlib.Core.List.{List, [], ◌∷◌, ◌++◌, append_assoc, append-nil}
use lib.ListN.{length, take, drop, set, length-append}
use lib.Seq.{take_at, drop_at, drop-drop}
use Rattle.stages.specs.Numbers.{output_room}
use Rattle.stages.specs.Bytes.{Text}
use Rattle.stages.specs.Outcome.{Outcome, refused, demands, done, ◌>>=◌, Placed, refused_at, demands_at, done_at, placed_at, ◌then◌, require, pick}
use Rattle.stages.specs.Images.{Pairs, written, image, record_bytes}
use Rattle.stages.specs.Syntax.{Word}
use Rattle.stages.specs.Read.{words, read_line}
use Rattle.stages.specs.Line.{Around, Fields, word_fields, out_fits, expand_words}
use Rattle.stages.proofs.Images.{length_written, written_append}
use Rattle.stages.proofs.Words.{FirstWord}
use Rattle.read_line.specs.Says.{NextAt, NextNone}
use Rattle.read_line.proofs.Lines.{next_first, next_last}
use Rattle.expand_line.specs.Answers.{word_outcome, line_outcome}

-- what a word gives, in front of those behind it
abbrev before : Fields → Placed (Fields × Pairs) → Placed (Fields × Pairs)
before l o = o then λ s. done_at (l ++ s.0, s.1)

before_none : (o : Placed (Fields × Pairs)) → o ≡ before [] o
before_none (refused_at n p) = refl
before_none (demands_at t p) = refl
before_none (done_at s) = refl

before_both : (l m : Fields) (o : Placed (Fields × Pairs)) → before l (before m o) ≡ before (l ++ m) o
before_both l m (refused_at n p) = refl
before_both l m (demands_at t p) = refl
before_both l m (done_at s) = ap (λ (k : Fields). done_at (k, s.1)) (sym (append_assoc l m s.0))

module _ (a : Around) (w : Word) (ws : List Word) (n : ℕ) (v : Pairs) where
  abbrev later : Fields × Pairs → Placed (Fields × Pairs)
  later r = before r.0 (expand_words a ws (n + record_bytes r.0) r.1)

  by_room : (r : Fields × Pairs) (x : Bool) → (require x output_room w.place then λ _. later r) ≡
      (placed_at w.place (pick x (done r) (refused output_room)) then later)
  by_room r true = refl
  by_room r false = refl

  by_fields : (o : Outcome (Fields × Pairs))
      → (placed_at w.place o then λ r. require (out_fits a (n + record_bytes r.0)) output_room w.place then λ _. later r)
      ≡ (placed_at w.place (o >>= λ r. pick (out_fits a (n + record_bytes r.0)) (done r) (refused output_room)) then later)
  by_fields (refused e) = refl
  by_fields (demands t) = refl
  by_fields (done r) = by_room r (out_fits a (n + record_bytes r.0))

  -- a word's own faults, 21 among them, are met before the words behind it
  words_step : expand_words a (w ∷ ws) n v ≡ (placed_at w.place (word_outcome a w.parts n v) then later)
  unfolding expand_words word_outcome
  words_step = by_fields (word_fields a w.parts v)

-- where the loop stands: `left` are the words from here on, `fields` those that stand in the image, which has so many bytes
pub record Goes (a : Around) (o : Placed (Fields × Pairs)) (line : Text) (from len : ℕ) (v : Pairs) (old out : Text) : Type 0 where
  pub left : List Word
  pub ahead : words (from, drop from line) ≡ done_at left
  pub fields : Fields
  pub is : o ≡ before fields (expand_words a left len v)
  pub long : len ≡ length (image fields)
  pub fits : len ≤ length old
  pub front : out ≡ image fields ++ drop len old
  pub within : from ≤ length line

version_first : (out : Text) → 1 ≤ length out → set out 0 1 ≡ 1 ∷ drop 1 (set out 0 1)
version_first [] l = absurd (omega arith)
version_first (b ∷ t) l = refl

version_long : (out : Text) → 1 ≤ length out → 1 ≤ length (set out 0 1)
version_long [] l = l
version_long (b ∷ t) l = omega arith

-- the version byte is written, and no word is done
pub goes_start : (a : Around) (line out : Text) (v : Pairs) (ws : List Word) → read_line line ≡ done_at ws → 1 ≤ length out
    → Goes a (line_outcome a line v) line 0 1 v (set out 0 1) (set out 0 1)
unfolding read_line image written
goes_start a line out v ws r l =
    record {
      left = ws;
      ahead = r;
      fields = [];
      is = ap (λ (w : Placed (List Word)). w then λ us. expand_words a us 1 v) r ∙ before_none (expand_words a ws 1 v);
      long = refl;
      fits = version_long out l;
      front = version_first out l;
      within = omega arith;
    }

module _ {a : Around} {o : Placed (Fields × Pairs)} {line : Text} {from len : ℕ} {v : Pairs} {old out : Text} (g : Goes a o line from len v old out) where
  -- there is no further word
  pub goes_end : NextNone line from → o ≡ done_at (g.fields, v)
  unfolding expand_words
  goes_end n =
      g.is ∙ ap (λ (ws : List Word). before g.fields (expand_words a ws len v)) (next_last line from g.left n g.ahead)
      ∙ ap (λ (l : Fields). done_at (l, v)) (append-nil g.fields)

  module _ {place : ℕ} (p : NextAt line from place) where
    pub first : FirstWord line place g.left
    first = next_first line from place g.left p g.ahead

    abbrev own : Word
    own = record { place = place; parts = first.tree }

    opened : o ≡ before g.fields (placed_at place (word_outcome a first.tree len v) then later a own first.tail len v)
    opened =
        g.is ∙ ap (λ (ws : List Word). before g.fields (expand_words a ws len v)) first.whole
        ∙ ap (before g.fields) (words_step a own first.tail len v)

    -- the word is refused
    pub goes_refused : {n : ℕ} → word_outcome a first.tree len v ≡ refused n → o ≡ refused_at n place
    goes_refused h = opened ∙ ap (λ (w : Outcome (Fields × Pairs)). before g.fields (placed_at place w then later a own first.tail len v)) h

    -- the word demands a message
    pub goes_demanded : {t : Text} → word_outcome a first.tree len v ≡ demands t → o ≡ demands_at t place
    goes_demanded h = opened ∙ ap (λ (w : Outcome (Fields × Pairs)). before g.fields (placed_at place w then later a own first.tail len v)) h

    -- its fields stand behind those before them
    module _ {l : Fields} {u : Pairs} (h : word_outcome a first.tree len v ≡ done (l, u)) {next len' : ℕ}
        (ends : drop next line ≡ first.rest) (w : next ≤ length line)
        (e : len' ≡ len + record_bytes l) (f : len' ≤ length old) {out' : Text}
        (d : out' ≡ take len out ++ (written l ++ drop (len + length (written l)) out)) where
      taken : take len out ≡ image g.fields
      taken = ap (take len) g.front ∙ take_at (image g.fields) (drop len old) len (sym g.long)

      behind : drop (len + length (written l)) out ≡ drop (len + length (written l)) old
      behind =
          sym (drop-drop (length (written l)) len out)
          ∙ ap (drop (length (written l))) (ap (drop len) g.front ∙ drop_at (image g.fields) (drop len old) len (sym g.long))
          ∙ drop-drop (length (written l)) len old

      joined : image (g.fields ++ l) ≡ image g.fields ++ written l
      unfolding image
      joined = ap (λ (t : Text). 1 ∷ t) (written_append g.fields l)

      pub goes_on : Goes a o line next len' u old out'
      goes_on =
          let k : len' ≡ len + length (written l) = e ∙ ap (λ (i : ℕ). len + i) (sym (length_written l)) in
          record {
            left = first.tail;
            ahead = first.more next ends w;
            fields = g.fields ++ l;
            is =
                opened ∙ ap (λ (w : Outcome (Fields × Pairs)). before g.fields (placed_at place w then later a own first.tail len v)) h
                ∙ before_both g.fields l (expand_words a first.tail (len + record_bytes l) u)
                ∙ ap (λ (i : ℕ). before (g.fields ++ l) (expand_words a first.tail i u)) (sym e);
            long = k ∙ ap (λ (i : ℕ). i + length (written l)) g.long ∙ sym (length-append (image g.fields) (written l)) ∙ ap length (sym joined);
            fits = f;
            front =
                d ∙ ap (λ (t : Text). t ++ (written l ++ drop (len + length (written l)) out)) taken
                ∙ ap (λ (t : Text). image g.fields ++ (written l ++ t)) behind
                ∙ sym (append_assoc (image g.fields) (written l) (drop (len + length (written l)) old))
                ∙ ap (λ (t : Text). t ++ drop (len + length (written l)) old) (sym joined)
                ∙ ap (λ (i : ℕ). image (g.fields ++ l) ++ drop i old) (sym k);
            within = w;
          }
