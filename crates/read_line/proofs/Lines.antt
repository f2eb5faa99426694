-- The pieces of a line, words or assignments, as the code walks it: over the blanks, then over a piece.
use Rattle.std.specs.Prelude.{Result, Ok, Err}
use Prim.Native.Nat.{ℕ, suc, ◌+◌, ◌-◌, ◌≤◌, ◌<◌}
use native.Mathlib.Omega.{arith}
use mathlib.Core.Path.{◌≡◌, refl, sym, ap, ◌∙◌, subst}
use mathlib.Core.Bool.{Bool, true, false}
use mathlib.Core.List.{List, [], ◌∷◌}
use borrow.Author.Tests.{eq-eqb, ne_eqb}
use lib.ListN.{length, drop, get_or, length-drop}
use lib.Seq.{drop-cons, drop_at, drop-drop}
use Rattle.stages.specs.Numbers.{bare_operator}
use Rattle.stages.specs.Bytes.{Text, part, span, is_blank, is_operator}
use Rattle.stages.specs.Outcome.{Outcome, refused, done, Placed, refused_at, demands_at, done_at, placed_at, ◌then◌}
use Rattle.stages.specs.Syntax.{Word}
use Rattle.stages.specs.Read.{Piece, piece_at, pieces, a_word, word_of, words, read_line}
use Rattle.stages.specs.Assign.{an_assignment, assignment_of}
use Rattle.stages.proofs.Read.{Good, stays, leaves}
use Rattle.stages.proofs.Texts.{Stops, span_more, span_stop, span_join, span_stops}
use Rattle.stages.proofs.Pieces.{Takes, FirstPiece, pieces_none, pieces_blank, pieces_operator, pieces_piece, first_piece}
use Rattle.stages.proofs.Words.{word_takes, FirstWord}
use Rattle.stages.proofs.Assignments.{assignment_takes}
use Rattle.text.specs.Refusals.{refusal_number}
use Rattle.text.specs.declared.refusal.Refusal.{Refusal}
use Rattle.text.specs.Classes.{Runs}
use Rattle.text.specs.declared.Class.TheVariants.{Blank}
use Rattle.text.proofs.Parts.{part_length}
use Rattle.read_line.specs.Says.{ReadTo, ReadSays, blanks_end, NextAt, NextNone, PieceTo, PieceSays, verdict, verdict_from}
use Rattle.read_line.specs.declared.Pieces.{Pieces}
use Rattle.read_line.specs.declared.Pieces.TheVariants.{Words, Assignments}

-- Over the blanks.

module _ {A B : Type 0} (one : Piece A) (keep : ℕ → A → B) where
  skip_cons : (n b : ℕ) (t : Text) → pieces one keep (suc n, t) ≡ pieces one keep (suc n + length (span is_blank t).0, (span is_blank t).1) → (x : Bool)
      → is_blank b ≡ x → pieces one keep (n, b ∷ t) ≡ pieces one keep (n + length (span is_blank (b ∷ t)).0, (span is_blank (b ∷ t)).1)
  skip_cons n b t s true e =
      let k : suc n + length (span is_blank t).0 ≡ n + suc (length (span is_blank t).0) = omega arith in
      rw (span_more is_blank b t e) (pieces_blank one keep n b t e ∙ s ∙ ap (λ (i : ℕ). pieces one keep (i, (span is_blank t).1)) k)
  skip_cons n b t s false e =
      let k : n ≡ n + 0 = omega arith in
      rw (span_stop is_blank (b ∷ t) e) (ap (λ (i : ℕ). pieces one keep (i, b ∷ t)) k)

  skips : (n : ℕ) (t : Text) → pieces one keep (n, t) ≡ pieces one keep (n + length (span is_blank t).0, (span is_blank t).1)
  unfolding span
  skips n [] = ap (λ (i : ℕ). pieces one keep (i, [])) (omega arith)
  skips n (b ∷ t) = skip_cons n b t (skips (suc n) t) (is_blank b) refl

  -- the pieces of a line are those behind its blanks
  pub blanks_skipped : (line : Text) (from place : ℕ) → place ≡ blanks_end line from
      → pieces one keep (from, drop from line) ≡ pieces one keep (place, drop place line)
  unfolding blanks_end
  blanks_skipped line from place e =
      let run = (span is_blank (drop from line)).0 in
      let rest = (span is_blank (drop from line)).1 in
      let k : rest ≡ drop place line =
      sym (drop_at run rest (length run) refl) ∙ ap (drop (length run)) (span_join is_blank (drop from line)) ∙ drop-drop (length run) from line
      ∙ ap (λ (i : ℕ). drop i line) (sym e) in
      skips from (drop from line) ∙ ap (λ (i : ℕ). pieces one keep (i, rest)) (sym e) ∙ ap (λ (t : Text). pieces one keep (place, t)) k

  pub blanks_last : (line : Text) (from : ℕ) → NextNone line from → pieces one keep (from, drop from line) ≡ done_at []
  blanks_last line from n = blanks_skipped line from (length line) (sym n.is) ∙ pieces_none one keep line (length line) (omega arith)

module _ (line : Text) (from place : ℕ) (r : Runs line from Blank place) where
  place_is : place ≡ blanks_end line from
  unfolding blanks_end
  place_is =
      sym (ap (λ (p : Text × Text). from + length p.0) r.is
      ∙ (let w : from + length (part line from place) ≡ place = omega (arith, part_length line from place r.onward r.within, r.onward) in w))

  stops_here : place < length line → is_blank (get_or line place 0) ≡ false
  stops_here l =
      let s : Stops is_blank (drop place line) = subst (λ (p : Text × Text). Stops is_blank p.1) r.is (span_stops is_blank (drop from line)) in
      subst (Stops is_blank) (drop-cons line place 0 l) s

  pub next_at : place < length line → NextAt line from place
  next_at l = record { is = place_is; onward = r.onward; within = l; starts = stops_here l }

  pub next_none : length line ≤ place → NextNone line from
  next_none l =
      let e : place ≡ length line = omega (arith, r.within) in
      record { is = sym place_is ∙ e }

-- Over a piece.

pub good_left : {A : Type 0} {n : ℕ} {r : Outcome (A × Text)} → Good n r → (p : A × Text) → r ≡ done p → length p.1 ≤ n
good_left (stays g) p e = absurd (let z : ◌≡◌ {A = ℕ} 0 1 = cc in omega arith)
good_left {A = A} {n = n} (leaves {p = q} l) p e =
    let k : ◌≡◌ {A = A × Text} q p = cc in
    subst (λ (x : A × Text). length x.1 ≤ n) k l

verdict_then : {B : Type 0} (f : List B → List B) (w : Placed (List B)) → verdict (w then λ l. done_at (f l)) ≡ verdict w
verdict_then f (refused_at n p) = refl
verdict_then f (demands_at t p) = refl
verdict_then f (done_at l) = refl

module _ {A B : Type 0} (one : Piece A) (keep : ℕ → A → B) (short : Takes one) (line : Text) (place : ℕ) (l : place < length line)
    (e : is_blank (get_or line place 0) ≡ false) where
  abbrev b : ℕ
  b = get_or line place 0

  top : pieces one keep (place, drop place line) ≡ pieces one keep (place, b ∷ drop (suc place) line)
  top = ap (λ (t : Text). pieces one keep (place, t)) (drop-cons line place 0 l)

  piece_operator : is_operator b ≡ true → pieces one keep (place, drop place line) ≡ refused_at bare_operator place
  piece_operator f = top ∙ pieces_operator one keep place b (drop (suc place) line) e (rw f)

  module _ (f : is_operator b ≡ false) where
    piece_hash : b ≡ 35 → pieces one keep (place, drop place line) ≡ refused_at bare_operator place
    piece_hash h = top ∙ pieces_operator one keep place b (drop (suc place) line) e (rw (f, eq-eqb _ _ h))

    module _ (h : b ≡ 35 → ⊥) where
      whole : pieces one keep (place, drop place line) ≡ piece_at one keep (pieces one keep) place (drop place line)
      whole =
          top ∙ pieces_piece one keep short place b (drop (suc place) line) e (rw (f, ne_eqb _ _ h))
          ∙ ap (piece_at one keep (pieces one keep) place) (sym (drop-cons line place 0 l))

      later : (next : ℕ) (tree : A) → next ≤ length line → one (drop place line) ≡ done (tree, drop next line) → place < next
      later next tree k q =
          let g = good_left (short b (drop (suc place) line) e) (tree, drop next line) (ap one (sym (drop-cons line place 0 l)) ∙ q) in
          omega (arith, g, length-drop next line, length-drop (suc place) line)

      abbrev around : Outcome (A × Text) → Placed (List B)
      around r =
          placed_at place r then λ p.
          pieces one keep (place + (length (drop place line) - length p.1), p.1) then λ ws.
          done_at (keep place p.0 ∷ ws)

      opens : pieces one keep (place, drop place line) ≡ around (one (drop place line))
      unfolding piece_at
      opens = whole

      -- what is read of the piece, by the verdict on the pieces from it on
      record Onward (next : ℕ) : Type 0 where
        is : verdict (pieces one keep (place, drop place line)) ≡ verdict (pieces one keep (next, drop next line))
        onward : place < next
        within : next ≤ length line

      piece_fault : (n : ℕ) → one (drop place line) ≡ refused n → pieces one keep (place, drop place line) ≡ refused_at n place
      piece_fault n q = opens ∙ ap around q

      piece_onward : (next : ℕ) → ReadTo line place (one (drop place line)) next → Onward next
      piece_onward next q =
          let w = later next q.tree q.within q.is in
          let k : place + (length (drop place line) - length (drop next line)) ≡ next =
          omega (arith, length-drop next line, length-drop place line, q.within) in
          record {
            is = ap verdict (opens ∙ ap around q.is)
                ∙ verdict_then (λ ws. keep place q.tree ∷ ws)
                (pieces one keep (place + (length (drop place line) - length (drop next line)), drop next line))
                ∙ ap (λ (i : ℕ). verdict (pieces one keep (i, drop next line))) k;
            onward = w;
            within = q.within;
          }

-- The same by what the pieces are.

module _ (line : Text) (place : ℕ) (l : place < length line) (e : is_blank (get_or line place 0) ≡ false) where
  pub kind_operator : (kind : Pieces) → is_operator (get_or line place 0) ≡ true → verdict_from kind line place ≡ refused_at bare_operator place
  kind_operator Words f = ap verdict (piece_operator a_word word_of word_takes line place l e f)
  kind_operator Assignments f = ap verdict (piece_operator an_assignment assignment_of assignment_takes line place l e f)

  module _ (f : is_operator (get_or line place 0) ≡ false) where
    pub kind_hash : (kind : Pieces) → get_or line place 0 ≡ 35 → verdict_from kind line place ≡ refused_at bare_operator place
    kind_hash Words h = ap verdict (piece_hash a_word word_of word_takes line place l e f h)
    kind_hash Assignments h = ap verdict (piece_hash an_assignment assignment_of assignment_takes line place l e f h)

    module _ (h : get_or line place 0 ≡ 35 → ⊥) where
      pub word_read : {kind : Pieces} → kind ≡ Words → (got : Result ℕ Refusal) → ReadSays line place (a_word (drop place line)) got
          → PieceSays kind line place got
      word_read k (Err n) q = rw k (ap verdict (piece_fault a_word word_of word_takes line place l e f h (refusal_number n) q))
      word_read k (Ok next) q =
          let o = piece_onward a_word word_of word_takes line place l e f h next q in
          rw k (record { is = o.is; onward = o.onward; within = o.within })

      pub assignment_read : {kind : Pieces} → kind ≡ Assignments → (got : Result ℕ Refusal) → ReadSays line place (an_assignment (drop place line)) got
          → PieceSays kind line place got
      assignment_read k (Err n) q = rw k (ap verdict (piece_fault an_assignment assignment_of assignment_takes line place l e f h (refusal_number n) q))
      assignment_read k (Ok next) q =
          let o = piece_onward an_assignment assignment_of assignment_takes line place l e f h next q in
          rw k (record { is = o.is; onward = o.onward; within = o.within })

-- The loop over the pieces: the verdict on the line is that on the pieces from here on.

pub record Walks (kind : Pieces) (line : Text) (from : ℕ) : Type 0 where
  pub is : verdict_from kind line 0 ≡ verdict_from kind line from
  pub within : from ≤ length line

kind_skipped : (kind : Pieces) (line : Text) (from place : ℕ) → NextAt line from place → verdict_from kind line from ≡ verdict_from kind line place
kind_skipped Words line from place p = ap verdict (blanks_skipped a_word word_of line from place p.is)
kind_skipped Assignments line from place p = ap verdict (blanks_skipped an_assignment assignment_of line from place p.is)

kind_last : (kind : Pieces) (line : Text) (from : ℕ) → NextNone line from → verdict_from kind line from ≡ done_at tt
kind_last Words line from n = ap verdict (blanks_last a_word word_of line from n)
kind_last Assignments line from n = ap verdict (blanks_last an_assignment assignment_of line from n)

module _ {kind : Pieces} {line : Text} {from : ℕ} (g : Walks kind line from) where
  pub walks_read : NextNone line from → verdict_from kind line 0 ≡ done_at tt
  walks_read n = g.is ∙ kind_last kind line from n

  module _ {place : ℕ} (p : NextAt line from place) where
    pub walks_fault : {n : ℕ} → verdict_from kind line place ≡ refused_at n place → verdict_from kind line 0 ≡ refused_at n place
    walks_fault h = g.is ∙ kind_skipped kind line from place p ∙ h

    pub walks_next : {next : ℕ} → PieceTo kind line place next → Walks kind line next
    walks_next h = record { is = g.is ∙ kind_skipped kind line from place p ∙ h.is; within = h.within }

-- What a verdict says of the pieces.

pub record Passed {B : Type 0} (w : Placed (List B)) : Type 0 where
  pub all : List B
  pub is : w ≡ done_at all

pub passed : {B : Type 0} (w : Placed (List B)) → verdict w ≡ done_at tt → Passed w
passed (refused_at n p) h = absurd (let z : ◌≡◌ {A = ℕ} 0 1 = cc in omega arith)
passed (demands_at t p) h = absurd (let z : ◌≡◌ {A = ℕ} 0 1 = cc in omega arith)
passed (done_at ws) h = record { all = ws; is = refl }

pub refused_of : {B : Type 0} (w : Placed (List B)) (n p : ℕ) → verdict w ≡ refused_at n p → w ≡ refused_at n p
refused_of (refused_at k q) n p h = cc
refused_of (demands_at t q) n p h = absurd (let z : ◌≡◌ {A = ℕ} 0 1 = cc in omega arith)
refused_of (done_at ws) n p h = absurd (let z : ◌≡◌ {A = ℕ} 0 1 = cc in omega arith)

abbrev pub Accepted : Text → Type 0
Accepted line = Passed (read_line line)

pub accepted : (line : Text) → verdict (read_line line) ≡ done_at tt → Accepted line
accepted line h = passed (read_line line) h

pub refused_line : (line : Text) (n p : ℕ) → verdict (read_line line) ≡ refused_at n p → read_line line ≡ refused_at n p
refused_line line n p h = refused_of (read_line line) n p h

-- For a walk over the pieces of a line that is accepted: the next piece is the first of those that are left, and where there is none, none is left.

module _ {A B : Type 0} (one : Piece A) (keep : ℕ → A → B) where
  pub next_piece : Takes one → (line : Text) (from place : ℕ) (ws : List B) → NextAt line from place → pieces one keep (from, drop from line) ≡ done_at ws
      → FirstPiece one keep line place ws
  next_piece short line from place ws p h =
      first_piece one keep short line place p.within p.starts ws (sym (blanks_skipped one keep line from place p.is) ∙ h)

  pub last_piece : (line : Text) (from : ℕ) (ws : List B) → NextNone line from → pieces one keep (from, drop from line) ≡ done_at ws → ws ≡ []
  last_piece line from ws n h = let e = blanks_last one keep line from n in cc

pub next_first : (line : Text) (from place : ℕ) (ws : List Word) → NextAt line from place → words (from, drop from line) ≡ done_at ws →
    FirstWord line place ws
next_first line from place ws p h = next_piece a_word word_of word_takes line from place ws p h

pub next_last : (line : Text) (from : ℕ) (ws : List Word) → NextNone line from → words (from, drop from line) ≡ done_at ws → ws ≡ []
next_last line from ws n h = last_piece a_word word_of line from ws n h
