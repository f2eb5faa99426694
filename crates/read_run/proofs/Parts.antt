-- A run is read as the parts of its bytes, in front of what is read behind it.
use Prim.Native.Nat.{ℕ, ◌-◌, ◌<◌}
use native.Mathlib.Omega.{arith}
use mathlib.Core.Path.{◌≡◌, refl, sym, ap, ◌∙◌}
use mathlib.Core.Bool.{Bool, true, false, not}
use mathlib.Core.List.{[], ◌∷◌}
use borrow.Author.Tests.{eqb-true, eqb-false}
use lib.Dec.{eqb}
use lib.ListN.{length, drop}
use Rattle.stages.specs.Bytes.{Text, part, span}
use Rattle.stages.specs.Outcome.{refused, demands, done, pick}
use Rattle.stages.specs.Syntax.{unescaped, Parts, Mode, lit, word, value, bare, single, double, quoted_operand, arith as sums}
use Rattle.stages.specs.Items.{Sort, sort, begins_tilde, item, item_of, onward, start_behind, behind_byte}
use Rattle.stages.specs.Items.{backquote, closes, operator, quotes, quotes2, backslash, escape, dollar, bad, opening, closing, tilde, literal}
use Rattle.stages.specs.Read.{Taken, put, read_item, parts}
use Rattle.stages.proofs.Bools.{no, and_left, and_right}
use Rattle.stages.proofs.Texts.{span_more, span_stop}
use Rattle.stages.proofs.Read.{parts_item}
use Rattle.text.proofs.Parts.{part_length}
use Rattle.read_mode.specs.Modes.{mode_of, open_in, mode_onward}
use Rattle.read_mode.specs.declared.Cursor.{Cursor}
use Rattle.read_mode.specs.declared.Mode as code-mode
use Rattle.read_mode.proofs.GoingOn.{onward_mode, onward_open}
use Rattle.read_run.specs.Literals.{is_literal, opens_tilde, literal_in, lits, Passed}

pub put_same : (r : Taken) → r ≡ put (λ p. p) r
put_same (refused e) = refl
put_same (demands t) = refl
put_same (done p) = refl

pub put_put : (f g : Parts → Parts) (r : Taken) → put f (put g r) ≡ put (λ p. f (g p)) r
put_put f g (refused e) = refl
put_put f g (demands t) = refl
put_put f g (done p) = refl

-- A byte of a run.

only_literal : (s : Sort) → is_literal s ≡ true → s ≡ literal
unfolding is_literal
only_literal backquote e = absurd (no e)
only_literal closes e = absurd (no e)
only_literal operator e = absurd (no e)
only_literal quotes e = absurd (no e)
only_literal quotes2 e = absurd (no e)
only_literal backslash e = absurd (no e)
only_literal escape e = absurd (no e)
only_literal dollar e = absurd (no e)
only_literal bad e = absurd (no e)
only_literal opening e = absurd (no e)
only_literal closing e = absurd (no e)
only_literal tilde e = absurd (no e)
only_literal literal e = refl

not_on : (x : Bool) → not x ≡ true → x ≡ false
not_on true e = absurd (no e)
not_on false e = refl

-- what is no tilde is the same where none is looked at
no_tilde : (x : Bool) (s : Sort) → pick x tilde s ≡ literal → s ≡ literal
unfolding is_literal
no_tilde true s e = absurd (no (ap is_literal e))
no_tilde false s e = e

begun_sort : (m : Mode) (b : ℕ) → sort m b ≡ literal → sort (onward m) b ≡ literal
unfolding sort onward begins_tilde
begun_sort (word s) b e = no_tilde (begins_tilde s b) _ e
begun_sort (value s) b e = no_tilde (begins_tilde s b) _ e
begun_sort (bare s l) b e = no_tilde (begins_tilde s b) _ e
begun_sort (single x) b e = e
begun_sort (double l) b e = e
begun_sort (quoted_operand l) b e = e
begun_sort (sums n) b e = e

goes_behind : (m : Mode) (b : ℕ) → opens_tilde m b ≡ false → behind_byte m unescaped b ≡ onward m
unfolding behind_byte onward start_behind opens_tilde
goes_behind (word s) b e = refl
goes_behind (value s) b e = rw e
goes_behind (bare s l) b e = refl
goes_behind (single x) b e = refl
goes_behind (double l) b e = refl
goes_behind (quoted_operand l) b e = refl
goes_behind (sums n) b e = refl

stays_behind : (m : Mode) (b : ℕ) → opens_tilde m b ≡ false → behind_byte (onward m) unescaped b ≡ onward m
unfolding behind_byte onward start_behind opens_tilde
stays_behind (word s) b e = refl
stays_behind (value s) b e = rw e
stays_behind (bare s l) b e = refl
stays_behind (single x) b e = refl
stays_behind (double l) b e = refl
stays_behind (quoted_operand l) b e = refl
stays_behind (sums n) b e = refl

-- how a text goes on behind a run
abbrev behind_run : Mode → Text → Mode
behind_run m [] = m
behind_run m (b ∷ t) = onward m

module _ (m : Mode) (d : ℕ) where
  -- a byte that stands for itself, behind which the text goes on in the mode n
  byte_parts : (k n : Mode) (b : ℕ) (t : Text) → sort k b ≡ literal → behind_byte k unescaped b ≡ n
      → parts k d (b ∷ t) ≡ put (lit unescaped b) (parts n d t)
  unfolding read_item item item_of
  byte_parts k n b t e g =
      parts_item k d (b ∷ t) (ap (λ (s : Sort). item_of s k d b t) e) ∙ ap (λ (j : Mode). put (lit unescaped b) (parts j d t)) g

  module _ (b : ℕ) (t : Text) (e : literal_in m b ≡ true) where
    is_literal_lem : sort m b ≡ literal
    unfolding literal_in
    is_literal_lem = only_literal (sort m b) (and_left (is_literal (sort m b)) (not (opens_tilde m b)) e)

    leaves : opens_tilde m b ≡ false
    unfolding literal_in
    leaves = not_on (opens_tilde m b) (and_right (is_literal (sort m b)) (not (opens_tilde m b)) e)

    first_parts : parts m d (b ∷ t) ≡ put (lit unescaped b) (parts (onward m) d t)
    first_parts = byte_parts m (onward m) b t is_literal_lem (goes_behind m b leaves)

    more_parts : parts (onward m) d (b ∷ t) ≡ put (lit unescaped b) (parts (onward m) d t)
    more_parts = byte_parts (onward m) (onward m) b t (begun_sort m b is_literal_lem) (stays_behind m b leaves)

  abbrev pub Cut : Text → Text × Text → Type 0
  Cut t s = parts (onward m) d t ≡ put (lits s.0) (parts (onward m) d s.1)

  -- a text that has begun
  pub begun_parts : (t : Text) → Cut t (span (literal_in m) t)
  unfolding span
  begun_parts [] = put_same (parts (onward m) d [])
  begun_parts (b ∷ t) = go (begun_parts t) (literal_in m b) refl
    where
      go : Cut t (span (literal_in m) t) → (x : Bool) → literal_in m b ≡ x → Cut (b ∷ t) (span (literal_in m) (b ∷ t))
      go ih true e =
          rw (span_more (literal_in m) b t e)
          (more_parts b t e ∙ ap (put (lit unescaped b)) ih
          ∙ put_put (lit unescaped b) (lits (span (literal_in m) t).0) (parts (onward m) d (span (literal_in m) t).1))
      go ih false e = rw (span_stop (literal_in m) (b ∷ t) e) (put_same (parts (onward m) d (b ∷ t)))

  abbrev Whole : Text → Text × Text → Type 0
  Whole t s = parts m d t ≡ put (lits s.0) (parts (behind_run m s.0) d s.1)

  span_parts : (t : Text) → Whole t (span (literal_in m) t)
  unfolding span
  span_parts [] = put_same (parts m d [])
  span_parts (b ∷ t) = go (literal_in m b) refl
    where
      go : (x : Bool) → literal_in m b ≡ x → Whole (b ∷ t) (span (literal_in m) (b ∷ t))
      go true e =
          rw (span_more (literal_in m) b t e)
          (first_parts b t e ∙ ap (put (lit unescaped b)) (begun_parts t)
          ∙ put_put (lit unescaped b) (lits (span (literal_in m) t).0) (parts (onward m) d (span (literal_in m) t).1))
      go false e = rw (span_stop (literal_in m) (b ∷ t) e) (put_same (parts m d (b ∷ t)))

-- The code's mode behind a run.

behind_run_lem : (m : code-mode.Mode) (t : Text) (x : Bool) → (x ≡ true → length t ≡ 0) → (x ≡ false → 0 < length t)
    → behind_run (mode_of m) t ≡ mode_of (pick x m (mode_onward m))
behind_run_lem m [] true h k = refl
behind_run_lem m [] false h k = absurd (let z = k refl in omega arith)
behind_run_lem m (b ∷ t) true h k = absurd (let z = h refl in omega arith)
behind_run_lem m (b ∷ t) false h k = onward_mode m

module _ {text : Text} {from r : Cursor} (p : Passed text from r) where
  run_length : length (part text from.at r.at) ≡ r.at - from.at
  run_length = part_length text from.at r.at p.run.onward p.run.within

  run_mode : behind_run (mode_of from.mode) (part text from.at r.at) ≡ mode_of r.mode
  run_mode =
      let l = run_length in
      let k = p.run.onward in
      behind_run_lem from.mode (part text from.at r.at) (eqb r.at from.at)
      (λ e. let z = eqb-true r.at from.at e in omega arith)
      (λ e. let z = eqb-false r.at from.at e in omega arith)
      ∙ sym (ap mode_of p.mode)

  -- a run is read as its bytes one by one
  pub run_parts : parts (mode_of from.mode) from.depth (drop from.at text)
      ≡ put (lits (part text from.at r.at)) (parts (mode_of r.mode) r.depth (drop r.at text))
  run_parts =
      span_parts (mode_of from.mode) from.depth (drop from.at text)
      ∙ ap (λ (s : Text × Text). put (lits s.0) (parts (behind_run (mode_of from.mode) s.0) from.depth s.1)) p.run.is
      ∙ ap (λ (k : Mode). put (lits (part text from.at r.at)) (parts k from.depth (drop r.at text))) run_mode
      ∙ ap (λ (d : ℕ). put (lits (part text from.at r.at)) (parts (mode_of r.mode) d (drop r.at text))) (sym p.depth)

  open_same : (x : Bool) → open_in (pick x from.mode (mode_onward from.mode)) ≡ open_in from.mode
  open_same true = refl
  open_same false = onward_open from.mode

  -- as many parentheses are open behind it
  pub run_open : open_in r.mode ≡ open_in from.mode
  run_open = ap open_in p.mode ∙ open_same (eqb r.at from.at)
