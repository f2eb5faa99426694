-- Words in which nothing is expanded, by their bytes: bare ones, those in quotes of which each stands for itself, and those behind a backslash.
use Rattle.std.specs.Prelude.{ℕ, ◌+◌, ◌≤◌, ◌≡◌, true, false, [], ◌∷◌, ◌++◌, eqb, length, take, drop, Option, Some, None}
use Prim.Native.Char.{code}
use Rattle.std.proofs.Math.Option.{none, some}
use Rattle.std.proofs.Math.Option as math
use Rattle.stages.specs.Bytes.{Text, part, span, is_bare_byte, is_blank}
use Rattle.stages.specs.Outcome.{pick}
use Rattle.stages.specs.Syntax.{single, double, no_escapes, served}
use Rattle.stages.specs.Call.{over}
use Rattle.read_run.specs.Literals.{literal_in}
use Rattle.read_still.specs.declared.Enclosed.{Enclosed}
use Rattle.read_still.specs.declared.StillWord.{StillWord}

-- what is said at the head of a text, and what is behind it
abbrev pub Said : Type 0
Said = math.Option (Text × Text)

-- a run that the quote ends which opened it
abbrev pub closed_by : ℕ → Text × Text → Said
closed_by mark (t, []) = none
closed_by mark (t, b ∷ u) = pick (eqb b mark) (some (t, u)) none

-- the byte behind a backslash; a newline is refused there
abbrev pub escaped_in : Text → Said
escaped_in [] = none
escaped_in (b ∷ u) = pick (eqb b (code "\n")) none (some (b ∷ [], u))

-- what is quoted at the head of a text, where it is only bytes that stand for themselves
abbrev pub quoted_in : Text → Said
quoted_in [] = none
quoted_in (b ∷ t) =
    pick (eqb b (code "'")) (closed_by (code "'") (span (literal_in (single no_escapes)) t))
    (pick (eqb b (code "\"")) (closed_by (code "\"") (span (literal_in (double served)) t))
    (pick (eqb b (code "\\")) (escaped_in t) none))

-- bytes in front of what is said
abbrev pub behind : Text → Said → Said
behind y none = none
behind y (some p) = some (y ++ p.0, p.1)

-- a text is walked over from the start of a word: bare bytes and what is quoted in turn, up to a blank or the end; or something else stands there
pub data Walk : Text → Said → Type 0 where
  ends : {t s : Text} → span is_bare_byte t ≡ (s, []) → Walk t (some (s, []))
  stops : {t s u : Text} {b : ℕ} → span is_bare_byte t ≡ (s, b ∷ u) → is_blank b ≡ true → Walk t (some (s, b ∷ u))
  fails : {t s u : Text} {b : ℕ} → span is_bare_byte t ≡ (s, b ∷ u) → is_blank b ≡ false → quoted_in (b ∷ u) ≡ none → Walk t none
  goes : {t s u q w : Text} {b : ℕ} {o : Said} → span is_bare_byte t ≡ (s, b ∷ u) → is_blank b ≡ false → quoted_in (b ∷ u) ≡ some (q, w) → Walk w o
      → Walk t (behind (s ++ q) o)

-- what is quoted by places: the bytes from one to another, and the text goes on at a third
pub record EnclosedAs (line : Text) (at : ℕ) (o : Said) (from to next : ℕ) : Type 0 where
  pub is : o ≡ some (part line from to, drop next line)
  pub onward : at ≤ from
  pub order : from ≤ to
  pub closes : to ≤ next
  pub within : next ≤ length line

abbrev pub Encloses : Text → ℕ → Said → Option Enclosed → Type 0
Encloses line at o None = o ≡ none
Encloses line at o (Some e) = EnclosedAs line at o e.from e.to e.next

-- the place behind the word that begins at `at`
pub record EndsTo (line : Text) (at r : ℕ) : Type 0 where
  pub text : Text
  pub walk : Walk (drop at line) (some (text, drop r line))
  pub onward : at ≤ r
  pub within : r ≤ length line

abbrev pub EndsAt : Text → ℕ → Option ℕ → Type 0
EndsAt line at (Some r) = EndsTo line at r
EndsAt line at None = Walk (drop at line) none

-- a text is put behind the first bytes of an area
pub record PutsBehind (used : ℕ) (t old left : Text) (r : ℕ) : Type 0 where
  pub counts : r ≡ used + length t
  pub is : left ≡ take used old ++ (t ++ drop (used + length t) old)

-- a word's bytes stand at the front of an area, and the line goes on at `next`
pub record Leaves (line : Text) (at : ℕ) (old left : Text) (len next : ℕ) : Type 0 where
  pub text : Text
  pub walk : Walk (drop at line) (some (text, drop next line))
  pub counts : len ≡ length text
  pub is : left ≡ over text old
  pub onward : at ≤ next
  pub within : next ≤ length line
  pub few : len ≤ length old

abbrev pub PutsStill : Text → ℕ → Text → Text → Option StillWord → Type 0
PutsStill line at old left None = Walk (drop at line) none
PutsStill line at old left (Some w) = Leaves line at old left w.len w.next
