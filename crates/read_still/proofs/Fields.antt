-- A word in which nothing is expanded becomes one field of the bytes that it says, whatever the tables are: its row is quiet.
use Prim.Native.Nat.{ℕ, suc, ◌+◌, ◌≤◌, ◌<◌}
use native.Mathlib.Omega.{arith}
use mathlib.Core.Path.{◌≡◌, refl, ap, ◌∙◌}
use mathlib.Core.Bool.{false}
use mathlib.Core.List.{[], ◌∷◌, ◌++◌}
use lib.ListN.{length, length-append}
use Rattle.stages.specs.Numbers.{row_limit}
use Rattle.stages.specs.Bytes.{Text}
use Rattle.stages.specs.Outcome.{done}
use Rattle.stages.specs.Images.{Pairs}
use Rattle.stages.specs.Syntax.{Parts, end}
use Rattle.stages.specs.Units.{L, Q, cell, N, Row, marked, bytes}
use Rattle.stages.specs.Params.{Lent}
use Rattle.stages.specs.Expand.{expand, in_quotes}
use Rattle.stages.specs.Split.{fields_of_row}
use Rattle.stages.specs.Paths.{texts_of_fields}
use Rattle.stages.specs.Line.{Around, word_fields}
use Rattle.stages.proofs.Rooms.{fit_ok}
use Rattle.stages.proofs.Plain.{bare_plain}
use Rattle.stages.proofs.Quiet.{Quiet, no_units, a_mark, a_byte, a_literal, quiet_append, marked_quiet, quiet_fields}
use Rattle.stages.proofs.RoundTrip.{word_steps}
use Rattle.read_run.specs.Literals.{lits}
use Rattle.read_still.proofs.Reading.{Stills, no_parts, a_bare, an_escaped, a_quote}

-- bytes in quotes

lits_expand : (a : Lent) (v : Pairs) (t : Text) (n : ℕ) → n + length t ≤ row_limit → expand a (lits t end) Q n v ≡ done (marked Q t, v, false)
unfolding expand marked
lits_expand a v [] n h = refl
lits_expand a v (b ∷ t) n h = rw (fit_ok n 1 (omega arith), lits_expand a v t (n + 1) (omega arith))

marked_length : (t : Text) → length (marked Q t) ≡ length t
unfolding marked
marked_length [] = refl
marked_length (b ∷ t) = ap suc (marked_length t)

marked_said : (t : Text) (r : Row) → bytes (marked Q t ++ r) ≡ t ++ bytes r
unfolding marked bytes
marked_said [] r = refl
marked_said (b ∷ t) r = ap {B = Text} (λ u. b ∷ u) (marked_said t r)

-- the row

record Expands (p : Parts) (x : Text) (k : ℕ) : Type 0 where
  row : Row
  size : length row ≡ k
  quiet : Quiet row
  says : bytes row ≡ x
  expands : (a : Lent) (n : ℕ) (v : Pairs) → n + k ≤ row_limit → expand a p L n v ≡ done (row, v, false)

still_expands : {p : Parts} {x : Text} {k : ℕ} → Stills p x k → Expands p x k
unfolding expand in_quotes bytes
still_expands no_parts = record { row = []; size = refl; quiet = no_units; says = refl; expands = λ a n v h. refl }
still_expands (a_bare {b = b} e s) =
    let i = still_expands s in
    let p = bare_plain b e in
    record {
      row = cell L b ∷ i.row;
      size = ap suc i.size;
      quiet = a_literal (record { star = p.star; one = p.one; bracket = p.bracket }) i.quiet;
      says = ap {B = Text} (λ u. b ∷ u) i.says;
      expands = λ a n v h. rw (fit_ok n 1 (omega arith), i.expands a (n + 1) v (omega arith));
    }
still_expands (an_escaped {b = b} s) =
    let i = still_expands s in
    record {
      row = cell Q b ∷ i.row;
      size = ap suc i.size;
      quiet = a_byte i.quiet;
      says = ap {B = Text} (λ u. b ∷ u) i.says;
      expands = λ a n v h. rw (fit_ok n 1 (omega arith), i.expands a (n + 1) v (omega arith));
    }
still_expands (a_quote {k = k} t s) =
    let i = still_expands s in
    let l = marked_length t in
    record {
      row = N ∷ (marked Q t ++ i.row);
      size = ap suc (length-append (marked Q t) i.row ∙ ap (λ (n : ℕ). n + length i.row) l ∙ ap (λ (n : ℕ). length t + n) i.size);
      quiet = a_mark (quiet_append (marked_quiet t) i.quiet);
      says = marked_said t i.row ∙ ap {B = Text} (λ u. t ++ u) i.says;
      expands = λ a n v h. rw (
        fit_ok n 1 (omega arith),
        lits_expand a v t (n + 1) (omega arith),
        i.expands a (n + suc (length (marked Q t))) v (omega (arith, l)),
      );
    }

-- the field

one_field : (a : Around) (v : Pairs) (r : Row) → Quiet r → 0 < length r → texts_of_fields a.paths (fields_of_row v r) ≡ done (bytes r ∷ [])
one_field a v [] q h = absurd (omega arith)
one_field a v (c ∷ r) q h = quiet_fields a.paths v q

pub still_becomes : {p : Parts} {x : Text} {k : ℕ} → Stills p x k → 0 < k → k ≤ row_limit → (a : Around) (v : Pairs) → word_fields a p v ≡ done (x ∷ [], v)
still_becomes {p} {x} {k} s h l a v =
    let i = still_expands s in
    word_steps a p v v i.row (x ∷ []) (i.expands a.lent 0 v (omega arith))
    (one_field a v i.row i.quiet (omega (arith, i.size)) ∙ ap (λ (t : Text). done (t ∷ [])) i.says)
