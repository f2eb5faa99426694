-- Quiet rows: only quoted bytes, empty marks, and literal bytes that are no `*`, `?` or `[`. There is nothing in them to split at, and nothing active, so
-- that a quiet row with units is the one field of its bytes.
use Prim.Native.Nat.{ℕ}
use Prim.Native.Char.{code}
use mathlib.Core.Path.{◌≡◌, refl, ap, ◌∙◌}
use mathlib.Core.Bool.{true, false}
use mathlib.Core.List.{List, [], ◌∷◌, ◌++◌}
use lib.Dec.{eqb}
use Rattle.stages.specs.Bytes.{Text, text, is_in, all, is_bare_byte}
use Rattle.stages.specs.Outcome.{done}
use Rattle.stages.specs.Images.{Pairs}
use Rattle.stages.specs.Units.{Mark, L, Q, Cell, cell, N, Row, marked, bytes}
use Rattle.stages.specs.Split.{drop_white, drop_hard, other_run, fields_step, fields_from, split, ifs_now, longer_part, broken, split_parts, fields_of_row}
use Rattle.stages.specs.Pattern.{signs, elements, has_class, pattern}
use Rattle.stages.specs.Paths.{active, paths_for, texts_of_fields}
use Rattle.stages.proofs.Bools.{and_left, and_right, or_neither}
use Rattle.stages.proofs.Split.{fields_from_lem}
use Rattle.stages.proofs.Plain.{Plain, bare_plain}

-- a byte that begins nothing in a pattern
pub record Dull (b : ℕ) : Type 0 where
  pub star : eqb b (code "*") ≡ false
  pub one : eqb b (code "?") ≡ false
  pub bracket : eqb b (code "[") ≡ false

plain_dull : (b : ℕ) → Plain b → Dull b
plain_dull b p = record { star = p.star; one = p.one; bracket = p.bracket }

pub dull_byte : (b : ℕ) → is_in b (text "*?[") ≡ false → Dull b
dull_byte b e =
    let p = or_neither (eqb b (code "*")) (is_in b (text "?[")) e in
    let q = or_neither (eqb b (code "?")) (is_in b (text "[")) p.1 in
    record { star = p.0; one = q.0; bracket = (or_neither (eqb b (code "[")) false q.1).0 }

pub data Quiet : Row → Type 0 where
  no_units : Quiet []
  a_mark : {r : Row} → Quiet r → Quiet (N ∷ r)
  a_byte : {b : ℕ} {r : Row} → Quiet r → Quiet (cell Q b ∷ r)
  a_literal : {b : ℕ} {r : Row} → Dull b → Quiet r → Quiet (cell L b ∷ r)

pub quiet_append : {r s : Row} → Quiet r → Quiet s → Quiet (r ++ s)
quiet_append no_units q = q
quiet_append (a_mark p) q = a_mark (quiet_append p q)
quiet_append (a_byte p) q = a_byte (quiet_append p q)
quiet_append (a_literal h p) q = a_literal h (quiet_append p q)

pub marked_quiet : (t : Text) → Quiet (marked Q t)
unfolding marked
marked_quiet [] = no_units
marked_quiet (b ∷ t) = a_byte (marked_quiet t)

-- the row of a bare field is quiet
pub bare_quiet : (t : Text) → all is_bare_byte t ≡ true → Quiet (marked L t)
unfolding marked
bare_quiet [] e = no_units
bare_quiet (b ∷ t) e =
    a_literal (plain_dull b (bare_plain b (and_left (is_bare_byte b) (all is_bare_byte t) e)))
    (bare_quiet t (and_right (is_bare_byte b) (all is_bare_byte t) e))

pub marked_bytes : (m : Mark) (t : Text) → bytes (marked m t) ≡ t
unfolding marked bytes
marked_bytes m [] = refl
marked_bytes m (b ∷ t) = ap {B = Text} (λ s. b ∷ s) (marked_bytes m t)

quiet_run : (ifs : Text) {r : Row} → Quiet r → other_run ifs r ≡ (r, [])
unfolding other_run
quiet_run ifs no_units = refl
quiet_run ifs (a_mark q) = rw (quiet_run ifs q)
quiet_run ifs (a_byte q) = rw (quiet_run ifs q)
quiet_run ifs (a_literal p q) = rw (quiet_run ifs q)

quiet_white : (ifs : Text) {r : Row} → Quiet r → drop_white ifs r ≡ r
unfolding drop_white
quiet_white ifs no_units = refl
quiet_white ifs (a_mark q) = refl
quiet_white ifs (a_byte q) = refl
quiet_white ifs (a_literal p q) = refl

-- a row that has units is one field
pub quiet_split : (ifs : Text) {c : Cell} {r : Row} → Quiet (c ∷ r) → split ifs (c ∷ r) ≡ (c ∷ r) ∷ []
unfolding split fields_from fields_step drop_white drop_hard
quiet_split ifs {c} {r} q = ap (fields_from ifs) (quiet_white ifs q) ∙ fields_from_lem ifs (c ∷ r) ∙ rw (quiet_run ifs q)

-- no break mark stands in it
pub quiet_broken : {r : Row} → Quiet r → broken r ≡ r ∷ []
unfolding broken longer_part
quiet_broken no_units = refl
quiet_broken (a_mark q) = rw (quiet_broken q)
quiet_broken (a_byte q) = rw (quiet_broken q)
quiet_broken (a_literal p q) = rw (quiet_broken q)

quiet_field : (v : Pairs) {c : Cell} {r : Row} → Quiet (c ∷ r) → fields_of_row v (c ∷ r) ≡ (c ∷ r) ∷ []
unfolding fields_of_row split_parts
quiet_field v q = rw (quiet_broken q, quiet_split (ifs_now v) q)

-- no bracket class, nothing active
pub quiet_class : {r : Row} → Quiet r → has_class true 0 (signs r) ≡ false
unfolding has_class signs
quiet_class no_units = refl
quiet_class (a_mark q) = quiet_class q
quiet_class (a_byte q) = quiet_class q
quiet_class (a_literal p q) = rw p.bracket (quiet_class q)

pub quiet_active : {r : Row} → Quiet r → active (elements true 0 (signs r)) ≡ false
unfolding active elements signs
quiet_active no_units = refl
quiet_active (a_mark q) = quiet_active q
quiet_active (a_byte q) = quiet_active q
quiet_active (a_literal p q) = rw (p.star, p.one, p.bracket) (quiet_active q)

-- its field is its own bytes
quiet_named : (paths : List Text) {r : Row} → Quiet r → texts_of_fields paths (r ∷ []) ≡ done (bytes r ∷ [])
unfolding texts_of_fields pattern paths_for
quiet_named paths q = rw (quiet_class q, pattern, quiet_active q, paths_for)

pub quiet_fields : (paths : List Text) (v : Pairs) {c : Cell} {r : Row} → Quiet (c ∷ r) → texts_of_fields paths (fields_of_row v (c ∷ r)) ≡ done
    (bytes (c ∷ r) ∷ [])
quiet_fields paths v q = rw (quiet_field v q, quiet_named paths q)
