-- The walk over quiet units; and what a row of them becomes: the one field of its bytes, whatever IFS and the paths are.
use Prim.Native.Nat.{ℕ, zero, suc, ◌*◌, ◌/◌, ◌+◌, ◌≤◌, ◌<◌}
use native.Mathlib.Omega.{arith}
use mathlib.Core.Path.{◌≡◌, refl, ap, ◌∙◌}
use mathlib.Core.Bool.{Bool, true, false, ◌&&◌, not}
use mathlib.Core.List.{List, [], ◌∷◌}
use lib.Dec.{eqb}
use lib.ListN.{length, get_or}
use borrow.Author.Tests.{not-true}
use Rattle.std.specs.List.{list_all}
use Rattle.std.specs.Simd.{first_chunks}
use Rattle.stages.specs.Bytes.{Text, text, is_in}
use Rattle.stages.specs.Outcome.{done, pick}
use Rattle.stages.specs.Images.{Pairs}
use Rattle.stages.specs.Units.{L, E, Q, cell, N, B, Row, bytes}
use Rattle.stages.specs.Split.{fields_of_row}
use Rattle.stages.specs.Paths.{texts_of_fields}
use Rattle.stages.proofs.Bools.{and_left, and_right}
use Rattle.stages.proofs.Quiet.{Quiet, no_units, a_mark, a_byte, a_literal, dull_byte, quiet_fields}
use Rattle.text.specs.Rows.{unit_of, row_of}
use Rattle.split_field.specs.Answers.{Says, Puts}
use Rattle.std.specs.Prelude.{Result}
use Rattle.split_field.specs.declared.WriteError.{WriteError}
use Rattle.split_field.proofs.Placing.{puts_says}
use Rattle.split_row.specs.Quiet.{quiet_unit, quiet}

-- `is_quiet`

-- a unit in two bytes
abbrev pub is_quiet_chunk : List ℕ → Bool
is_quiet_chunk u = quiet_unit (get_or u 0 0) (get_or u 1 0)

quiet_chunks : (n : ℕ) (t : Text) → 2 * n ≤ length t → length t ≤ 2 * n + 1 → list_all is_quiet_chunk (first_chunks 2 n t) ≡ quiet t
unfolding quiet
quiet_chunks zero [] h l = refl
quiet_chunks zero (b ∷ []) h l = refl
quiet_chunks zero (b ∷ m ∷ t) h l = absurd (omega arith)
quiet_chunks (suc n) [] h l = absurd (omega arith)
quiet_chunks (suc n) (b ∷ []) h l = absurd (omega arith)
quiet_chunks (suc n) (b ∷ m ∷ t) h l = ap (λ (x : Bool). quiet_unit b m && x) (quiet_chunks n t (omega arith) (omega arith))

pub quiet_all : {n : ℕ} (t : Text) {us : List (List ℕ)} {r : Bool} → us ≡ first_chunks n (length t / n) t → n ≡ 2 → r ≡ list_all is_quiet_chunk us → r ≡ quiet t
quiet_all {n} t e two f =
    f ∙ ap (list_all is_quiet_chunk) (e ∙ ap (λ (n : ℕ). first_chunks n (length t / n) t) two)
    ∙ quiet_chunks (length t / 2) t (omega arith) (omega arith)

-- a quiet row

unit_row : (b m : ℕ) (r : Row) → quiet_unit b m ≡ true → Quiet r → Quiet (unit_of b m ∷ r)
unfolding quiet_unit unit_of
unit_row b m r e q = go (eqb m 1) (eqb m 2) (eqb m 3) (eqb m 4) e
  where
    go : (x y z w : Bool) → pick x (not (is_in b (text "*?["))) (pick y false (pick z true (not w))) ≡ true
        → Quiet (pick x (cell L b) (pick y (cell E b) (pick z (cell Q b) (pick w B N))) ∷ r)
    go true y z w e = a_literal (dull_byte b (not-true (is_in b (text "*?[")) e)) q
    go false true z w e = absurd (let n : ◌≡◌ {A = ℕ} 0 1 = cc in omega arith)
    go false false true w e = a_byte q
    go false false false true e = absurd (let n : ◌≡◌ {A = ℕ} 0 1 = cc in omega arith)
    go false false false false e = a_mark q

quiet_row : (t : Text) → quiet t ≡ true → Quiet (row_of t)
unfolding quiet row_of
quiet_row [] e = no_units
quiet_row (b ∷ []) e = no_units
quiet_row (b ∷ m ∷ t) e = unit_row b m (row_of t) (and_left (quiet_unit b m) (quiet t) e) (quiet_row t (and_right (quiet_unit b m) (quiet t) e))

quiet_texts : (paths : List Text) (v : Pairs) (t : Text) → 1 < length t → quiet t ≡ true
    → texts_of_fields paths (fields_of_row v (row_of t)) ≡ done (bytes (row_of t) ∷ [])
unfolding row_of
quiet_texts paths v [] h e = absurd (omega arith)
quiet_texts paths v (b ∷ []) h e = absurd (omega arith)
quiet_texts paths v (b ∷ m ∷ t) h e = quiet_fields paths v (quiet_row (b ∷ m ∷ t) e)

pub quiet_puts : (paths : List Text) (v : Pairs) (t : Text) → 1 < length t → quiet t ≡ true → {used : ℕ} {old left : Text} {w : Result ℕ WriteError}
    → Says (done (bytes (row_of t) ∷ [])) used old left w → Puts (texts_of_fields paths (fields_of_row v (row_of t))) used old left w
quiet_puts paths v t h e s = puts_says (rw (quiet_texts paths v t h e) s)
