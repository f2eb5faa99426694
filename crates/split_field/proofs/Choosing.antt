-- One field to its texts: the matching paths are written one by one as the walk over their image meets them; if it meets none, nothing was written,
-- and the field's own bytes are. A class refuses the field before all that.
use Prim.Native.Nat.{ℕ, zero, suc, ◌+◌, ◌≤◌, ◌<◌}
use native.Mathlib.Omega.{arith}
use mathlib.Core.Path.{◌≡◌, refl, sym, ap, ◌∙◌}
use mathlib.Core.Bool.{Bool, true, false}
use mathlib.Core.List.{List, [], ◌∷◌, ◌++◌, append_assoc, append-nil}
use lib.ListN.{length, take}
use Rattle.stages.specs.Bytes.{Text, part}
use Rattle.stages.specs.Outcome.{Outcome, refused, demands, done, ◌>>=◌}
use Rattle.stages.specs.Images.{written, record_bytes, held_texts}
use Rattle.stages.specs.Units.{Row, bytes}
use Rattle.stages.specs.Pattern.{Element, elements, has_class, for_paths, pattern}
use Rattle.stages.specs.Paths.{chosen, active, paths_for}
use Rattle.stages.proofs.Images.{record_bytes_append}
use Rattle.stages.proofs.Outcomes.{done_same}
use Rattle.text.specs.Rows.{row_of, signs_of}
use Rattle.pattern_row.specs.Kept.{kept, NoEmpty, Dropped}
use Rattle.pattern_row.specs.Plain.{plain}
use Rattle.pattern_row.proofs.Keeping.{kept_bytes, kept_full, kept_pattern, full_refused, full_done, dropped_front}
use Rattle.pattern_row.proofs.Plain.{plain_served, plain_still, plain_kept}
use Rattle.table.specs.Pieces.{texts_from}
use Rattle.pattern_paths.specs.Chosen.{Walks, Tells, nothing, path, NextSays}
use Rattle.std.specs.Prelude.{Option, Some, None}
use Rattle.table.specs.declared.Part.{Part}
use Rattle.pattern_paths.proofs.Walking.{walks_first}
use Rattle.table_store.specs.Splice.{placed}
use Rattle.split_field.specs.Answers.{Says, class, no_room}
use Rattle.table.specs.Places.{Listed}
use Rattle.split_field.specs.Fields.{field_texts}
use Rattle.std.specs.Prelude.{Result, Ok, Err}
use Rattle.split_field.specs.declared.WriteError.{WriteError}
use Rattle.split_field.specs.declared.WriteError.TheVariants.{BadClass, NoRoom}
use Rattle.split_field.proofs.Placing.{placed_none}
use Rattle.split_field.proofs.Filling.{Filled, filled_start, filled_length, filled_then, Given, Lacks, says_len, says_full, says_filled}

-- `put_paths`

-- what the search for the next path found
pub record Found (p : List Element) (t : Text) (at from to : ℕ) : Type 0 where
  pub further : at < to
  pub low : from ≤ to
  pub high : to ≤ length t
  pub walks : Walks t to
  pub chooses : chosen p (texts_from t at) ≡ part t from to ∷ chosen p (texts_from t to)

found_of : {p : List Element} {t : Text} {at : ℕ} {r : Part} → Tells p t at (Some r) → Found p t at r.from r.to
found_of (path a l h w e) = record { further = omega arith; low = l; high = h; walks = w; chooses = e }

nothing_of : {p : List Element} {t : Text} {at : ℕ} → Tells p t at None → chosen p (texts_from t at) ≡ []
nothing_of (nothing e) = e

pub is_path_lem : {p : List Element} {t : Text} {at : ℕ} {r : Option Part} → NextSays p t at r → {q : Part} → r ≡ Some q → Found p t at q.from q.to
is_path_lem s e = found_of (rw e at s.tells)

-- the paths met are written
pub record Choosing (p : List Element) (t : Text) (used : ℕ) (old : Text) (at n : ℕ) (out : Text) : Type 0 where
  pub texts : List Text
  pub walks : Walks t at
  pub whole : chosen p (held_texts t) ≡ texts ++ chosen p (texts_from t at)
  pub filled : Filled used old texts n out

pub choosing_start : (p : List Element) (t : Text) (used : ℕ) (old : Text) → Listed t → used ≤ length old → Choosing p t used old 1 used old
choosing_start p t used old e h =
    let w : Walks t 1 × (texts_from t 1 ≡ held_texts t) = walks_first t (held_texts t) e in
    record { texts = []; walks = w.0; whole = ap (λ (l : List Text). chosen p l) (sym w.1); filled = filled_start used old h }

module _ {p : List Element} {t : Text} {used : ℕ} {old : Text} {at n : ℕ} {out : Text} (g : Choosing p t used old at n out) where
  abbrev all : List Text
  all = chosen p (held_texts t)

  abbrev left : ℕ → List Text
  left k = chosen p (texts_from t k)

  pub choosing_end : {r : Option Part} → NextSays p t at r → r ≡ None → Says (done all) used old out (Ok n)
  choosing_end s e =
      let none : left at ≡ [] = nothing_of (rw e at s.tells) in
      says_filled (ap done (g.whole ∙ ap (λ (l : List Text). g.texts ++ l) none ∙ append-nil g.texts)) g.filled

  module _ {from to : ℕ} (f : Found p t at from to) where
    split : all ≡ (g.texts ++ (part t from to ∷ [])) ++ left to
    split = g.whole ∙ ap (λ (l : List Text). g.texts ++ l) f.chooses ∙ sym (append_assoc g.texts (part t from to ∷ []) (left to))

    module _ {after : Text} {r : Result ℕ WriteError} (s : Says (done (part t from to ∷ [])) n out after r) where
      pub choosing_on : {m : ℕ} → r ≡ Ok m → Choosing p t used old to m after
      choosing_on {m} e =
          let d : Given (done (part t from to ∷ [])) n out after m = says_len s e in
          let k : part t from to ∷ [] ≡ d.texts = done_same d.gives in
          record {
            texts = g.texts ++ (part t from to ∷ []);
            walks = f.walks;
            whole = split;
            filled = filled_then g.filled (rw k d.filled);
          }

      pub choosing_full : r ≡ Err NoRoom → Says (done all) used old after (Err NoRoom)
      unfolding record_bytes
      choosing_full e =
          let d : Lacks (done (part t from to ∷ [])) n out = says_full s e in
          let k : record_bytes (part t from to ∷ []) ≡ record_bytes d.texts = ap record_bytes (done_same d.gives) in
          let c : record_bytes all ≡ record_bytes (g.texts ++ (part t from to ∷ [])) + record_bytes (left to) =
          ap record_bytes split ∙ record_bytes_append (g.texts ++ (part t from to ∷ [])) (left to) in
          let b : record_bytes (g.texts ++ (part t from to ∷ [])) ≡ record_bytes g.texts + record_bytes (part t from to ∷ []) =
          record_bytes_append g.texts (part t from to ∷ []) in
          no_room all refl (omega (arith, d.short, k, c, b, g.filled.long, filled_length g.filled))

-- `put_paths_or_own`: the field's units are its pattern

module _ (paths : List Text) (r : Row) (p : List Element) where
  pub paths_own : active p ≡ false → paths_for paths r p ≡ bytes r ∷ []
  unfolding paths_for
  paths_own e = rw (e, paths_for)

  module _ (e : active p ≡ true) where
    paths_none : chosen p paths ≡ [] → paths_for paths r p ≡ bytes r ∷ []
    unfolding paths_for
    paths_none n = rw (e, paths_for, n)

    paths_some : (l : List Text) → chosen p paths ≡ l → 0 < length l → paths_for paths r p ≡ l
    unfolding paths_for
    paths_some [] n h = absurd (omega arith)
    paths_some (t ∷ l) n h = rw (e, paths_for, n)

no_bytes : (l : List Text) → record_bytes l ≡ 0 → l ≡ []
unfolding record_bytes
no_bytes [] e = refl
no_bytes (t ∷ l) e = absurd (omega arith)

some_bytes : (l : List Text) → 0 < record_bytes l → 0 < length l
unfolding record_bytes
some_bytes [] h = h
some_bytes (t ∷ l) h = omega arith

module _ (paths : List Text) (r : Row) (p : List Element) {used : ℕ} {old after : Text} where
  pub own_only : active p ≡ false → {w : Result ℕ WriteError} → Says (done (bytes r ∷ [])) used old after w → Says (done (paths_for paths r p)) used old after w
  own_only e s = rw (paths_own paths r p e) s

  module _ (e : active p ≡ true) {w : Result ℕ WriteError} (s : Says (done (chosen p paths)) used old after w) where
    -- nothing was written
    module _ (l : w ≡ Ok used) where
      d : Given (done (chosen p paths)) used old after used
      d = says_len s l

      none : chosen p paths ≡ []
      none = done_same d.gives ∙ no_bytes d.texts (omega (arith, d.filled.long))

      untouched : after ≡ old
      unfolding written
      untouched = d.filled.is ∙ ap (λ (l : List Text). placed used (written l) old) (sym (done_same d.gives) ∙ none) ∙ placed_none used old

      pub own_instead : {last : Text} {v : Result ℕ WriteError} → Says (done (bytes r ∷ [])) used after last v
          → Says (done (paths_for paths r p)) used old last v
      own_instead t = rw (paths_none paths r p e none, ← untouched) t

    pub paths_written : {n : ℕ} → w ≡ Ok n → (n ≡ used → ⊥) → Says (done (paths_for paths r p)) used old after (Ok n)
    paths_written {n} l k =
        let d : Given (done (chosen p paths)) used old after n = says_len s l in
        let c : chosen p paths ≡ d.texts = done_same d.gives in
        let h : record_bytes d.texts ≡ 0 → ⊥ = λ z. k (omega (arith, d.filled.long)) in
        says_filled (ap done (paths_some paths r p e d.texts c (some_bytes d.texts (positive (record_bytes d.texts) h)))) d.filled
      where
        positive : (x : ℕ) → (x ≡ 0 → ⊥) → 0 < x
        positive zero h = absurd (h refl)
        positive (suc x) h = omega arith

    pub paths_full : used ≤ length old → w ≡ Err NoRoom → Says (done (paths_for paths r p)) used old after (Err NoRoom)
    paths_full u l =
        let d : Lacks (done (chosen p paths)) used old = says_full s l in
        no_room d.texts (ap done (paths_some paths r p e d.texts (done_same d.gives) (some_bytes d.texts (omega (arith, d.short))))) d.short

-- a field that is settled: what is looked at has no N, so patterns see each of its units

module _ (paths : List Text) {field : Text} (f : NoEmpty field) {used : ℕ} {old after : Text} where
  pub settled_class : has_class true 0 (signs_of field) ≡ true → Says (field_texts paths (row_of field)) used old after (Err BadClass)
  unfolding field_texts
  settled_class y = class (rw (full_refused for_paths f y))

  pub settled_texts : has_class true 0 (signs_of field) ≡ false → {r : Result ℕ WriteError}
      → Says (done (paths_for paths (row_of field) (elements true 0 (signs_of field)))) used old after r →
      Says (field_texts paths (row_of field)) used old after r
  unfolding field_texts
  settled_texts n s = rw (full_done for_paths f n) s

  -- among the signs of a plain one is none that is special
  plain_full : plain field ≡ true → {r : Result ℕ WriteError} → Says (done (bytes (row_of field) ∷ [])) used old after r
      → Says (field_texts paths (row_of field)) used old after r
  plain_full e s =
      settled_texts (plain_served true field e)
      (own_only paths (row_of field) (elements true 0 (signs_of field)) (plain_still true field e) s)

-- `put_pattern`: a try that touched nothing is as none

-- `put_field`: N vanishes, which neither patterns nor a field's bytes see

paths_bytes : (paths : List Text) (p : List Element) (r s : Row) → bytes r ≡ bytes s → paths_for paths r p ≡ paths_for paths s p
unfolding paths_for
paths_bytes paths p r s e = go (active p) refl
  where
    go : (x : Bool) → active p ≡ x → paths_for paths r p ≡ paths_for paths s p
    go true q = rw (q, paths_for, e)
    go false q = rw (q, paths_for, e)

module _ (paths : List Text) (field : Text) where
  texts_of_lem : (o : Outcome (List Element)) →
      (o >>= λ p. done (paths_for paths (row_of (kept field)) p)) ≡ (o >>= λ p. done (paths_for paths (row_of field) p))
  texts_of_lem (refused e) = refl
  texts_of_lem (demands t) = refl
  texts_of_lem (done p) = ap done (paths_bytes paths p (row_of (kept field)) (row_of field) (kept_bytes field))

  same_texts : field_texts paths (row_of (kept field)) ≡ field_texts paths (row_of field)
  unfolding field_texts
  same_texts = rw (kept_pattern for_paths field) (texts_of_lem (pattern for_paths (row_of field)))

  -- a plain field is plain without its N
  pub plain_own : plain field ≡ true → {used : ℕ} {old after : Text} {r : Result ℕ WriteError} → Says (done (bytes (row_of field) ∷ [])) used old after r
      → Says (field_texts paths (row_of field)) used old after r
  plain_own e s = rw (← same_texts) (plain_full paths (kept_full field) (plain_kept field e) (rw (kept_bytes field) s))

module _ (paths : List Text) {field row : Text} {n : ℕ} (d : Dropped field row n) where
  pub dropped_says : {used : ℕ} {old after : Text} {r : Result ℕ WriteError} → Says (field_texts paths (row_of (take n row))) used old after r
      → Says (field_texts paths (row_of field)) used old after r
  dropped_says s = rw (← same_texts paths field, ← dropped_front d) s

  pub dropped_full : NoEmpty (take n row)
  dropped_full = rw (dropped_front d) (kept_full field)
