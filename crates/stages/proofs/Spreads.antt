-- Document 02, E5: what `"$@"` gives, with text before it and behind it. Its row is quiet between its break marks, and each part has an empty mark, so that
-- each is one field of its bytes.
use Prim.Native.Nat.{suc, ◌≤◌}
use native.Mathlib.Omega.{arith}
use mathlib.Core.Path.{◌≡◌, refl, sym, ap, ◌∙◌}
use mathlib.Core.Bool.{false}
use mathlib.Core.List.{List, [], ◌∷◌, ◌++◌, append_assoc, append-nil}
use lib.ListN.{length}
use Rattle.stages.specs.Numbers.{row_limit}
use Rattle.stages.specs.Bytes.{Text, text}
use Rattle.stages.specs.Outcome.{done, done_at, choose}
use Rattle.stages.specs.Images.{Pairs}
use Rattle.stages.specs.Syntax.{apart, Parts, end, quo, lst}
use Rattle.stages.specs.Read.{read_line}
use Rattle.stages.specs.Units.{L, Q, cell, N, B, Row, marked, bytes}
use Rattle.stages.specs.Params.{Lent}
use Rattle.stages.specs.Expand.{gap, between, list_row, of_none, in_quotes, expand}
use Rattle.stages.specs.Split.{drop_white, fields_step, split, ifs_now, longer_part, broken, split_parts, fields_of_row}
use Rattle.stages.specs.Pattern.{pattern}
use Rattle.stages.specs.Paths.{paths_for, texts_of_fields}
use Rattle.stages.specs.Line.{Around, word_fields}
use Rattle.stages.proofs.Rooms.{fit_ok}
use Rattle.stages.proofs.Quiet.{Quiet, no_units, a_mark, a_byte, a_literal, quiet_append, marked_quiet, marked_bytes}
use Rattle.stages.proofs.Quiet.{quiet_broken, quiet_split, quiet_class, quiet_active}
use Rattle.stages.proofs.RoundTrip.{word_steps}

-- ROWS

bytes_append : (r s : Row) → bytes (r ++ s) ≡ bytes r ++ bytes s
unfolding bytes
bytes_append [] s = refl
bytes_append (cell m b ∷ r) s = ap {B = Text} (λ t. b ∷ t) (bytes_append r s)
bytes_append (N ∷ r) s = bytes_append r s
bytes_append (B ∷ r) s = bytes_append r s

-- a break mark behind a row without one
quiet_break : {r : Row} (s : Row) → Quiet r → broken (r ++ B ∷ s) ≡ r ∷ broken s
unfolding broken longer_part
quiet_break s no_units = refl
quiet_break s (a_mark q) = rw (quiet_break s q)
quiet_break s (a_byte q) = rw (quiet_break s q)
quiet_break s (a_literal h q) = rw (quiet_break s q)

-- FIELDS

-- a quiet row with an empty mark in it is one field
marked_split : (ifs : Text) (r s : Row) → Quiet (r ++ N ∷ s) → split ifs (r ++ N ∷ s) ≡ (r ++ N ∷ s) ∷ []
marked_split ifs [] s q = quiet_split ifs q
marked_split ifs (c ∷ r) s q = quiet_split ifs q

fields_last : (v : Pairs) (r s : Row) → Quiet (r ++ N ∷ s) → fields_of_row v (r ++ N ∷ s) ≡ (r ++ N ∷ s) ∷ []
unfolding fields_of_row split_parts
fields_last v r s q = rw (quiet_broken q, marked_split (ifs_now v) r s q)

fields_next : (v : Pairs) (r s u : Row) → Quiet (r ++ N ∷ s) → fields_of_row v ((r ++ N ∷ s) ++ B ∷ u) ≡ (r ++ N ∷ s) ∷ fields_of_row v u
unfolding fields_of_row split_parts
fields_next v r s u q = rw (quiet_break u q, marked_split (ifs_now v) r s q)

texts_next : (paths : List Text) {r : Row} (rs : List Row) (l : List Text) → Quiet r → texts_of_fields paths rs ≡ done l
    → texts_of_fields paths (r ∷ rs) ≡ done (bytes r ∷ l)
unfolding texts_of_fields pattern paths_for
texts_next paths rs l q e = rw (quiet_class q, pattern, e, quiet_active q, paths_for)

-- WHAT `"$@"` GIVES

-- parameters, with a text joined to the first and one to the last
abbrev pub framed : Text → Text → List Text → Text → List Text
framed p t [] s = (p ++ (t ++ s)) ∷ []
framed p t (u ∷ l) s = (p ++ t) ∷ framed [] u l s

-- the row that `"$@"` of these parameters is, behind its first empty mark
abbrev listed : Text → List Text → Row
listed t l = between (B ∷ N ∷ []) Q (t ∷ l)

module _ (paths : List Text) (v : Pairs) (s : Row) (q : Quiet s) where
  one_row : (p : Row) (t : Text) → bytes (p ++ N ∷ (marked Q t ++ s)) ≡ bytes p ++ (t ++ bytes s)
  unfolding bytes
  one_row p t = bytes_append p (N ∷ (marked Q t ++ s)) ∙ ap {B = Text} (λ u. bytes p ++ u) (bytes_append (marked Q t) s ∙ rw (marked_bytes Q t))

  first_row : (p : Row) (t : Text) → bytes (p ++ N ∷ marked Q t) ≡ bytes p ++ t
  unfolding bytes
  first_row p t = bytes_append p (N ∷ marked Q t) ∙ rw (marked_bytes Q t)

  row_parted : (p : Row) (t u : Text) (l : List Text) → p ++ N ∷ (listed t (u ∷ l) ++ s) ≡ (p ++ N ∷ marked Q t) ++ B ∷ (N ∷ (listed u l ++ s))
  unfolding between
  row_parted p t u l =
      ap {B = Row} (λ r. p ++ N ∷ r) (append_assoc (marked Q t) (B ∷ N ∷ listed u l) s)
      ∙ sym (append_assoc p (N ∷ marked Q t) (B ∷ (N ∷ (listed u l ++ s))))

  -- "`"$@"` gives each parameter as its own field, text before joined to the first and text after to the last"
  pub each_own : (p : Row) → Quiet p → (t : Text) (l : List Text)
      → texts_of_fields paths (fields_of_row v (p ++ N ∷ (listed t l ++ s))) ≡ done (framed (bytes p) t l (bytes s))
  unfolding between bytes
  each_own p h t [] =
      let k : Quiet (p ++ N ∷ (marked Q t ++ s)) = quiet_append h (a_mark (quiet_append (marked_quiet t) q)) in
      ap (texts_of_fields paths) (fields_last v p (marked Q t ++ s) k)
      ∙ texts_next paths [] [] k (unfold texts_of_fields in refl) ∙ ap (λ (u : Text). done (u ∷ [])) (one_row p t)
  each_own p h t (u ∷ l) =
      let k : Quiet (p ++ N ∷ marked Q t) = quiet_append h (a_mark (marked_quiet t)) in
      ap (λ r. texts_of_fields paths (fields_of_row v r)) (row_parted p t u l)
      ∙ ap (texts_of_fields paths) (fields_next v p (marked Q t) (N ∷ (listed u l ++ s)) k)
      ∙ texts_next paths (fields_of_row v (N ∷ (listed u l ++ s))) (framed [] u l (bytes s)) k (each_own [] no_units u l)
      ∙ ap (λ (w : Text). done (w ∷ framed [] u l (bytes s))) (first_row p t)

framed_plain : (t : Text) (l : List Text) → framed [] t l [] ≡ t ∷ l
framed_plain t [] = ap {B = List Text} (λ u. u ∷ []) (append-nil t)
framed_plain t (u ∷ l) = ap {B = List Text} (λ m. t ∷ m) (framed_plain u l)

-- THE WORD `"$@"`

abbrev pub word_at : Parts
word_at = quo (lst apart end) end

at_reads : read_line (text "\"$@\"") ≡ done_at (record { place = 0; parts = word_at } ∷ [])
unfolding read_line choose
at_reads = refl

-- its row: "if there are none and nothing else came of those quotes, they give no field, not even an empty mark"
none_row : (a : Lent) (v : Pairs) → a.params ≡ [] → expand a word_at L 0 v ≡ done ([], v, false)
unfolding expand list_row between of_none in_quotes
none_row a v e = rw e

some_row : (a : Lent) (v : Pairs) (t : Text) (l : List Text) → a.params ≡ t ∷ l → suc (length (listed t l)) ≤ row_limit
    → expand a word_at L 0 v ≡ done ([] ++ N ∷ (listed t l ++ []), v, false)
unfolding expand list_row gap of_none in_quotes
some_row a v t l e h = rw (e, fit_ok 1 (length (listed t l)) (omega arith), append-nil (listed t l ++ []))

no_fields : (paths : List Text) (v : Pairs) → texts_of_fields paths (fields_of_row v []) ≡ done []
unfolding texts_of_fields fields_of_row split_parts broken split drop_white fields_step
no_fields paths v = refl

-- under any tables the word gives exactly the parameters, of none no field
pub at_gives : (a : Around) (v : Pairs) (l : List Text) → a.lent.params ≡ l → suc (length (between (B ∷ N ∷ []) Q l)) ≤ row_limit
    → word_fields a word_at v ≡ done (l, v)
unfolding bytes
at_gives a v [] e h = word_steps a word_at v v [] [] (none_row a.lent v e) (no_fields a.paths v)
at_gives a v (t ∷ l) e h =
    word_steps a word_at v v ([] ++ N ∷ (listed t l ++ [])) (t ∷ l) (some_row a.lent v t l e h)
    (each_own a.paths v [] no_units [] no_units t l ∙ ap (λ (m : List Text). done m) (framed_plain t l))
