-- Fields taken from the front of those of a row, one or all of a part at a time: behind each step the stage's answer is that of the fields that are
-- left, the texts so far in front of it.
use Prim.Native.Nat.{ℕ, ◌+◌, ◌≤◌, ◌<◌}
use native.Mathlib.Omega.{arith}
use mathlib.Core.Path.{◌≡◌, refl, sym, ap, ◌∙◌}
use mathlib.Core.Bool.{Bool, true, false}
use mathlib.Core.List.{List, [], ◌∷◌, ◌++◌, append_assoc, append-nil}
use lib.ListN.{length}
use Rattle.stages.specs.Bytes.{Text}
use Rattle.stages.specs.Outcome.{Outcome, refused, demands, done, ◌>>=◌}
use Rattle.stages.specs.Images.{record_bytes}
use Rattle.stages.specs.Units.{Row}
use Rattle.stages.specs.Pattern.{Element, for_paths, pattern}
use Rattle.stages.specs.Paths.{paths_for, texts_of_fields}
use Rattle.stages.proofs.Images.{record_bytes_append}
use Rattle.split_field.specs.Answers.{Says, class, no_room}
use Rattle.split_field.specs.Fields.{field_texts}
use Rattle.std.specs.Prelude.{Result, Ok, Err}
use Rattle.split_field.specs.declared.WriteError.{WriteError}
use Rattle.split_field.specs.declared.WriteError.TheVariants.{BadClass, NoRoom}
use Rattle.split_field.proofs.Filling.{Filled, filled_start, filled_then, Given, Lacks, says_len, says_class, says_full, says_filled}

-- texts in front of those that an outcome gives
abbrev pub in_front : List Text → Outcome (List Text) → Outcome (List Text)
in_front a o = o >>= λ l. done (a ++ l)

-- what the first fields give decides, then the others
abbrev pub first_then : Outcome (List Text) → Outcome (List Text) → Outcome (List Text)
first_then o p = o >>= λ a. in_front a p

in_front_lem : (o : Outcome (List Text)) → o ≡ in_front [] o
in_front_lem (refused n) = refl
in_front_lem (demands t) = refl
in_front_lem (done l) = refl

joined : (a b : List Text) (o : Outcome (List Text)) → in_front a (in_front b o) ≡ in_front (a ++ b) o
joined a b (refused n) = refl
joined a b (demands t) = refl
joined a b (done l) = ap done (sym (append_assoc a b l))

then_first : (a : List Text) (o p : Outcome (List Text)) → in_front a (first_then o p) ≡ first_then (in_front a o) p
then_first a (refused n) p = refl
then_first a (demands t) p = refl
then_first a (done b) p = joined a b p

module _ (paths : List Text) where
  -- the first field ..
  pub texts_field : (r : Row) (rs : List Row) → texts_of_fields paths (r ∷ rs) ≡ first_then (field_texts paths r) (texts_of_fields paths rs)
  unfolding texts_of_fields field_texts
  texts_field r rs = go (pattern for_paths r)
    where
      go : (o : Outcome (List Element)) → (o >>= λ p. in_front (paths_for paths r p) (texts_of_fields paths rs)) ≡ first_then
          (o >>= λ p. done (paths_for paths r p)) (texts_of_fields paths rs)
      go (refused n) = refl
      go (demands t) = refl
      go (done p) = refl

  -- .. or the first ones
  pub texts_append : (rs ss : List Row) → texts_of_fields paths (rs ++ ss) ≡ first_then (texts_of_fields paths rs) (texts_of_fields paths ss)
  unfolding texts_of_fields
  texts_append [] ss = in_front_lem (texts_of_fields paths ss)
  texts_append (r ∷ rs) ss = go (pattern for_paths r) (texts_append rs ss)
    where
      go : (o : Outcome (List Element)) → texts_of_fields paths (rs ++ ss) ≡ first_then (texts_of_fields paths rs) (texts_of_fields paths ss)
          → (o >>= λ p. in_front (paths_for paths r p) (texts_of_fields paths (rs ++ ss))) ≡ first_then
          (o >>= λ p. in_front (paths_for paths r p) (texts_of_fields paths rs)) (texts_of_fields paths ss)
      go (refused n) e = refl
      go (demands t) e = refl
      go (done p) e = ap (in_front (paths_for paths r p)) e ∙ then_first (paths_for paths r p) (texts_of_fields paths rs) (texts_of_fields paths ss)

-- the texts so far are written, or they are too long
pub data State (used : ℕ) (old : Text) (l : List Text) (n : ℕ) (out : Text) : Bool → Type 0 where
  fitting : Filled used old l n out → State used old l n out false
  exceeding : length old < used + record_bytes l → State used old l n out true

-- o is answered, and these fields are left
pub record Taking (paths : List Text) (o : Outcome (List Text)) (used : ℕ) (old : Text) (fields : List Row) (n : ℕ) (full : Bool) (out : Text)
    : Type 0 where
  pub texts : List Text
  pub whole : o ≡ in_front texts (texts_of_fields paths fields)
  pub room : n ≤ length old
  pub same : length out ≡ length old
  pub state : State used old texts n out full

pub taking_start : (paths : List Text) (fields : List Row) (used : ℕ) (old : Text) → used ≤ length old → Taking paths (texts_of_fields paths fields) used old
    fields used false old
taking_start paths fields used old h = record {
  texts = [];
  whole = in_front_lem (texts_of_fields paths fields);
  room = h;
  same = refl;
  state = fitting (filled_start used old h);
}

-- the same fields, said otherwise
pub taking_same : {paths : List Text} {o : Outcome (List Text)} {used : ℕ} {old : Text} {fields others : List Row} {n : ℕ} {full : Bool} {out : Text}
    → fields ≡ others → Taking paths o used old fields n full out → Taking paths o used old others n full out
taking_same e w = rw (← e) w

filled_of : {used : ℕ} {old : Text} {l : List Text} {n : ℕ} {out : Text} → State used old l n out false → Filled used old l n out
filled_of (fitting f) = f

exceeds_of : {used : ℕ} {old : Text} {l : List Text} {n : ℕ} {out : Text} → State used old l n out true → length old < used + record_bytes l
exceeds_of (exceeding h) = h

module _ {paths : List Text} {o : Outcome (List Text)} {used : ℕ} {old : Text} {fields : List Row} {n : ℕ} {full : Bool} {out : Text}
    (w : Taking paths o used old fields n full out) where
  is_filled : full ≡ false → Filled used old w.texts n out
  is_filled e = filled_of (rw e at w.state)

  is_over : full ≡ true → length old < used + record_bytes w.texts
  is_over e = exceeds_of (rw e at w.state)

  -- no field is left
  module _ (none : fields ≡ []) where
    over : o ≡ done w.texts
    unfolding texts_of_fields
    over = w.whole ∙ ap (λ (rs : List Row). in_front w.texts (texts_of_fields paths rs)) none ∙ ap done (append-nil w.texts)

    pub taking_full : full ≡ true → {left : Text} → Says o used old left (Err NoRoom)
    taking_full e = no_room w.texts over (is_over e)

    pub taking_fits : full ≡ false → Says o used old out (Ok n)
    taking_fits e = says_filled over (is_filled e)

  -- the first fields, which give x, were answered with r; the rest is left
  module _ {x : Outcome (List Text)} (rest : List Row) {after : Text} {r : Result ℕ WriteError}
      (cut : texts_of_fields paths fields ≡ first_then x (texts_of_fields paths rest)) (says : Says x n out after r) (kept : length after ≡ length out) where
    step : o ≡ in_front w.texts (first_then x (texts_of_fields paths rest))
    step = w.whole ∙ ap (in_front w.texts) cut

    pub taking_class : r ≡ Err BadClass → {left : Text} → Says o used old left (Err BadClass)
    taking_class e = class (step ∙ ap (λ (y : Outcome (List Text)). in_front w.texts (first_then y (texts_of_fields paths rest))) (says_class says e))

    -- with their texts, written or not
    moved : (a : List Text) → x ≡ done a → {m : ℕ} → m ≤ length old → {y : Bool} → State used old (w.texts ++ a) m after y
        → Taking paths o used old rest m y after
    moved a e h s = record {
      texts = w.texts ++ a;
      whole =
          step
          ∙ ap (λ (y : Outcome (List Text)). in_front w.texts (first_then y (texts_of_fields paths rest))) e
          ∙ joined w.texts a (texts_of_fields paths rest);
      room = h;
      same = kept ∙ w.same;
      state = s;
    }

    longer : (a : List Text) → length old < used + record_bytes w.texts → length old < used + record_bytes (w.texts ++ a)
    longer a h = omega (arith, h, record_bytes_append w.texts a)

    -- they fit; earlier ones may not have
    pub taking_on : {m : ℕ} → r ≡ Ok m → Taking paths o used old rest m full after
    taking_on {m} e =
        let d : Given x n out after m = says_len says e in
        moved d.texts d.gives (omega (arith, d.filled.room, w.same)) (by_state d w.state)
      where
        by_state : (d : Given x n out after m) → {y : Bool} → State used old w.texts n out y → State used old (w.texts ++ d.texts) m after y
        by_state d (fitting f) = fitting (filled_then f d.filled)
        by_state d (exceeding h) = exceeding (longer d.texts h)

    -- they do not fit
    pub taking_over : r ≡ Err NoRoom → Taking paths o used old rest n true after
    taking_over e =
        let d : Lacks x n out = says_full says e in
        moved d.texts d.gives w.room (exceeding (by_state d w.state))
      where
        by_state : (d : Lacks x n out) → {y : Bool} → State used old w.texts n out y → length old < used + record_bytes (w.texts ++ d.texts)
        by_state d (fitting f) = omega (arith, f.long, d.short, w.same, record_bytes_append w.texts d.texts)
        by_state d (exceeding h) = longer d.texts h
