-- Entering a record, and a line: each way of the code is one of the definition's.
use Prim.Native.Nat.{ℕ, suc, ◌+◌, ◌-◌, ◌≤◌, ◌<◌}
use native.Mathlib.Omega.{arith}
use native.Mathlib.Numerals.{add-one}
use mathlib.Core.Path.{◌≡◌, refl, sym, ap, subst, ◌∙◌}
use mathlib.Core.Bool.{Bool, true, false}
use mathlib.Core.List.{List, [], ◌∷◌}
use mathlib.Core.Option.{none, some}
use lib.Dec.{leb}
use lib.ListN.{length, take, drop, length-drop, length-append}
use lib.Seq.{take_at, take_all, length-take-le}
use borrow.Author.Tests.{le-leb, lt-leb}
use Rattle.stages.specs.Numbers.{image_limit, paths_limit}
use Rattle.stages.specs.Bytes.{Text, eq_text, lt_text}
use Rattle.stages.specs.Outcome.{Outcome, refused, demands, done, pick}
use Rattle.stages.specs.Images.{Pairs, image, image_length, flat, lookup, stored, held, held_texts}
use Rattle.stages.specs.Call.{over}
use Rattle.stages.specs.Updates as update
use Rattle.stages.proofs.Bools.{no, and_both, either}
use Rattle.stages.proofs.Stores.{lookup_here, lookup_later, store_before, store_later}
use Rattle.stages.proofs.PathLists.{added_before, added_later, there_here, there_later, not_there}
use Rattle.table.specs.Kinds.{key_fits, in_twos}
use Rattle.table.specs.Places.{Looked}
use Rattle.table.specs.declared.Kind.{Kind}
use Rattle.table.specs.declared.Kind.TheVariants.{Variables, Homes, Paths, Fields}
use Rattle.std.specs.Prelude.{Option, Some, None, Result, Ok, Err}
use Rattle.std.specs.Option.{is_some}
use Rattle.table.specs.declared.Part.{Part}
use Rattle.table.proofs.Finds.{is_shown, is_absent}
use Rattle.table_store.specs.Answers.{stored_outcome, image_in, Writes}
use Rattle.table_store.specs.declared.NoRoom.{NoRoom}
use Rattle.table_store.proofs.Callers.{Grown, store_used, store_full}
use Rattle.table_store.proofs.StoredImages.{store_by}
use Rattle.table_insert.specs.Added.{Adding, twice, full, holds, adding_by, adding, answer_of, left_of, Adds}
use Rattle.table_insert.specs.declared.AddError.{AddError}
use Rattle.tab_escape.specs.Escapes.{Reading, good, read_text, Reads, reads, fails, up_to}
use Rattle.tab_enter.specs.Records.{alone, records_by}
use Rattle.tab_enter.specs.Entries.{Entry, entry, valued, pair_of, path_of, entry_of, fault_of_lem, Step, stop, go, entered_by, entered, Enters, takes, stops}
use Rattle.tab_escape.specs.declared.Fault.{Fault}
use Rattle.tab_escape.specs.declared.Fault.TheVariants.{NoEquals, NoKey, Twice, TooLong}
use Rattle.tab_enter.proofs.Sounds.{keys_alone}

-- `enter`

pub found_twice : {t key : Text} {r : Option Part} → Looked t key r → (w old : Text) → is_some r ≡ true
    → Enters true (entered true (entry key w) (held t)) old old (Err Twice)
unfolding entered
found_twice {r = Some p} s w old e = stops {f = Twice} (rw (is_shown s p refl).gets) refl
found_twice {r = None} s w old e = absurd (no e)

pub found_none : {t key : Text} {r : Option Part} → Looked t key r → is_some r ≡ false → lookup key (held t) ≡ none
found_none {r = Some p} s e = absurd (no (sym e))
found_none {r = None} s e = is_absent s refl

is_done : {A : Type 0} → Outcome A → Bool
is_done (refused k) = false
is_done (demands t) = false
is_done (done a) = true

module _ (key w : Text) (v : Pairs) (old left : Text) (r : Result ℕ NoRoom) (m : lookup key v ≡ none)
    (h : Writes (image_in image_limit key w v) old left (stored_outcome r)) where
  stored_in : (n : ℕ) → r ≡ Ok n → Enters true (entered true (entry key w) v) old left (Ok n)
  unfolding entered
  stored_in n e =
      let g : Grown image_limit key w v old left n = store_used image_limit key w v old left r h n e in
      let s : image_length (flat (stored key w v)) ≤ image_limit = rw (← g.long) g.smaller in
      takes {w = stored key w v} {n = n} (rw (m, le-leb (image_length (flat (stored key w v))) image_limit s)) g.long g.leaves

  too_long : {x : NoRoom} → r ≡ Err x → leb (image_length (flat (stored key w v))) image_limit ≡ false
  unfolding is_done
  too_long e =
      either (leb (image_length (flat (stored key w v))) image_limit)
      (λ d. absurd (no (sym (ap is_done (sym (store_by key w v image_limit true (and_both d d)) ∙ (store_full image_limit key w v old left r h e).0)))))
      (λ d. d)

  full_out : {x : NoRoom} → r ≡ Err x → Enters true (entered true (entry key w) v) old left (Err TooLong)
  unfolding entered
  full_out e = stops {f = TooLong} (rw (m, too_long e)) (store_full image_limit key w v old left r h e).1

abbrev pub stored_as : Result ℕ NoRoom → Result ℕ Fault
stored_as (Ok n) = Ok n
stored_as (Err e) = Err TooLong

pub store_enters : (key w : Text) (v : Pairs) (old left : Text) (r : Result ℕ NoRoom) → lookup key v ≡ none
    → Writes (image_in image_limit key w v) old left (stored_outcome r) → Enters true (entered true (entry key w) v) old left (stored_as r)
store_enters key w v old left (Ok n) m h = stored_in key w v old left (Ok n) m h n refl
store_enters key w v old left (Err e) m h = full_out key w v old left (Err e) m h refl

-- `enter_pair`

-- the `=` of a line stands at e, and a key of the kind before it
pub record Keyed (kind : Kind) (line : Text) (e : ℕ) : Type 0 where
  pub found : e ≡ up_to 61 line
  pub inside : e < length line
  pub fits : key_fits kind [] (take e line) ≡ true

pub keyed : {kind : Kind} {line : Text} {e : ℕ} → e ≡ up_to 61 line → e < length line → key_fits kind [] (take e line) ≡ true → Keyed kind line e
keyed f i k = record { found = f; inside = i; fits = k }

-- and after it n bytes were read
pub record Got (kind : Kind) (line : Text) (e : ℕ) (left : Text) (n : ℕ) : Type 0 where
  pub is : pair_of kind line ≡ entry (take e line) (take n left)
  pub long : n ≤ length left

module _ (kind : Kind) (line : Text) (e : ℕ) (f : e ≡ up_to 61 line) where
  pub no_equals : (v : Pairs) (old : Text) → length line ≤ e → Enters true (entered true (pair_of kind line) v) old old (Err NoEquals)
  unfolding entered pair_of
  no_equals v old h = stops {f = NoEquals} (rw (← f, le-leb (length line) e h)) refl

  pub no_key : e < length line → (v : Pairs) (old : Text) → key_fits kind [] (take e line) ≡ false
      → Enters true (entered true (pair_of kind line) v) old old (Err NoKey)
  unfolding entered pair_of
  no_key h v old k = stops {f = NoKey} (rw (← f, lt-leb (length line) e h, k)) refl

module _ {kind : Kind} {line : Text} {e : ℕ} (k : Keyed kind line e) where
  abbrev rest : Text
  rest = take (length line - (e + 1)) (drop (e + 1) line)

  rest_is : rest ≡ drop (suc e) line
  rest_is =
      take_all (length line - (e + 1)) (drop (e + 1) line) (omega (arith, length-drop (e + 1) line)) ∙ ap (λ (i : ℕ). drop i line) (add-one e)

  entry_is : pair_of kind line ≡ valued (take e line) (read_text rest)
  unfolding pair_of
  entry_is = rw (rest_is, ← k.found, lt-leb (length line) e k.inside, k.fits)

  module _ {area left : Text} {r : Result ℕ Fault} (s : Reads (read_text rest) area left r) where
    pub read_bad : (v : Pairs) (old : Text) (g : Fault) → r ≡ Err g → Enters true (entered true (pair_of kind line) v) old old (Err g)
    unfolding entered
    read_bad v old g q = bad_of (rw q at s)
      where
        bad_of : Reads (read_text rest) area left (Err g) → Enters true (entered true (pair_of kind line) v) old old (Err g)
        bad_of (fails x k) = stops (ap (λ (x : Entry). entered true x v) (entry_is ∙ ap (valued (take e line)) x)) refl

    pub read_good : (n : ℕ) → r ≡ Ok n → Got kind line e left n
    unfolding over
    read_good n q = good_of (rw q at s)
      where
        good_of : Reads (read_text rest) area left (Ok n) → Got kind line e left n
        good_of (reads {t} x z p) =
            let w : take n left ≡ t = ap (take n) p.leaves ∙ take_at t (drop (length t) area) n (sym p.counts) in
            record {
              is = entry_is ∙ ap (valued (take e line)) x ∙ ap (entry (take e line)) (sym w);
              long = omega (arith, p.counts, ap length p.leaves, length-append t (drop (length t) area));
            }

-- `enter_path`

pub lookup_alone : (x : Text) (l : List Text) → lookup x (alone l) ≡ pick (update.is_there x l) (some []) none
unfolding lookup update.is_there
lookup_alone x [] = refl
lookup_alone x (k ∷ l) =
    either (eq_text x k)
    (λ e. lookup_here x (k, []) (alone l) e ∙ sym (rw (there_here x k l e)))
    (λ e. lookup_later x (k, []) (alone l) e ∙ lookup_alone x l ∙ sym (rw (there_later x k l e)))

pub stored_alone : (x : Text) (l : List Text) → update.is_there x l ≡ false → stored x [] (alone l) ≡ alone (update.added x l)
unfolding stored update.added
stored_alone x [] h = refl
stored_alone x (k ∷ l) h =
    let n : (eq_text x k ≡ false) × (update.is_there x l ≡ false) = not_there x k l h in
    either (lt_text x k)
    (λ e. store_before x [] (k, []) (alone l) e ∙ sym (ap alone (added_before x k l e)))
    (λ e. store_later x [] (k, []) (alone l) e n.0 ∙ ap (λ (v : Pairs). (k, []) ∷ v) (stored_alone x l n.1)
    ∙ sym (ap alone (added_later x k l e)))

-- the record of a path, by what adding it gives
step_of : Adding → Step
step_of twice = stop Twice
step_of full = stop TooLong
step_of (holds l) = go (alone l)

entered_alone : (x : Text) (l : List Text) → entered false (entry x []) (alone l) ≡ step_of (adding paths_limit x l)
unfolding entered adding step_of
entered_alone x l = either (update.is_there x l) there new
  where
    there : update.is_there x l ≡ true → entered false (entry x []) (alone l) ≡ step_of (adding paths_limit x l)
    there e = rw (lookup_alone x l, e)

    new : update.is_there x l ≡ false → entered false (entry x []) (alone l) ≡ step_of (adding paths_limit x l)
    new e = rw (lookup_alone x l, e, stored_alone x l e, keys_alone (update.added x l)) (by (leb (image_length (update.added x l)) paths_limit))
      where
        by : (b : Bool) → entered_by none b (alone (update.added x l)) ≡ step_of (adding_by false b (update.added x l))
        by true = refl
        by false = refl

abbrev pub entered_as : Result ℕ AddError → Result ℕ Fault
entered_as (Ok n) = Ok n
entered_as (Err e) = Err (fault_of_lem e)

module _ (x : Text) (l : List Text) where
  by_adding : (o : Adding) → entered false (entry x []) (alone l) ≡ step_of o → (old left : Text) → left ≡ left_of o old
      → Enters false (entered false (entry x []) (alone l)) old left (entered_as (answer_of o))
  unfolding step_of
  by_adding twice e old left k = stops {f = Twice} e k
  by_adding full e old left k = stops {f = TooLong} e k
  by_adding (holds m) e old left k =
      takes {w = alone m} {n = image_length m} e (sym (ap image_length (keys_alone m))) (k ∙ ap (λ (y : List Text). over (image y) old) (sym (keys_alone m)))

  pub path_adds : (old left : Text) (r : Result ℕ AddError) → Adds (adding paths_limit x l) old left r → (a : Result ℕ Fault) → entered_as r ≡ a
      → Enters false (entered false (entry x []) (alone l)) old left a
  path_adds old left r s a q =
      let h : Enters false (entered false (entry x []) (alone l)) old left (entered_as (answer_of (adding paths_limit x l))) =
      by_adding (adding paths_limit x l) (entered_alone x l) old left s.leaves in
      rw (← q, s.answers) h

-- the path that was read is n bytes
pub record Path (line left : Text) (n : ℕ) : Type 0 where
  pub is : read_text line ≡ good (take n left)
  pub long : n ≤ length left

module _ (line : Text) {area left : Text} {r : Result ℕ Fault} (s : Reads (read_text line) area left r) where
  pub path_bad : (v : Pairs) (old : Text) (g : Fault) → r ≡ Err g → Enters false (entered false (path_of (read_text line)) v) old old (Err g)
  unfolding entered
  path_bad v old g q = bad_of (rw q at s)
    where
      bad_of : Reads (read_text line) area left (Err g) → Enters false (entered false (path_of (read_text line)) v) old old (Err g)
      bad_of (fails x k) = stops (ap (λ (y : Reading). entered false (path_of y) v) x) refl

  pub path_good : (n : ℕ) → r ≡ Ok n → Path line left n
  unfolding over
  path_good n q = good_of (rw q at s)
    where
      good_of : Reads (read_text line) area left (Ok n) → Path line left n
      good_of (reads {t} x z p) =
          let w : take n left ≡ t = ap (take n) p.leaves ∙ take_at t (drop (length t) area) n (sym p.counts) in
          record { is = x ∙ ap good (sym w); long = omega (arith, p.counts, ap length p.leaves, length-append t (drop (length t) area)) }

module _ {line left : Text} {n : ℕ} (p : Path line left n) where
  pub path_none : (v : Pairs) (old : Text) → n ≡ 0 → Enters false (entered false (path_of (read_text line)) v) old old (Err NoKey)
  unfolding entered
  path_none v old z =
      stops {f = NoKey} (ap (λ (y : Reading). entered false (path_of y) v) (p.is ∙ ap (λ (k : ℕ). good (take k left)) z)) refl

  path_entry : (n ≡ 0 → ⊥) → path_of (read_text line) ≡ entry (take n left) []
  path_entry z = ap path_of p.is ∙ not_empty_lem (take n left) (λ e. z (sym (length-take-le n left p.long) ∙ ap length e))
    where
      not_empty_lem : (t : Text) → (t ≡ [] → ⊥) → path_of (good t) ≡ entry t []
      not_empty_lem [] h = absurd (h refl)
      not_empty_lem (b ∷ t) h = refl

  pub path_enters : (n ≡ 0 → ⊥) → (l : List Text) (old new : Text) (d : Result ℕ AddError) → Adds (adding paths_limit (take n left) l) old new d
      → (a : Result ℕ Fault) → entered_as d ≡ a → Enters false (entered false (path_of (read_text line)) (alone l)) old new a
  path_enters z l old new d w a k =
      subst (λ (x : Entry). Enters false (entered false x (alone l)) old new a) (sym (path_entry z)) (path_adds (take n left) l old new d w a k)

-- `enter_line`

pub line_pair : (kind : Kind) (line t : Text) {old left : Text} {r : Result ℕ Fault} → in_twos kind ≡ true
    → Enters true (entered true (pair_of kind line) (held t)) old left r
    → Enters (in_twos kind) (entered (in_twos kind) (entry_of kind line) (records_by (in_twos kind) t)) old left r
unfolding entry_of
line_pair Variables line t e s = s
line_pair Homes line t e s = s
line_pair Paths line t e s = absurd (no e)
line_pair Fields line t e s = absurd (no e)

pub line_path : (kind : Kind) (line t : Text) {old left : Text} {r : Result ℕ Fault} → kind ≡ Paths
    → Enters false (entered false (path_of (read_text line)) (alone (held_texts t))) old left r
    → Enters (in_twos kind) (entered (in_twos kind) (entry_of kind line) (records_by (in_twos kind) t)) old left r
unfolding entry_of
line_path kind line t e s = rw e s

pub line_field : (kind : Kind) (line t old : Text) → kind ≡ Fields
    → Enters (in_twos kind) (entered (in_twos kind) (entry_of kind line) (records_by (in_twos kind) t)) old old (Err NoKey)
unfolding entry_of entered
line_field kind line t old e = rw e (stops {f = NoKey} refl refl)
