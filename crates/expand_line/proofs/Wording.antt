-- One word: its row, then its fields or the number that refuses them.
use Prim.Native.Nat.{ℕ, ◌+◌, ◌*◌, ◌≤◌, ◌<◌}
use native.Mathlib.Omega.{arith}
use mathlib.Core.Path.{◌≡◌, refl, sym, ap, ◌∙◌, subst}
use mathlib.Core.Bool.{Bool}
use lib.ListN.{length, take, drop, length-append}
use lib.Seq.{take_at}
use borrow.Author.Tests.{le-leb, lt-leb}
use Rattle.stages.specs.Numbers.{depth_limit, image_limit, bracket_class, output_room}
use Rattle.stages.specs.Bytes.{Text}
use Rattle.stages.specs.Outcome.{Outcome, refused, demands, done}
use Rattle.stages.specs.Images.{Pairs, held, held_texts, record_bytes, written}
use Rattle.stages.specs.Syntax.{Parts, fresh, word as words}
use Rattle.stages.specs.Read.{Taken, parts}
use Rattle.stages.specs.Units.{L, Row}
use Rattle.stages.specs.Expand.{Made, expand}
use Rattle.stages.specs.Split.{fields_of_row}
use Rattle.stages.specs.Paths.{texts_of_fields}
use Rattle.stages.specs.Line.{Around, Fields, word_fields, out_fits}
use Rattle.text.specs.Rows.{row_bytes, row_of}
use Rattle.text.proofs.Rows.{row_of_row_bytes, length_row_bytes}
use Rattle.expand_add.specs.Answers.{IsRow, Answers as RowOf, Says as Expands}
use Rattle.expand_add.specs.declared.answers.Stop.{Stop}
use Rattle.expand_add.specs.declared.answers.Stop.TheVariants.{Refused, Demanded}
use Rattle.expand_add.specs.declared.answers.Row as code
use Rattle.expand_add.specs.Expanded.{Expanded}
use Rattle.text.specs.declared.refusal.Refusal.TheVariants.{BracketClass, OutputRoom}
use Rattle.table_store.specs.Splice.{placed}
use Rattle.split_field.specs.Answers.{Says, len, class, no_room, Puts}
use Rattle.std.specs.Prelude.{Result, Ok, Err}
use Rattle.split_field.specs.declared.WriteError.{WriteError}
use Rattle.split_field.specs.declared.WriteError.TheVariants.{BadClass, NoRoom}
use Rattle.table.specs.Around.{among, lent_of}
use Rattle.expand_line.specs.Answers.{word_outcome, WordReady, WordOf, WordSays}
use Rattle.expand_line.specs.declared.WordDone.{WordDone}

-- what the splitter's answer says, once its case is known

pub record Writes (o : Outcome Fields) (used : ℕ) (old left : Text) (n : ℕ) : Type 0 where
  pub fields : Fields
  pub is : o ≡ done fields
  pub long : n ≡ used + record_bytes fields
  pub fits : n ≤ length old
  pub stands : left ≡ placed used (written fields) old

pub record Lacks (o : Outcome Fields) (used : ℕ) (old : Text) : Type 0 where
  pub fields : Fields
  pub is : o ≡ done fields
  pub full : length old < used + record_bytes fields

module _ {o : Outcome Fields} {used : ℕ} {old left : Text} where
  pub class_of : {r : Result ℕ WriteError} → Says o used old left r → r ≡ Err BadClass → o ≡ refused bracket_class
  class_of (len l e n f d) c = absurd (let z : ◌≡◌ {A = ℕ} 0 1 = cc in omega arith)
  class_of (class e) c = e
  class_of (no_room l e f) c = absurd (let z : ◌≡◌ {A = ℕ} 0 1 = cc in omega arith)

  pub full_of : {r : Result ℕ WriteError} → Says o used old left r → r ≡ Err NoRoom → Lacks o used old
  full_of (len l e n f d) c = absurd (let z : ◌≡◌ {A = ℕ} 0 1 = cc in omega arith)
  full_of (class e) c = absurd (let z : ◌≡◌ {A = ℕ} 0 1 = cc in omega arith)
  full_of (no_room l e f) c = record { fields = l; is = e; full = f }

  pub len_of : {r : Result ℕ WriteError} {n : ℕ} → Says o used old left r → r ≡ Ok n → Writes o used old left n
  len_of {n = n} (len {n = m} l e k f d) c = let h : m ≡ n = cc in record { fields = l; is = e; long = sym h ∙ k; fits = omega (arith, f, h); stands = d }
  len_of (class e) c = absurd (let z : ◌≡◌ {A = ℕ} 0 1 = cc in omega arith)
  len_of (no_room l e f) c = absurd (let z : ◌≡◌ {A = ℕ} 0 1 = cc in omega arith)

-- the row that was made, where it stands

module _ {room used : ℕ} {made : Made} {area vars : Text} {count vars_used : ℕ} {came : Bool}
    (q : IsRow room used made area vars count vars_used came) where
  row_long : length (row_bytes q.row) ≡ 2 * count
  row_long = length_row_bytes q.row ∙ ap (λ (n : ℕ). 2 * n) q.counts

  pub row_within : 2 * count ≤ length area
  row_within = omega (arith, row_long, simp length-append at (ap length q.stands.is))

  pub row_there : row_of (take (2 * count) area) ≡ q.row
  row_there = ap row_of (ap (take (2 * count)) q.stands.is ∙ take_at (row_bytes q.row) q.stands.rest (2 * count) row_long) ∙
      row_of_row_bytes q.row

-- a word's outcome by its row and its fields

module _ (a : Around) (tree : Parts) (n : ℕ) (v : Pairs) where
  outcome_refused : {e : ℕ} → expand a.lent tree L 0 v ≡ refused e → word_outcome a tree n v ≡ refused e
  unfolding word_outcome word_fields
  outcome_refused h = rw h

  outcome_demands : {t : Text} → expand a.lent tree L 0 v ≡ demands t → word_outcome a tree n v ≡ demands t
  unfolding word_outcome word_fields
  outcome_demands h = rw h

  module _ {row : Row} {u : Pairs} {came : Bool} (h : expand a.lent tree L 0 v ≡ done (row, u, came)) where
    outcome_class : {e : ℕ} → texts_of_fields a.paths (fields_of_row u row) ≡ refused e → word_outcome a tree n v ≡ refused e
    unfolding word_outcome word_fields
    outcome_class k = rw (h, k)

    module _ {l : Fields} (k : texts_of_fields a.paths (fields_of_row u row) ≡ done l) where
      outcome_full : a.out < n + record_bytes l → word_outcome a tree n v ≡ refused output_room
      unfolding word_outcome word_fields out_fits
      outcome_full f = rw (h, k, lt-leb (n + record_bytes l) a.out f)

      outcome_done : n + record_bytes l ≤ a.out → a.out ≤ image_limit → word_outcome a tree n v ≡ done (l, u)
      unfolding word_outcome word_fields out_fits
      outcome_done f g = rw (h, k, le-leb (n + record_bytes l) a.out f, le-leb (n + record_bytes l) image_limit (omega arith))

-- the word by the answers of the two that were called

module _ {line : Text} {at : ℕ} {vars : Text} {vars_used room : ℕ} {houses params paths work old : Text} {used : ℕ} (shouts : Bool)
    (w : WordReady line at vars vars_used room houses params paths work old used) where
  abbrev a : Around
  a = among room shouts houses params paths (length old)

  abbrev v : Pairs
  v = held (take vars_used vars)

  abbrev tree : Parts
  tree = w.ready.tree

  abbrev rest : Text
  rest = w.ready.rest

  said : (vars' out work' : Text) (r : Result WordDone Stop) → WordOf a (word_outcome a tree used v) rest line at used vars' old out work' r
      → WordSays a (parts (words fresh) depth_limit (drop at line)) line at used v vars' old out work' r
  said vars' out work' r h =
      record {
        says = λ p e.
            let d = w.ready.is in
            let k : ◌≡◌ {A = Parts × Text} (tree, rest) p = cc in
            subst (λ (x : Parts × Text). WordOf a (word_outcome a x.0 used v) x.1 line at used vars' old out work' r) k h;
      }

  module _ (area vars' : Text) where
    abbrev made : Made
    made = expand (lent_of room shouts houses params) tree L 0 v

    abbrev Gives : Expanded → Type 0
    Gives got =
        Expands room line at 0 (λ t. expand (lent_of room shouts houses params) t L 0 v) (parts (words fresh) depth_limit (drop at line)) area vars' got

    row_of_lem : (got : Expanded) → Gives got → RowOf room line at 0 made rest area vars' got
    row_of_lem got h =
        subst (λ (o : Taken). Expands room line at 0 (λ t. expand (lent_of room shouts houses params) t L 0 v) o area vars' got) w.ready.is h

    stopped : (out : Text) (stop : Stop) → RowOf room line at 0 made rest area vars' (Err stop)
        → WordOf a (word_outcome a tree used v) rest line at used vars' old out area (Err stop)
    stopped out (Refused e) h = outcome_refused a tree used v h
    stopped out (Demanded from count) d = record { message = d.message; is = outcome_demands a tree used v d.is; waits = d.waits }

    pub word_stopped : (stop : Stop) {out : Text} → Gives (Err stop)
        → WordSays a (parts (words fresh) depth_limit (drop at line)) line at used v vars' old out area (Err stop)
    word_stopped stop {out} h = said vars' out area (Err stop) (stopped out stop (row_of_lem (Err stop) h))

    module _ (r : code.Row) (h : Gives (Ok r)) where
      pub there : IsRow room 0 made area vars' r.units r.vars_used r.of_none
      there = (row_of_lem (Ok r) h).0

      abbrev Splits : Text → Result ℕ WriteError → Type 0
      Splits out s =
          Puts (texts_of_fields (held_texts paths) (fields_of_row (held (take r.vars_used vars')) (row_of (take (2 * r.units) area)))) used old out s

      split : {out : Text} (s : Result ℕ WriteError) → Splits out s
          → Says (texts_of_fields (held_texts paths) (fields_of_row (held (take r.vars_used vars')) there.row)) used old out s
      split {out} s p =
          subst (λ (x : Row). Says (texts_of_fields (held_texts paths) (fields_of_row (held (take r.vars_used vars')) x)) used old out s)
          (row_there there) p.says

      module _ {out work' : Text} where
        pub word_class : Splits out (Err BadClass)
            → WordSays a (parts (words fresh) depth_limit (drop at line)) line at used v vars' old out work' (Err (Refused BracketClass))
        word_class p = said vars' out work' (Err (Refused BracketClass)) (outcome_class a tree used v there.is (class_of (split (Err BadClass) p) refl))

        pub word_full : Splits out (Err NoRoom)
            → WordSays a (parts (words fresh) depth_limit (drop at line)) line at used v vars' old out work' (Err (Refused OutputRoom))
        word_full p =
            let f = full_of (split (Err NoRoom) p) refl in
            said vars' out work' (Err (Refused OutputRoom)) (outcome_full a tree used v there.is f.is f.full)

        pub word_written : {n : ℕ} → Splits out (Ok n) → WordSays a (parts (words fresh) depth_limit (drop at line)) line at used v vars' old out work'
            (Ok (record { used = n; next = r.next; vars_used = r.vars_used }))
        word_written {n} p =
            let f = len_of (split (Ok n) p) refl in
            said vars' out work' (Ok (record { used = n; next = r.next; vars_used = r.vars_used }))
            (record {
              fields = f.fields;
              is = outcome_done a tree used v there.is f.is (omega (arith, f.long, f.fits)) w.few;
              long = f.long;
              fits = f.fits;
              stands = f.stands;
              holds = there.holds;
              ends = (row_of_lem (Ok r) h).1;
            })
