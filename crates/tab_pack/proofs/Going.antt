-- The walk over the lines: the records of those passed stand in the buffer as an image, and those ahead are left.
use Rattle.std.specs.Prelude.{Result, Ok, Err}
use Prim.Native.Nat.{ℕ, suc, ◌+◌, ◌-◌, ◌≤◌, ◌<◌}
use native.Mathlib.Omega.{arith}
use native.Mathlib.Numerals.{add-one}
use mathlib.Core.Path.{◌≡◌, refl, sym, ap, subst, ◌∙◌}
use mathlib.Core.Bool.{Bool, true, false}
use mathlib.Core.List.{List, [], ◌∷◌, ◌++◌}
use mathlib.Core.Option.{some}
use lib.Dec.{eqb}
use lib.ListN.{length, take, drop, set, length-set, length-drop, drop_of_length-le}
use lib.Seq.{take_at, take_all, drop_at, drop-drop}
use Rattle.stages.specs.Bytes.{Text, part}
use Rattle.stages.specs.Images.{Pairs, keys, rising, image, record_bytes, image_length}
use Rattle.stages.specs.Call.{over}
use Rattle.stages.specs.Program.{longer_line, lines_of}
use Rattle.stages.proofs.Bools.{either}
use Rattle.stages.proofs.Images.{length_image, pairs_image, held_image, texts_image, held_texts_image, Fine}
use Rattle.tab_enter.proofs.Sounds.{none_texts, limit_some}
use Rattle.table.specs.Kinds.{in_twos}
use Rattle.table.specs.declared.Kind.{Kind}
use Rattle.table_store.proofs.Callers.{version_first}
use Rattle.tab_escape.specs.Escapes.{up_to}
use Rattle.tab_enter.specs.Records.{alone, texts_by, records_by, limit_by, TableBy}
use Rattle.tab_enter.specs.Entries.{entry_of, Step, stop, go, entered, Enters, takes, stops}
use Rattle.tab_pack.specs.declared.BadLine.{BadLine}
use Rattle.tab_pack.specs.Packings.{bad_line, Packing, pack_on, packed, Packs, packs, fails}
use Rattle.tab_escape.specs.declared.Fault.{Fault}
use Rattle.tab_enter.proofs.Sounds.{Bare, Sound, sound_none, Kept, kept}

-- an image over a shorter one
pub over_over : (a b old : Text) → length a ≤ length b → over b (over a old) ≡ over b old
unfolding over
over_over a b old h =
    let n : length b ≡ length a + (length b - length a) = omega arith in
    ap (λ (x : Text). b ++ x)
    (ap (λ (k : ℕ). drop k (a ++ drop (length a) old)) n
    ∙ sym (drop-drop (length b - length a) (length a) (a ++ drop (length a) old))
    ∙ ap (drop (length b - length a)) (drop_at a (drop (length a) old) (length a) refl)
    ∙ drop-drop (length b - length a) (length a) old
    ∙ ap (λ (k : ℕ). drop k old) (sym n))

-- the first line of a text
pub line_first : (b : ℕ) (t : Text) → lines_of (b ∷ t) ≡ take (up_to 10 (b ∷ t)) (b ∷ t) ∷ lines_of (drop (suc (up_to 10 (b ∷ t))) (b ∷ t))
unfolding lines_of longer_line
line_first b [] = either (eqb b 10) (λ e. rw (e, lines_of)) (λ e. rw (e, lines_of))
line_first b (c ∷ t) = either (eqb b 10) (λ e. rw (e, lines_of)) (λ e. rw (e, lines_of, line_first c t, longer_line))

pub up_within : (b : ℕ) (t : Text) → up_to b t ≤ length t
up_within b [] = omega arith
up_within b (c ∷ t) = either (eqb c b) (λ e. rw e (omega arith)) (λ e. rw e (omega (arith, up_within b t)))

-- the records of an image that was written
held_by : (two : Bool) (v : Pairs) → Fine (texts_by two v) → Bare two v → records_by two (image (texts_by two v)) ≡ v
held_by true v f b = held_image v f
held_by false v f b = ap alone (held_texts_image (keys v) f) ∙ b

table_by : (two : Bool) (v : Pairs) → Fine (texts_by two v) → rising (keys v) ≡ true → TableBy two (image (texts_by two v))
table_by true v f r = record {
  pairs = pairs_image v f ∙ ap some (sym (held_image v f));
  rises = ap (λ (w : Pairs). rising (keys w)) (held_image v f) ∙ r;
}
table_by false v f r =
    record { table = texts_image (keys v) f ∙ ap some (sym (held_texts_image (keys v) f)); rises = ap rising (held_texts_image (keys v) f) ∙ r }

-- records stand as an image at the front of a buffer
pub record Stands (kind : Kind) (v : Pairs) (old out : Text) (used : ℕ) : Type 0 where
  pub sound : Sound kind v
  pub long : used ≡ image_length (texts_by (in_twos kind) v)
  pub room : limit_by (in_twos kind) ≤ length old
  pub is : out ≡ over (image (texts_by (in_twos kind) v)) old

module _ {kind : Kind} {v : Pairs} {old out : Text} {used : ℕ} (s : Stands kind v old out used) where
  abbrev bytes : Text
  bytes = image (texts_by (in_twos kind) v)

  pub stands_take : take used out ≡ bytes
  unfolding over
  stands_take = ap (take used) s.is ∙ take_at bytes (drop (length bytes) old) used (length_image (texts_by (in_twos kind) v) ∙ sym s.long)

  pub stands_held : records_by (in_twos kind) (take used out) ≡ v
  stands_held = ap (records_by (in_twos kind)) stands_take ∙ held_by (in_twos kind) v s.sound.fine s.sound.bare

  pub stands_table : TableBy (in_twos kind) (take used out)
  stands_table = rw stands_take (table_by (in_twos kind) v s.sound.fine s.sound.rises)

-- the lines before `at` are packed
pub record Going (kind : Kind) (text old out : Text) (used at line : ℕ) : Type 0 where
  pub records : Pairs
  pub stands : Stands kind records old out used
  pub is : packed kind 1 [] (lines_of text) ≡ packed kind line records (lines_of (drop at text))
  pub within : at ≤ length text + 1
  pub count : line ≤ at + 1

-- the version byte is the image's own
over_set : (l : List Text) (old : Text) → over (image l) (set old 0 1) ≡ over (image l) old
unfolding over image
over_set l [] = refl
over_set l (b ∷ t) = refl

pub going_starts : (kind : Kind) (text old : Text) → limit_by (in_twos kind) ≤ length old → Going kind text (set old 0 1) (set old 0 1) 1 0 1
unfolding image_length record_bytes
going_starts kind text old h = record {
  records = [];
  stands = record {
    sound = sound_none kind;
    long = rw (none_texts (in_twos kind)) refl;
    room = rw (length-set old 0 1) h;
    is = rw (none_texts (in_twos kind)) (version_first old (omega (arith, h, limit_some (in_twos kind))) ∙ sym (over_set [] old));
  };
  is = refl;
  within = omega arith;
  count = omega arith;
}

pub packs_from : {two : Bool} {o : Packing} {old left : Text} {r : Result ℕ BadLine} → Packs two o (set old 0 1) left r → Packs two o old left r
packs_from {two} {o} {old} (packs {v} e n k) = packs {v = v} e n (k ∙ over_set (texts_by two v) old)
packs_from {two} {o} {old} (fails {v} e k) = fails {v = v} e (k ∙ over_set (texts_by two v) old)

module _ {kind : Kind} {text old out : Text} {used at line : ℕ} (g : Going kind text old out used at line) where
  pub going_ends : length text ≤ at → Packs (in_twos kind) (packed kind 1 [] (lines_of text)) old out (Ok used)
  unfolding packed lines_of
  going_ends h =
      packs {v = g.records} (g.is ∙ ap (λ (t : Text). packed kind line g.records (lines_of t)) (drop_of_length-le text h))
      (g.stands.long ∙ sym (length_image (texts_by (in_twos kind) g.records))) g.stands.is

-- the line at the walk's place is r bytes long: it ends at the first newline, or at the text's end
pub record Line (kind : Kind) (text old out : Text) (used at line r : ℕ) : Type 0 where
  pub going : Going kind text old out used at line
  pub there : at < length text
  pub ends : r ≡ up_to 10 (take (length text - at) (drop at text))

pub line_there : {kind : Kind} {text old out : Text} {used at line r : ℕ} → Going kind text old out used at line → at < length text
    → r ≡ up_to 10 (take (length text - at) (drop at text)) → Line kind text old out used at line r
line_there g h e = record { going = g; there = h; ends = e }

-- a line's fault is told with its number
abbrev pub told_as : ℕ → Result ℕ Fault → Result ℕ BadLine
told_as line (Ok n) = Ok n
told_as line (Err f) = Err (bad_line line f)

ok_same : {n m : ℕ} → ◌≡◌ {A = Result ℕ BadLine} (Ok n) (Ok m) → n ≡ m
ok_same e = cc

err_not : {x : BadLine} {m : ℕ} → ◌≡◌ {A = Result ℕ BadLine} (Err x) (Ok m) → ⊥
err_not e = cc

module _ {kind : Kind} {text old out : Text} {used at line r : ℕ} (l : Line kind text old out used at line r) where
  abbrev g : Going kind text old out used at line
  g = l.going

  abbrev h : at < length text
  h = l.there

  rest : take (length text - at) (drop at text) ≡ drop at text
  rest = take_all (length text - at) (drop at text) (omega (arith, h, length-drop at text))

  place : r ≡ up_to 10 (drop at text)
  place = l.ends ∙ ap (up_to 10) rest

  pub going_end : at + r ≤ length text
  going_end = omega (arith, h, place, up_within 10 (drop at text), length-drop at text)

  -- a text that is not empty has a first line
  cut : (t : Text) → 0 < length t → lines_of t ≡ take (up_to 10 t) t ∷ lines_of (drop (suc (up_to 10 t)) t)
  cut [] k = absurd (omega (arith, k))
  cut (b ∷ t) k = line_first b t

  lines : lines_of (drop at text) ≡ part text at (at + r) ∷ lines_of (drop (at + r + 1) text)
  lines =
      let z : at + r - at ≡ r = omega arith in
      let y : at + suc r ≡ at + r + 1 = omega arith in
      cut (drop at text) (omega (arith, h, length-drop at text))
      ∙ ap (λ (k : ℕ). take k (drop at text) ∷ lines_of (drop (suc k) (drop at text))) (sym place)
      ∙ ap (λ (t : Text). take r (drop at text) ∷ lines_of t) (drop-drop (suc r) at text ∙ ap (λ (k : ℕ). drop k text) y)
      ∙ ap (λ (k : ℕ). take k (drop at text) ∷ lines_of (drop (at + r + 1) text)) (sym z)

  step : (o : Step) → entered (in_twos kind) (entry_of kind (part text at (at + r))) g.records ≡ o
      → packed kind 1 [] (lines_of text) ≡ pack_on o line g.records (λ w. packed kind (suc line) w (lines_of (drop (at + r + 1) text)))
  unfolding packed
  step o e =
      g.is ∙ ap (packed kind line g.records) lines
      ∙ ap (λ (x : Step). pack_on x line g.records (λ w. packed kind (suc line) w (lines_of (drop (at + r + 1) text)))) e

  module _ {left : Text} {a : Result ℕ Fault}
      (s : Enters (in_twos kind) (entered (in_twos kind) (entry_of kind (part text at (at + r))) (records_by (in_twos kind) (take used out))) out left a) where
    here : Enters (in_twos kind) (entered (in_twos kind) (entry_of kind (part text at (at + r))) g.records) out left a
    here = subst (λ (v : Pairs). Enters (in_twos kind) (entered (in_twos kind) (entry_of kind (part text at (at + r))) v) out left a)
        (stands_held g.stands) s

    pub going_bad : {x : BadLine} → told_as line a ≡ Err x → Packs (in_twos kind) (packed kind 1 [] (lines_of text)) old left (Err x)
    going_bad {x} q = bad_of here q
      where
        bad_of : {b : Result ℕ Fault} → Enters (in_twos kind) (entered (in_twos kind) (entry_of kind (part text at (at + r))) g.records) out left b
            → told_as line b ≡ Err x → Packs (in_twos kind) (packed kind 1 [] (lines_of text)) old left (Err x)
        bad_of (stops {f} e k) d = subst (Packs (in_twos kind) (packed kind 1 [] (lines_of text)) old left) d
            (fails {v = g.records} (step (stop f) e) (k ∙ g.stands.is))
        bad_of (takes e k j) d = absurd (err_not (sym d))

    pub going_more : {n : ℕ} → told_as line a ≡ Ok n → Going kind text old left n (at + r + 1) (line + 1)
    going_more {n} q = used_of here q
      where
        used_of : {b : Result ℕ Fault} → Enters (in_twos kind) (entered (in_twos kind) (entry_of kind (part text at (at + r))) g.records) out left b
            → told_as line b ≡ Ok n → Going kind text old left n (at + r + 1) (line + 1)
        used_of (stops e k) d = absurd (err_not d)
        used_of (takes {w} e k j) d = record {
          records = w;
          stands = record {
            sound = keeps.sound g.stands.sound;
            long = sym (ok_same d) ∙ k;
            room = g.stands.room;
            is =
                j ∙ ap (over (image (texts_by (in_twos kind) w))) g.stands.is
                ∙ over_over (image (texts_by (in_twos kind) g.records)) (image (texts_by (in_twos kind) w)) old
                (omega (arith, length_image (texts_by (in_twos kind) g.records), length_image (texts_by (in_twos kind) w), keeps.longer));
          };
          is = rw (add-one line) (step (go w) e);
          within = omega (arith, going_end);
          count = omega (arith, g.count);
        }
          where
            keeps : Kept kind g.records w
            keeps = kept kind (part text at (at + r)) g.records w e
