-- Packing and showing again gives the same records: a table that is shown and packed is the same table, and the records of lines that are packed are
-- shown as lines that are packed to them.
use Rattle.std.specs.Prelude.{Result, Ok}
use Prim.Native.Nat.{ℕ, suc, ◌≤◌}
use native.Mathlib.Omega.{arith}
use mathlib.Core.Path.{◌≡◌, refl, sym, ap, ◌∙◌}
use mathlib.Core.Bool.{Bool, true, false}
use mathlib.Core.List.{List, [], ◌∷◌, ◌++◌, append_assoc, append-nil}
use mathlib.Core.Option.{none, some}
use lib.ListN.{length, drop}
use borrow.Author.Tests.{le-leb}
use Rattle.stages.specs.Bytes.{Text, eq_text, lt_text}
use Rattle.stages.specs.Images.{Pairs, texts, is_name, is_login, not_empty, keys, all_texts, rising, flat, image, image_length, lookup, stored, held}
use Rattle.stages.specs.Images.{held_texts}
use Rattle.stages.specs.Call.{over}
use Rattle.stages.specs.Program.{lines_of}
use Rattle.stages.proofs.Bools.{no, apart, either, and_left, and_right}
use Rattle.stages.proofs.Texts.{all_take, all_drop, lt_text_trans, lt_text_asym}
use Rattle.stages.proofs.Outcomes.{Each}
use Rattle.stages.proofs.Images.{Bytes, Fine, image_canonical, held_texts_texts, held_texts_image, pairs_of_some, record_bytes_append, flat_append}
use Rattle.stages.proofs.Tables.{
  Vars,
  Homes,
  Paths,
  is_some_lem,
  table_fine,
  table_length,
  table_image,
  vars_of,
  variables_are,
  homes_of_lem,
  homes_are_lem,
  paths_of_lem,
  paths_are_lem,
  paths_image,
  texts_held_fine,
  texts_held_length,
}
use Rattle.stages.proofs.Stores.{store_cases, store_later, lookup_later, rising_tail}
use Rattle.table.specs.Kinds.{in_twos, well_formed}
use Rattle.table.specs.declared.Kind.{Kind}
use Rattle.table.specs.declared.Kind.TheVariants as kinds
use Rattle.table.proofs.Splits.{equal_not_above}
use Rattle.tab_show.specs.Lines.{shown_of, showing}
use Rattle.tab_escape.specs.Escapes.{good, read_text}
use Rattle.tab_enter.specs.Records.{alone, texts_by, records_by, limit_by}
use Rattle.tab_enter.specs.Entries.{Entry, faulty, entry, entry_of, Step, stop, go, entered}
use Rattle.tab_pack.specs.declared.BadLine.{BadLine}
use Rattle.tab_pack.specs.Packings.{whole, fault, pack_on, packed, Packs, packs}
use Rattle.tab_escape.specs.declared.Fault.{Fault}
use Rattle.tab_enter.proofs.Sounds.{
  key_test,
  Bare,
  Sound,
  sound_none,
  keys_alone,
  bare_tail,
  Pair,
  pair_of_lem,
  path_of_lem,
  Goes,
  goes_of,
  stop_go,
  entered_faulty,
  faulty_entry,
  kept,
}
use Rattle.tab_pack.proofs.Shown.{lines_by, lines_shown, Fit, keyed, line_again}
use Rattle.tab_pack.proofs.Determined.{pack_determined}
use Rattle.tab_pack.proofs.Smalls.{is_byte, Small, small_of, bytes_of, read_small, lines_small, image_small}

-- RECORDS: those that are sound fit their lines

module _ (P : Text → Type 0) where
  each_flat : (x t : Text) (v : Pairs) → P x → P t → Each P (flat v) → Each P (flat (stored x t v))
  unfolding stored
  each_flat x t [] h k f = (h, (k, tt))
  each_flat x t (r ∷ v) h k f =
      store_cases x t r v (λ (w : Pairs). Each P (flat w)) (λ _. (h, (k, f.1.1))) (λ _. (h, (k, f)))
      (λ _ _. (f.0, (f.1.0, each_flat x t v h k f.1.1)))

  each_keys : (x t : Text) (v : Pairs) → P x → Each P (keys v) → Each P (keys (stored x t v))
  unfolding stored
  each_keys x t [] h f = (h, tt)
  each_keys x t (r ∷ v) h f =
      store_cases x t r v (λ (w : Pairs). Each P (keys w)) (λ _. (h, f.1)) (λ _. (h, f)) (λ _ _. (f.0, each_keys x t v h f.1))

  each_by : (two : Bool) (x t : Text) (v : Pairs) → P x → P t → Each P (texts_by two v) → Each P (texts_by two (stored x t v))
  each_by true x t v h k f = each_flat x t v h k f
  each_by false x t v h k f = each_keys x t v h f

module _ (kind : Kind) where
  tail : (r : Text × Text) (v : Pairs) → all_texts (key_test kind) (keys (r ∷ v)) ≡ true → all_texts (key_test kind) (keys v) ≡ true
  tail r v p = and_right (key_test kind r.0) (all_texts (key_test kind) (keys v)) p

  head : (r : Text × Text) (v : Pairs) → all_texts (key_test kind) (keys (r ∷ v)) ≡ true → key_test kind r.0 ≡ true
  head r v p = and_left (key_test kind r.0) (all_texts (key_test kind) (keys v)) p

  no_value : (r : Text × Text) (v : Pairs) → Bare false (r ∷ v) → r.1 ≡ []
  no_value r v b = sym (ap (λ (p : Text × Text). p.1) (bare_tail r v b).0)

  fits_by : (two : Bool) → in_twos kind ≡ two → (v : Pairs) → Fine (texts_by two v) → all_texts (key_test kind) (keys v) ≡ true → Bare two v
      → Each Small (texts_by two v) → Each (Fit kind) v
  fits_by true e [] f p b s = tt
  fits_by true e (r ∷ v) f p b s = (
    record {
      passes = head r v p;
      key = f.0;
      value = f.1.0;
      bare = λ d. absurd (apart d e);
      key_bytes = bytes_of r.0 s.0;
      value_bytes = bytes_of r.1 s.1.0;
    },
    fits_by true e v f.1.1 (tail r v p) tt s.1.1,
  )
  fits_by false e [] f p b s = tt
  fits_by false e (r ∷ v) f p b s = (
    record {
      passes = head r v p;
      key = f.0;
      value = rw (no_value r v b) refl;
      bare = λ _. no_value r v b;
      key_bytes = bytes_of r.0 s.0;
      value_bytes = bytes_of r.1 (rw (no_value r v b) refl);
    },
    fits_by false e v f.1 (tail r v p) (bare_tail r v b).1 s.1,
  )

  fits : (v : Pairs) → Sound kind v → Each Small (texts_by (in_twos kind) v) → Each (Fit kind) v
  fits v d s = fits_by (in_twos kind) refl v d.fine d.passes d.bare s

-- RECORDS IN ORDER are entered one behind the other

first_below : (r : Text × Text) (v : Pairs) (p : Text × Text) (w : Pairs) → rising (keys (r ∷ v ++ p ∷ w)) ≡ true → lt_text r.0 p.0 ≡ true
unfolding rising
first_below r [] p w e = and_left (lt_text r.0 p.0) (rising (keys (p ∷ w))) e
first_below r (q ∷ v) p w e =
    lt_text_trans r.0 q.0 p.0 (and_left (lt_text r.0 q.0) (rising (keys (q ∷ v ++ p ∷ w))) e)
    (first_below q v p w (and_right (lt_text r.0 q.0) (rising (keys (q ∷ v ++ p ∷ w))) e))

above_other : (a b : Text) → lt_text a b ≡ true → eq_text b a ≡ false
above_other a b e = either (eq_text b a) (λ d. absurd (apart (equal_not_above b a d) e)) (λ d. d)

lookup_last : (v : Pairs) (p : Text × Text) (w : Pairs) → rising (keys (v ++ p ∷ w)) ≡ true → lookup p.0 v ≡ none
unfolding lookup
lookup_last [] p w e = refl
lookup_last (r ∷ v) p w e =
    lookup_later p.0 r v (above_other r.0 p.0 (first_below r v p w e)) ∙ lookup_last v p w (rising_tail r.0 (keys (v ++ p ∷ w)) e)

stored_last : (v : Pairs) (p : Text × Text) (w : Pairs) → rising (keys (v ++ p ∷ w)) ≡ true → stored p.0 p.1 v ≡ v ++ (p ∷ [])
unfolding stored
stored_last [] p w e = refl
stored_last (r ∷ v) p w e =
    let b : lt_text r.0 p.0 ≡ true = first_below r v p w e in
    store_later p.0 p.1 r v (lt_text_asym r.0 p.0 b) (above_other r.0 p.0 b)
    ∙ ap (λ (u : Pairs). r ∷ u) (stored_last v p w (rising_tail r.0 (keys (v ++ p ∷ w)) e))

keys_append : (v w : Pairs) → keys (v ++ w) ≡ keys v ++ keys w
keys_append [] w = refl
keys_append (r ∷ v) w = rw (keys_append v w)

texts_append : (two : Bool) (v w : Pairs) → texts_by two (v ++ w) ≡ texts_by two v ++ texts_by two w
texts_append true v w = flat_append v w
texts_append false v w = keys_append v w

front_shorter : (two : Bool) (v w : Pairs) → image_length (texts_by two v) ≤ image_length (texts_by two (v ++ w))
unfolding image_length
front_shorter two v w = rw (texts_append two v w) (omega (arith, record_bytes_append (texts_by two v) (texts_by two w)))

entered_last : (two : Bool) (v : Pairs) (p : Text × Text) (w : Pairs) → rising (keys (v ++ p ∷ w)) ≡ true
    → image_length (texts_by two (v ++ (p ∷ []))) ≤ limit_by two → entered two (entry p.0 p.1) v ≡ go (v ++ (p ∷ []))
unfolding entered
entered_last two v p w e h = rw (lookup_last v p w e, stored_last v p w e, le-leb (image_length (texts_by two (v ++ (p ∷ [])))) (limit_by two) h)

module _ (kind : Kind) (k : keyed kind ≡ true) where
  packed_lines : (n : ℕ) (v w : Pairs) → rising (keys (v ++ w)) ≡ true → image_length (texts_by (in_twos kind) (v ++ w)) ≤ limit_by
      (in_twos kind) → Each (Fit kind) w
      → packed kind n v (lines_by (in_twos kind) w) ≡ whole (v ++ w)
  unfolding packed
  packed_lines n v [] e h f = ap whole (sym (append-nil v))
  packed_lines n v (p ∷ w) e h f =
      let a : (v ++ (p ∷ [])) ++ w ≡ v ++ p ∷ w = append_assoc v (p ∷ []) w in
      let s : image_length (texts_by (in_twos kind) ((v ++ (p ∷ [])) ++ w)) ≤ limit_by (in_twos kind) = rw a h in
      ap (λ (x : Entry). pack_on (entered (in_twos kind) x v) n v (λ u. packed kind (suc n) u (lines_by (in_twos kind) w))) (line_again kind p k f.0)
      ∙ ap (λ (x : Step). pack_on x n v (λ u. packed kind (suc n) u (lines_by (in_twos kind) w)))
      (entered_last (in_twos kind) v p w e (omega (arith, front_shorter (in_twos kind) (v ++ (p ∷ [])) w, s)))
      ∙ packed_lines (suc n) (v ++ (p ∷ [])) w (rw a e) s f.1
      ∙ ap whole a

  -- the lines of records that are sound are packed to them
  packed_shown : (v : Pairs) → Sound kind v → Each Small (texts_by (in_twos kind) v)
      → packed kind 1 [] (lines_of (shown_of kind (texts_by (in_twos kind) v))) ≡ whole v
  unfolding shown_of
  packed_shown v d s = ap (packed kind 1 []) (lines_shown (in_twos kind) v) ∙ packed_lines 1 [] v d.rises d.small (fits kind v d s)

-- IMAGES: those of a kind hold records that are sound, and the image of such is one of the kind

pub record Holds (kind : Kind) (t : Text) : Type 0 where
  pub sound : Sound kind (records_by (in_twos kind) t)
  pub texts_are : texts t ≡ some (texts_by (in_twos kind) (records_by (in_twos kind) t))

sound_of : (kind : Kind) (t : Text) → keyed kind ≡ true → well_formed kind t ≡ true → Holds kind t
sound_of kinds.Variables t k e =
    let w : Vars t = vars_of t e in
    record {
      sound = record { fine = table_fine is_name t w; passes = w.passes; rises = w.rises; bare = tt; small = rw (← table_length is_name t w) w.small };
      texts_are = pairs_of_some (texts t) (held t) w.table;
    }
sound_of kinds.Homes t k e =
    let w : Homes t = homes_of_lem t e in
    record {
      sound = record { fine = table_fine is_login t w; passes = w.passes; rises = w.rises; bare = tt; small = rw (← table_length is_login t w) w.small };
      texts_are = pairs_of_some (texts t) (held t) w.table;
    }
sound_of kinds.Paths t k e =
    let w : Paths t = paths_of_lem t e in
    let a : keys (alone (held_texts t)) ≡ held_texts t = keys_alone (held_texts t) in
    record {
      sound = record {
        fine = rw a (texts_held_fine t w.table);
        passes = ap (all_texts not_empty) a ∙ w.passes;
        rises = ap rising a ∙ w.rises;
        bare = ap alone a;
        small = rw (a, ← texts_held_length t w.table) w.small;
      };
      texts_are = w.table ∙ ap some (sym a);
    }
sound_of kinds.Fields t k e = absurd (no k)

well_of : (kind : Kind) (v : Pairs) → keyed kind ≡ true → Sound kind v → well_formed kind (image (texts_by (in_twos kind) v)) ≡ true
well_of kinds.Variables v k d = is_some_lem (variables_are (image (flat v)) (table_image is_name v d.fine d.passes d.rises d.small))
well_of kinds.Homes v k d = is_some_lem (homes_are_lem (image (flat v)) (table_image is_login v d.fine d.passes d.rises d.small))
well_of kinds.Paths v k d = is_some_lem (paths_are_lem (image (keys v)) (paths_image (keys v) d.fine d.passes d.rises d.small))
well_of kinds.Fields v k d = absurd (no k)

-- SHOWN AND PACKED: a table is the same table again
module _ (kind : Kind) (t : Text) (k : keyed kind ≡ true) (h : Bytes t) (e : well_formed kind t ≡ true) where
  abbrev records : Pairs
  records = records_by (in_twos kind) t

  holds : Holds kind t
  holds = sound_of kind t k e

  pub shown_packed : packed kind 1 [] (lines_of (shown_of kind (held_texts t))) ≡ whole records
  shown_packed =
      ap (λ (l : List Text). packed kind 1 [] (lines_of (shown_of kind l))) (held_texts_texts t (texts_by (in_twos kind) records) holds.texts_are)
      ∙ packed_shown kind k records holds.sound (image_small t (texts_by (in_twos kind) records) h holds.texts_are)

  pub shown_image : image (texts_by (in_twos kind) records) ≡ t
  shown_image = sym (image_canonical t (texts_by (in_twos kind) records) h holds.texts_are)

  -- what packing the lines of a table answers and leaves
  pub pack_shown : (old left : Text) (r : Result ℕ BadLine) → Packs (in_twos kind) (packed kind 1 [] (lines_of (shown_of kind (held_texts t)))) old left r
      → (r ≡ Ok (length t)) × (left ≡ over t old)
  pack_shown old left r s =
      let q : (r ≡ Ok (length (image (texts_by (in_twos kind) records)))) × (left ≡ over (image (texts_by (in_twos kind) records)) old) =
      pack_determined s (packs {v = records} shown_packed refl refl) in
      (q.0 ∙ ap (λ (u : Text). Ok (length u)) shown_image, q.1 ∙ ap (λ (u : Text). over u old) shown_image)

-- PACKED AND SHOWN: the records of lines are sound, and bytes where the lines are

fault_whole : {n : ℕ} {f : Fault} {v w : Pairs} → fault n f v ≡ whole w → ⊥
fault_whole e = let z : ◌≡◌ {A = ℕ} 0 1 = cc in omega arith

whole_same : {v w : Pairs} → whole v ≡ whole w → v ≡ w
whole_same e = cc

pair_small : (kind : Kind) (line x t : Text) → Small line → Pair kind line x t → Small x × Small t
pair_small kind line x t h p = (
  rw (← p.key) (all_take is_byte p.at line h),
  read_small (drop (suc p.at) line) t (all_drop is_byte (suc p.at) line h) p.reads,
)

entry_small : (kind : Kind) (line x t : Text) → Small line → entry_of kind line ≡ entry x t → Small x × Small t
unfolding entry_of
entry_small kinds.Variables line x t h e = pair_small kinds.Variables line x t h (pair_of_lem kinds.Variables line x t e)
entry_small kinds.Homes line x t h e = pair_small kinds.Homes line x t h (pair_of_lem kinds.Homes line x t e)
entry_small kinds.Paths line x t h e =
    let p : (read_text line ≡ good x) × (not_empty x ≡ true) × (t ≡ []) = path_of_lem (read_text line) x t e in
    (read_small line x h p.0, rw p.2 refl)
entry_small kinds.Fields line x t h e = absurd (faulty_entry e)

entered_small : (kind : Kind) (line : Text) (v w : Pairs) → Small line → Each Small (texts_by (in_twos kind) v)
    → entered (in_twos kind) (entry_of kind line) v ≡ go w → Each Small (texts_by (in_twos kind) w)
entered_small kind line v w h f e = by (entry_of kind line) refl
  where
    by : (x : Entry) → entry_of kind line ≡ x → Each Small (texts_by (in_twos kind) w)
    by (faulty g) q = absurd (stop_go (sym (ap (λ (y : Entry). entered (in_twos kind) y v) q ∙ entered_faulty (in_twos kind) g v) ∙ e))
    by (entry x t) q =
        let g : Goes (in_twos kind) x t v w = goes_of (in_twos kind) x t v w (ap (λ (y : Entry). entered (in_twos kind) y v) (sym q) ∙ e) in
        let s : Small x × Small t = entry_small kind line x t h q in
        rw (← g.is) (each_by Small (in_twos kind) x t v s.0 s.1 f)

module _ (kind : Kind) where
  packed_sound : (n : ℕ) (v : Pairs) (l : List Text) (w : Pairs) → Each Small l → Sound kind v → Each Small (texts_by (in_twos kind) v)
      → packed kind n v l ≡ whole w → Sound kind w × Each Small (texts_by (in_twos kind) w)
  unfolding packed
  packed_sound n v [] w s d f e = (rw (← whole_same e) d, rw (← whole_same e) f)
  packed_sound n v (t ∷ l) w s d f e =
      by (λ u x y. packed_sound (suc n) u l w s.1 x y) (entered (in_twos kind) (entry_of kind t) v) refl e
    where
      by : ((u : Pairs) → Sound kind u → Each Small (texts_by (in_twos kind) u) → packed kind (suc n) u l ≡ whole w → Sound kind w × Each
          Small (texts_by (in_twos kind) w))
          → (o : Step) → entered (in_twos kind) (entry_of kind t) v ≡ o → pack_on o n v (λ u. packed kind (suc n) u l) ≡ whole w
          → Sound kind w × Each Small (texts_by (in_twos kind) w)
      by ih (stop g) q e = absurd (fault_whole e)
      by ih (go u) q e = ih u ((kept kind t v u q).sound d) (entered_small kind t v u s.0 f q) e

none_small : (two : Bool) → Each Small (texts_by two [])
none_small true = tt
none_small false = tt

-- the image is shown as these lines, and they are packed to the same records
pub record Round (kind : Kind) (v : Pairs) (lines : Text) : Type 0 where
  pub shows : (old : Text) → showing kind (image (texts_by (in_twos kind) v)) old ≡ (some (length lines), over lines old)
  pub packs_again : packed kind 1 [] (lines_of lines) ≡ whole v

module _ (kind : Kind) (text : Text) (v : Pairs) (k : keyed kind ≡ true) (h : Bytes text) (e : packed kind 1 [] (lines_of text) ≡ whole v) where
  kept_all : Sound kind v × Each Small (texts_by (in_twos kind) v)
  kept_all = packed_sound kind 1 [] (lines_of text) v (lines_small text (small_of text h)) (sound_none kind) (none_small (in_twos kind)) e

  pub packed_well : well_formed kind (image (texts_by (in_twos kind) v)) ≡ true
  packed_well = well_of kind v k kept_all.0

  pub packed_again : Round kind v (shown_of kind (texts_by (in_twos kind) v))
  unfolding showing
  packed_again = record {
    shows = λ old. rw (packed_well, held_texts_image (texts_by (in_twos kind) v) kept_all.0.fine);
    packs_again = packed_shown kind k v kept_all.0 kept_all.1;
  }
