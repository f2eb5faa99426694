-- What entering records keeps: texts without a zero byte, keys that pass their test and rise, no value behind a path, and an image within its limit.
use Prim.Native.Nat.{ℕ, zero, suc, ◌≤◌}
use native.Mathlib.Omega.{arith}
use mathlib.Core.Path.{◌≡◌, refl, sym, ap, ◌∙◌}
use mathlib.Core.Bool.{Bool, true, false}
use mathlib.Core.List.{List, [], ◌∷◌}
use mathlib.Core.Option.{Option, none, some}
use lib.Dec.{leb}
use lib.ListN.{length, take, drop}
use borrow.Author.Tests.{leb-true, le-leb}
use Rattle.stages.specs.Bytes.{Text, all, not_zero, is_login_byte, lt_text}
use Rattle.stages.specs.Outcome.{pick}
use Rattle.stages.specs.Images.{Pairs, is_name, is_login, not_empty, keys, all_texts, rising, record_bytes, image_length, lookup, stored}
use Rattle.stages.proofs.Bools.{no, clash, either, and_left}
use Rattle.stages.proofs.Texts.{all_weaker}
use Rattle.stages.proofs.Images.{Fine}
use Rattle.stages.proofs.Stores.{store_cases, lookup_here, lookup_later, rising_stored, keys_stored, fine_stored, name_fine, record_bytes_fresh}
use Rattle.table.specs.Kinds.{key_fits, in_twos}
use Rattle.table.specs.declared.Kind.{Kind}
use Rattle.table.specs.declared.Kind.TheVariants.{Variables, Homes, Paths, Fields}
use Rattle.tab_escape.specs.Escapes.{Reading, bad, good, read_text, up_to}
use Rattle.tab_enter.specs.Records.{alone, texts_by, limit_by}
use Rattle.tab_enter.specs.Entries.{Entry, faulty, entry, valued, pair_of, path_of, entry_of, stop, go, entered}
use Rattle.tab_escape.specs.declared.Fault.{Fault}
use Rattle.tab_escape.specs.declared.Fault.TheVariants.{NoKey}
use Rattle.tab_escape.proofs.Passing.{read_fine}

-- the test of a kind's keys
abbrev pub key_test : Kind → Text → Bool
key_test Variables k = is_name k
key_test Homes k = is_login k
key_test Paths k = not_empty k
key_test Fields k = true

-- records of one text have no value
abbrev pub Bare : Bool → Pairs → Type 0
Bare true v = Unit {0}
Bare false v = alone (keys v) ≡ v

pub record Sound (kind : Kind) (v : Pairs) : Type 0 where
  pub fine : Fine (texts_by (in_twos kind) v)
  pub passes : all_texts (key_test kind) (keys v) ≡ true
  pub rises : rising (keys v) ≡ true
  pub bare : Bare (in_twos kind) v
  pub small : image_length (texts_by (in_twos kind) v) ≤ limit_by (in_twos kind)

bare_none : (two : Bool) → Bare two []
bare_none true = tt
bare_none false = refl

pub none_texts : (two : Bool) → texts_by two [] ≡ []
none_texts true = refl
none_texts false = refl

pub limit_some : (two : Bool) → 1 ≤ limit_by two
limit_some true = omega arith
limit_some false = omega arith

pub sound_none : (kind : Kind) → Sound kind []
unfolding rising image_length record_bytes
sound_none kind = record {
  fine = rw (none_texts (in_twos kind)) tt;
  passes = refl;
  rises = refl;
  bare = bare_none (in_twos kind);
  small = rw (none_texts (in_twos kind)) (limit_some (in_twos kind));
}

-- keys alone

pub keys_alone : (l : List Text) → keys (alone l) ≡ l
keys_alone [] = refl
keys_alone (t ∷ l) = rw (keys_alone l)

fine_keys : (x t : Text) (v : Pairs) → all not_zero x ≡ true → Fine (keys v) → Fine (keys (stored x t v))
unfolding stored
fine_keys x t [] h f = (h, tt)
fine_keys x t (r ∷ v) h f =
    store_cases x t r v (λ (w : Pairs). Fine (keys w)) (λ _. (h, f.1)) (λ _. (h, f)) (λ _ _. (f.0, fine_keys x t v h f.1))

abbrev head_or : Pairs → Text × Text
head_or [] = ([], [])
head_or (r ∷ v) = r

abbrev tail_or : Pairs → Pairs
tail_or [] = []
tail_or (r ∷ v) = v

pub bare_tail : (r : Text × Text) (v : Pairs) → alone (keys (r ∷ v)) ≡ r ∷ v → ((r.0, []) ≡ r) × (alone (keys v) ≡ v)
bare_tail r v e = (first (alone (keys (r ∷ v))) (r ∷ v) e, rest (alone (keys (r ∷ v))) (r ∷ v) e)
  where
    first : (a b : Pairs) → a ≡ b → head_or a ≡ head_or b
    first a b e = ap head_or e

    rest : (a b : Pairs) → a ≡ b → tail_or a ≡ tail_or b
    rest a b e = ap tail_or e

bare_keys : (x : Text) (v : Pairs) → alone (keys v) ≡ v → alone (keys (stored x [] v)) ≡ stored x [] v
unfolding stored
bare_keys x [] e = refl
bare_keys x (r ∷ v) e =
    let k : ((r.0, []) ≡ r) × (alone (keys v) ≡ v) = bare_tail r v e in
    store_cases x [] r v (λ (w : Pairs). alone (keys w) ≡ w)
    (λ _. ap (λ (w : Pairs). (x, []) ∷ w) k.1)
    (λ _. ap (λ (w : Pairs). (x, []) ∷ w) e)
    (λ _ _. both k.0 (bare_keys x v k.1))
  where
    both : (r.0, []) ≡ r → alone (keys (stored x [] v)) ≡ stored x [] v → (r.0, []) ∷ alone (keys (stored x [] v)) ≡ r ∷ stored x [] v
    both a b = ap (λ (p : Text × Text). p ∷ alone (keys (stored x [] v))) a ∙ ap (λ (w : Pairs). r ∷ w) b

keys_longer : (x t : Text) (v : Pairs) → lookup x v ≡ none → record_bytes (keys v) ≤ record_bytes (keys (stored x t v))
unfolding stored lookup record_bytes
keys_longer x t [] e = omega arith
keys_longer x t (p ∷ v) e =
    store_cases x t p v (λ (w : Pairs). record_bytes (keys (p ∷ v)) ≤ record_bytes (keys w))
    (λ d. absurd (clash (sym e ∙ lookup_here x p v d)))
    (λ d. omega arith)
    (λ d n. later (keys_longer x t v (sym (lookup_later x p v n) ∙ e)))
  where
    later : record_bytes (keys v) ≤ record_bytes (keys (stored x t v)) → record_bytes (keys (p ∷ v)) ≤ record_bytes (keys (p ∷ stored x t v))
    later h = omega arith

-- entries

login_byte_not_zero : (b : ℕ) → is_login_byte b ≡ true → not_zero b ≡ true
unfolding is_login_byte
login_byte_not_zero zero e = absurd (no e)
login_byte_not_zero (suc b) e = le-leb 1 (suc b) (omega arith)

pub login_fine : (k : Text) → is_login k ≡ true → all not_zero k ≡ true
unfolding is_login
login_fine [] e = absurd (no e)
login_fine (b ∷ k) e = all_weaker is_login_byte not_zero login_byte_not_zero (b ∷ k) e

pub faulty_entry : {f : Fault} {k t : Text} → faulty f ≡ entry k t → ⊥
faulty_entry e = let z : ◌≡◌ {A = ℕ} 0 1 = cc in omega arith

entry_key : {k l t u : Text} → entry k t ≡ entry l u → k ≡ l
entry_key e = cc

entry_value : {k l t u : Text} → entry k t ≡ entry l u → t ≡ u
entry_value e = cc

-- a line that is a record of two texts
pub record Pair (kind : Kind) (line k t : Text) : Type 0 where
  pub at : ℕ
  pub key : take at line ≡ k
  pub fits : key_fits kind [] k ≡ true
  pub reads : read_text (drop (suc at) line) ≡ good t

valued_of : (kind : Kind) (line key k t : Text) (at : ℕ) (r : Reading) → read_text (drop (suc at) line) ≡ r → take at line ≡ key → key_fits
    kind [] key ≡ true
    → valued key r ≡ entry k t → Pair kind line k t
valued_of kind line key k t at (bad f u) q a h e = absurd (faulty_entry e)
valued_of kind line key k t at (good u) q a h e =
    record { at = at; key = a ∙ entry_key e; fits = rw (← entry_key e) h; reads = q ∙ ap good (entry_value e) }

pub pair_of_lem : (kind : Kind) (line k t : Text) → pair_of kind line ≡ entry k t → Pair kind line k t
unfolding pair_of
pair_of_lem kind line k t e = either (leb (length line) (up_to 61 line)) (λ d. absurd (faulty_entry (rw d at e))) (λ d. by_key (rw d at e))
  where
    by_key : pick (key_fits kind [] (take (up_to 61 line) line)) (valued (take (up_to 61 line) line) (read_text (drop (suc (up_to 61 line)) line)))
        (faulty NoKey)
        ≡ entry k t → Pair kind line k t
    by_key e =
        either (key_fits kind [] (take (up_to 61 line) line))
        (λ d. valued_of kind line (take (up_to 61 line) line) k t (up_to 61 line) (read_text (drop (suc (up_to 61 line)) line)) refl refl d (rw d at e))
        (λ d. absurd (faulty_entry (rw d at e)))

-- a line that is a path
pub path_of_lem : (r : Reading) (k t : Text) → path_of r ≡ entry k t → (r ≡ good k) × (not_empty k ≡ true) × (t ≡ [])
path_of_lem (bad f u) k t e = absurd (faulty_entry e)
path_of_lem (good []) k t e = absurd (faulty_entry e)
path_of_lem (good (b ∷ u)) k t e = (ap good (entry_key e), ap not_empty (sym (entry_key e)), sym (entry_value e))

-- what a line says as a record of the kind
pub record Says (kind : Kind) (k t : Text) : Type 0 where
  pub passes : key_test kind k ≡ true
  pub key : all not_zero k ≡ true
  pub value : all not_zero t ≡ true
  pub bare : in_twos kind ≡ false → t ≡ []

pub entry_says : (kind : Kind) (line k t : Text) → entry_of kind line ≡ entry k t → Says kind k t
unfolding entry_of
entry_says Variables line k t e =
    let p : Pair Variables line k t = pair_of_lem Variables line k t e in
    let n : is_name k ≡ true = and_left (is_name k) (lt_text [] k) p.fits in
    record { passes = n; key = name_fine k n; value = read_fine (drop (suc p.at) line) t p.reads; bare = λ d. absurd (no (sym d)) }
entry_says Homes line k t e =
    let p : Pair Homes line k t = pair_of_lem Homes line k t e in
    let n : is_login k ≡ true = and_left (is_login k) (lt_text [] k) p.fits in
    record { passes = n; key = login_fine k n; value = read_fine (drop (suc p.at) line) t p.reads; bare = λ d. absurd (no (sym d)) }
entry_says Paths line k t e =
    let p : (read_text line ≡ good k) × (not_empty k ≡ true) × (t ≡ []) = path_of_lem (read_text line) k t e in
    record { passes = p.1; key = read_fine line k p.0; value = rw p.2 refl; bare = λ _. p.2 }
entry_says Fields line k t e = absurd (faulty_entry e)

-- a record that is entered

-- an entry, where its key is new and there is room
pub record Goes (two : Bool) (k t : Text) (v w : Pairs) : Type 0 where
  pub new : lookup k v ≡ none
  pub fits : image_length (texts_by two (stored k t v)) ≤ limit_by two
  pub is : stored k t v ≡ w

pub stop_go : {f : Fault} {w : Pairs} → stop f ≡ go w → ⊥
stop_go e = let z : ◌≡◌ {A = ℕ} 0 1 = cc in omega arith

go_same : {v w : Pairs} → go v ≡ go w → v ≡ w
go_same e = cc

pub entered_faulty : (two : Bool) (f : Fault) (v : Pairs) → entered two (faulty f) v ≡ stop f
unfolding entered
entered_faulty two f v = refl

pub goes_of : (two : Bool) (k t : Text) (v w : Pairs) → entered two (entry k t) v ≡ go w → Goes two k t v w
unfolding entered
goes_of two k t v w e = by (lookup k v) refl (leb (image_length (texts_by two (stored k t v))) (limit_by two)) refl
  where
    by : (o : Option Text) → lookup k v ≡ o → (x : Bool) → leb (image_length (texts_by two (stored k t v))) (limit_by two) ≡ x → Goes two k t v w
    by (some u) q x d = absurd (stop_go (rw q at e))
    by none q false d = absurd (stop_go (rw (q, d) at e))
    by none q true d = record { new = q; fits = leb-true (image_length (texts_by two (stored k t v))) (limit_by two) d; is = go_same (rw (q, d) at e) }

fine_by : (two : Bool) (k t : Text) (v : Pairs) → all not_zero k ≡ true → all not_zero t ≡ true → Fine (texts_by two v) → Fine
    (texts_by two (stored k t v))
fine_by true k t v h f g = fine_stored k t v h f g
fine_by false k t v h f g = fine_keys k t v h g

bare_by : (two : Bool) (k t : Text) (v : Pairs) → (two ≡ false → t ≡ []) → Bare two v → Bare two (stored k t v)
bare_by true k t v h b = tt
bare_by false k t v h b = rw (h refl) (bare_keys k v b)

longer_by : (two : Bool) (k t : Text) (v : Pairs) → lookup k v ≡ none → record_bytes (texts_by two v) ≤ record_bytes (texts_by two (stored k t v))
longer_by true k t v e = omega (arith, record_bytes_fresh k t v e)
longer_by false k t v e = keys_longer k t v e

pub longer : (two : Bool) (k t : Text) (v w : Pairs) → Goes two k t v w → image_length (texts_by two v) ≤ image_length (texts_by two w)
unfolding image_length
longer two k t v w g = rw (← g.is) (omega (arith, longer_by two k t v g.new))

sound_goes : (kind : Kind) (k t : Text) (v w : Pairs) → Says kind k t → Goes (in_twos kind) k t v w → Sound kind v → Sound kind w
sound_goes kind k t v w s g d = rw (← g.is) (record {
  fine = fine_by (in_twos kind) k t v s.key s.value d.fine;
  passes = keys_stored (key_test kind) k t v s.passes d.passes;
  rises = rising_stored k t v d.rises;
  bare = bare_by (in_twos kind) k t v s.bare d.bare;
  small = g.fits;
})

-- the two ways of a line
pub record Kept (kind : Kind) (v w : Pairs) : Type 0 where
  pub sound : Sound kind v → Sound kind w
  pub longer : image_length (texts_by (in_twos kind) v) ≤ image_length (texts_by (in_twos kind) w)

pub kept : (kind : Kind) (line : Text) (v w : Pairs) → entered (in_twos kind) (entry_of kind line) v ≡ go w → Kept kind v w
kept kind line v w e = by (entry_of kind line) refl
  where
    by : (x : Entry) → entry_of kind line ≡ x → Kept kind v w
    by (faulty f) q = absurd (stop_go (sym (ap (λ (y : Entry). entered (in_twos kind) y v) q ∙ entered_faulty (in_twos kind) f v) ∙ e))
    by (entry k t) q =
        let g : Goes (in_twos kind) k t v w = goes_of (in_twos kind) k t v w (ap (λ (y : Entry). entered (in_twos kind) y v) (sym q) ∙ e) in
        record { sound = sound_goes kind k t v w (entry_says kind line k t q) g; longer = longer (in_twos kind) k t v w g }
