-- The lines of a table's records: each is cut from the text as it was shown, and is read as its record.
use Prim.Native.Nat.{ℕ, suc, ◌+◌, ◌/◌, ◌%◌, ◌≤◌, ◌<◌}
use native.Mathlib.Omega.{arith}
use mathlib.Core.Path.{◌≡◌, refl, sym, ap, ◌∙◌}
use mathlib.Core.Bool.{Bool, true, false, ◌||◌, not}
use mathlib.Core.Logic.{◌⊎◌, inl, inr}
use mathlib.Core.List.{List, [], ◌∷◌, ◌++◌, append_assoc}
use lib.Dec.{eqb, ltb}
use lib.ListN.{length, drop, length-append}
use lib.Seq.{take_at}
use borrow.Author.Tests.{eqb-true, ne_eqb, lt-leb, not-true}
use Rattle.stages.specs.Bytes.{Text, text, all, not_zero, is_in, between, is_letter, is_digit, is_name_start, is_name_byte, is_login_byte, lt_text}
use Rattle.stages.specs.Images.{Pairs, is_name, is_login, not_empty, flat}
use Rattle.stages.specs.Program.{lines_of}
use Rattle.stages.proofs.Bools.{no, either, and_left, and_right, and_both, or_cases, or_left, between_bounds, between_true}
use Rattle.stages.proofs.Texts.{all_weaker, start_name_byte}
use Rattle.stages.proofs.Images.{Bytes}
use Rattle.stages.proofs.Program.{NoNewline, lines_first}
use Rattle.table.specs.Kinds.{key_fits, in_twos}
use Rattle.table.specs.declared.Kind.{Kind}
use Rattle.table.specs.declared.Kind.TheVariants.{Variables, Homes, Paths, Fields}
use Rattle.tab_show.specs.Lines.{hex_digit, is_plain, shown_byte, shown_text, shown_texts}
use Rattle.tab_escape.specs.Escapes.{good, up_to}
use Rattle.tab_enter.specs.Records.{texts_by}
use Rattle.tab_enter.specs.Entries.{entry, pair_of, path_of, entry_of}
use Rattle.tab_enter.proofs.Sounds.{key_test}
use Rattle.tab_escape.proofs.Again.{read_shown}

-- no newline in what is shown

is_in_both : (b : ℕ) (t u : Text) → is_in b t ≡ false → is_in b u ≡ false → is_in b (t ++ u) ≡ false
is_in_both b [] u e h = h
is_in_both b (c ∷ t) u e h = either (eqb b c) (λ d. absurd (no (sym (rw d at e)))) (λ d. rw d (is_in_both b t u (rw d at e) h))

digit_none : (n : ℕ) → eqb 10 (hex_digit n) ≡ false
digit_none n = either (ltb n 10) (λ e. rw e (ne_eqb 10 (48 + n) (λ d. omega (arith, d)))) (λ e. rw e (ne_eqb 10 (55 + n) (λ d. omega (arith, d))))

byte_none : (b : ℕ) → is_in 10 (shown_byte b) ≡ false
unfolding shown_byte
byte_none b = either (is_plain b) plain escape
  where
    plain : is_plain b ≡ true → is_in 10 (shown_byte b) ≡ false
    plain e =
        let h : (32 ≤ b) × (b ≤ 126) = between_bounds 32 b 126 (and_left (between 32 b 126) (not (eqb b 92)) e) in
        rw (e, ne_eqb 10 b (λ d. omega (arith, h.0, d)))

    escape : is_plain b ≡ false → is_in 10 (shown_byte b) ≡ false
    escape e = rw e (either (eqb b 10) (λ d. rw d) λ d. rw d (either (eqb b 92) (λ f. rw f) λ f. rw (f, digit_none (b / 16), digit_none (b % 16))))

pub shown_none : (t : Text) → NoNewline (shown_text t)
unfolding shown_text
shown_none [] = refl
shown_none (b ∷ t) = is_in_both 10 (shown_byte b) (shown_text t) (byte_none b) (shown_none t)

-- the line of a record, and the lines of records
abbrev pub line_by : Bool → Text × Text → Text
line_by true r = shown_text r.0 ++ 61 ∷ shown_text r.1
line_by false r = shown_text r.0

abbrev pub lines_by : Bool → Pairs → List Text
lines_by two [] = []
lines_by two (r ∷ v) = line_by two r ∷ lines_by two v

line_none : (two : Bool) (r : Text × Text) → NoNewline (line_by two r)
line_none true r = is_in_both 10 (shown_text r.0) (61 ∷ shown_text r.1) (shown_none r.0) (shown_none r.1)
line_none false r = shown_none r.0

first_shown : (two : Bool) (r : Text × Text) (v : Pairs)
    → shown_texts two two (texts_by two (r ∷ v)) ≡ line_by two r ++ 10 ∷ shown_texts two two (texts_by two v)
unfolding shown_texts
first_shown true r v = sym (append_assoc (shown_text r.0) (61 ∷ shown_text r.1) (10 ∷ shown_texts true true (flat v)))
first_shown false r v = refl

none_shown : (two : Bool) → lines_of (shown_texts two two (texts_by two [])) ≡ []
unfolding shown_texts lines_of
none_shown true = refl
none_shown false = refl

pub lines_shown : (two : Bool) (v : Pairs) → lines_of (shown_texts two two (texts_by two v)) ≡ lines_by two v
lines_shown two [] = none_shown two
lines_shown two (r ∷ v) =
    ap lines_of (first_shown two r v) ∙ lines_first (line_by two r) (shown_texts two two (texts_by two v)) (line_none two r)
    ∙ ap (λ (l : List Text). line_by two r ∷ l) (lines_shown two v)

-- names and logins are shown as they are, and hold no `=`

record Simple (b : ℕ) : Type 0 where
  low : 32 ≤ b
  high : b ≤ 126
  backslash : b ≡ 92 → ⊥
  equals : b ≡ 61 → ⊥

simple_within : (lo hi b : ℕ) → between lo b hi ≡ true → 32 ≤ lo → hi ≤ 126 → (92 < lo) ⊎ (hi < 92) → (61 < lo) ⊎ (hi < 61) → Simple b
simple_within lo hi b e l h s q =
    let k : (lo ≤ b) × (b ≤ hi) = between_bounds lo b hi e in
    record { low = omega (arith, k.0); high = omega (arith, k.1); backslash = λ d. other 92 s d; equals = λ d. other 61 q d }
  where
    other : (n : ℕ) → (n < lo) ⊎ (hi < n) → b ≡ n → ⊥
    other n (inl x) d = omega (arith, d, (between_bounds lo b hi e).0)
    other n (inr x) d = omega (arith, d, (between_bounds lo b hi e).1)

simple_one : (n b : ℕ) → eqb b n ≡ true → 32 ≤ n → n ≤ 126 → (n ≡ 92 → ⊥) → (n ≡ 61 → ⊥) → Simple b
simple_one n b e l h s q =
    let d : b ≡ n = eqb-true b n e in
    record { low = omega (arith, d); high = omega (arith, d); backslash = λ x. s (sym d ∙ x); equals = λ x. q (sym d ∙ x) }

letter_simple : (b : ℕ) → is_letter b ≡ true → Simple b
unfolding is_letter
letter_simple b e = by (or_cases (between 65 b 90) (between 97 b 122) e)
  where
    by : (between 65 b 90 ≡ true) ⊎ (between 97 b 122 ≡ true) → Simple b
    by (inl d) = simple_within 65 90 b d (omega arith) (omega arith) (inr (omega arith)) (inl (omega arith))
    by (inr d) = simple_within 97 122 b d (omega arith) (omega arith) (inl (omega arith)) (inl (omega arith))

name_simple : (b : ℕ) → is_name_byte b ≡ true → Simple b
unfolding is_name_byte is_name_start is_digit
name_simple b e = by (or_cases (is_name_start b) (is_digit b) e)
  where
    start : (is_letter b ≡ true) ⊎ (eqb b 95 ≡ true) → Simple b
    start (inl d) = letter_simple b d
    start (inr d) = simple_one 95 b d (omega arith) (omega arith) (λ x. omega (arith, x)) (λ x. omega (arith, x))

    by : (is_name_start b ≡ true) ⊎ (is_digit b ≡ true) → Simple b
    by (inl d) = start (or_cases (is_letter b) (eqb b 95) d)
    by (inr d) = simple_within 48 57 b d (omega arith) (omega arith) (inr (omega arith)) (inr (omega arith))

login_simple : (b : ℕ) → is_login_byte b ≡ true → Simple b
unfolding is_login_byte
login_simple b e = by (or_cases (is_name_byte b) (is_in b (text ".-")) e)
  where
    last : (eqb b 46 ≡ true) ⊎ ((eqb b 45 || false) ≡ true) → Simple b
    last (inl d) = simple_one 46 b d (omega arith) (omega arith) (λ x. omega (arith, x)) (λ x. omega (arith, x))
    last (inr d) = rest (or_cases (eqb b 45) false d)
      where
        rest : (eqb b 45 ≡ true) ⊎ (false ≡ true) → Simple b
        rest (inl f) = simple_one 45 b f (omega arith) (omega arith) (λ x. omega (arith, x)) (λ x. omega (arith, x))
        rest (inr f) = absurd (no f)

    by : (is_name_byte b ≡ true) ⊎ (is_in b (text ".-") ≡ true) → Simple b
    by (inl d) = name_simple b d
    by (inr d) = last (or_cases (eqb b 46) (eqb b 45 || false) d)

abbrev not_equals : ℕ → Bool
not_equals b = not (eqb b 61)

simple_plain : (b : ℕ) → Simple b → is_plain b ≡ true
simple_plain b s = and_both (between_true 32 b 126 s.low s.high) (rw (ne_eqb b 92 s.backslash))

simple_other : (b : ℕ) → Simple b → not_equals b ≡ true
simple_other b s = rw (ne_eqb b 61 s.equals)

plain_shown : (t : Text) → all is_plain t ≡ true → shown_text t ≡ t
unfolding shown_text shown_byte
plain_shown [] e = refl
plain_shown (b ∷ t) e = rw (and_left (is_plain b) (all is_plain t) e) (ap (λ (u : Text). b ∷ u) (plain_shown t (and_right (is_plain b) (all is_plain t) e)))

up_to_lem : (t u : Text) → all not_equals t ≡ true → up_to 61 (t ++ 61 ∷ u) ≡ length t
up_to_lem [] u e = refl
up_to_lem (b ∷ t) u e =
    rw (not-true (eqb b 61) (and_left (not_equals b) (all not_equals t) e)) (ap suc (up_to_lem t u (and_right (not_equals b) (all not_equals t) e)))

behind_one : (t u : Text) (b : ℕ) → drop (suc (length t)) (t ++ b ∷ u) ≡ u
behind_one [] u b = refl
behind_one (c ∷ t) u b = behind_one t u b

-- a line of two texts is read as its record
pair_again : (kind : Kind) (k t : Text) → key_fits kind [] k ≡ true → all is_login_byte k ≡ true → Bytes t → all not_zero t ≡ true
    → pair_of kind (line_by true (k, t)) ≡ entry k t
unfolding pair_of
pair_again kind k t f l h z =
    let e : shown_text k ≡ k = plain_shown k (all_weaker is_login_byte is_plain (λ b d. simple_plain b (login_simple b d)) k l) in
    let u : up_to 61 (k ++ 61 ∷ shown_text t) ≡ length k =
    up_to_lem k (shown_text t) (all_weaker is_login_byte not_equals (λ b d. simple_other b (login_simple b d)) k l) in
    let n : length k < length (k ++ 61 ∷ shown_text t) = rw (length-append k (61 ∷ shown_text t)) (omega arith) in
    rw (
      e,
      u,
      lt-leb (length (k ++ 61 ∷ shown_text t)) (length k) n,
      take_at k (61 ∷ shown_text t) (length k) refl,
      f,
      behind_one k (shown_text t)
          61,
      read_shown t h z,
    )

name_login : (k : Text) → is_name k ≡ true → all is_login_byte k ≡ true
unfolding is_name is_login_byte
name_login [] e = absurd (no e)
name_login (b ∷ k) e =
    all_weaker is_name_byte is_login_byte (λ c d. or_left (is_in c (text ".-")) d) (b ∷ k)
    (and_both (start_name_byte b (and_left (is_name_start b) (all is_name_byte k) e)) (and_right (is_name_start b) (all is_name_byte k) e))

name_some : (k : Text) → is_name k ≡ true → lt_text [] k ≡ true
unfolding is_name
name_some [] e = absurd (no e)
name_some (b ∷ k) e = refl

login_all : (k : Text) → is_login k ≡ true → (all is_login_byte k ≡ true) × (lt_text [] k ≡ true)
unfolding is_login
login_all [] e = absurd (no e)
login_all (b ∷ k) e = (e, refl)

path_again : (k : Text) → not_empty k ≡ true → path_of (good k) ≡ entry k []
path_again [] e = absurd (no e)
path_again (b ∷ k) e = refl

-- what a record of the kind must be for its line to be read
pub record Fit (kind : Kind) (r : Text × Text) : Type 0 where
  pub passes : key_test kind r.0 ≡ true
  pub key : all not_zero r.0 ≡ true
  pub value : all not_zero r.1 ≡ true
  pub bare : in_twos kind ≡ false → r.1 ≡ []
  pub key_bytes : Bytes r.0
  pub value_bytes : Bytes r.1

-- the kinds whose records have keys
abbrev pub keyed : Kind → Bool
keyed Variables = true
keyed Homes = true
keyed Paths = true
keyed Fields = false

pub line_again : (kind : Kind) (r : Text × Text) → keyed kind ≡ true → Fit kind r → entry_of kind (line_by (in_twos kind) r) ≡ entry r.0 r.1
unfolding entry_of
line_again Variables r k f =
    pair_again Variables r.0 r.1 (and_both f.passes (name_some r.0 f.passes)) (name_login r.0 f.passes) f.value_bytes f.value
line_again Homes r k f =
    let l : (all is_login_byte r.0 ≡ true) × (lt_text [] r.0 ≡ true) = login_all r.0 f.passes in
    pair_again Homes r.0 r.1 (and_both f.passes l.1) l.0 f.value_bytes f.value
line_again Paths r k f =
    ap path_of (read_shown r.0 f.key_bytes f.key) ∙ path_again r.0 f.passes ∙ ap (entry r.0) (sym (f.bare refl))
line_again Fields r k f = absurd (no k)
