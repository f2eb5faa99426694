-- Laws of tokens: what the byte at a place tells of the token there, and what the byte behind it tells.
use Prim.Native.Nat.{ℕ, suc, ◌+◌, ◌-◌, ◌≤◌, ◌<◌}
use native.Mathlib.Omega.{arith}
use native.Mathlib.Numerals.{add-one}
use mathlib.Core.Path.{◌≡◌, refl, sym, ap, ◌∙◌, subst}
use mathlib.Core.Bool.{Bool, true, false, not, ◌&&◌}
use mathlib.Core.List.{[], ◌∷◌, ◌++◌}
use mathlib.Core.Option.{Option, none, some}
use mathlib.Core.Logic.{◌⊎◌, inl, inr}
use lib.Dec.{eqb}
use lib.IntN.{ℤ, pos}
use lib.ListN.{length, drop, get_or, length-take, drop_of_length-le}
use lib.Seq.{drop-cons}
use borrow.Author.Tests.{eq-eqb, ne_eqb, eqb-true, not-true}
use Rattle.stages.specs.Numbers.{arithmetic_syntax}
use Rattle.stages.specs.Bytes.{Text, part, between, all, span, is_blank, is_letter, is_digit, is_name_start, is_name_byte}
use Rattle.stages.specs.Outcome.{Outcome, refused, demands, done, ◌>>=◌, choose}
use Rattle.stages.specs.Images.{is_name}
use Rattle.stages.specs.Constants.{number, constant}
use Rattle.stages.specs.Arith.{Token as Kind, operator, level, Lexed, num, name, Spellings, written, behind, spelled, token}
use Rattle.stages.proofs.Bools.{no, not_passed, either, and_left, and_right, and_both, or_cases, between_bounds}
use Rattle.stages.proofs.Outcomes.{done_same, never, never_asks}
use Rattle.stages.proofs.Ended.{is_named}
use Rattle.stages.proofs.Texts.{Stops, span_join, span_all, span_stops, span_more, start_name_byte}
use Rattle.stages.proofs.Arith.{digit_name_byte}
use Rattle.text.specs.Classes.{Runs}
use Rattle.text.specs.declared.Class.TheVariants.{Blank, NameByte}
use Rattle.arith_int.specs.Answers.{op_of}
use Rattle.arith_int.specs.declared.Op.{Op}
use Rattle.arith_int.specs.declared.Op.TheVariants.{Mul, Div, Rem, Add, Sub, Shl, Shr, Lt, Le, Gt, Ge, Eq, Ne, BitAnd, BitXor, BitOr}
use Rattle.arith_int.specs.declared.Op.TheVariants.{LogAnd, LogOr, LogNot, BitNot}
use Rattle.text.specs.Places.{Behind}
use Rattle.std.specs.Prelude.{Result, Ok, Err}
use Rattle.text.specs.declared.refusal.Refusal.{Refusal}
use Rattle.arith_token.specs.Tokens.{level_of, lexed, Ends, TokenAt, Lexes, paired_by, Pairable, Pairs, Symbol}
use Rattle.arith_token.specs.declared.Token.{Token}
use Rattle.arith_token.specs.declared.Token.TheVariants as code

pub level_is : (o : Op) → level_of o ≡ level (op_of o)
unfolding level operator
level_is Mul = refl
level_is Div = refl
level_is Rem = refl
level_is Add = refl
level_is Sub = refl
level_is Shl = refl
level_is Shr = refl
level_is Lt = refl
level_is Le = refl
level_is Gt = refl
level_is Ge = refl
level_is Eq = refl
level_is Ne = refl
level_is BitAnd = refl
level_is BitXor = refl
level_is BitOr = refl
level_is LogAnd = refl
level_is LogOr = refl
level_is LogNot = refl
level_is BitNot = refl

pub level_small : (o : Op) → level_of o ≤ 12
level_small Mul = omega arith
level_small Div = omega arith
level_small Rem = omega arith
level_small Add = omega arith
level_small Sub = omega arith
level_small Shl = omega arith
level_small Shr = omega arith
level_small Lt = omega arith
level_small Le = omega arith
level_small Gt = omega arith
level_small Ge = omega arith
level_small Eq = omega arith
level_small Ne = omega arith
level_small BitAnd = omega arith
level_small BitXor = omega arith
level_small BitOr = omega arith
level_small LogAnd = omega arith
level_small LogOr = omega arith
level_small LogNot = omega arith
level_small BitNot = omega arith

-- the first byte decides

-- a byte that begins no row of the table
abbrev Others : ℕ → Type 0
Others b =
    (b ≡ 40 → ⊥) × (b ≡ 41 → ⊥) × (b ≡ 63 → ⊥) × (b ≡ 58 → ⊥) × (b ≡ 94 → ⊥) × (b ≡ 126 → ⊥) × (b ≡ 42 → ⊥) × (b ≡ 47 → ⊥) × (b ≡ 37 → ⊥)
    × (b ≡ 43 → ⊥) × (b ≡ 45 → ⊥) × (b ≡ 60 → ⊥) × (b ≡ 62 → ⊥) × (b ≡ 61 → ⊥) × (b ≡ 33 → ⊥) × (b ≡ 38 → ⊥) × (b ≡ 124 → ⊥)

-- no row of a table begins with the byte
abbrev begins : ℕ → Text → Bool
begins b [] = true
begins b (c ∷ s) = eqb b c

abbrev begins_none : ℕ → Spellings → Bool
begins_none b [] = true
begins_none b (r ∷ l) = not (begins b r.0) && begins_none b l

behind_other : (b c : ℕ) (s u : Text) → eqb b c ≡ false → behind (c ∷ s) (b ∷ u) ≡ none
unfolding behind
behind_other b c s u e = rw (e, behind)

row_other : (b : ℕ) (s u : Text) → not (begins b s) ≡ true → behind s (b ∷ u) ≡ none
row_other b [] u e = absurd (no e)
row_other b (c ∷ s) u e = behind_other b c s u (not-true (eqb b c) e)

spelled_other : (l : Spellings) (b : ℕ) (u : Text) → begins_none b l ≡ true → spelled l (b ∷ u) ≡ refused arithmetic_syntax
unfolding spelled
spelled_other [] b u e = refl
spelled_other (r ∷ l) b u e =
    rw (row_other b r.0 u (and_left (not (begins b r.0)) (begins_none b l) e), spelled)
    (spelled_other l b u (and_right (not (begins b r.0)) (begins_none b l) e))

others_begin_none : (b : ℕ) → Others b → begins_none b written ≡ true
unfolding written
others_begin_none b e =
    rw (
      ne_eqb b 40 e.0,
      ne_eqb b 41 e.1,
      ne_eqb b 63 e.2,
      ne_eqb b 58 e.3,
      ne_eqb b 94 e.4,
      ne_eqb b 126 e.5,
      ne_eqb b 42 e.6,
      ne_eqb b 47 e.7,
      ne_eqb b 37 e.8,
      ne_eqb b 43 e.9,
      ne_eqb b 45 e.10,
      ne_eqb b 60 e.11,
      ne_eqb b 62 e.12,
      ne_eqb b 61 e.13,
      ne_eqb b 33 e.14,
      ne_eqb b 38 e.15,
      ne_eqb b 124 e.16,
    )

none_fits : (b : ℕ) (u : Text) → is_blank b ≡ false → is_digit b ≡ false → is_name_start b ≡ false → Others b → token (b ∷ u) ≡ refused arithmetic_syntax
unfolding token choose
none_fits b u x y z e = rw (x, y, z) (spelled_other written b u (others_begin_none b e))

pub constant_first : (b : ℕ) (u : Text) → is_blank b ≡ false → is_digit b ≡ true → (x y : Text) → span is_name_byte (b ∷ u) ≡ (x, y)
    → token (b ∷ u) ≡ (number pos (constant x) >>= λ z. done (num z, y))
unfolding token choose
constant_first b u e f x y s = rw (e, f, s)

name_first : (b : ℕ) (u : Text) → is_blank b ≡ false → is_digit b ≡ false → is_name_start b ≡ true → (x y : Text) → span is_name_byte
    (b ∷ u) ≡ (x, y)
    → token (b ∷ u) ≡ done (name x, y)
unfolding token choose
name_first b u e f g x y s = rw (e, f, g, s)

symbol_first : (b : ℕ) (u : Text) → is_blank b ≡ false → is_digit b ≡ false → is_name_start b ≡ false → token (b ∷ u) ≡ spelled written (b ∷ u)
unfolding token choose
symbol_first b u e f g = rw (e, f, g)

-- no digit begins a name
pub start_no_digit : (b : ℕ) → is_name_start b ≡ true → is_digit b ≡ false
unfolding is_name_start is_letter is_digit
start_no_digit b e = not_passed (is_digit b) (λ d. go (between_bounds 48 b 57 d) (or_cases (is_letter b) (eqb b 95) e))
  where
    letter : (48 ≤ b) × (b ≤ 57) → (between 65 b 90 ≡ true) ⊎ (between 97 b 122 ≡ true) → ⊥
    letter w (inl h) = let k = between_bounds 65 b 90 h in omega arith
    letter w (inr h) = let k = between_bounds 97 b 122 h in omega arith

    go : (48 ≤ b) × (b ≤ 57) → (is_letter b ≡ true) ⊎ (eqb b 95 ≡ true) → ⊥
    go w (inl h) = letter w (or_cases (between 65 b 90) (between 97 b 122) h)
    go w (inr h) = let k = eqb-true b 95 h in omega arith

-- nor does a byte that begins none of another kind
abbrev names_none : Spellings → Bool
names_none [] = true
names_none (r ∷ l) = not (is_named r.1) && names_none l

other_kind : (k : Kind) (u x v : Text) → is_named k ≡ false → ◌≡◌ {A = Lexed} (done (k, u)) (done (name x, v)) → ⊥
other_kind k u x v n q = no (sym n ∙ ap (λ (p : Kind × Text). is_named p.0) (done_same q))

row_kind : (k : Kind) (o : Option Text) (l : Lexed) (x v : Text) → is_named k ≡ false → (l ≡ done (name x, v) → ⊥)
    → ◌≡◌ {A = Lexed} (elim o [ some u ↦ done (k, u) | none ↦ l ]) (done (name x, v)) → ⊥
row_kind k (some u) l x v n i q = other_kind k u x v n q
row_kind k none l x v n i q = i q

spelled_kind : (l : Spellings) (t x v : Text) → names_none l ≡ true → spelled l t ≡ done (name x, v) → ⊥
unfolding spelled
spelled_kind [] t x v p q = never (sym q)
spelled_kind (r ∷ l) t x v p q =
    row_kind r.1 (behind r.0 t) (spelled l t) x v (not-true (is_named r.1) (and_left (not (is_named r.1)) (names_none l) p))
    (spelled_kind l t x v (and_right (not (is_named r.1)) (names_none l) p)) q

written_kind : names_none written ≡ true
unfolding written
written_kind = refl

constant_kind : (o : Outcome ℤ) (u x v : Text) → ◌≡◌ {A = Lexed} (o >>= λ z. done (num z, u)) (done (name x, v)) → ⊥
constant_kind (refused e) u x v q = never (sym q)
constant_kind (demands t) u x v q = never_asks q
constant_kind (done z) u x v q = other_kind (num z) u x v refl q

no_name_first : (b : ℕ) (u : Text) → is_blank b ≡ false → is_name_start b ≡ false → (x v : Text) → token (b ∷ u) ≡ done (name x, v) → ⊥
no_name_first b u e f x v q =
    either (is_digit b)
    (λ d. constant_kind (number pos (constant (span is_name_byte (b ∷ u)).0)) (span is_name_byte (b ∷ u)).1 x v
    (sym (constant_first b u e d (span is_name_byte (b ∷ u)).0 (span is_name_byte (b ∷ u)).1 refl) ∙ q))
    (λ d. spelled_kind written (b ∷ u) x v written_kind (sym (symbol_first b u e d f) ∙ q))

-- the byte at a place, and what is behind it
pub here : (text : Text) (at : ℕ) → at < length text → drop at text ≡ get_or text at 0 ∷ drop (at + 1) text
here text at h = drop-cons text at 0 h ∙ ap (λ (i : ℕ). get_or text at 0 ∷ drop i text) (sym (add-one at))

pub next_place : (text : Text) (at : ℕ) → at < length text → Behind text at (at + 1)
next_place text at h = record { onward = omega arith; within = omega arith }

pub last_place : (text : Text) (at : ℕ) → at + 2 ≤ length text → Behind text at (at + 2)
last_place text at h = record { onward = omega arith; within = h }

-- a token that its first byte decides
pub single : (text : Text) (at b : ℕ) (r : Token) → Symbol text at → get_or text at 0 ≡ b → token (b ∷ drop (at + 1) text) ≡ lexed text r
    → Ends text at r → TokenAt text at r
single text at b r s e t w = record { is = ap token (here text at s.within ∙ ap (λ (x : ℕ). x ∷ drop (at + 1) text) e) ∙ t; ends = w }

-- a byte that begins no token
pub no_token : (text : Text) (at : ℕ) → Symbol text at → Others (get_or text at 0) → token (drop at text) ≡ refused arithmetic_syntax
no_token text at s e = ap token (here text at s.within) ∙ none_fits (get_or text at 0) (drop (at + 1) text) s.bare s.digit s.start e

-- with a byte behind it, or alone

behind_one : (b c : ℕ) (u : Text) → eqb b c ≡ true → behind (c ∷ []) (b ∷ u) ≡ some u
unfolding behind
behind_one b c u e = rw (e, behind)

module _ (text : Text) (at second : ℕ) (alone both : Token) (p : Pairable text at alone both) where
  -- by what is behind the first byte
  abbrev told : Kind → Option Text → Lexed
  told k o = elim o [ some u ↦ done (k, u) | none ↦ lexed text alone ]

  by_second : (k : Kind) (o : Option Text) → at + 1 < length text → behind (second ∷ []) (get_or text (at + 1) 0 ∷ drop (at + 1 + 1) text) ≡ o
      → paired_by second (lexed text alone) k (drop (at + 1) text) ≡ told k o
  unfolding paired_by
  by_second k o h e = rw (here text (at + 1) h) (ap (told k) e)

  pub with_second : at + 1 < length text → get_or text (at + 1) 0 ≡ second → Pairs text at second alone both both
  with_second h e = record {
    is = λ k q.
        let i : at + 1 + 1 ≡ at + 2 = omega arith in
        q ∙ ap (λ (j : ℕ). told k (some (drop j text))) (sym i)
        ∙ sym (by_second k (some (drop (at + 1 + 1) text)) h
        (behind_one (get_or text (at + 1) 0) second (drop (at + 1 + 1) text) (eq-eqb (get_or text (at + 1) 0) second e)));
    ends = p.two (omega arith);
  }

  pub without_second : at + 1 < length text → (get_or text (at + 1) 0 ≡ second → ⊥) → Pairs text at second alone both alone
  without_second h n = record {
    is = λ k q.
        sym (by_second k none h (behind_other (get_or text (at + 1) 0) second [] (drop (at + 1 + 1) text) (ne_eqb (get_or text (at + 1) 0) second n)));
    ends = p.one;
  }

  pub at_the_end : length text ≤ at + 1 → Pairs text at second alone both alone
  unfolding paired_by behind
  at_the_end h = record { is = λ k q. rw (drop_of_length-le text h); ends = p.one }

-- blanks in front are passed
token_blanks : (t u : Text) → all is_blank t ≡ true → token (t ++ u) ≡ token u
unfolding token choose
token_blanks [] u e = refl
token_blanks (b ∷ t) u e = rw (and_left (is_blank b) (all is_blank t) e) (token_blanks t u (and_right (is_blank b) (all is_blank t) e))

module _ (text : Text) (at i : ℕ) (r : Runs text at Blank i) where
  pub past_blanks : token (drop at text) ≡ token (drop i text)
  past_blanks =
      ap token (sym (span_join is_blank (drop at text))) ∙ token_blanks (span is_blank (drop at text)).0 (span is_blank (drop at text)).1
      (span_all is_blank (drop at text))
      ∙ ap (λ (p : Text × Text). token p.1) r.is

  -- a token behind them is the token
  pub behind_blanks : (k : Token) → TokenAt text i k → TokenAt text at k
  behind_blanks k t = record { is = past_blanks ∙ t.is; ends = wider k t.ends }
    where
      further_on : (next : ℕ) → Behind text i next → Behind text at next
      further_on next b = let a = b.onward in let o = r.onward in record { onward = omega arith; within = b.within }

      wider : (k : Token) → Ends text i k → Ends text at k
      wider code.Stop w = tt
      wider (code.Number z next) w = further_on next w
      wider (code.Name from to) w = record { named = w.named; behind = further_on to w.behind; rising = w.rising }
      wider (code.Op o next) w = further_on next w
      wider (code.Opens next) w = further_on next w
      wider (code.Shuts next) w = further_on next w
      wider (code.Query next) w = further_on next w
      wider (code.Colon next) w = further_on next w
      wider (code.Gets s next) w = further_on next w

  -- .. or its refusal the refusal
  pub lexes_behind : (r : Result Token Refusal) → Lexes text i r → Lexes text at r
  lexes_behind (Ok k) t = behind_blanks k t
  lexes_behind (Err e) t = past_blanks ∙ t

  pub nothing_left : i ≡ length text → TokenAt text at code.Stop
  unfolding token
  nothing_left e = let h : length text ≤ i = omega arith in record { is = past_blanks ∙ ap token (drop_of_length-le text h); ends = tt }

  -- the byte behind them is none
  pub not_blank : i < length text → is_blank (get_or text i 0) ≡ false
  not_blank h =
      let s : Stops is_blank (drop i text) = subst (λ (p : Text × Text). Stops is_blank p.1) r.is (span_stops is_blank (drop at text)) in
      subst (Stops is_blank) (here text i h) s

  -- where it begins no name, there is none
  pub no_name_at : i < length text → is_name_start (get_or text i 0) ≡ false → (x v : Text) → token (drop at text) ≡ done (name x, v) → ⊥
  no_name_at h e x v q =
      no_name_first (get_or text i 0) (drop (i + 1) text) (not_blank h) e x v (ap token (sym (here text i h)) ∙ sym past_blanks ∙ q)

-- a run of name bytes: a constant, or a name
module _ (text : Text) (at to : ℕ) (h : at < length text) (r : Runs text at NameByte to) where
  run : span is_name_byte (get_or text at 0 ∷ drop (at + 1) text) ≡ (part text at to, drop to text)
  run = ap (span is_name_byte) (sym (here text at h)) ∙ r.is

  run_behind : is_name_byte (get_or text at 0) ≡ true → Behind text at to
  run_behind e = record {
    onward =
        grows (ap (λ (p : Text × Text). length p.0) (sym (span_more is_name_byte (get_or text at 0) (drop (at + 1) text) e) ∙ run));
    within = r.within;
  }
    where
      grows : suc (length (span is_name_byte (drop (at + 1) text)).0) ≡ length (part text at to) → at < to
      grows q = omega (arith, length-take (to - at) (drop at text))

  run_name : is_name_start (get_or text at 0) ≡ true → is_name (part text at to) ≡ true
  unfolding is_name
  run_name e =
      ap (λ (p : Text × Text). is_name p.0) (sym run)
      ∙ rw (span_more is_name_byte (get_or text at 0) (drop (at + 1) text) (start_name_byte (get_or text at 0) e))
      (and_both e (span_all is_name_byte (drop (at + 1) text)))

  module _ (bare : is_blank (get_or text at 0) ≡ false) where
    constant_token : is_digit (get_or text at 0) ≡ true → token (drop at text) ≡
        (number pos (constant (part text at to)) >>= λ z. done (num z, drop to text))
    constant_token e = ap token (here text at h) ∙ constant_first (get_or text at 0) (drop (at + 1) text) bare e (part text at to) (drop to text) run

    pub name_at_lem : is_digit (get_or text at 0) ≡ false → is_name_start (get_or text at 0) ≡ true → TokenAt text at (code.Name at to)
    name_at_lem e f = record {
      is = ap token (here text at h) ∙ name_first (get_or text at 0) (drop (at + 1) text) bare e f (part text at to) (drop to text) run;
      ends = record { named = run_name f; behind = run_behind (start_name_byte (get_or text at 0) f); rising = r.onward };
    }

    pub bad_constant : is_digit (get_or text at 0) ≡ true → (e : ℕ) → refused e ≡ number pos (constant (part text at to)) → token (drop at text) ≡ refused e
    bad_constant d e q = constant_token d ∙ ap (λ (o : Outcome ℤ). o >>= λ z. done (num z, drop to text)) (sym q)

    pub good_constant : is_digit (get_or text at 0) ≡ true → (z : ℤ) → done z ≡ number pos (constant (part text at to)) → TokenAt text at
        (code.Number z to)
    good_constant d z q = record {
      is = constant_token d ∙ ap (λ (o : Outcome ℤ). o >>= λ z. done (num z, drop to text)) (sym q);
      ends = run_behind (digit_name_byte (get_or text at 0) d);
    }
