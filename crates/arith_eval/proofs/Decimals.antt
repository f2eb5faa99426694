-- Laws of the short way's constants: a run of digits that begins with none of `0`, read from the left.
use Prim.Native.Nat.{ℕ, ◌+◌, ◌-◌, ◌*◌, ◌≤◌, ◌<◌}
use native.Mathlib.Omega.{arith}
use mathlib.Core.Path.{◌≡◌, sym, ap, ◌∙◌}
use mathlib.Core.Bool.{true, false}
use mathlib.Core.List.{[], ◌∷◌}
use mathlib.Core.Option.{Option, some}
use lib.IntN.{ℤ, pos}
use lib.ListN.{length, drop, get_or}
use borrow.Author.Tests.{lt-ltb, ne_eqb}
use Rattle.stages.specs.Bytes.{Text, span, longer, is_blank, is_digit, is_name_byte}
use Rattle.stages.specs.Outcome.{Outcome, done, ◌>>=◌, choose}
use Rattle.stages.specs.Constants.{digit, in_base, constant, number}
use Rattle.stages.specs.Arith.{num, token}
use Rattle.stages.proofs.Bools.{between_bounds, between_true}
use Rattle.stages.proofs.Texts.{Stops, span_more, span_stop}
use Rattle.stages.proofs.Arith.{digit_name_byte}
use Rattle.arith_int.proofs.Ranges.{value}
use Rattle.arith_constant.proofs.Digits.{dec}
use Rattle.arith_token.specs.Tokens.{TokenAt}
use Rattle.arith_token.specs.declared.Token.TheVariants as code
use Rattle.arith_token.proofs.Lexing.{here, constant_first}

-- a digit more
ten_more : (n b : ℕ) (s : Text) → 48 ≤ b → b ≤ 57 → in_base 10 n (b ∷ s) ≡ in_base 10 (n * 10 + (b - 48)) s
unfolding in_base
ten_more n b s h k = rw (lt-ltb (digit b) 10 (omega (arith, dec b h k)), in_base) (ap (λ (d : ℕ). in_base 10 (n * 10 + d) s) (sym (dec b h k)))

-- no `0` in front
decimal_first : (b : ℕ) (s : Text) → 49 ≤ b → b ≤ 57 → constant (b ∷ s) ≡ in_base 10 0 (b ∷ s)
unfolding constant choose
decimal_first b s h k = rw (ne_eqb b 48 (λ e. omega (arith, e)), between_true 49 b 57 h k)

is_digit_lem : (b : ℕ) → 48 ≤ b → b ≤ 57 → is_digit b ≡ true
unfolding is_digit
is_digit_lem b h k = between_true 48 b 57 h k

pub digit_bounds : (b : ℕ) → is_digit b ≡ true → (48 ≤ b) × (b ≤ 57)
unfolding is_digit
digit_bounds b e = between_bounds 48 b 57 e

-- a run of name bytes that begins with a digit
digit_run_lem : (text : Text) (i : ℕ) → i < length text → is_digit (get_or text i 0) ≡ true
    → span is_name_byte (drop i text) ≡ longer (get_or text i 0) (span is_name_byte (drop (i + 1) text))
digit_run_lem text i h e =
    ap (span is_name_byte) (here text i h) ∙ span_more is_name_byte (get_or text i 0) (drop (i + 1) text) (digit_name_byte (get_or text i 0) e)

module _ (text : Text) (from : ℕ) where
  -- the digits before i come to n
  pub record Tells (n i : ℕ) : Type 0 where
    pub onward : from < i
    pub within : i ≤ length text
    pub small : n ≤ 1000000000000000009
    pub sum : in_base 10 0 (span is_name_byte (drop from text)).0 ≡ in_base 10 n (span is_name_byte (drop i text)).0
    pub rest : (span is_name_byte (drop from text)).1 ≡ (span is_name_byte (drop i text)).1

  module _ (h : from < length text) (low : 49 ≤ get_or text from 0) (high : get_or text from 0 ≤ 57) where
    first_digit : is_digit (get_or text from 0) ≡ true
    first_digit = is_digit_lem (get_or text from 0) (omega arith) high

    pub tells_start : Tells (get_or text from 0 - 48) (from + 1)
    tells_start = record {
      onward = omega arith;
      within = omega arith;
      small = omega arith;
      sum =
          ap (λ (p : Text × Text). in_base 10 0 p.0) (digit_run_lem text from h first_digit)
          ∙ ten_more 0 (get_or text from 0) (span is_name_byte (drop (from + 1) text)).0 (omega arith) high
          ∙ ap (λ (m : ℕ). in_base 10 m (span is_name_byte (drop (from + 1) text)).0) (plain_sum (get_or text from 0 - 48));
      rest = ap (λ (p : Text × Text). p.1) (digit_run_lem text from h first_digit);
    }
      where
        plain_sum : (m : ℕ) → 0 * 10 + m ≡ m
        plain_sum m = omega arith

    -- behind the last of them
    module _ {n i : ℕ} (t : Tells n i) (ends : Stops is_name_byte (drop i text)) (bare : is_blank (get_or text from 0) ≡ false) where
      abbrev behind : Text × Text
      behind = span is_name_byte (drop (from + 1) text)

      run_ends : span is_name_byte (drop i text) ≡ ([], drop i text)
      run_ends = span_stop is_name_byte (drop i text) ends

      comes_to_lem : constant (get_or text from 0 ∷ behind.0) ≡ some n
      unfolding in_base
      comes_to_lem =
          decimal_first (get_or text from 0) behind.0 low high ∙ ap (λ (p : Text × Text). in_base 10 0 p.0) (sym (digit_run_lem text from h first_digit))
          ∙ t.sum ∙ ap (λ (p : Text × Text). in_base 10 n p.0) run_ends

      left_over : behind.1 ≡ drop i text
      left_over =
          ap (λ (p : Text × Text). p.1) (sym (digit_run_lem text from h first_digit)) ∙ t.rest ∙ ap (λ (p : Text × Text). p.1) run_ends

      in_range : done (pos n) ≡ number pos (some n)
      unfolding number
      in_range = let s = t.small in value (pos n) (record { sfits = omega arith })

      pub tells_number : TokenAt text from (code.Number (pos n) i)
      tells_number = record {
        is =
            ap token (here text from h)
            ∙ constant_first (get_or text from 0) (drop (from + 1) text) bare first_digit (get_or text from 0 ∷ behind.0) behind.1
            (span_more is_name_byte (get_or text from 0) (drop (from + 1) text) (digit_name_byte (get_or text from 0) first_digit))
            ∙ ap (λ (o : Option ℕ). number pos o >>= λ z. done (num z, behind.1)) comes_to_lem
            ∙ ap (λ (o : Outcome ℤ). o >>= λ z. done (num z, behind.1)) (sym in_range)
            ∙ ap (λ (u : Text). done (num (pos n), u)) left_over;
        ends = record { onward = t.onward; within = t.within };
      }

  pub tells_more : {n i : ℕ} → Tells n i → i < length text → is_digit (get_or text i 0) ≡ true → n ≤ 100000000000000000
      → Tells (n * 10 + (get_or text i 0 - 48)) (i + 1)
  tells_more {n} {i} t h e l =
      let w = digit_bounds (get_or text i 0) e in
      let o = t.onward in
      record {
        onward = omega arith;
        within = omega arith;
        small = omega (arith, w);
        sum =
            t.sum ∙ ap (λ (p : Text × Text). in_base 10 n p.0) (digit_run_lem text i h e)
            ∙ ten_more n (get_or text i 0) (span is_name_byte (drop (i + 1) text)).0 w.0 w.1;
        rest = t.rest ∙ ap (λ (p : Text × Text). p.1) (digit_run_lem text i h e);
      }
