-- E2: no byte that a bare field may hold has a rule of its own. Each byte that has one is none of them, by one test of that byte.
use Prim.Native.Nat.{ℕ}
use mathlib.Core.Path.{◌≡◌, refl, sym, ap, ◌∙◌}
use mathlib.Core.Bool.{Bool, true, false, not}
use mathlib.Core.List.{[], ◌∷◌}
use lib.Dec.{eqb}
use borrow.Author.Tests.{eqb-true, not-true}
use Rattle.stages.specs.Bytes.{Text, text, is_in, all, is_bare_byte, blanks, is_blank, is_operator}
use Rattle.stages.proofs.Bools.{apart, either, and_left, and_right}

-- a byte of a bare field is none that no bare field has
bare_other : (c b : ℕ) → is_bare_byte c ≡ false → is_bare_byte b ≡ true → eqb b c ≡ false
bare_other c b n h = either (eqb b c) (λ e. absurd (apart n (ap is_bare_byte (sym (eqb-true b c e)) ∙ h))) (λ e. e)

abbrev not_bare : ℕ → Bool
not_bare c = not (is_bare_byte c)

bare_none : (l : Text) (b : ℕ) → all not_bare l ≡ true → is_bare_byte b ≡ true → is_in b l ≡ false
bare_none [] b e h = refl
bare_none (c ∷ l) b e h =
    rw (bare_other c b (not-true (is_bare_byte c) (and_left (not_bare c) (all not_bare l) e)) h) (bare_none l b (and_right (not_bare c) (all not_bare l) e) h)

-- it separates no words, is no operator and has no rule of its own: neither in reading nor, as `*`, `?`, `[` and `~`, in what comes after
pub record Plain (b : ℕ) : Type 0 where
  pub blank : is_blank b ≡ false
  pub operator : is_operator b ≡ false
  pub hash : eqb b 35 ≡ false
  pub backquote : eqb b 96 ≡ false
  pub quote : eqb b 39 ≡ false
  pub quote2 : eqb b 34 ≡ false
  pub backslash : eqb b 92 ≡ false
  pub dollar : eqb b 36 ≡ false
  pub star : eqb b 42 ≡ false
  pub one : eqb b 63 ≡ false
  pub bracket : eqb b 91 ≡ false
  pub tilde : eqb b 126 ≡ false

pub bare_plain : (b : ℕ) → is_bare_byte b ≡ true → Plain b
unfolding is_bare_byte is_blank is_operator
bare_plain b h = record {
  blank = bare_none blanks b refl h;
  operator = bare_none (text "|&;<>()") b refl h;
  hash = bare_other 35 b refl h;
  backquote = bare_other 96 b refl h;
  quote = bare_other 39 b refl h;
  quote2 = bare_other 34 b refl h;
  backslash = bare_other 92 b refl h;
  dollar = bare_other 36 b refl h;
  star = bare_other 42 b refl h;
  one = bare_other 63 b refl h;
  bracket = bare_other 91 b refl h;
  tilde = bare_other 126 b refl h;
}
