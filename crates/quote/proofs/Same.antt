-- What is written as it is in every way: a byte that is no control byte, no `'` and no backslash, and so a run of such bytes. A byte of a bare field is one of
-- them. The byte 39 is `'`.
use Prim.Native.Nat.{ℕ}
use mathlib.Core.Path.{◌≡◌, refl, sym, ap, ◌∙◌}
use mathlib.Core.Bool.{true, false, ◌||◌, not}
use mathlib.Core.List.{[], ◌∷◌, ◌++◌, append-nil}
use lib.Dec.{eqb}
use lib.ListN.{drop}
use borrow.Author.Tests.{eqb-false, not-true}
use Rattle.stages.specs.Bytes.{Text, part, all, is_bare_byte, not_control}
use Rattle.stages.specs.Quote.{Way, bare, singled, dollared, is_sign, quoted_byte, quoted_bytes}
use Rattle.stages.proofs.Bools.{and_left, and_right, and_both, or_neither}
use Rattle.stages.proofs.Plain.{bare_plain}
use Rattle.stages.proofs.Shown.{bare_shown}
use Rattle.text.specs.Classes.{in_class, Runs}
use Rattle.text.specs.declared.Class.TheVariants.{SameByte}
use Rattle.text.proofs.Runs.{run_splits, run_of}
use Rattle.quote.proofs.Lengths.{byte_other, byte_plain}

pub bare_same : (b : ℕ) → is_bare_byte b ≡ true → in_class SameByte b ≡ true
unfolding is_sign
bare_same b h = let p = bare_plain b h in and_both (bare_shown b h) (rw (p.backslash, p.quote))

pub same_shown : (b : ℕ) → in_class SameByte b ≡ true → not_control b ≡ true
same_shown b h = and_left (not_control b) (not (is_sign b)) h

same_sign : (b : ℕ) → in_class SameByte b ≡ true → is_sign b ≡ false
same_sign b h = not-true (is_sign b) (and_right (not_control b) (not (is_sign b)) h)

same_quote : (b : ℕ) → in_class SameByte b ≡ true → eqb b 39 ≡ false
unfolding is_sign
same_quote b h = (or_neither (eqb b 39) false (or_neither (eqb b 92) (eqb b 39 || false) (same_sign b h)).1).0

same_byte : (way : Way) (b : ℕ) → in_class SameByte b ≡ true → quoted_byte way b ≡ b ∷ []
unfolding quoted_byte is_sign
same_byte bare b h = refl
same_byte singled b h = byte_other b (eqb-false b 39 (same_quote b h))
same_byte dollared b h = byte_plain b (same_sign b h) (same_shown b h)

same_bytes : (way : Way) (t u : Text) → all (in_class SameByte) t ≡ true → quoted_bytes way (t ++ u) ≡ t ++ quoted_bytes way u
unfolding quoted_bytes
same_bytes way [] u e = refl
same_bytes way (b ∷ t) u e =
    rw (same_byte way b (and_left (in_class SameByte b) (all (in_class SameByte) t) e))
    (ap (λ (x : Text). b ∷ x) (same_bytes way t u (and_right (in_class SameByte b) (all (in_class SameByte) t) e)))

-- all of a text, and the run at a place of it

pub same_all : (way : Way) (t : Text) → all (in_class SameByte) t ≡ true → quoted_bytes way t ≡ t
unfolding quoted_bytes
same_all way t e = ap (quoted_bytes way) (sym (append-nil t)) ∙ same_bytes way t [] e ∙ append-nil t

pub same_run : (way : Way) (t : Text) (at r : ℕ) → Runs t at SameByte r → quoted_bytes way (drop at t) ≡ part t at r ++ quoted_bytes way (drop r t)
same_run way t at r p = ap (quoted_bytes way) (run_splits t at SameByte r p) ∙ same_bytes way (part t at r) (drop r t) (run_of t at SameByte r p)
