-- The contract determines the answer and every byte: two outcomes that it allows for one input are equal.
use Prim.Native.Nat.{ℕ}
use mathlib.Core.Path.{◌≡◌, refl, sym, ap}
use mathlib.Core.Option.{Option}
use Rattle.stages.specs.Bytes.{Text}
use Rattle.stages.proofs.Bools.{clash, some_same}
use Rattle.text.proofs.Determined.{one_answer}
use Rattle.table.specs.declared.Kind.{Kind}
use Rattle.tab_show.specs.Lines.{showing_of, showing}
use Rattle.std.specs.Prelude.{Result, Ok, Err}
use Rattle.table.specs.declared.Malformed.{Malformed}

one_shown : (r s : Result ℕ Malformed) (x y : Text) → showing_of r x ≡ showing_of s y → (r ≡ s) × (x ≡ y)
one_shown (Ok n) (Ok m) x y e = (ap Ok (some_same (ap (λ (p : Option ℕ × Text). p.0) e)), ap (λ (p : Option ℕ × Text). p.1) e)
one_shown (Err a) (Err b) x y e = (refl, ap (λ (p : Option ℕ × Text). p.1) e)
one_shown (Ok n) (Err b) x y e = absurd (clash (ap (λ (p : Option ℕ × Text). p.0) (sym e)))
one_shown (Err a) (Ok m) x y e = absurd (clash (ap (λ (p : Option ℕ × Text). p.0) e))

pub show_determined : (kind : Kind) (image out left left' : Text) (r s : Result ℕ Malformed) → showing_of r left ≡ showing kind image out
    → showing_of s left' ≡ showing kind image out → (r ≡ s) × (left ≡ left')
show_determined kind image out left left' r s p q = one_shown r s left left' (one_answer p q)
