-- Whatever two outcomes a contract of this crate allows for one input, they are equal: a set is its 256 bits, and each other answer is equal to one definition.
use Prim.Native.Nat.{ℕ, ◌+◌, ◌*◌, ◌^◌, ◌<◌}
use mathlib.Core.Path.{◌≡◌, sym, ◌∙◌, ap, ap₂}
use mathlib.Core.Bool.{Bool, false, not, ◌||◌}
use mathlib.Core.List.{List}
use native.Mathlib.Omega.{arith}
use lib.Dec.{eqb}
use lib.ListN.{length, drop, get_or}
use lib.Seq.{ext_get_or}
use Rattle.stages.specs.Bytes.{Text}
use Rattle.stages.specs.Pattern.{sense_of, in_set}
use Rattle.text.proofs.Determined.{one_answer}
use Rattle.pattern_unit.specs.Widths.{signs_by}
use Rattle.pattern_unit.specs.declared.Width.{Width}
use Rattle.pattern_set.specs.Sets.{bit, has, PutsWords}
use Rattle.pattern_set.specs.declared.ByteSet.{ByteSet}
use Rattle.pattern_set.proofs.Words.{bits_same}

pub has_determined : (s : ByteSet) (b : ℕ) {r q : Bool} → r ≡ has s.words b → q ≡ has s.words b → r ≡ q
has_determined s b = one_answer

-- what the type of a set says: four words of 64 bits
pub record Typed (s : ByteSet) : Type 0 where
  pub four : length s.words ≡ 4
  pub fits : (i : ℕ) → get_or s.words i 0 < 2 ^ 64

has_at : (words : List ℕ) (i j : ℕ) → j < 64 → has words (64 * i + j) ≡ bit (get_or words i 0) j
has_at words i j h = ap₂ (λ (m n : ℕ). bit (get_or words m 0) n) (omega arith) (omega arith)

-- a set that is given bit by bit
pub set_determined : (want : ℕ → Bool) (r q : ByteSet) → Typed r → Typed q
    → ((k : ℕ) → k < 256 → has r.words k ≡ want k) → ((k : ℕ) → k < 256 → has q.words k ≡ want k) → r ≡ q
set_determined want r q s t e f = ap (λ (l : List ℕ). record { words = l }) (ext_get_or 0 r.words q.words (s.four ∙ sym t.four) each)
  where
    each : (i : ℕ) → i < length r.words → get_or r.words i 0 ≡ get_or q.words i 0
    each i h = bits_same 64 (get_or r.words i 0) (get_or q.words i 0) (s.fits i) (t.fits i)
        (λ j k. sym (has_at r.words i j k) ∙ one_answer (e (64 * i + j) (omega (arith, s.four))) (f (64 * i + j) (omega (arith, s.four)))
        ∙ has_at q.words i j k)

pub none_determined : (r q : ByteSet) → Typed r → Typed q
    → ((k : ℕ) → k < 256 → has r.words k ≡ false) → ((k : ℕ) → k < 256 → has q.words k ≡ false) → r ≡ q
none_determined = set_determined (λ k. false)

pub with_byte_determined : (s : ByteSet) (b : ℕ) (r q : ByteSet) → Typed r → Typed q
    → ((k : ℕ) → k < 256 → has r.words k ≡ (eqb b k || has s.words k))
    → ((k : ℕ) → k < 256 → has q.words k ≡ (eqb b k || has s.words k)) → r ≡ q
with_byte_determined s b = set_determined (λ k. eqb b k || has s.words k)

pub others_determined : (s : ByteSet) (r q : ByteSet) → Typed r → Typed q
    → ((k : ℕ) → k < 256 → has r.words k ≡ not (has s.words k))
    → ((k : ℕ) → k < 256 → has q.words k ≡ not (has s.words k)) → r ≡ q
others_determined s = set_determined (λ k. not (has s.words k))

pub set_of_determined : (units : Text) (negative : Bool) (w : Width) (r q : ByteSet) → Typed r → Typed q
    → ((k : ℕ) → k < 256 → has r.words k ≡ in_set (sense_of negative) (signs_by w units) k)
    → ((k : ℕ) → k < 256 → has q.words k ≡ in_set (sense_of negative) (signs_by w units) k) → r ≡ q
set_of_determined units negative w = set_determined (λ k. in_set (sense_of negative) (signs_by w units) k)

pub set_at_determined : (sets : List ℕ) (at : ℕ) (r q : ByteSet) → Typed r → Typed q
    → ((k : ℕ) → k < 256 → has r.words k ≡ has (drop at sets) k)
    → ((k : ℕ) → k < 256 → has q.words k ≡ has (drop at sets) k) → r ≡ q
set_at_determined sets at = set_determined (λ k. has (drop at sets) k)

pub put_set_determined : (s : ByteSet) (sets : List ℕ) (at : ℕ) (r q : List ℕ) → PutsWords s.words at sets r → PutsWords s.words at sets q → r ≡ q
put_set_determined s sets at r q a b = one_answer a.is b.is
