-- Whatever two outcomes a contract of this crate allows for one input, they are equal: each answer is equal to the same definition, and no two members of the
-- code are one of the stage's.
use Prim.Native.Nat.{ℕ, ◌+◌}
use mathlib.Core.Path.{◌≡◌, refl, sym, ◌∙◌, ap}
use mathlib.Core.Bool.{Bool, ◌&&◌}
use Rattle.std.proofs.Common.{Result, Ok, Err}
use native.Mathlib.Omega.{arith}
use lib.Dec.{eqb}
use lib.ListN.{drop, get_or}
use Rattle.stages.specs.Bytes.{Text}
use Rattle.text.proofs.Determined.{one_answer}
use Rattle.pattern_unit.specs.Widths.{size, signs_by}
use Rattle.pattern_unit.specs.declared.Width.{Width}
use Rattle.pattern_class.specs.Rows.{row_class}
use Rattle.pattern_class.proofs.Determined.{one_row}
use Rattle.pattern_member.specs.Members.{first_member, member_of, read_of, is_row, row_read, Says, behind_read}
use Rattle.stages.specs.Pattern.{unserved}
use Rattle.pattern_member.specs.declared.BadClass.{BadClass}
use Rattle.pattern_member.specs.declared.Member.{Member}
use Rattle.pattern_member.specs.declared.Member.TheVariants.{Single, Range, Class}

pub bars_determined : (units : Text) (at : ℕ) (path : Bool) {r q : Bool} → r ≡ (path && eqb (get_or units at 0) 47) → q ≡
    (path && eqb (get_or units at 0) 47) → r ≡ q
bars_determined units at path = one_answer

one_member : (m n : Member) → is_row m → is_row n → member_of m ≡ member_of n → m ≡ n
one_member (Single b) (Single c) h g e = let f : b ≡ c = cc in ap (λ x. Single x) f
one_member (Single b) (Range lo hi) h g e = absurd (let z : ◌≡◌ {A = ℕ} 0 1 = cc in omega arith)
one_member (Single b) (Class row) h g e = absurd (let z : ◌≡◌ {A = ℕ} 0 1 = cc in omega arith)
one_member (Range lo hi) (Single c) h g e = absurd (let z : ◌≡◌ {A = ℕ} 0 1 = cc in omega arith)
one_member (Range lo hi) (Range a b) h g e = let f : lo ≡ a = cc in let d : hi ≡ b = cc in cc
one_member (Range lo hi) (Class row) h g e = absurd (let z : ◌≡◌ {A = ℕ} 0 1 = cc in omega arith)
one_member (Class row) (Single c) h g e = absurd (let z : ◌≡◌ {A = ℕ} 0 1 = cc in omega arith)
one_member (Class row) (Range lo hi) h g e = absurd (let z : ◌≡◌ {A = ℕ} 0 1 = cc in omega arith)
one_member (Class row) (Class other) h g e = let f : row_class row ≡ row_class other = cc in ap (λ n. Class n) (one_row row other h g f)

-- no member of the code is the one that is not served
is_served : (m : Member) → member_of m ≡ unserved → ⊥
is_served (Single b) e = let z : ◌≡◌ {A = ℕ} 0 1 = cc in omega arith
is_served (Range lo hi) e = let z : ◌≡◌ {A = ℕ} 0 1 = cc in omega arith
is_served (Class row) e = let z : ◌≡◌ {A = ℕ} 0 1 = cc in omega arith

one_read : (r q : Result Member BadClass) → row_read r → row_read q → read_of r ≡ read_of q → r ≡ q
one_read (Ok m) (Ok n) h g e = ap Ok (one_member m n h g e)
one_read (Ok m) (Err b) h g e = absurd (is_served m e)
one_read (Err a) (Ok n) h g e = absurd (is_served n (sym e))
one_read (Err a) (Err b) h g e = refl

pub member_at_determined : (units : Text) (at : ℕ) (path : Bool) (w : Width) (r q : Result Member BadClass) →
    Says w units (at + size w) (first_member path (signs_by w (drop at units))) r →
    Says w units (at + size w) (first_member path (signs_by w (drop at units))) q → r ≡ q
member_at_determined units at path w r q h g = one_read r q h.listed g.listed (h.says ∙ sym g.says)

pub behind_determined : (m : Result Member BadClass) (at : ℕ) (w : Width) {r q : ℕ} → r ≡ behind_read m at w → q ≡ behind_read m at w → r ≡ q
behind_determined m at w = one_answer
