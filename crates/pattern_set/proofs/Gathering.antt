-- The members of a bracket one after the other: each adds its bytes to the set that is gathered.
use Prim.Native.Nat.{ℕ, zero, suc, ◌+◌, ◌≤◌, ◌<◌}
use mathlib.Core.Path.{◌≡◌, refl, sym, ◌∙◌, ap}
use mathlib.Core.Bool.{Bool, true, false, not, ◌||◌}
use mathlib.Core.List.{[], ◌∷◌}
use Rattle.std.proofs.Common.{Result}
use lib.ListN.{length, drop, get_or}
use Rattle.stages.specs.Bytes.{Text, between}
use Rattle.stages.specs.Pattern.{Signs, these, all_others, member_length, member_holds, listed, in_set}
use Rattle.pattern_unit.specs.Widths.{size, signs_by}
use Rattle.pattern_unit.specs.declared.Width.{Width}
use Rattle.pattern_unit.proofs.Units.{unit_at, none_at}
use Rattle.pattern_class.specs.Table.{in_runs}
use Rattle.pattern_member.specs.Members.{first_member, read_of, Says, behind_read}
use Rattle.pattern_member.specs.declared.BadClass.{BadClass}
use Rattle.pattern_member.specs.declared.Member.{Member}
use Rattle.pattern_member.proofs.Members.{member_first, member_units}

-- four runs added one after the other are all that is in one of them
pub four_runs : (r : Text) (k : ℕ) (a : Bool) {b c d e : Bool} →
    b ≡ (between (get_or r 6 0) k (get_or r 7 0) || a) →
    c ≡ (between (get_or r 4 0) k (get_or r 5 0) || b) →
    d ≡ (between (get_or r 2 0) k (get_or r 3 0) || c) →
    e ≡ (between (get_or r 0 0) k (get_or r 1 0) || d) → e ≡ (in_runs r k || a)
four_runs r k a g h i j =
    rw (j, i, h, g)
    (turned (between (get_or r 0 0) k (get_or r 1 0)) (between (get_or r 2 0) k (get_or r 3 0)) (between (get_or r 4 0) k (get_or r 5 0))
    (between (get_or r 6 0) k (get_or r 7 0)) a)
  where
    turned : (w x y z a : Bool) → (w || (x || (y || (z || a)))) ≡ ((w || (x || (y || z))) || a)
    turned true x y z a = refl
    turned false true y z a = refl
    turned false false true z a = refl
    turned false false false z a = refl

-- skipping units is dropping them
listed_skip : (n : ℕ) (r : Signs) (b : ℕ) → listed n r b ≡ listed 0 (drop n r) b
unfolding listed
listed_skip zero r b = refl
listed_skip (suc n) [] b = refl
listed_skip (suc n) (s ∷ r) b = listed_skip n r b

module _ (w : Width) (p : Text) (k b : ℕ) where
  -- what is read at a place lists, and the members behind it
  pub lists_on : k + size w ≤ length p → {r : Result Member BadClass} → Says w p (k + size w) (first_member false (signs_by w (drop k p))) r →
      listed 0 (signs_by w (drop k p)) b ≡ (member_holds (read_of r) b || listed 0 (signs_by w (drop (behind_read r k w) p)) b)
  unfolding listed
  lists_on h {r} s =
      let l = signs_by w (drop (k + size w) p) in
      let n = member_length (read_of r) in
      ap (λ (l : Signs). listed 0 l b) (unit_at w p k h)
      ∙ rw (sym (member_first k false h s))
      (ap (λ (x : Bool). member_holds (read_of r) b || x) (listed_skip n l b ∙ ap (λ (l : Signs). listed 0 l b) (member_units w p k r)))

  pub lists_none : length p < k + size w → listed 0 (signs_by w (drop k p)) b ≡ false
  unfolding listed
  lists_none h = rw (none_at w p k h)

-- what is gathered and what is left, before and after a member
pub gathered : (all had now new left : Bool) → all ≡ (had || left) → left ≡ (new || now) → {more : Bool} → more ≡ (new || had) → all
    ≡ (more || now)
gathered all had now new left e f g = e ∙ rw (f, g) (turned had new now)
  where
    turned : (a b c : Bool) → (a || (b || c)) ≡ ((b || a) || c)
    turned true true c = refl
    turned true false c = refl
    turned false true c = refl
    turned false false c = refl

-- a set or all other bytes
pub in_members : (members : Signs) (b : ℕ) {r : Bool} → r ≡ listed 0 members b → r ≡ in_set these members b
unfolding in_set
in_members members b h = h

pub in_others : (members : Signs) (b : ℕ) {r s : Bool} → s ≡ listed 0 members b → r ≡ not s → r ≡ in_set all_others members b
unfolding in_set
in_others members b h g = g ∙ ap not h
