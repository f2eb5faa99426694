-- What makes a member of a bracket, as it is read from the units at a place and behind it.
use Prim.Native.Nat.{ℕ, ◌+◌, ◌*◌, ◌≤◌, ◌<◌}
use mathlib.Core.Path.{◌≡◌, refl, sym, ◌∙◌, ap}
use mathlib.Core.Bool.{Bool, true, false, not, ◌&&◌, ◌||◌, or-false, and-false}
use mathlib.Core.List.{[], ◌∷◌}
use mathlib.Core.Option.{none}
use Rattle.std.proofs.Common.{Result, Ok, Err}
use native.Mathlib.Omega.{arith}
use native.Mathlib.Decide.{dec_le}
use lib.Dec.{eqb}
use lib.ListN.{length, drop, get_or}
use lib.Seq.{drop-drop}
use Rattle.stages.specs.Bytes.{Text, is_in, text}
use Rattle.stages.specs.Classes.{classes, written}
use Rattle.stages.specs.Pattern.{
  Sign,
  Signs,
  is_live,
  opens_class,
  stops,
  ranges,
  class_at,
  class_member,
  byte_member,
  member,
  member_length,
}
use Rattle.stages.specs.Pattern as pattern
use Rattle.stages.proofs.Bools.{apart}
use Rattle.stages.proofs.Members.{as_class, as_byte, byte_alone, byte_range, byte_class}
use Rattle.pattern_unit.specs.Widths.{size, signs_by}
use Rattle.pattern_unit.specs.Heads.{begins}
use Rattle.pattern_unit.specs.declared.Width.{Width}
use Rattle.pattern_unit.proofs.Units.{scale_zero, scale_two, scale_more, sign_at, unit_at, none_at, units_behind, live_seen, live_inside}
use Rattle.pattern_class.specs.Rows.{row_class, FindsRow}
use Rattle.pattern_member.specs.Members.{opens, first_member, read_of, Says, behind_read}
use Rattle.pattern_member.specs.declared.BadClass.{BadClass}
use Rattle.pattern_member.specs.declared.Member.{Member}
use Rattle.pattern_member.specs.declared.Member.TheVariants.{Single, Range, Class}

-- A CLASS OPENS

-- one of three
three : (b : ℕ) (live : Bool) → (live && is_in b (text ":.=")) ≡ ((live && eqb b 58) || ((live && eqb b 46) || (live && eqb b 61)))
three b true = rw (or-false (eqb b 61))
three b false = refl

opens_both : (s : Sign) (r : Signs) → opens_class s r ≡ (is_live 91 s && (begins 58 r || (begins 46 r || begins 61 r)))
unfolding opens_class begins
opens_both s [] = sym (and-false (is_live 91 s))
opens_both s (u ∷ r) = rw (three u.byte u.live)

-- the units from a place on, and those behind the first
module _ (w : Width) (p : Text) (k : ℕ) where
  abbrev here : Signs
  here = signs_by w (drop k p)

  abbrev behind : Signs
  behind = signs_by w (drop (k + size w) p)

  pub opens_at : opens here ≡ (begins 91 here && (begins 58 behind || (begins 46 behind || begins 61 behind)))
  unfolding opens begins
  opens_at = go (dec_le (k + size w) (length p))
    where
      go : Dec (k + size w ≤ length p) → opens here ≡ (begins 91 here && (begins 58 behind || (begins 46 behind || begins 61 behind)))
      go (yes h) = rw (unit_at w p k h) (opens_both (sign_at w p k) behind)
      go (no f) = let h : length p < k + size w = omega arith in rw (none_at w p k h)

-- the place behind a `[` that stands there is in the pattern
pub open_inside : (w : Width) (p : Text) (k : ℕ) {n : ℕ} {x : Bool} → n ≡ size w → x ≡ begins 91 (signs_by w (drop k p)) → x ≡ true → k + n ≤ length p
open_inside w p k e f y = omega (arith, e, live_inside w p k 91 (sym f ∙ y))

-- A RANGE GOES ON

no_dash : (path : Bool) (l : Signs) → begins 45 l ≡ false → ranges path l ≡ false
unfolding ranges begins
no_dash path [] e = refl
no_dash path (d ∷ []) e = refl
no_dash path (d ∷ n ∷ r) e = rw e

not_or : (x y : Bool) → x ≡ false → not (x || y) ≡ not y
not_or x y e = rw e

module _ (w : Width) (p : Text) (k : ℕ) (path : Bool) where
  abbrev ranging : Bool
  ranging = ranges path (here w p k)

  pub range_no_dash : begins 45 (here w p k) ≡ false → ranging ≡ false
  range_no_dash e = no_dash path (here w p k) e

  pub range_last : length p < k + size w + size w → ranging ≡ false
  unfolding ranges
  range_last h = go (dec_le (k + size w) (length p))
    where
      go : Dec (k + size w ≤ length p) → ranging ≡ false
      go (yes e) = rw (unit_at w p k e, none_at w p (k + size w) h)
      go (no f) = let e : length p < k + size w = omega arith in rw (none_at w p k e)

  pub range_inside : ranging ≡ true → k + size w + size w ≤ length p
  range_inside y = go (dec_le (k + size w + size w) (length p))
    where
      go : Dec (k + size w + size w ≤ length p) → k + size w + size w ≤ length p
      go (yes h) = h
      go (no f) = absurd (apart (range_last (omega arith)) y)

  -- where the unit behind the dash is there
  module _ (h : k + size w + size w ≤ length p) where
    abbrev last : Sign
    last = sign_at w p (k + size w)

    pub range_units : here w p k ≡ sign_at w p k ∷ last ∷ signs_by w (drop (k + size w + size w) p)
    range_units =
        let e : k + size w ≤ length p = omega arith in
        unit_at w p k e ∙ ap (λ (r : Signs). sign_at w p k ∷ r) (unit_at w p (k + size w) h)

    range_seen : begins 45 (here w p k) ≡ true → ranging ≡ not (stops path last)
    unfolding ranges begins
    range_seen y = rw range_units (rw (rw range_units at y))

    pub range_closed : begins 45 (here w p k) ≡ true → begins 93 (behind w p k) ≡ true → ranging ≡ false
    unfolding stops
    range_closed y z = range_seen y ∙ rw (sym (live_seen w p (k + size w) 93 h) ∙ z)

    pub range_open : begins 45 (here w p k) ≡ true → begins 93 (behind w p k) ≡ false → ranging ≡ not (path && eqb (get_or p (k + size w) 0) 47)
    unfolding stops
    range_open y z = range_seen y ∙ not_or (is_live 93 last) (path && eqb (get_or p (k + size w) 0) 47) (sym (live_seen w p (k + size w) 93 h) ∙ z)

-- THE MEMBER OF A BYTE, r its units from the place k on

module _ (w : Width) (p : Text) (k : ℕ) (fits : k ≤ length p) (path : Bool) (b : ℕ) where
  abbrev byte_here : Result Member BadClass → Type 0
  byte_here m = Says w p k (byte_member path b (here w p k)) m

  pub byte_single : ranges path (here w p k) ≡ false → byte_here (Ok (Single b))
  unfolding member_length
  byte_single n = record { listed = tt; says = sym (byte_alone path b (here w p k) n); inside = omega (arith, scale_zero w) }

  module _ (y : ranges path (here w p k) ≡ true) where
    whole : here w p k ≡ sign_at w p k ∷ sign_at w p (k + size w) ∷ signs_by w (drop (k + size w + size w) p)
    whole = range_units w p k path (range_inside w p k path y)

    ranged : ranges path (sign_at w p k ∷ sign_at w p (k + size w) ∷ signs_by w (drop (k + size w + size w) p)) ≡ true
    ranged = sym (ap (ranges path) whole) ∙ y

    opened : {x : Bool} → opens (behind w p k) ≡ x → opens_class (sign_at w p (k + size w)) (signs_by w (drop (k + size w + size w) p)) ≡ x
    unfolding opens
    opened e = rw (unit_at w p (k + size w) (range_inside w p k path y)) at e

    pub byte_to_class : opens (behind w p k) ≡ true → byte_here (Err (record {}))
    unfolding member_length
    byte_to_class o = record {
      listed = tt;
      says = sym
          (ap (byte_member path b) whole
          ∙ byte_class path b (sign_at w p k) (sign_at w p (k + size w)) (signs_by w (drop (k + size w + size w) p)) ranged (opened o));
      inside = omega (arith, scale_zero w);
    }

    pub byte_to_byte : opens (behind w p k) ≡ false → byte_here (Ok (Range b (get_or p (k + size w) 0)))
    unfolding member_length
    byte_to_byte o = record {
      listed = tt;
      says = sym
          (ap (byte_member path b) whole
          ∙ byte_range path b (sign_at w p k) (sign_at w p (k + size w)) (signs_by w (drop (k + size w + size w) p)) ranged (opened o));
      inside = omega (arith, scale_two w, range_inside w p k path y);
    }

-- THE MEMBER OF A `[` THAT OPENS A CLASS, its class written from the place k on

module _ (w : Width) (p : Text) (k : ℕ) (fits : k ≤ length p) (path : Bool) where
  abbrev class_here : Result Member BadClass → Type 0
  class_here m = Says w p k (class_member path (class_at classes (here w p k)) (here w p k)) m

  pub class_unknown : class_at classes (here w p k) ≡ none → class_here (Err (record {}))
  unfolding class_member member_length
  class_unknown e = record { listed = tt; says = rw e; inside = omega (arith, scale_zero w) }

  module _ (row : ℕ) (f : FindsRow w p k row) where
    abbrev after : Signs
    after = signs_by w (drop (k + size w * length (written (row_class row))) p)

    skipped : drop (length (written (row_class row))) (here w p k) ≡ after
    skipped =
        units_behind w (length (written (row_class row))) (drop k p)
        ∙ ap (signs_by w) (drop-drop (size w * length (written (row_class row))) k p)

    pub class_to_more : ranges path after ≡ true → class_here (Err (record {}))
    unfolding class_member member_length
    class_to_more y = record { listed = tt; says = rw (f.is, skipped, y); inside = omega (arith, scale_zero w) }

    pub class_alone : ranges path after ≡ false → class_here (Ok (Class row))
    unfolding class_member member_length
    class_alone n = record { listed = f.listed; says = rw (f.is, skipped, n); inside = f.inside }

-- THE MEMBER AT A PLACE

module _ (w : Width) (p : Text) (k : ℕ) (path : Bool) (h : k + size w ≤ length p) where
  opened_here : {x : Bool} → opens (here w p k) ≡ x → opens_class (sign_at w p k) (behind w p k) ≡ x
  unfolding opens
  opened_here e = rw (unit_at w p k h) at e

  pub member_class : opens (here w p k) ≡ true → class_member path (class_at classes (behind w p k)) (behind w p k) ≡ first_member path (here w p k)
  unfolding first_member
  member_class o = sym (rw (unit_at w p k h) (as_class path (sign_at w p k) (behind w p k) (opened_here o)))

  pub member_byte : opens (here w p k) ≡ false → byte_member path (get_or p k 0) (behind w p k) ≡ first_member path (here w p k)
  unfolding first_member
  member_byte o = sym (rw (unit_at w p k h) (as_byte path (sign_at w p k) (behind w p k) (opened_here o)))

-- the member that was read is the stage's ..
pub member_first : {w : Width} {p : Text} {r : Result Member BadClass} (k : ℕ) (path : Bool) → k + size w ≤ length p →
    Says w p (k + size w) (first_member path (signs_by w (drop k p))) r → read_of r ≡ member path (sign_at w p k) (behind w p k)
unfolding first_member
member_first {w} {p} k path h s = rw (unit_at w p k h) at s.says

-- .. the units behind it stand behind the place where it ends ..
pub member_units : (w : Width) (p : Text) (k : ℕ) (r : Result Member BadClass)
    → drop (member_length (read_of r)) (behind w p k) ≡ signs_by w (drop (behind_read r k w) p)
member_units w p k r =
    let n = member_length (read_of r) in
    let e : k + size w + size w * n ≡ behind_read r k w = omega (arith, scale_more w n) in
    units_behind w n (drop (k + size w) p) ∙ ap (signs_by w) (drop-drop (size w * n) (k + size w) p) ∙ ap (λ (i : ℕ). signs_by w (drop i p)) e

-- .. and that place is further, and in the pattern
module _ {w : Width} {p : Text} {is : pattern.Member} {r : Result Member BadClass} (k : ℕ) (s : Says w p (k + size w) is r) where
  pub behind_inside : behind_read r k w ≤ length p
  behind_inside = omega (arith, scale_more w (member_length (read_of r)), s.inside)

  pub behind_further : k + size w ≤ behind_read r k w
  behind_further = omega (arith, scale_more w (member_length (read_of r)))
