-- The piece that stands at a place is the stage's next element there, and the elements behind it begin behind the piece.
use Prim.Native.Nat.{ℕ, zero, suc, ◌+◌, ◌*◌, ◌-◌, ◌≤◌, ◌<◌}
use mathlib.Core.Path.{◌≡◌, refl, sym, ◌∙◌, ap}
use mathlib.Core.Bool.{Bool, true, false, ◌&&◌, ◌||◌, and-false}
use mathlib.Core.List.{List, [], ◌∷◌}
use native.Mathlib.Omega.{arith}
use lib.Dec.{eqb}
use lib.ListN.{length, drop, length-drop}
use lib.Seq.{drop-drop}
use borrow.Author.Tests.{eqb-true, ne_eqb}
use Rattle.stages.proofs.Bools.{and_right}
use Rattle.stages.specs.Outcome.{pick}
use Rattle.stages.specs.Bytes.{Text}
use Rattle.stages.specs.Pattern.{
  Sign,
  Signs,
  is_live,
  Element,
  set,
  Found,
  refusing,
  unclosed,
  closed_after,
  bracket,
  others,
  sense_of,
  skipped,
  bracketed,
  bracket_length,
  element,
  extra,
  elements,
  is_refusing,
  has_class,
}
use Rattle.pattern_unit.specs.Widths.{size, signs_by}
use Rattle.pattern_unit.specs.declared.Width.{Width}
use Rattle.pattern_unit.proofs.Units.{scale_zero, scale_suc, scale_add, sign_at, unit_at, none_at, units_behind, units_of, units_there}
use Rattle.pattern_element.specs.Pieces.{set_from, bracket_at, piece_at, behind_of, element_of, is_refusing_piece, sets_in, Lies}
use Rattle.pattern_element.specs.declared.Piece.{Piece}
use Rattle.pattern_element.specs.declared.Piece.TheVariants.{Star, One, Byte}
use Rattle.pattern_element.proofs.Searches.{found_inside, found_late}

-- skipping units is dropping them
elements_skip : (path : Bool) (k : ℕ) (r : Signs) → elements path k r ≡ elements path 0 (drop k r)
unfolding elements
elements_skip path zero r = refl
elements_skip path (suc k) [] = refl
elements_skip path (suc k) (s ∷ r) = elements_skip path k r

class_skip : (path : Bool) (k : ℕ) (r : Signs) → has_class path k r ≡ has_class path 0 (drop k r)
unfolding has_class
class_skip path zero r = refl
class_skip path (suc k) [] = refl
class_skip path (suc k) (s ∷ r) = class_skip path k r

-- a unit that is one active byte is no other
other_byte : (b c : ℕ) (s : Sign) → (b ≡ c → ⊥) → is_live b s ≡ true → is_live c s ≡ false
other_byte b c s n y =
    rw (ne_eqb s.byte c (λ h. n (sym (eqb-true s.byte b (and_right s.live (eqb s.byte b) y)) ∙ h))) (and-false s.live)

-- a bracket behind its `[`, at the place k, by what its search finds
module _ (w : Width) (p : Text) (k : ℕ) where
  abbrev units : Signs
  units = signs_by w (drop k p)

  bracket_element : (f : Found) → element_of w p (set_from w (others units) (k + size w * skipped units) f) ≡ bracketed units f
  unfolding element_of bracketed
  bracket_element refusing = refl
  bracket_element unclosed = refl
  bracket_element (closed_after n) =
      let a = k + size w * skipped units in
      let e : a + size w * n - a ≡ size w * n = omega arith in
      ap (λ (l : Signs). set (sense_of (others units)) l)
      (rw e (sym (rw (
        units_behind w (skipped units) (drop k p),
        units_of w n (drop (size w * skipped units) (drop k p)),
        drop-drop
            (size w * skipped units) k p,
      ))))

  bracket_behind : (at : ℕ) → at + size w ≡ k → (f : Found) → behind_of w (set_from w (others units) (k + size w * skipped units) f) at ≡ k + size w *
      bracket_length units f
  unfolding bracket_length
  bracket_behind at h refusing = omega (arith, scale_zero w)
  bracket_behind at h unclosed = omega (arith, scale_zero w)
  bracket_behind at h (closed_after n) = omega (arith, scale_add w (skipped units) (suc n), scale_suc w n)

  bracket_class_lem : (f : Found) → is_refusing_piece (set_from w (others units) (k + size w * skipped units) f) ≡ is_refusing f
  bracket_class_lem refusing = refl
  bracket_class_lem unclosed = refl
  bracket_class_lem (closed_after n) = refl

  -- it ends inside the pattern
  bracket_inside : (path : Bool) → k ≤ length p → (f : Found) → bracket path units ≡ f → k + size w * bracket_length units f ≤ length p
  unfolding bracket bracket_length
  bracket_inside path h refusing e = omega (arith, scale_zero w)
  bracket_inside path h unclosed e = omega (arith, scale_zero w)
  bracket_inside path h (closed_after n) e =
      let i = found_inside path true 0 (drop (skipped units) units) n e in
      let j = units_there w (skipped units + suc n) (drop k p) (omega (arith, i, length-drop (skipped units) units)) in
      omega (arith, j, length-drop k p)

-- the piece at a place, the unit there being s and k the place behind it
module _ (w : Width) (path : Bool) (p : Text) (at : ℕ) (s : Sign) where
  abbrev rest : Signs
  rest = signs_by w (drop (at + size w) p)

  abbrev here : Piece
  here = piece_at w path at (s ∷ rest)

  record Stands : Type 0 where
    as_element : element_of w p here ≡ element path s rest
    as_behind : behind_of w here at ≡ at + size w + size w * extra path s rest
    as_class : is_refusing_piece here ≡ (is_live 91 s && is_refusing (bracket path rest))
    as_inside : at + size w ≤ length p → at + size w + size w * extra path s rest ≤ length p

  stands : (x y z : Bool) → is_live 42 s ≡ x → is_live 63 s ≡ y → is_live 91 s ≡ z → Stands
  unfolding piece_at element_of element extra bracket_at
  stands true y z e f g =
      let n : is_live 91 s ≡ false = other_byte 42 91 s (λ h. let w : ◌≡◌ {A = ℕ} 42 91 = h in omega arith) e in
      record {
        as_element = rw e;
        as_behind = rw (e, n) (omega (arith, scale_zero w));
        as_class = rw (e, n);
        as_inside = λ h. rw n
            (omega (arith, scale_zero w));
      }
  stands false true z e f g =
      let n : is_live 91 s ≡ false = other_byte 63 91 s (λ h. let w : ◌≡◌ {A = ℕ} 63 91 = h in omega arith) f in
      record {
        as_element = rw (e, f);
        as_behind = rw (e, f, n) (omega (arith, scale_zero w));
        as_class = rw (e, f, n);
        as_inside = λ h. rw n
            (omega (arith, scale_zero w));
      }
  stands false false true e f g = record {
    as_element = rw (e, f, g) (bracket_element w p (at + size w) (bracket path rest));
    as_behind = rw (e, f, g) (bracket_behind w p (at + size w) at refl (bracket path rest));
    as_class = rw (e, f, g) (bracket_class_lem w p (at + size w) (bracket path rest));
    as_inside = λ h. rw g (bracket_inside w p (at + size w) path h (bracket path rest) refl);
  }
  stands false false false e f g =
      record {
        as_element = rw (e, f, g);
        as_behind = rw (e, f, g) (omega (arith, scale_zero w));
        as_class = rw (e, f, g);
        as_inside = λ h. rw g
            (omega (arith, scale_zero w));
      }

  standing : Stands
  standing = stands (is_live 42 s) (is_live 63 s) (is_live 91 s) refl refl refl

-- what stands from a place on: the piece there, and what stands behind it
module _ (w : Width) (path : Bool) (p : Text) (at : ℕ) (h : at + size w ≤ length p) where
  abbrev piece : Piece
  piece = piece_at w path at (signs_by w (drop at p))

  abbrev next : ℕ
  next = behind_of w piece at

  seen : piece ≡ piece_at w path at (sign_at w p at ∷ signs_by w (drop (at + size w) p))
  seen = ap (piece_at w path at) (unit_at w p at h)

  -- the units behind the piece
  behind_units : drop (extra path (sign_at w p at) (signs_by w (drop (at + size w) p))) (signs_by w (drop (at + size w) p)) ≡ signs_by w (drop next p)
  behind_units =
      let x = extra path (sign_at w p at) (signs_by w (drop (at + size w) p)) in
      units_behind w x (drop (at + size w) p) ∙ ap (signs_by w) (drop-drop (size w * x) (at + size w) p)
      ∙ ap (λ (n : ℕ). signs_by w (drop n p)) (sym (ap (λ (q : Piece). behind_of w q at) seen ∙ (standing w path p at (sign_at w p at)).as_behind))

  -- it begins so many units further
  pub next_is : next ≡ at + size w * suc (extra path (sign_at w p at) (signs_by w (drop (at + size w) p)))
  next_is =
      ap (λ (q : Piece). behind_of w q at) seen ∙ (standing w path p at (sign_at w p at)).as_behind
      ∙ omega (arith, scale_suc w (extra path (sign_at w p at) (signs_by w (drop (at + size w) p))))

  pub next_inside : next ≤ length p
  next_inside =
      rw (ap (λ (q : Piece). behind_of w q at) seen ∙ (standing w path p at (sign_at w p at)).as_behind)
      ((standing w path p at (sign_at w p at)).as_inside (omega arith))

  pub next_further : at + size w ≤ next
  next_further = rw (ap (λ (q : Piece). behind_of w q at) seen ∙ (standing w path p at (sign_at w p at)).as_behind) (omega arith)

  pub elements_on : elements path 0 (signs_by w (drop at p)) ≡ element_of w p piece ∷ elements path 0 (signs_by w (drop next p))
  unfolding elements
  elements_on =
      let s = sign_at w p at in
      let r = signs_by w (drop (at + size w) p) in
      ap (elements path 0) (unit_at w p at h)
      ∙ ap (λ (l : List Element). element path s r ∷ l) (elements_skip path (extra path s r) r ∙ ap (elements path 0) behind_units)
      ∙ ap (λ (e : Element). e ∷ elements path 0 (signs_by w (drop next p))) (sym (ap (element_of w p) seen ∙ (standing w path p at s).as_element))

  pub class_on : has_class path 0 (signs_by w (drop at p)) ≡ (is_refusing_piece piece || has_class path 0 (signs_by w (drop next p)))
  unfolding has_class
  class_on =
      let s = sign_at w p at in
      let r = signs_by w (drop (at + size w) p) in
      ap (has_class path 0) (unit_at w p at h)
      ∙ ap (λ (b : Bool). (is_live 91 s && is_refusing (bracket path r)) || b) (class_skip path (extra path s r) r ∙ ap (has_class path 0) behind_units)
      ∙ ap (λ (b : Bool). b || has_class path 0 (signs_by w (drop next p))) (sym (ap is_refusing_piece seen ∙ (standing w path p at s).as_class))

-- a set's members stand inside the pattern
module _ (w : Width) (n at from : ℕ) (negative : Bool) (b : ℕ) where
  abbrev tried : Bool → Bool → Bool → Found → Piece
  tried x y z f = pick x Star (pick y One (pick z (set_from w negative from f) (Byte b)))

  tried_lies : (x y z : Bool) (f : Found) → behind_of w (tried x y z f) at ≤ n → Lies n (tried x y z f)
  tried_lies true y z f h = tt
  tried_lies false true z f h = tt
  tried_lies false false true refusing h = tt
  tried_lies false false true unclosed h = tt
  tried_lies false false true (closed_after m) h = (omega arith, omega arith)
  tried_lies false false false f h = tt

lies : (w : Width) (n : ℕ) (path : Bool) (at : ℕ) (l : Signs) → behind_of w (piece_at w path at l) at ≤ n → Lies n (piece_at w path at l)
unfolding piece_at bracket_at
lies w n path at [] h = tt
lies w n path at (s ∷ r) h =
    tried_lies w n at (at + size w + size w * skipped r) (others r) s.byte (is_live 42 s) (is_live 63 s) (is_live 91 s) (bracket path r) h

pub piece_lies : (w : Width) (path : Bool) (p : Text) (at : ℕ) → at + size w ≤ length p → Lies (length p) (piece_at w path at (signs_by w (drop at p)))
piece_lies w path p at h = lies w (length p) path at (signs_by w (drop at p)) (next_inside w path p at h)

-- a set has three units at the least: `[`, a member, `]`
module _ (w : Width) (at from : ℕ) (negative : Bool) (b : ℕ) (h : at + size w ≤ from) where
  tried_long : (x y z : Bool) (f : Found) → ((m : ℕ) → f ≡ closed_after m → 1 ≤ m)
      → let q = tried w 0 at from negative b x y z f in at + 3 * (size w * sets_in q) ≤ behind_of w q at
  tried_long true y z f l = omega (arith, scale_zero w)
  tried_long false true z f l = omega (arith, scale_zero w)
  tried_long false false true refusing l = omega (arith, scale_zero w)
  tried_long false false true unclosed l = omega (arith, scale_zero w)
  tried_long false false true (closed_after zero) l = absurd (omega (arith, l 0 refl))
  tried_long false false true (closed_after (suc m)) l = omega (arith, scale_suc w m, scale_suc w 0, scale_zero w)
  tried_long false false false f l = omega (arith, scale_zero w)

pub piece_long : (w : Width) (path : Bool) (at : ℕ) (l : Signs) → at + 3 * (size w * sets_in (piece_at w path at l)) ≤ behind_of w (piece_at w path at l) at
unfolding piece_at bracket_at bracket
piece_long w path at [] = omega (arith, scale_zero w)
piece_long w path at (s ∷ r) =
    tried_long w at (at + size w + size w * skipped r) (others r) s.byte (omega arith) (is_live 42 s) (is_live 63 s) (is_live 91 s) (bracket path r)
    (λ m e. found_late path (drop (skipped r) r) m e)

-- no units, no elements
pub elements_over : (w : Width) (path : Bool) (p : Text) (at : ℕ) → length p < at + size w → elements path 0 (signs_by w (drop at p)) ≡ []
unfolding elements
elements_over w path p at h = rw (none_at w p at h)

pub class_over : (w : Width) (path : Bool) (p : Text) (at : ℕ) → length p < at + size w → has_class path 0 (signs_by w (drop at p)) ≡ false
unfolding has_class
class_over w path p at h = rw (none_at w p at h)
