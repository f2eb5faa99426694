-- What a gap is by IFS and by the mark, and whether `$@` of no parameters came.
use Prim.Native.Nat.{ℕ, suc, ◌-◌, ◌*◌, ◌≤◌, ◌<◌}
use Prim.Native.Char.{code}
use native.Mathlib.Omega.{arith}
use mathlib.Core.Path.{◌≡◌, refl, sym, ap, ◌∙◌}
use mathlib.Core.Bool.{Bool, true, false}
use mathlib.Core.List.{List, [], ◌∷◌}
use lib.ListN.{length, take, drop, get_or}
use lib.Seq.{drop-cons}
use borrow.Rule.Slice.PartMut.{put_mid, mid_of}
use Rattle.stages.specs.Bytes.{Text, text, part}
use Rattle.stages.specs.Images.{Pairs, held}
use Rattle.stages.specs.Syntax.{Spread}
use Rattle.stages.specs.Units as units
use Rattle.stages.specs.Units.{Row, marked, N, B, expanded_mark}
use Rattle.stages.specs.Split.{ifs_or, ifs_now}
use Rattle.stages.specs.Expand.{gap, between, list_row, of_none}
use Rattle.text.specs.Cases.{spread_of}
use Rattle.text.specs.Rows.{row_bytes}
use Rattle.table.specs.Places.{Looked}
use Rattle.std.specs.Prelude.{Option, Some, None}
use Rattle.table.specs.declared.Part.{Part}
use Rattle.table.proofs.Finds.{is_shown, is_absent}
use Rattle.row.specs.Marks.{mark_of}
use Rattle.row.specs.Stands.{fronted}
use Rattle.row.specs.declared.Mark.{Mark}
use Rattle.row.specs.declared.Mark.TheVariants.{L, E, Q}
use Rattle.expand_list.specs.Lists.{gap_row}
use Rattle.expand_list.specs.declared.Gap.{Gap}
use Rattle.expand_list.specs.declared.Gap.TheVariants.{Break, BreakEmpty, Byte, Nothing}
use Rattle.expand_list.proofs.Putting.{fronts_on}

-- the first byte of IFS

module _ {vars : Text} {r : Option Part} (s : Looked vars (text "IFS") r) where
  pub joint_space : r ≡ None → gap_row (Byte (code " ")) ≡ marked units.Q (take 1 (ifs_now (held vars)))
  unfolding marked ifs_now ifs_or
  joint_space e = sym (ap (λ t. marked units.Q (take 1 (ifs_or t))) (is_absent s e))

  module _ {p : Part} (e : r ≡ Some p) where
    is_part : ifs_now (held vars) ≡ part vars p.from p.to
    unfolding ifs_now ifs_or
    is_part = ap ifs_or (is_shown s p e).gets

    pub joint_inside : p.from < p.to → p.from < length vars
    joint_inside h = omega (arith, (is_shown s p e).high)

    pub joint_byte : p.from < p.to → gap_row (Byte (get_or vars p.from 0)) ≡ marked units.Q (take 1 (ifs_now (held vars)))
    unfolding marked
    joint_byte h =
        let n : p.to - p.from ≡ suc (p.to - p.from - 1) = omega arith in
        let q : part vars p.from p.to ≡ get_or vars p.from 0 ∷ take (p.to - p.from - 1) (drop (suc p.from) vars) =
        ap (λ (k : ℕ). take k (drop p.from vars)) n ∙ ap (take (suc (p.to - p.from - 1))) (drop-cons vars p.from 0 (joint_inside h)) in
        sym (ap (λ (t : Text). marked units.Q (take 1 t)) (is_part ∙ q))

    pub joint_nothing : p.to ≤ p.from → gap_row Nothing ≡ marked units.Q (take 1 (ifs_now (held vars)))
    unfolding marked
    joint_nothing h =
        let n : p.to - p.from ≡ 0 = omega arith in
        sym (ap (λ (t : Text). marked units.Q (take 1 t)) (is_part ∙ ap (λ (k : ℕ). take k (drop p.from vars)) n))

-- the gap by the mark

module _ (s : Spread) (v : Pairs) {m : Mark} where
  pub gap_literal : m ≡ L → gap_row Break ≡ gap s (mark_of m) v
  unfolding gap
  gap_literal e = rw e

  pub gap_expanded : m ≡ E → gap_row Break ≡ gap s (mark_of m) v
  unfolding gap
  gap_expanded e = rw e

module _ (v : Pairs) {b : Bool} {m : Mark} (e : m ≡ Q) where
  pub gap_apart : b ≡ true → gap_row BreakEmpty ≡ gap (spread_of b) (mark_of m) v
  unfolding gap
  gap_apart f = rw (e, f)

  pub gap_joint : (g : Gap) → b ≡ false → gap_row g ≡ marked units.Q (take 1 (ifs_now v)) → gap_row g ≡ gap (spread_of b) (mark_of m) v
  unfolding gap
  gap_joint g f h = rw (e, f) h

-- what is put is what the stage gives
pub list_is : (s : Spread) (m : units.Mark) (l : List Text) (v : Pairs) {g : Row} {k : units.Mark} → k ≡ expanded_mark m → g ≡ gap s k v
    → between g k l ≡ list_row s m l v
unfolding list_row
list_is s m l v {g} {k} e f = ap (λ (r : Row). between r k l) f ∙ ap (λ (n : units.Mark). between (gap s n v) n l) e

pub gap_short : (g : Gap) → length (gap_row g) ≤ 2
gap_short Break = omega arith
gap_short BreakEmpty = omega arith
gap_short (Byte b) = omega arith
gap_short Nothing = omega arith

-- a gap that is known

module _ {g k : Gap} (e : g ≡ k) where
  pub gap_room : {n : ℕ} → 2 * length (gap_row g) ≤ n → 2 * length (gap_row k) ≤ n
  gap_room h = rw (← e) h

  pub gap_front : (old : Text) {left : Text} → left ≡ fronted (row_bytes (gap_row k)) old → left ≡ fronted (row_bytes (gap_row g)) old
  gap_front old h = rw e h

-- two marks, one behind the other
pub both_put : (old : Text) {mid ys : Text} → 4 ≤ length old → mid ≡ fronted (row_bytes (B ∷ [])) old
    → ys ≡ fronted (row_bytes (N ∷ [])) (mid_of 2 (length mid - 2) mid) → put_mid 2 (length mid - 2) mid ys ≡ fronted (row_bytes (gap_row BreakEmpty)) old
both_put old h e f = (fronts_on {row = B ∷ []} (record { place = refl; inside = omega arith; stands = e }) (N ∷ []) (omega arith) f).stands

-- whether there are none

module _ (b : Bool) where
  pub none_joint : (l : List Text) → b ≡ false → false ≡ of_none (spread_of b) l
  unfolding of_none
  none_joint l e = rw e

  pub none_apart : {l : List Text} → b ≡ true → l ≡ [] → true ≡ of_none (spread_of b) l
  unfolding of_none
  none_apart e f = rw (e, f)

  pub some_apart : {l more : List Text} {t : Text} → b ≡ true → l ≡ t ∷ more → false ≡ of_none (spread_of b) l
  unfolding of_none
  some_apart e f = rw (e, f)
