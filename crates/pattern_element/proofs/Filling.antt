-- The table of ends: what it tells of a place, and what of it is filled while the walk goes from the last unit to the first.
use Prim.Native.Nat.{ℕ, ◌+◌, ◌*◌, ◌≤◌, ◌<◌}
use mathlib.Core.Path.{◌≡◌}
use mathlib.Core.Bool.{Bool, true}
use mathlib.Core.List.{List}
use native.Mathlib.Omega.{arith}
use lib.ListN.{length, drop, get_or}
use Rattle.stages.specs.Bytes.{Text}
use Rattle.stages.specs.Pattern.{closed_after, find}
use Rattle.pattern_unit.specs.Widths.{size, signs_by}
use Rattle.pattern_unit.specs.declared.Width.{Width}
use Rattle.pattern_unit.specs.declared.Width.TheVariants.{Plain, Marked}
use Rattle.pattern_element.proofs.Searches.{end_inside}
use Rattle.pattern_element.specs.Ends.{refusing_entry, unit_of, end_by, Roomy, Ended, Served}

-- A PLACE AND ITS UNIT

unit_on : (w : Width) (at n : ℕ) → at ≡ size w * unit_of w at → at + size w * n ≡ size w * unit_of w (at + size w * n)
unit_on Plain at n h = omega arith
unit_on Marked at n h = omega arith

pub scale_less : (w : Width) (m n : ℕ) → size w * m < size w * n → m < n
scale_less Plain m n h = omega arith
scale_less Marked m n h = omega arith

pub scale_room : (w : Width) (m n : ℕ) → size w * m + size w ≤ size w * n → m < n
scale_room Plain m n h = omega arith
scale_room Marked m n h = omega arith

scale_small : (w : Width) (n : ℕ) → size w * n ≤ 2 * n
scale_small Plain n = omega arith
scale_small Marked n = omega arith

-- WHAT THE TABLE TELLS

-- a pattern's places are below the entries that are no place
pub roomy_small : {w : Width} {p : Text} {ends : List ℕ} → Roomy w p ends → length p ≤ 4096
roomy_small {w} {p} {ends} r = omega (arith, r.room, r.few, scale_small w (length ends))

module _ {w : Width} {path : Bool} {p : Text} {ends : List ℕ} {at : ℕ} (e : Ended w path p ends at) where
  -- it is right for a later place
  pub ended_on : (n : ℕ) → Ended w path p ends (at + size w * n)
  ended_on n = record { roomy = e.roomy; unit = unit_on w at n e.unit; beyond = λ q l h. e.beyond q (omega arith) h }

-- an end that is found is a place, and so below the entries that are no place
pub served_small : {w : Width} {path : Bool} {p : Text} {ends : List ℕ} {at : ℕ} → Served w path p ends at → 0 < length ends → at ≤ length p
    → (n : ℕ) → find path true 0 (signs_by w (drop at p)) ≡ closed_after n → at + size w * n < refusing_entry
served_small {w} {path} {p} {ends} {at} s l h n e = omega (arith, roomy_small (s l).roomy, end_inside w path true p at n h e)

-- FILLING IT

-- the entries from a unit on are right, those of no unit are kept
pub record Filling (w : Width) (path : Bool) (p : Text) (entry ends : List ℕ) (unit : ℕ) : Type 0 where
  pub same : length ends ≡ length entry
  pub top : unit ≤ unit_of w (length p)
  pub right : (q : ℕ) → unit ≤ q → size w * q + size w ≤ length p → get_or ends q 0 ≡ end_by w path p q
  pub kept : (q : ℕ) → length p < size w * q + size w → get_or ends q 0 ≡ get_or entry q 0
