-- Pairs marked in a lent area: a row of flags for each place of the pattern, one behind the other, with a flag for each place of the text.
use Rattle.std.specs.Prelude.{ℕ, ◌+◌, ◌*◌, ◌≤◌, ◌<◌, ◌≡◌, Bool, true, false, not, ◌&&◌, ◌||◌, List, eqb, length, get_or}
use Rattle.stages.specs.Bytes.{Text}
use Rattle.stages.specs.Pattern.{Element}
use Rattle.stages.specs.Cost.{spread, onward, tally, reaches, reachable}

-- the flag at a place is set
abbrev pub on : Text → ℕ → Bool
on area k = not (eqb (get_or area k 0) 0)

-- every byte is a flag: 0, or 1 if it is set
abbrev pub Flags : Text → Type 0
Flags area = (k : ℕ) → get_or area k 0 ≤ 1

-- no flag is set from a place on
abbrev pub Clear : Text → ℕ → Type 0
Clear area from = (k : ℕ) → from ≤ k → on area k ≡ false

-- what the pair at the place `here` leads to, rows being so wide: at a star to the next row, and to the next byte if there is one more; at an element that
-- takes the byte on in both
unfoldable pub leads_to : Bool → Bool → Bool → ℕ → ℕ → ℕ → Bool
leads_to true more taken here width y = eqb y (here + width) || (more && eqb y (here + 1))
leads_to false more taken here width y = taken && eqb y (here + width + 1)

-- what the pair leads to is marked, and nothing else
pub record Led (star more taken : Bool) (here width : ℕ) (entry exit : Text) : Type 0 where
  pub leads : (y : ℕ) → on exit y ≡ (leads_to star more taken here width y || on entry y)
  pub flags : Flags entry → Flags exit

-- the row from `base` on
abbrev pub row : Text → ℕ → ℕ → Bool
row area base k = on area (base + k)

-- the marks of a row are counted, and where they lead to in the row and in the next one is marked
pub record RowWalked (star : Bool) (passes : ℕ → Bool) (t : Text) (base : ℕ) (entry exit : Text) (count : ℕ) : Type 0 where
  pub counts : count ≡ tally (spread star (row entry base)) (length t + 1)
  pub here : (k : ℕ) → k ≤ length t → row exit base k ≡ spread star (row entry base) k
  pub next : (k : ℕ) → k ≤ length t → row exit (base + (length t + 1)) k ≡ onward star passes t (spread star (row entry base)) k
  pub clear : Clear exit (base + (length t + 1) + (length t + 1))
  pub below : (k : ℕ) → k < base → on exit k ≡ on entry k
  pub flags : Flags entry → Flags exit

-- the area has room for the rows of a pattern of p elements and for one more, and no flag in it is set
pub record Room (p n : ℕ) (area : Text) : Type 0 where
  pub room : (p + 2) * (n + 1) < length area
  pub clear : Clear area 0

-- the flags of the rows say which pairs are reached, no other is set, and as many are counted
pub record Marked (es : List Element) (t entry exit : Text) (count : ℕ) : Type 0 where
  pub counts : count ≡ reachable es t
  pub pairs : (i j : ℕ) → i ≤ length es → j ≤ length t → on exit (i * (length t + 1) + j) ≡ reaches es t i j
  pub clear : Clear exit ((length es + 1) * (length t + 1))
  pub flags : Flags exit
  pub same : length exit ≡ length entry
